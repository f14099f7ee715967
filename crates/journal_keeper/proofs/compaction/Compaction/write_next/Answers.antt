use Rattle.std.proofs.Common.{◌≡◌, ℕ, List, [], ◌∷◌, drop, refl, sym, ap, ◌∙◌}
use Rattle.journal_file.specs.Draft.{draft_key}
use Rattle.journal_frames.specs.Frames.{frame}
use Rattle.journal_keeper.proofs.CompactionLemmas.{next-piece, piece-fits, piece-long, piece-short, room-closed, still-has, wrote-piece}
use Rattle.journal_keeper.proofs.compaction.Compaction.write_next.Goals as goal

pub returns-in_default-clause-have : goal.returns-in_default-clause-have
returns-in_default-clause-have g c = λ key records have. c.write_kept.ensures.have key records (still-has c.args.self.now _ key records have refl (sym c.in_default.ensures.items) refl)

pub close_frame-requires-clause-header : goal.close_frame-requires-clause-header
close_frame-requires-clause-header g c = piece-long c.args.self.now c.requires.0 c.requires.1 c.requires.2 c.in-Some.piece c.pop_front.new.self.items c.in-Some.ensures.items

pub close_frame-requires-clause-payload : goal.close_frame-requires-clause-payload
close_frame-requires-clause-payload g c = piece-short c.args.self.now c.requires.0 c.requires.1 c.requires.2 c.in-Some.piece c.pop_front.new.self.items c.in-Some.ensures.items

pub returns-clause-have : goal.returns-clause-have
returns-clause-have g c = λ key records have.
    let old = c.args.self.now in
    let others = c.pop_front.new.self.items in
    let is = c.in-Some.ensures.items in
    let next = next-piece old key records have c.in-Some.piece others is in
    let closed : c.deref.result.now ≡ frame (draft_key old.draft) next.payload =
    c.deref.ensures.value ∙ c.close_frame.ensures ∙ ap (λ (bytes : List ℕ). frame c.key.result (drop 24 bytes)) next.first_is ∙ ap (λ (k : ℕ). frame k next.payload) c.key.ensures in
    let draft = c.in_ok-append.ensures.appended have.written (next.payload ∷ []) have.draft (piece-fits old key records have c.in-Some.piece others is, tt) (room-closed (draft_key old.draft) next.payload c.deref.result.now closed) in
    wrote-piece old key records have _ next.payload next.behind next.whole_is c.append.ensures.key draft next.others_are refl
