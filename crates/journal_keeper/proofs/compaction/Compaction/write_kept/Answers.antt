use Rattle.std.proofs.Common.{◌≡◌, ℕ, [], ◌∷◌, refl, sym, ap, ◌∙◌}
use Rattle.journal_file.specs.Draft.{draft_key}
use Rattle.journal_frames.specs.Frames.{frames}
use Rattle.journal_keeper.proofs.CompactionLemmas.{kept-fits, next-kept, wrote-kept}
use Rattle.journal_keeper.proofs.compaction.Compaction.write_kept.Goals as goal

pub returns-clause-have : goal.returns-clause-have
returns-clause-have g c = λ key records have.
    let old = c.args.self.now in
    let others = c.pop_front.new.self.items in
    let is = c.in-Some.ensures.items in
    let next = next-kept old key records have c.requires c.in-Some.frame others is in
    let whole : c.deref.result.now ≡ frames (draft_key old.draft) (next.payload ∷ []) = c.deref.ensures.value ∙ next.first_is ∙ ap (λ (k : ℕ). frames k (next.payload ∷ [])) (sym have.key_is) in
    let draft = c.in_ok-append.ensures.appended have.written (next.payload ∷ []) have.draft (kept-fits old key records have c.requires c.in-Some.frame others is, tt) whole in
    wrote-kept old key records have c.requires _ next.payload next.behind next.whole_is c.append.ensures.key draft refl next.others_are
