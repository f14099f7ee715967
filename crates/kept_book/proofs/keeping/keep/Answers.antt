use Rattle.std.proofs.Common.{◌≡◌, ℕ, List, [], ◌∷◌, Vec, Global, map, sym, ap, subst, ◌∙◌}
use Rattle.journal_file.proofs.JournalLemmas.{journal_leaves, leaves_more}
use Rattle.journal_file.specs.Appending.{frames_each}
use Rattle.journal_file.specs.Journal.{key_of}
use Rattle.journal_frames.specs.Crash.{Leaves}
use Rattle.kept_book.proofs.keeping.keep.Goals as goal

pub returns-in_err-has_room-clause-crash : goal.returns-in_err-has_room-clause-crash
returns-in_err-has_room-clause-crash g c = λ payloads payload is fit are left may.
    let left_of = journal_leaves c.has_room.new.journal payloads [] (c.has_room.ensures.stays payloads is) left may in
    subst (λ (k : ℕ). Leaves k payloads (payload ∷ []) left) c.has_room.ensures.key (leaves_more _ payloads [] (payload ∷ []) left left_of)

pub returns-then-not-branch-clause-crash : goal.returns-then-not-branch-clause-crash
returns-then-not-branch-clause-crash g c = λ payloads payload is fit are left may.
    let left_of = journal_leaves c.has_room.new.journal payloads [] (c.has_room.ensures.stays payloads is) left may in
    subst (λ (k : ℕ). Leaves k payloads (payload ∷ []) left) c.has_room.ensures.key (leaves_more _ payloads [] (payload ∷ []) left left_of)

pub returns-in_err-append_synced-clause-crash : goal.returns-in_err-append_synced-clause-crash
returns-in_err-append_synced-clause-crash g c = λ payloads payload is fit are left may.
    let framed : map {A = Vec ℕ Global} {B = List ℕ} (λ frame. frame.items) c.from_ref.result.now ≡ frames_each (key_of c.has_room.new.journal) (payload ∷ []) =
    ap (map {A = Vec ℕ Global} {B = List ℕ} (λ frame. frame.items)) c.from_ref.ensures.value ∙ ap (λ (bytes : List ℕ). bytes ∷ []) are ∙ ap (λ (k : ℕ). frames_each k (payload ∷ [])) (sym c.has_room.ensures.key) in
    subst (λ (k : ℕ). Leaves k payloads (payload ∷ []) left) c.has_room.ensures.key (c.append_synced.ensures.any_crash payloads [] (payload ∷ []) (c.has_room.ensures.stays payloads is) (fit, tt) framed left may)

pub returns-clause-kept : goal.returns-clause-kept
returns-clause-kept g c = λ payloads payload is fit are.
    let framed : map {A = Vec ℕ Global} {B = List ℕ} (λ frame. frame.items) c.from_ref.result.now ≡ frames_each (key_of c.has_room.new.journal) (payload ∷ []) =
    ap (map {A = Vec ℕ Global} {B = List ℕ} (λ frame. frame.items)) c.from_ref.ensures.value ∙ ap (λ (bytes : List ℕ). bytes ∷ []) are ∙ ap (λ (k : ℕ). frames_each k (payload ∷ [])) (sym c.has_room.ensures.key) in
    c.in_ok-append_synced.ensures.appended payloads [] (payload ∷ []) (c.has_room.ensures.stays payloads is) (fit, tt) framed

pub returns-clause-crash : goal.returns-clause-crash
returns-clause-crash g c = λ payloads payload is fit are left may.
    let framed : map {A = Vec ℕ Global} {B = List ℕ} (λ frame. frame.items) c.from_ref.result.now ≡ frames_each (key_of c.has_room.new.journal) (payload ∷ []) =
    ap (map {A = Vec ℕ Global} {B = List ℕ} (λ frame. frame.items)) c.from_ref.ensures.value ∙ ap (λ (bytes : List ℕ). bytes ∷ []) are ∙ ap (λ (k : ℕ). frames_each k (payload ∷ [])) (sym c.has_room.ensures.key) in
    subst (λ (k : ℕ). Leaves k payloads (payload ∷ []) left) c.has_room.ensures.key (c.append_synced.ensures.any_crash payloads [] (payload ∷ []) (c.has_room.ensures.stays payloads is) (fit, tt) framed left may)
