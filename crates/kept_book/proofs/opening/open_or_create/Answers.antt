use Rattle.std.proofs.Common.{◌≡◌, ℕ, List, [], IsTrue, refl, subst, ◌∙◌}
use Rattle.book_replay.specs.Replay.{records_of}
use Rattle.journal_file.specs.Journal.{IsJournal}
use Rattle.journal_frames.specs.Frames.{recovered}
use Rattle.kept_book.proofs.OpeningLemmas.{place-told}
use Rattle.kept_book.proofs.opening.open_or_create.Goals as goal

pub returns-in-Ok-clause-opened : goal.returns-in-Ok-clause-opened
returns-in-Ok-clause-opened g c = λ events happened all clean.
    let told = c.in_ok-opened.ensures in
    let here = subst (λ (d : g.row.D.Denot). IsTrue (g.D.Disk.is_clean d)) c.in-Ok.ensures.disk clean in
    let read : recovered c.args.key c.in_ok-opened.opened.frames.items ≡ records_of events = told.all here ∙ all in
    c.in-Ok.ensures.kept events happened read (subst (λ (payloads : List (List ℕ)). IsJournal c.in_ok-opened.opened.journal payloads []) read (told.journal here))

pub returns-in-Err-clause-damaged : goal.returns-in-Err-clause-damaged
returns-in-Err-clause-damaged g c =
    place-told g.D.Disk.seen g.D.Disk.is_clean c.args.key c.args.disk c.args.disk c.in-Err.not.disk c.in-Err.not.why (λ damage is clean. absurd (c.in-Err.ensures.why damage is)) refl
