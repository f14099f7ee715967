use Rattle.std.proofs.Common.{◌≡◌, ℕ, List, [], IsTrue, ap, subst, ◌∙◌}
use Rattle.book_replay.specs.Replay.{records_of}
use Rattle.journal_file.proofs.ReadAgain.{recovered-frames}
use Rattle.journal_file.specs.Journal.{disk_of, IsJournal}
use Rattle.journal_frames.specs.Frames.{recovered}
use Rattle.kept_book.specs.declared.fault.NotKept.{NotKept}
use Rattle.kept_book.specs.declared.kept.KeptBook.{KeptBook}
use Rattle.kept_book.specs.Kept.{disk_in, IsKept}
use Rattle.kept_book.specs.OpenFault.{IsOutsideFile}
use Rattle.kept_book.proofs.OpeningLemmas.{clean-err, clean-ok, err-weaker}
use Rattle.kept_book.proofs.kept.KeptBook.open.Goals as goal

pub returns-in-Ok-clause-opened : goal.returns-in-Ok-clause-opened
returns-in-Ok-clause-opened g c = λ events happened all.
    let told = c.in-Ok.ensures in
    let journal = c.in-Ok.opened.journal in
    clean-ok c.of_opened.result (λ kept. disk_in kept) (disk_of journal) (λ d. IsTrue (g.D.Disk.is_clean d)) (λ (kept : KeptBook g.row.D.Denot g.D.Disk). IsKept kept c.args.settings events) c.of_opened.ensures.disk
    (λ clean.
    let is = told.opened clean in
    let read : recovered c.args.key c.in-Ok.opened.frames.items ≡ records_of events = ap (recovered c.args.key) (told.frames clean) ∙ recovered-frames c.args.key _ is.fits ∙ all in
    c.of_opened.ensures.kept events happened read (subst (λ (payloads : List (List ℕ)). IsJournal journal payloads []) all is))

pub returns-in-Ok-clause-accepts : goal.returns-in-Ok-clause-accepts
returns-in-Ok-clause-accepts g c = λ events happened all torn.
    let told = c.in-Ok.ensures in
    let journal = c.in-Ok.opened.journal in
    clean-err c.of_opened.result (λ not. not.disk) (disk_of journal) (λ d. IsTrue (g.D.Disk.is_clean d)) (λ (not : NotKept g.row.D.Denot). IsOutsideFile not.why) c.of_opened.ensures.given_back
    (λ clean.
    let is = told.opened clean in
    let read : recovered c.args.key c.in-Ok.opened.frames.items ≡ records_of events = ap (recovered c.args.key) (told.frames clean) ∙ recovered-frames c.args.key _ is.fits ∙ all in
    c.of_opened.ensures.accepts events happened read)

pub returns-in-Ok-clause-damaged : goal.returns-in-Ok-clause-damaged
returns-in-Ok-clause-damaged g c = err-weaker c.of_opened.result _ _ (λ not none damage is. absurd (none damage is)) c.of_opened.ensures.why
