use Rattle.std.proofs.Common.{◌≡◌, ℕ, [], List, sym, ap, subst, ◌∙◌}
use Rattle.journal_file.specs.Journal.{IsJournal}
use Rattle.journal_frames.specs.Frames.{recovered}
use Rattle.journal_file.proofs.ReadAgain.{nothing-recovered, recovered-frames}
use Rattle.journal_file.proofs.OpeningLemmas.{damage-told}
use Rattle.journal_file.proofs.journal.Journal.open_or_create.Goals as goal

pub returns-then-len-eq0-clause-journal : goal.returns-then-len-eq0-clause-journal
returns-then-len-eq0-clause-journal g c = λ clean.
    let none : recovered c.args.key c.new.result.items ≡ [] = ap (recovered c.args.key) c.new.ensures.items ∙ nothing-recovered c.args.key in
    subst (λ (payloads : List (List ℕ)). IsJournal c.in_ok-journal.journal payloads []) (sym none) c.in_ok-journal.ensures.created

pub returns-in-Ok-clause-journal : goal.returns-in-Ok-clause-journal
returns-in-Ok-clause-journal g c = λ clean.
    let found = recovered c.args.key (g.D.Disk.seen c.len.new.self) in
    let is : IsJournal c.in-Ok.opened.journal found [] = c.in-Ok.ensures.opened clean in
    let read : recovered c.args.key c.in-Ok.opened.frames.items ≡ found = ap (recovered c.args.key) (c.in-Ok.ensures.frames clean) ∙ recovered-frames c.args.key found is.fits in
    subst (λ (payloads : List (List ℕ)). IsJournal c.in-Ok.opened.journal payloads []) (sym read) is

pub returns-in-Ok-clause-all : goal.returns-in-Ok-clause-all
returns-in-Ok-clause-all g c = λ clean.
    let found = recovered c.args.key (g.D.Disk.seen c.len.new.self) in
    let is : IsJournal c.in-Ok.opened.journal found [] = c.in-Ok.ensures.opened clean in
    ap (recovered c.args.key) (c.in-Ok.ensures.frames clean) ∙ recovered-frames c.args.key found is.fits ∙ ap (recovered c.args.key) c.len.ensures.seen

pub returns-in-Err-clause-damaged : goal.returns-in-Err-clause-damaged
returns-in-Err-clause-damaged g c =
    damage-told g.D.Disk.seen g.D.Disk.is_clean c.args.key c.args.disk c.len.new.self c.in-Err.not.disk _ c.in-Err.not.why c.in-Err.ensures.why (λ damage is clean. is clean) c.len.ensures.seen
