use Rattle.std.proofs.Common.{ℕ, [], sym, ap, ◌∙◌}
use Rattle.journal_frames.specs.Frames.{frames}
use Rattle.journal_folders.proofs.renewing.written.Goals as goal

pub returns : goal.returns
returns g c = λ records are fit.
    c.finish.ensures.finished records (c.in_ok-append.ensures.appended [] records c.in_ok-draft.ensures.begun fit (are ∙ ap (λ (key : ℕ). frames key records) (sym c.in_ok-draft.ensures.key)))
