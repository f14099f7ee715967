use Rattle.std.proofs.Common.{◌≡◌, ◌++◌, List, ℕ, true, drop, subst, ap, ◌∙◌, rules}
use Rattle.journal_frames.specs.Frames.{Fits}
use Rattle.journal_records.specs.Records.{record_bytes}
use Rattle.std.specs.Prelude.{replicate}
use Rattle.journal_records.proofs.framing.frame_of.Goals as goal

pub returns-clause-fits : goal.returns-clause-fits
returns-clause-fits c =
    let short : c.fits.result ≡ true = search rules in
    let opened : c.open_frame.new.out.items ≡ replicate 24 0 = search rules in
    let is : drop 24 c.deref.result.now ≡ record_bytes c.args.now c.args.change.now =
    ap (drop 24) (c.deref.ensures.value ∙ c.in-Ok.ensures ∙ ap (λ (front : List ℕ). front ++ record_bytes c.args.now c.args.change.now) opened) in
    subst Fits is (c.fits.ensures.fits short)
