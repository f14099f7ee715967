use Rattle.std.proofs.Common.{below_more, subst, sym, ap, ◌∙◌, arith}
use Rattle.std.proofs.lemmas.Bool.{false≢true}
use Rattle.tus_text.specs.Path.{path_of}
use Rattle.tus_text_tests.proofs.PlainLemmas.{IsPrintedOrigin, absolute_path, path_of-cut, path_of-other}
use Rattle.tus_text_tests.proofs.plain.path.plain_path.Goals as goal
use Rattle.tus_text_tests.proofs.plain.path.plain_path.Goals.{then-is_origin+in-Other, else-is_origin}

pub returns-in_default : goal.returns-in_default
returns-in_default c =
    let target = c.args.target.now in
    let origin = c.is_origin.ensures.0 c.if-is_origin.true in
    let named = c.plain_absolute.ensures ∙ ap absolute_path c.split_at.ensures.back in
    named ∙ path_of-cut target c.loop-end.end origin.0 origin.1 (sym c.split_at.ensures.front ∙ origin.2) (λ other. c.in_default.not-Other (named ∙ other))

pub loop-end-preserved : goal.loop-end-preserved
loop-end-preserved c =
    let same = c.split_at.ensures in
    below_more _ _ c.loop-end.invariant (elim c.if-is_origin.branch [
      | then-is_origin+in-Other w ↦
          λ cut. cut.1 (ap absolute_path (sym same.back) ∙ sym w.plain_absolute.ensures ∙ w.in-Other.is)
      | else-is_origin w ↦
          λ cut. false≢true (sym w.if-is_origin.false ∙ c.is_origin.ensures.1 (subst IsPrintedOrigin (sym same.front) cut.0))
    ])

pub returns : goal.returns
returns c =
    path_of-other c.args.target.now (path_of c.args.target.now) (λ i. path_of c.args.target.now) (λ k within. c.loop-end.invariant k (omega arith))
