use Rattle.std.proofs.Common.{eqb, eq-eqb, sym, arith}
use Rattle.std.proofs.lemmas.Bool.{ne_eqb}
use Rattle.std.proofs.lemmas.List.Sums.{position_or_len_is}
use Rattle.tus_text_tests.proofs.plain.cut.part_end.Goals as goal

pub returns-then-text-end : goal.returns-then-text-end
returns-then-text-end c =
    sym (position_or_len_is (λ b. eqb b c.args.mark) c.args.text.now c.loop-end.end 0 (omega arith) (λ k before. ne_eqb _ _ (c.loop-end.invariant k before)) (λ _. eq-eqb _ _ c.if-text-end.true))

pub returns : goal.returns
returns c =
    sym (position_or_len_is (λ b. eqb b c.args.mark) c.args.text.now _ 0 (omega arith) (λ k before. ne_eqb _ _ (c.loop-end.invariant k (omega arith))) (λ past. absurd (omega arith)))
