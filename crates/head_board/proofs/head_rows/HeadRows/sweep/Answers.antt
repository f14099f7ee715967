use Rattle.std.proofs.Common.{refl, arith, sym, subst, ◌∙◌, ◌≡◌, ℕ}
use Rattle.head_board.proofs.RowLemmas.{IsSweptFrom, IsSweptFrom-all, IsSweptFrom-out, IsSweptFrom-passed}
use Rattle.head_board.proofs.head_rows.HeadRows.sweep.Goals as goal

pub loop-from-init : goal.loop-from-init
loop-from-init c = record {
  part = refl;
  room = refl;
  left = refl;
  seen = λ k d above below. absurd (omega (arith, c.count-from.ensures));
  within = omega (arith, c.count-from.ensures);
}

pub loop-from-preserved-then-has_expired : goal.loop-from-preserved-then-has_expired
loop-from-preserved-then-has_expired c =
    IsSweptFrom-out c.args.self.now c.loop-from.self c.take_out.new.self c.args.now c.loop-from.from _ c.loop-from.invariant (omega arith) (λ d. sym c.if-has_expired.true ∙ c.has_expired.ensures d) c.take_out.ensures

pub loop-from-preserved : goal.loop-from-preserved
loop-from-preserved c =
    IsSweptFrom-passed c.args.self.now c.loop-from.self c.args.now c.loop-from.from _ c.loop-from.invariant (omega arith) (λ d. sym c.if-has_expired.false ∙ c.has_expired.ensures d)

pub returns : goal.returns
returns c =
    let end : c.loop-from.from ≡ 0 = omega (arith, c.loop-from-test.false) in
    IsSweptFrom-all c.args.self.now c.loop-from.self c.args.now (subst (λ (n : ℕ). IsSweptFrom c.args.self.now c.loop-from.self c.args.now n) end c.loop-from.invariant)
