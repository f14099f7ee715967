use Rattle.std.proofs.Common.{length, refl, sym, ap, ◌∙◌, arith}
use Rattle.http_wire.specs.inside.Ahead.{Ahead}
use Rattle.http_wire.proofs.NextMessageLemmas.{IsNextMessage-message, IsNextMessage-cut_patch, IsNextMessage-cut_other}
use Rattle.http_wire.proofs.read.stage.look_for_body.Goals as goal

pub returns-then-held-total-clause-looks : goal.returns-then-held-total-clause-looks
returns-then-held-total-clause-looks c limits bytes b =
    let p = c.args.layout.now in (
      p.is_waiting,
      refl,
      IsNextMessage-message limits bytes p c.args.read_buffer.now.held b c.lend.new.self (omega (arith, c.if-held-total.true, ap length c.held.ensures.bytes))
          (ap (λ (a : Ahead). a.lent) c.lend.ensures) (ap (λ (a : Ahead). a.held) c.lend.ensures),
    )

pub returns-then-not-is_applied_when_cut-clause-looks : goal.returns-then-not-is_applied_when_cut-clause-looks
returns-then-not-is_applied_when_cut-clause-looks c limits bytes b =
    let p = c.args.layout.now in (
      p.is_waiting,
      refl,
      IsNextMessage-cut_other limits bytes p c.args.read_buffer.now.held b (omega (arith, c.if-held-total.false, ap length c.held.ensures.bytes))
          c.requires.held (λ head. sym (c.is_applied_when_cut.ensures head) ∙ c.if-not-is_applied_when_cut.true),
    )

pub returns-clause-looks : goal.returns-clause-looks
returns-clause-looks c limits bytes b =
    let p = c.args.layout.now in (
      p.is_waiting,
      refl,
      IsNextMessage-cut_patch limits bytes p c.args.read_buffer.now.held b c.lend_all.new.read_buffer (omega (arith, c.if-held-total.false, ap length c.held.ensures.bytes))
          c.requires.held (λ head. sym (c.is_applied_when_cut.ensures head) ∙ c.if-not-is_applied_when_cut.false) c.lend_all.ensures.lent,
    )
