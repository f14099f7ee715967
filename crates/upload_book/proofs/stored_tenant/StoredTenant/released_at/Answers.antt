use Rattle.std.proofs.Common.{ap, sym, ◌∙◌, arith}
use Rattle.upload_book.specs.inside.ChargeAfter.{cost_of}
use Rattle.upload_book.proofs.Charge.ChargeAfterLemmas.{left_to-ends, left_to-stays}
use Rattle.upload_book.proofs.stored_tenant.StoredTenant.released_at.Goals as goal

pub returns-then-is_left : goal.returns-then-is_left
returns-then-is_left c =
    let t = c.args.self.now in
    omega (arith, ap (cost_of c.args.size t.next) (left_to-stays c.args.ended.now.at t.uploads.items c.args.place c.index.result.now c.requires.place c.index.ensures (sym c.is_left.ensures ∙ c.if-is_left.true)))

pub returns : goal.returns
returns c =
    let t = c.args.self.now in
    omega (arith, c.released.ensures, ap (cost_of c.args.size t.next) (left_to-ends c.args.ended.now.at t.uploads.items c.args.place c.index.result.now c.requires.place c.index.ensures (sym c.is_left.ensures ∙ c.if-is_left.false)))
