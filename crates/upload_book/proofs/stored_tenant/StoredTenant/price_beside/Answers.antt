use Rattle.std.proofs.Common.{◌+◌, drop, take, ap, ◌∙◌}
use Rattle.upload_book.proofs.Charge.ChargeAfterLemmas.{price-beside}
use Rattle.upload_book.proofs.stored_tenant.StoredTenant.price_beside.Goals as goal

pub returns : goal.returns
returns c =
    price-beside c.args.size c.args.origin c.args.ended.now.at c.args.self.now.uploads.items c.split_at.result.0.now c.split_at-2.result.1.now c.args.place c.price_left-dearest_before.result c.price_left-dearest_later.result c.max.result
    (c.split_at.ensures.front ∙ ap (take c.args.place) c.deref.ensures.value) (c.split_at-2.ensures.back ∙ ap (drop (c.args.place + 1)) c.deref-2.ensures.value)
    c.price_left-dearest_before.ensures c.price_left-dearest_later.ensures c.max.ensures
