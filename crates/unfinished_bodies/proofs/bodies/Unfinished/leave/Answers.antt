use Rattle.std.proofs.Common.{◌≡◌, ◌-◌, ◌≤◌, ℕ, arith, sym, ◌∙◌, subst}
use Rattle.unfinished_bodies.specs.Table.{in_slot}
use Rattle.unfinished_bodies.specs.Chains.{bucket_of_name}
use Rattle.unfinished_bodies.proofs.TableLemmas.{kept-left, found-in-slot, held-le-all}
use Rattle.unfinished_bodies.proofs.bodies.Unfinished.leave.Goals as goal

pub invariant_of-self : goal.invariant_of-self
invariant_of-self c =
    let found = found-in-slot (in_slot c.self.inside.slots.slots c.args.place.slot) c.args.place.number c.in_ok-entry.entry (sym c.find.ensures ∙ c.in_ok-entry.was) in
    let enough : c.in_ok-entry.entry.body.held ≤ c.self.inside.total =
    omega (arith, c.self.invariant.held, held-le-all c.self.inside.slots.slots c.args.place.slot c.in_ok-entry.entry found.0) in
    kept-left c.self.inside.slots c.remove.new.self c.self.inside.most c.self.inside.entered c.self.inside.total (c.self.inside.total - c.from.result)
    c.self.inside.chains.heads.items c.self.inside.chains.older.items c.self.inside.chains.newer.items
    c.unlink.new.self.heads.items c.unlink.new.self.older.items c.unlink.new.self.newer.items
    c.bucket_of-bucket.result c.args.place.slot c.in_ok-entry.entry c.self.invariant found.0
    c.remove.ensures.updates c.remove.ensures.len c.remove.ensures.capacity
    (omega (arith, enough, c.from.ensures))
    (subst (λ (n : ℕ). c.bucket_of-bucket.result ≡ bucket_of_name n c.in_ok-entry.entry.body.upload) c.buckets.ensures c.bucket_of-bucket.ensures.value)
    (omega (arith, c.buckets.ensures, c.bucket_of-bucket.ensures.within))
    c.unlink.ensures.heads c.unlink.ensures.older_links c.unlink.ensures.newer_links
