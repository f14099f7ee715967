use Rattle.std.proofs.Common.{◌≡◌, ℕ, arith, rules, refl, subst}
use Rattle.unfinished_bodies.specs.Chains.{bucket_of_name}
use Rattle.unfinished_bodies.proofs.TableLemmas.{kept-entered, sum-fits}
use Rattle.unfinished_bodies.proofs.bodies.Unfinished.enter.Goals as goal

pub overflow_add-self : goal.overflow_add-self
overflow_add-self c = let h = sum-fits _ _ _ _ _ c.args.body.held _ _ _ c.self.invariant (search rules) in omega (arith, h, c.from.ensures)

pub invariant_of-self : goal.invariant_of-self
invariant_of-self c =
    let kept = kept-entered c.self.inside.slots c.insert_reserved-slot.new.self c.self.inside.most c.self.inside.entered c.self.inside.total
    c.self.inside.chains.heads.items c.self.inside.chains.older.items c.self.inside.chains.newer.items
    c.link.new.self.heads.items c.link.new.self.older.items c.link.new.self.newer.items
    c.bucket_of-bucket.result c.insert_reserved-slot.result _ c.self.invariant
    c.insert_reserved-slot.ensures.was_vacant c.insert_reserved-slot.ensures.updates c.insert_reserved-slot.ensures.len
    c.insert_reserved-slot.ensures.key_in_range c.insert_reserved-slot.ensures.capacity
    (omega (arith, c.if-len-self.false, c.len.ensures)) refl (search rules)
    (subst (λ (n : ℕ). c.bucket_of-bucket.result ≡ bucket_of_name n c.args.body.upload) c.buckets.ensures c.bucket_of-bucket.ensures.value)
    (omega (arith, c.buckets.ensures, c.bucket_of-bucket.ensures.within))
    c.link.ensures.heads c.link.ensures.older_links c.link.ensures.newer_links in
    rw c.from.ensures kept
