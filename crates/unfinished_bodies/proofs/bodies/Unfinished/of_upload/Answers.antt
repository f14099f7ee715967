use Rattle.std.proofs.Common.{◌≡◌, ◌≢◌, ◌<◌, ℕ, Some, Option, arith, subst, length}
use Rattle.unfinished_bodies.specs.Chains.{bucket_of_name}
use Rattle.unfinished_bodies.proofs.LookLemmas.{IsOnWay, on-way-filled, on-way-first, on-way-next, read-link}
use Rattle.unfinished_bodies.proofs.bodies.Unfinished.of_upload.Goals as goal

pub loop-next-init : goal.loop-next-init
loop-next-init c =
    let below : c.bucket_of-bucket.result < length c.self.inside.chains.heads.items = omega (arith, c.buckets.ensures, c.bucket_of-bucket.ensures.within) in
    subst (λ (r : Option ℕ). IsOnWay c.self.inside.slots.slots (length c.self.inside.chains.heads.items) c.bucket_of-bucket.result c.args.name r)
    (read-link c.self.inside.chains.heads.items c.bucket_of-bucket.result c.index-next.result.now below c.index-next.ensures)
    (on-way-first c.self.inside.slots.slots c.self.inside.chains.heads.items c.self.inside.chains.older.items c.self.inside.chains.newer.items
    c.bucket_of-bucket.result c.self.inside.entered c.args.name c.self.invariant.chained below)

pub loop-next-preserved : goal.loop-next-preserved
loop-next-preserved c =
    let below : c.bucket_of-bucket.result < length c.self.inside.chains.heads.items = omega (arith, c.buckets.ensures, c.bucket_of-bucket.ensures.within) in
    let here = subst (λ (r : Option ℕ). IsOnWay c.self.inside.slots.slots (length c.self.inside.chains.heads.items) c.bucket_of-bucket.result c.args.name r)
    c.in-Some.is c.loop-next.invariant in
    let filled = c.self.invariant.within c.in-Some.slot (on-way-filled c.self.inside.slots.slots (length c.self.inside.chains.heads.items) c.bucket_of-bucket.result c.args.name c.in-Some.slot below here) in
    let bucket : c.bucket_of-bucket.result ≡ bucket_of_name (length c.self.inside.chains.heads.items) (Some c.args.name) =
    subst (λ (n : ℕ). c.bucket_of-bucket.result ≡ bucket_of_name n (Some c.args.name)) c.buckets.ensures c.bucket_of-bucket.ensures.value in
    let other : c.index-entry.result.now.body.upload ≢ Some c.args.name = λ e. let yes = c.if-is_for.ensures.1 e in cc in
    subst (λ (r : Option ℕ). IsOnWay c.self.inside.slots.slots (length c.self.inside.chains.heads.items) c.bucket_of-bucket.result c.args.name r)
    (read-link c.self.inside.chains.older.items c.in-Some.slot c.index-next-in-Some.result.now (omega (arith, filled, c.self.invariant.older_links)) c.index-next-in-Some.ensures)
    (on-way-next c.self.inside.slots.slots c.self.inside.chains.heads.items c.self.inside.chains.older.items c.self.inside.chains.newer.items
    c.bucket_of-bucket.result c.self.inside.entered c.args.name c.in-Some.slot c.index-entry.result.now c.self.invariant.chained bucket below
    c.index-entry.ensures other here)
