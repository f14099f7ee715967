use Rattle.std.proofs.Common.{ℕ, List, ◌≡◌, ◌*◌, ◌<◌, ◌∙◌, [], refl, length, set, take, ap, vec_capacity, append-nil, subst, sym, arith}
use Rattle.std.proofs.lemmas.List.{nil_from_length}
use Rattle.block_pool.specs.Blocks.{Blocks}
use Rattle.block_pool.specs.FreeList.{IsFreeList, padded}
use Rattle.block_pool.proofs.FreeLists.{IsFreeList-take, last-below, last-free, row-fits, stored_after, stored-first, stored-over, stored-same}
use Rattle.block_pool.proofs.Stored.{free-all, length-padded, padded-first, piece-fits, taken-again_with, taken-first, taken-first_bytes}
use Rattle.block_pool.proofs.pool.Pool.take_with.Goals as goal

pub index_mut-requires : goal.index_mut-requires
index_mut-requires c =
    let P : List ℕ → Type 0 = λ free. IsFreeList c.self.inside.counts.items free in
    let listed = subst P c.in-Some.ensures.items c.self.invariant.free_list in
    omega (arith, c.number-place.ensures.value, last-below c.self.inside.counts.items c.pop.new.self.items c.in-Some.block listed)

pub write_over-requires : goal.write_over-requires
write_over-requires c =
    let P : List ℕ → Type 0 = λ free. IsFreeList c.self.inside.counts.items free in
    let listed = subst P c.in-Some.ensures.items c.self.invariant.free_list in
    let below = last-below c.self.inside.counts.items c.pop.new.self.items c.in-Some.block listed in
    let size_is : c.self.inside.block_bytes ≡ c.args.self.now.block_size = ap (λ (q : Blocks). q.block_size) c.self.view_is in
    rw c.number-place.ensures.value
    (omega (arith, c.requires, size_is, piece-fits c.self.inside.block_bytes (length c.self.inside.counts.items) c.in-Some.block c.self.inside.bytes.items below c.self.invariant.every_byte, c.self.inside.bytes.ok.0))

pub invariant_of-self : goal.invariant_of-self
invariant_of-self c =
    let P : List ℕ → Type 0 = λ free. IsFreeList c.self.inside.counts.items free in
    let listed = subst P c.in-Some.ensures.items c.self.invariant.free_list in
    let below = last-below c.self.inside.counts.items c.pop.new.self.items c.in-Some.block listed in
    let size_is : c.self.inside.block_bytes ≡ c.args.self.now.block_size = ap (λ (q : Blocks). q.block_size) c.self.view_is in
    let after = stored_after c.self.inside.block_bytes c.self.inside.blocks c.self.inside.counts.items c.self.inside.bytes.items c.self.inside.free.items c.pop.new.self.items
    (vec_capacity c.self.inside.counts) (vec_capacity c.self.inside.bytes) (vec_capacity c.self.inside.free) (vec_capacity c.pop.new.self) c.in-Some.block 1
    c.self.invariant (omega (arith, c.pop.ensures.capacity)) (IsFreeList-take c.self.inside.counts.items c.pop.new.self.items c.in-Some.block listed) in
    rw (c.write_over.ensures.items, c.write_over.ensures.room, c.number-place.ensures.value)
    (stored-over c.self.inside.block_bytes c.self.inside.blocks (set c.self.inside.counts.items c.in-Some.block 1) c.self.inside.bytes.items c.pop.new.self.items
    (vec_capacity c.self.inside.counts) (vec_capacity c.self.inside.bytes) (vec_capacity c.pop.new.self) (c.in-Some.block * c.self.inside.block_bytes) c.args.bytes.now after
    (omega (arith, c.requires, size_is, piece-fits c.self.inside.block_bytes (length c.self.inside.counts.items) c.in-Some.block c.self.inside.bytes.items below c.self.invariant.every_byte)))

pub returns-in-Some-clause-some : goal.returns-in-Some-clause-some
returns-in-Some-clause-some c =
    let P : List ℕ → Type 0 = λ free. IsFreeList c.self.inside.counts.items free in
    let listed = subst P c.in-Some.ensures.items c.self.invariant.free_list in
    rw (c.write_over.ensures.items, c.number-place.ensures.value)
    (taken-again_with c.self.inside.block_bytes c.self.inside.blocks c.self.inside.counts.items c.self.inside.bytes.items c.args.self.now c.self.view_is c.self.invariant.every_byte c.in-Some.block
    (c.in-Some.block * c.self.inside.block_bytes) c.args.bytes.now
    (last-below c.self.inside.counts.items c.pop.new.self.items c.in-Some.block listed)
    (last-free c.self.inside.counts.items c.pop.new.self.items c.in-Some.block listed) refl c.requires).0

pub returns-in-Some-clause-first : goal.returns-in-Some-clause-first
returns-in-Some-clause-first c =
    let P : List ℕ → Type 0 = λ free. IsFreeList c.self.inside.counts.items free in
    let listed = subst P c.in-Some.ensures.items c.self.invariant.free_list in
    rw (c.write_over.ensures.items, c.number-place.ensures.value)
    (taken-again_with c.self.inside.block_bytes c.self.inside.blocks c.self.inside.counts.items c.self.inside.bytes.items c.args.self.now c.self.view_is c.self.invariant.every_byte c.in-Some.block
    (c.in-Some.block * c.self.inside.block_bytes) c.args.bytes.now
    (last-below c.self.inside.counts.items c.pop.new.self.items c.in-Some.block listed)
    (last-free c.self.inside.counts.items c.pop.new.self.items c.in-Some.block listed) refl c.requires).1

pub invariant_of-self-then-taken-self : goal.invariant_of-self-then-taken-self
invariant_of-self-then-taken-self c =
    let same : c.pop.new.self.items ≡ c.self.inside.free.items = sym (c.in_default.ensures.items ∙ append-nil c.pop.new.self.items) in
    stored-same c.self.inside.block_bytes c.self.inside.blocks c.self.inside.counts.items c.self.inside.bytes.items c.self.inside.free.items c.pop.new.self.items _ _ _ _ c.self.invariant same (omega (arith, c.pop.ensures.capacity))

pub returns-then-taken-self-clause-none : goal.returns-then-taken-self-clause-none
returns-then-taken-self-clause-none c =
    omega (arith, c.in_default.ensures.cases.0, c.self.inside.free.ok.0, c.self.invariant.free_list.many, c.if-taken-self.true, c.len-taken.ensures, c.self.inside.counts.ok.0, free-all c.self.inside.block_bytes c.self.inside.blocks c.self.inside.counts.items c.self.inside.bytes.items c.args.self.now c.self.view_is)

pub returns-then-taken-self-clause-unchanged : goal.returns-then-taken-self-clause-unchanged
returns-then-taken-self-clause-unchanged c = c.self.view_is

pub push_reserved-requires : goal.push_reserved-requires
push_reserved-requires c = omega (arith, c.self.invariant.few, c.self.invariant.counts_fit, c.self.inside.counts.ok.0, c.if-taken-self.false, c.len-taken.ensures)

pub put_padded-requires-clause-fits : goal.put_padded-requires-clause-fits
put_padded-requires-clause-fits c =
    let size_is : c.self.inside.block_bytes ≡ c.args.self.now.block_size = ap (λ (q : Blocks). q.block_size) c.self.view_is in
    omega (arith, c.requires, size_is)

pub put_padded-requires-clause-room : goal.put_padded-requires-clause-room
put_padded-requires-clause-room c =
    let left : length c.self.inside.counts.items < c.self.inside.blocks = omega (arith, c.self.invariant.few, c.self.inside.counts.ok.0, c.if-taken-self.false, c.len-taken.ensures) in
    omega (arith, c.self.inside.bytes.ok.0, c.self.invariant.every_byte, c.self.invariant.bytes_fit, row-fits c.self.inside.block_bytes c.self.inside.blocks (length c.self.inside.counts.items) left)

pub overflow_cast-taken : goal.overflow_cast-taken
overflow_cast-taken c = omega (arith, c.self.invariant.few, c.self.inside.counts.ok.0, c.self.invariant.limits.few_blocks, c.len-taken.ensures)

pub invariant_of-self-2 : goal.invariant_of-self-2
invariant_of-self-2 c =
    let left : length c.self.inside.counts.items < c.self.inside.blocks = omega (arith, c.self.invariant.few, c.self.inside.counts.ok.0, c.if-taken-self.false, c.len-taken.ensures) in
    let none : c.self.inside.free.items ≡ [] = nil_from_length c.self.inside.free.items (omega (arith, c.in_default.ensures.cases.0, c.self.inside.free.ok.0)) in
    let same : c.pop.new.self.items ≡ c.self.inside.free.items = sym (c.in_default.ensures.items ∙ append-nil c.pop.new.self.items) in
    let size_is : c.self.inside.block_bytes ≡ c.args.self.now.block_size = ap (λ (q : Blocks). q.block_size) c.self.view_is in
    let whole = length-padded c.self.inside.block_bytes c.args.bytes.now (omega (arith, c.requires, size_is)) in
    let first = stored-first c.self.inside.block_bytes c.self.inside.blocks c.self.inside.counts.items c.self.inside.bytes.items c.self.inside.free.items (padded c.self.inside.block_bytes c.args.bytes.now) _ _ _
    (vec_capacity c.push_reserved.new.self) (vec_capacity c.put_padded.new.all) c.self.invariant whole none left (omega (arith, c.push_reserved.ensures.capacity)) c.put_padded.ensures.room in
    rw (c.push_reserved.ensures.items, c.put_padded.ensures.items)
    (stored-same c.self.inside.block_bytes c.self.inside.blocks _ _ c.self.inside.free.items c.pop.new.self.items _ _ _ _ first same (omega (arith, c.pop.ensures.capacity)))

pub returns-clause-some : goal.returns-clause-some
returns-clause-some c =
    let left : length c.self.inside.counts.items < c.self.inside.blocks = omega (arith, c.self.invariant.few, c.self.inside.counts.ok.0, c.if-taken-self.false, c.len-taken.ensures) in
    let size_is : c.self.inside.block_bytes ≡ c.args.self.now.block_size = ap (λ (q : Blocks). q.block_size) c.self.view_is in
    rw (c.push_reserved.ensures.items, c.put_padded.ensures.items, c.new.ensures, c.len-taken.ensures, c.self.inside.counts.ok.0)
    (taken-first c.self.inside.block_bytes c.self.inside.blocks c.self.inside.counts.items c.self.inside.bytes.items c.args.self.now c.self.view_is (padded c.self.inside.block_bytes c.args.bytes.now)
    (length-padded c.self.inside.block_bytes c.args.bytes.now (omega (arith, c.requires, size_is))) c.self.invariant.every_byte left)

pub returns-clause-first : goal.returns-clause-first
returns-clause-first c =
    let left : length c.self.inside.counts.items < c.self.inside.blocks = omega (arith, c.self.invariant.few, c.self.inside.counts.ok.0, c.if-taken-self.false, c.len-taken.ensures) in
    let size_is : c.self.inside.block_bytes ≡ c.args.self.now.block_size = ap (λ (q : Blocks). q.block_size) c.self.view_is in
    rw (c.push_reserved.ensures.items, c.put_padded.ensures.items, c.new.ensures, c.len-taken.ensures, c.self.inside.counts.ok.0)
    (ap (λ (bs : List ℕ). take (length c.args.bytes.now) bs)
    (taken-first_bytes c.self.inside.block_bytes c.self.inside.blocks c.self.inside.counts.items c.self.inside.bytes.items c.args.self.now c.self.view_is (padded c.self.inside.block_bytes c.args.bytes.now)
    (length-padded c.self.inside.block_bytes c.args.bytes.now (omega (arith, c.requires, size_is))) c.self.invariant.every_byte left)
    ∙ padded-first c.self.inside.block_bytes c.args.bytes.now)
