use Rattle.std.proofs.Common.{ℕ, ◌+◌, ◌<◌, List, length, refl, ap, ◌∙◌, arith, subst, vec_capacity, ◌≡◌, Result, Ok, Err, sym}
use Rattle.block_pool.specs.Blocks.{free_in}
use Rattle.block_bodies.specs.declared.fault.BodyFault.{BodyFault}
use Rattle.block_bodies.specs.declared.fault.BodyFault.TheVariants.{Full, Memory}
use Rattle.block_bodies.specs.Bodies.{Chain, StandsOnce, blocks_with}
use Rattle.block_bodies.proofs.Putting.{HasRoom-made}
use Rattle.block_bodies.proofs.body.Body.reserve.Goals.{in-Ok, in-Err}
use Rattle.block_bodies.proofs.body.Body.reserve.Goals as goal

-- a number of blocks is no fault
no_fault : (n : ℕ) (fault : BodyFault) → Ok n ≡ Err fault → ⊥
no_fault n fault is = absurd cc

-- one fault is not the other
other_fault : (r : Result ℕ BodyFault) → r ≡ Err Memory → r ≡ Err Full → ⊥
other_fault r is other = absurd cc

pub blocks_needed-needed-requires : goal.blocks_needed-needed-requires
blocks_needed-needed-requires c = c.requires

pub returns-then-needed-from-clause-room_kept : goal.returns-then-needed-from-clause-room_kept
returns-then-needed-from-clause-room_kept c = omega arith

pub returns-then-needed-from-clause-once : goal.returns-then-needed-from-clause-once
returns-then-needed-from-clause-once c = subst (λ (x : Chain). StandsOnce x.blocks) c.self.view_is c.self.invariant

pub returns-then-needed-from-clause-body : goal.returns-then-needed-from-clause-body
returns-then-needed-from-clause-body c = refl

pub returns-then-needed-from-clause-full : goal.returns-then-needed-from-clause-full
returns-then-needed-from-clause-full c =
    (λ e. omega (arith, c.blocks_needed-needed.ensures, c.from.ensures, c.free.ensures, c.if-needed-from.true), λ l. refl)

pub returns-then-needed-from-clause-unchanged : goal.returns-then-needed-from-clause-unchanged
returns-then-needed-from-clause-unchanged c = refl

pub invariant_of-self : goal.invariant_of-self
invariant_of-self c = rw c.make_room.ensures.items c.self.invariant

pub returns-clause-needed : goal.returns-clause-needed
returns-clause-needed c = elim c.match-make_room.branch [
  | in-Ok w ↦ rw w.result-is c.blocks_needed-needed.ensures
  | in-Err w ↦ rw w.result-is tt
]

pub returns-clause-room : goal.returns-clause-room
returns-clause-room c = elim c.match-make_room.branch [
  | in-Ok w ↦ rw w.result-is
      (let made = rw w.in-Ok.is at c.make_room.ensures.ok in
      HasRoom-made c.args.pool.now c.args.self.now _ c.args.more c.blocks_needed-needed.result c.blocks_needed-needed.ensures
      (ap (λ (x : Chain). x.len) c.self.view_is)
      (ap (λ (list : List ℕ). length list) c.make_room.ensures.items ∙ ap (λ (x : Chain). length x.blocks) c.self.view_is)
      (omega (arith, made, c.make_room.new.blocks.ok.0))
      (omega (arith, c.from.ensures, c.free.ensures, c.if-needed-from.false)))
  | in-Err w ↦ rw w.result-is tt
]

pub returns-clause-once : goal.returns-clause-once
returns-clause-once c = rw c.make_room.ensures.items c.self.invariant

pub returns-clause-room_kept : goal.returns-clause-room_kept
returns-clause-room_kept c = omega (arith, c.make_room.ensures.capacity, ap (λ (x : Chain). x.room) c.self.view_is)

pub returns-clause-body : goal.returns-clause-body
returns-clause-body c =
    let room = vec_capacity c.make_room.new.blocks in
    let shown : List ℕ → Chain = λ items. record { blocks = items; len = c.self.inside.len; room = room } in
    ap shown c.make_room.ensures.items ∙ ap (λ (x : Chain). record x { room = room }) c.self.view_is

pub returns-clause-full : goal.returns-clause-full
returns-clause-full c = (
  λ e. elim c.match-make_room.branch [ in-Ok w ↦ absurd (no_fault _ _ (sym w.result-is ∙ e)) | in-Err w ↦ absurd (other_fault _ w.result-is e) ],
  λ (l : length c.args.self.now.blocks + free_in c.args.pool.now < blocks_with c.args.pool.now c.args.self.now c.args.more).
      absurd (omega (arith, c.blocks_needed-needed.ensures, c.from.ensures, c.free.ensures, c.if-needed-from.false)),
)

pub returns-clause-memory : goal.returns-clause-memory
returns-clause-memory c = λ e. elim c.match-make_room.branch [
  | in-Ok w ↦ absurd (no_fault _ _ (sym w.result-is ∙ e))
  | in-Err w ↦
      let small = rw w.in-Err.is at c.make_room.ensures.full in
      omega (arith, small, c.self.inside.blocks.ok.0, c.blocks_needed-needed.ensures, ap (λ (x : Chain). x.room) c.self.view_is, ap (λ (x : Chain). length x.blocks) c.self.view_is)
]

pub returns-clause-blocks : goal.returns-clause-blocks
returns-clause-blocks c = λ e. elim c.match-make_room.branch [
  | in-Ok w ↦ absurd (no_fault _ _ (sym w.result-is ∙ e))
  | in-Err w ↦
      let small = rw w.in-Err.is at c.make_room.ensures.full in
      omega (arith, small, c.self.inside.blocks.ok.1, c.blocks_needed-needed.ensures)
]

pub returns-clause-unchanged : goal.returns-clause-unchanged
returns-clause-unchanged c = elim c.match-make_room.branch [
  | in-Ok w ↦ rw w.result-is tt
  | in-Err w ↦ rw w.result-is
      (let shown : List ℕ → ℕ → Chain = λ items room. record { blocks = items; len = c.self.inside.len; room = room } in
      ap (λ items. shown items (vec_capacity c.make_room.new.blocks)) c.make_room.ensures.items
      ∙ ap (λ room. shown c.self.inside.blocks.items room) (rw w.in-Err.is at c.make_room.ensures.err)
      ∙ c.self.view_is)
]
