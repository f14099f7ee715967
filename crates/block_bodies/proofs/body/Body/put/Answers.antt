use Rattle.std.proofs.Common.{ℕ, ◌≤◌, ◌+◌, List, length, refl, ap, subst, ◌∙◌, arith}
use Rattle.std.proofs.lemmas.List.{take_all}
use Rattle.block_bodies.specs.Bodies.{Chain, StandsOnce}
use Rattle.block_bodies.specs.Changes.{Puts}
use Rattle.block_bodies.proofs.Putting.{Puts-none, Puts-then, Puts-longer, HasRoom-rest, length-rest, take-piece}
use Rattle.block_bodies.proofs.body.Body.put.Goals as goal

pub loop-done-preserved : goal.loop-done-preserved
loop-done-preserved c =
    let fits : c.loop-done.done + c.put_piece-done.result ≤ length c.args.bytes.now =
    omega (arith, c.put_piece-done.ensures.within, length-rest c.args.bytes.now c.loop-done.done) in
    let P : List ℕ → Type 0 = λ bytes. Puts c.args.pool.now c.args.self.now bytes c.put_piece-done.new.pool c.put_piece-done.new.self in
    record {
      puts = subst P (take-piece c.args.bytes.now c.loop-done.done c.put_piece-done.result fits)
          (Puts-then c.args.pool.now c.loop-done.pool c.put_piece-done.new.pool c.args.self.now c.loop-done.self c.put_piece-done.new.self _ _
          c.loop-done.invariant.puts c.put_piece-done.ensures.puts);
      room = c.put_piece-done.ensures.room_stays ∙ c.loop-done.invariant.room;
      within = fits;
    }

pub loop-done-init : goal.loop-done-init
loop-done-init c = record { puts = Puts-none c.args.pool.now c.args.self.now c.requires.body; room = refl; within = omega arith }

pub slice_bounds-put_piece-count : goal.slice_bounds-put_piece-count
slice_bounds-put_piece-count c = c.loop-done.invariant.within

pub put_piece-done-requires-clause-some : goal.put_piece-done-requires-clause-some
put_piece-done-requires-clause-some c = rw (length-rest c.args.bytes.now c.loop-done.done) (omega (arith, c.loop-done-test.true))

pub put_piece-done-requires-clause-body : goal.put_piece-done-requires-clause-body
put_piece-done-requires-clause-body c = c.loop-done.invariant.puts.body

pub put_piece-done-requires-clause-room : goal.put_piece-done-requires-clause-room
put_piece-done-requires-clause-room c =
    HasRoom-rest c.args.pool.now c.loop-done.pool c.args.self.now c.loop-done.self c.args.bytes.now c.loop-done.done
    c.loop-done.invariant.puts c.loop-done.invariant.room c.loop-done.invariant.within c.requires.room

pub put_piece-done-requires-clause-last : goal.put_piece-done-requires-clause-last
put_piece-done-requires-clause-last c = c.loop-done.invariant.puts.last (c.requires.last (omega (arith, c.loop-done-test.true)))

pub overflow_add-done : goal.overflow_add-done
overflow_add-done c =
    omega (arith, c.put_piece-done.ensures.within, length-rest c.args.bytes.now c.loop-done.done)

pub loop-done-smaller : goal.loop-done-smaller
loop-done-smaller c = omega (arith, c.put_piece-done.ensures.some, c.loop-done-test.true)

pub overflow_sub-result : goal.overflow_sub-result
overflow_sub-result c =
    let before = ap (λ (x : Chain). length x.blocks) c.self.view_is in
    let after = ap (λ (x : Chain). length x.blocks) c.self-2.view_is in
    omega (arith, c.len-before.ensures, c.self.inside.blocks.ok.0, before, c.len.ensures, c.self-2.inside.blocks.ok.0, after, Puts-longer c.loop-done.invariant.puts)

pub returns-clause-taken : goal.returns-clause-taken
returns-clause-taken c =
    let before = ap (λ (x : Chain). length x.blocks) c.self.view_is in
    let after = ap (λ (x : Chain). length x.blocks) c.self-2.view_is in
    omega (arith, c.len-before.ensures, c.self.inside.blocks.ok.0, before, c.len.ensures, c.self-2.inside.blocks.ok.0, after, Puts-longer c.loop-done.invariant.puts)

pub returns-clause-puts : goal.returns-clause-puts
returns-clause-puts c =
    let P : List ℕ → Type 0 = λ bytes. Puts c.args.pool.now c.args.self.now bytes c.loop-done.pool c.loop-done.self in
    subst P (take_all c.loop-done.done c.args.bytes.now (omega (arith, c.loop-done-test.false))) c.loop-done.invariant.puts

pub returns-clause-once : goal.returns-clause-once
returns-clause-once c = subst (λ (x : Chain). StandsOnce x.blocks) c.self-2.view_is c.self-2.invariant

pub returns-clause-room_stays : goal.returns-clause-room_stays
returns-clause-room_stays c = c.loop-done.invariant.room
