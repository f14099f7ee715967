use Rattle.std.proofs.Common.{◌≡◌, ℕ, ap₂, arith}
use Rattle.upload_book.specs.Book.{plain_of}
use Rattle.upload_book.specs.contracts.book.Book.{the_view}
use Rattle.upload_book.specs.declared.sweep.Swept.{Swept}
use Rattle.upload_book.specs.Expiries.{ends_of}
use Rattle.upload_book.specs.Sweep.{swept_blocks}
use Rattle.upload_book.proofs.Expiries.SweepSteps.{IsBook-swept, IsSwept, plain-swept, swept-ended, swept-fits, swept-freed, uploads-few}
use Rattle.upload_book.proofs.book.Book.sweep.Goals as goal

pub sweep-uploads-requires : goal.sweep-uploads-requires
sweep-uploads-requires c = record { few = uploads-few (plain_of (the_view c.self.inside)) c.self.invariant.lawful }

pub overflow_sub-free : goal.overflow_sub-free
overflow_sub-free c =
    let b = the_view c.self.inside in
    let swept : IsSwept b c.sweep-uploads.new.self c.args.now c.sweep-uploads.result = record {
      plain = c.sweep-uploads.ensures.plain;
      ended = c.sweep-uploads.ensures.ended;
      sizes = c.sweep-uploads.ensures.sizes;
      room = c.sweep-uploads.ensures.room_stays;
      in_use = c.free-before.ensures.in_use;
      in_use_after = c.free.ensures.in_use;
    } in
    omega (arith, c.free.ensures.value, c.free-before.ensures.value, swept-freed b c.sweep-uploads.new.self c.args.now c.sweep-uploads.result c.self.invariant swept)

pub overflow_add-self : goal.overflow_add-self
overflow_add-self c =
    let b = the_view c.self.inside in
    let store = c.sweep-uploads.new.self in
    let swept : IsSwept b store c.args.now c.sweep-uploads.result = record {
      plain = c.sweep-uploads.ensures.plain;
      ended = c.sweep-uploads.ensures.ended;
      sizes = c.sweep-uploads.ensures.sizes;
      room = c.sweep-uploads.ensures.room_stays;
      in_use = c.free-before.ensures.in_use;
      in_use_after = c.free.ensures.in_use;
    } in
    omega (
      arith,
      c.from-blocks.ensures,
      c.free.ensures.value,
      c.free-before.ensures.value,
      swept-freed b store c.args.now c.sweep-uploads.result c.self.invariant swept,
      swept-fits b store c.args.now c.sweep-uploads.result c.self.invariant swept,
    )

-- the store was swept
swept : (c : goal.After-self-1) → IsSwept (the_view c.self.inside) c.sweep-uploads.new.self c.args.now c.sweep-uploads.result
swept c = record {
  plain = c.sweep-uploads.ensures.plain;
  ended = c.sweep-uploads.ensures.ended;
  sizes = c.sweep-uploads.ensures.sizes;
  room = c.sweep-uploads.ensures.room_stays;
  in_use = c.free-before.ensures.in_use;
  in_use_after = c.free.ensures.in_use;
}

-- so many blocks became free as the sweep gives back
freed : (c : goal.After-self-1) → c.from-blocks.result ≡ swept_blocks (plain_of (the_view c.self.inside)) c.args.now
freed c =
    let b = the_view c.self.inside in
    omega (arith, c.from-blocks.ensures, c.free.ensures.value, c.free-before.ensures.value, swept-freed b c.sweep-uploads.new.self c.args.now c.sweep-uploads.result c.self.invariant (swept c))

pub invariant_of-self : goal.invariant_of-self
invariant_of-self c =
    let b = the_view c.self.inside in
    rw (freed c) (IsBook-swept b c.sweep-uploads.new.self c.args.now c.sweep-uploads.result c.self.invariant (swept c) c.leave_until.new.self (c.leave_until.ensures.ends (ends_of (plain_of b)) c.self.invariant.expiries) c.leave_until.ensures.room_stays)

-- what is told of so many uploads and blocks
told : ℕ → ℕ → Swept
told uploads blocks = record { uploads = uploads; blocks = blocks; released = blocks }

pub returns-clause-answer : goal.returns-clause-answer
unfolding told
returns-clause-answer c =
    let b = the_view c.self.inside in
    rw (← c.self.view_is) (ap₂ told (swept-ended b c.sweep-uploads.new.self c.args.now c.sweep-uploads.result c.self.invariant (swept c)) (freed c))

pub returns-clause-after : goal.returns-clause-after
returns-clause-after c =
    let b = the_view c.self.inside in
    rw (← c.self.view_is) (rw (freed c) (plain-swept b c.sweep-uploads.new.self c.args.now c.sweep-uploads.result c.self.invariant (swept c) c.leave_until.new.self))
