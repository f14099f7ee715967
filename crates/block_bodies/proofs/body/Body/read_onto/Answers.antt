use Rattle.std.proofs.Common.{ℕ, ◌≡◌, ◌+◌, ◌<◌, ◌≤◌, List, ap, sym, ◌∙◌, arith, length, length-append, length-take, take, true, is_ok}
use Rattle.block_bodies.specs.Bodies.{Chain, content_of}
use Rattle.block_bodies.proofs.Reading.{read-more}
use Rattle.block_bodies.proofs.body.Body.read_onto.Goals as goal

pub loop-done-preserved : goal.loop-done-preserved
loop-done-preserved c =
    let len : c.self.inside.len ≡ c.args.self.now.len = ap (λ (x : Chain). x.len) c.self.view_is in
    let within : c.args.offset + c.loop-done.done < c.args.self.now.len = omega (arith, len, c.loop-done-test.true, c.min-all.ensures, c.saturating_sub-rest.ensures) in
    let some : 0 < c.min-n.result = omega (arith, c.min-n.ensures, c.loop-done-test.true, c.bytes_from-lent.ensures.some within) in
    let less : c.min-n.result ≤ length c.bytes_from-lent.result.now = omega (arith, c.min-n.ensures) in
    let ok : is_ok c.extend_from_slice-copied.result ≡ true = sym c.is_ok.ensures.value ∙ c.if-prove.false in
    let items = rw ok at c.extend_from_slice-copied.ensures.items in
    let len_after = rw ok at c.extend_from_slice-copied.ensures.len in
    let taken = length-take c.min-n.result c.bytes_from-lent.result.now in
    record {
      read = items ∙ read-more (content_of c.args.pool.now c.args.self.now) c.args.bytes.now.items c.loop-done.bytes.items c.bytes_from-lent.result.now c.args.offset c.loop-done.done c.min-n.result
          c.loop-done.invariant.read c.bytes_from-lent.ensures.bytes less some;
      few = omega (arith, c.min-n.ensures, c.loop-done.invariant.few);
      fits = omega (arith, len_after, taken, c.min-n.ensures, c.loop-done.invariant.fits, c.extend_from_slice-copied.ensures.capacity);
      room = omega (arith, c.extend_from_slice-copied.ensures.capacity, c.loop-done.invariant.room);
    }
