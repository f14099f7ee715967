use Rattle.std.proofs.Common.{◌≤◌, ◌+◌}
use Rattle.http_wire.proofs.RangeLemmas.{range_prefix, range_rest, range_inside}
use Rattle.http_wire.proofs.read.read_buffer.ReadBuffer.lend.Goals as goal

pub returns : goal.returns
returns c =
    let at = c.self.inside.at in
    let inside : at + c.args.count ≤ c.self.inside.end = range_inside c.self.inside.buffer.items at c.self.inside.end c.args.count (c.self.invariant.1) (rw (← c.self.view_is) at c.requires) in
    rw (← c.self.view_is) (rw (range_prefix c.self.inside.buffer.items at c.self.inside.end c.args.count inside, range_rest c.self.inside.buffer.items at c.self.inside.end c.args.count inside))
