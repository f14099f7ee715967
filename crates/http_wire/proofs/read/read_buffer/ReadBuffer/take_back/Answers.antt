use Rattle.std.proofs.Common.{◌≤◌, ◌+◌}
use Rattle.http_wire.proofs.RangeLemmas.{range_none, range_prefix, range_inside}
use Rattle.http_wire.proofs.read.read_buffer.ReadBuffer.take_back.Goals as goal

pub returns : goal.returns
returns c =
    let start = c.self.inside.start in
    let inside : start + c.args.count ≤ c.self.inside.at = range_inside c.self.inside.buffer.items start c.self.inside.at c.args.count (c.self.invariant.0) (rw (← c.self.view_is) at c.requires.lent) in
    rw (← c.self.view_is) (rw (range_none c.self.inside.buffer.items start, range_prefix c.self.inside.buffer.items start c.self.inside.at c.args.count inside))
