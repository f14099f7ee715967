use Rattle.std.proofs.Common.{◌+◌, ◌-◌, [], ap, ◌∙◌, sym, append-nil}
use Rattle.std.specs.Prelude.{slice_range}
use Rattle.http_wire.specs.inside.Ahead.{Ahead}
use Rattle.http_wire.proofs.RangeLemmas.{range_kept, range_grown}
use Rattle.http_wire.proofs.AheadLemmas.{Consumes-from_keeps, OnErr-always}
use Rattle.http_wire.proofs.read.read_buffer.ReadBuffer.fill.Goals as goal

pub returns-clause-grew : goal.returns-clause-grew
returns-clause-grew g c =
    let moved = c.place_with_room-self-inside in
    let kept = range_kept c.self.inside.buffer.items moved.new.buffer.items c.read_after.new.buffer.items c.args.self.now.held c.self.inside.at c.self.inside.end moved.result c.self.invariant.1 moved.ensures.bytes (ap (λ (a : Ahead). a.held) c.self.view_is) (c.read_after.ensures.before ∙ c.widen.ensures.bytes) in
    let end = moved.result + (c.self.inside.end - c.self.inside.at) in
    (slice_range c.read_after.new.buffer.items end (end + c.in_ok-more.more), range_grown c.read_after.new.buffer.items c.args.self.now.held moved.result (c.self.inside.end - c.self.inside.at) c.in_ok-more.more kept, c.in_ok-more.ensures.bytes)

pub returns-in_err-more-clause-grew : goal.returns-in_err-more-clause-grew
returns-in_err-more-clause-grew g c =
    let moved = c.place_with_room-self-inside in
    let kept = range_kept c.self.inside.buffer.items moved.new.buffer.items c.read_after.new.buffer.items c.args.self.now.held c.self.inside.at c.self.inside.end moved.result c.self.invariant.1 moved.ensures.bytes (ap (λ (a : Ahead). a.held) c.self.view_is) (c.read_after.ensures.before ∙ c.widen.ensures.bytes) in
    ([], kept ∙ sym (append-nil c.args.self.now.held), Consumes-from_keeps (g.R.Source.remaining c.args.reader.now) (g.R.Source.remaining c.read_after.new.reader) c.in_err-more.ensures.err)

pub returns-in_err-more-clause-unread : goal.returns-in_err-more-clause-unread
returns-in_err-more-clause-unread g c =
    let moved = c.place_with_room-self-inside in
    let kept = range_kept c.self.inside.buffer.items moved.new.buffer.items c.read_after.new.buffer.items c.args.self.now.held c.self.inside.at c.self.inside.end moved.result c.self.invariant.1 moved.ensures.bytes (ap (λ (a : Ahead). a.held) c.self.view_is) (c.read_after.ensures.before ∙ c.widen.ensures.bytes) in
    OnErr-always c.from_residual.result (kept, ap (λ (a : Ahead). a.ended) c.self.view_is, c.in_err-more.ensures.err)
