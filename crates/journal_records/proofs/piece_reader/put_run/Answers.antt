use Rattle.std.proofs.Common.{◌+◌, ◌≤◌, length, arith}
use Rattle.std.proofs.lemmas.List.{length_push}
use Rattle.journal_records.specs.Reading.{many_at, segment_at}
use Rattle.journal_records.proofs.Parts.{ends, goes_on, is_done}
use Rattle.journal_records.proofs.piece_reader.put_run.Goals as goal

pub returns-in_default : goal.returns-in_default
returns-in_default c = ends segment_at c.loop.segments.items c.args.count c.loop.counter c.loop.rest.now (many_at segment_at c.args.count c.args.bytes.now) c.loop-test.true c.in_default.ensures c.loop.invariant.read

pub loop-preserved : goal.loop-preserved
loop-preserved c =
    let pushed = c.push.ensures.items in
    let longer : length c.push.new.self.items ≤ c.loop.counter + 1 = rw pushed (omega (arith, length_push c.loop.segments.items c.in-Some.segment, c.loop.invariant.room)) in
    record {
      read = rw pushed (goes_on segment_at c.loop.segments.items c.args.count c.loop.counter c.loop.rest.now c.in-Some.segment c.in-Some.behind.now (many_at segment_at c.args.count c.args.bytes.now) c.loop-test.true c.in-Some.ensures c.loop.invariant.read);
      room = longer;
    }

pub returns : goal.returns
returns c = is_done segment_at c.loop.segments.items c.args.count c.loop.counter c.loop.rest.now (many_at segment_at c.args.count c.args.bytes.now) c.loop-test.false c.loop.invariant.read
