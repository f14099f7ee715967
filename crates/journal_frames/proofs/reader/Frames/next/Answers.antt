use Rattle.std.proofs.Common.{◌≡◌, [], ap, rules}
use Rattle.journal_frames.specs.Frames.{Reading, read_past}
use Rattle.journal_frames.proofs.Readings.{reads_on, reads_no_more}
use Rattle.journal_frames.proofs.reader.Frames.next.Goals as goal

pub returns-in_err-payload-clause-ended : goal.returns-in_err-payload-clause-ended
returns-in_err-payload-clause-ended c =
    let ended : (read_past c.args.self.now.key 0 c.args.self.now.rest.now).payloads ≡ [] = ap (λ (r : Reading). r.payloads) (reads_no_more _ _ _ c.in_err-payload.ensures.value) in
    search rules

pub returns-in_err-payload-clause-tail : goal.returns-in_err-payload-clause-tail
returns-in_err-payload-clause-tail c =
    let tail = reads_no_more c.args.self.now.key c.args.self.now.rest.now _ c.in_err-payload.ensures.value in
    search rules

pub split_at-requires : goal.split_at-requires
split_at-requires c = c.in_ok-payload.ensures.stands.there

pub returns-clause-payload : goal.returns-clause-payload
returns-clause-payload c = rw c.split_at.ensures.back (ap (λ (r : Reading). r.payloads) (reads_on _ _ _ c.in_ok-payload.ensures.value))

pub returns-clause-same_tail : goal.returns-clause-same_tail
returns-clause-same_tail c = rw c.split_at.ensures.back (ap (λ (r : Reading). r.tail) (reads_on _ _ _ c.in_ok-payload.ensures.value))

pub returns-clause-stands : goal.returns-clause-stands
returns-clause-stands c = rw c.split_at.ensures.back c.in_ok-payload.ensures.stands.whole
