use Rattle.std.proofs.Common.{◌≡◌, ◌+◌, None, ap, ◌∙◌, length, arith}
use Rattle.http_wire.specs.inside.Ahead.{Ahead}
use Rattle.http_wire.specs.HeadText.{head_len_after, head_len}
use Rattle.http_wire.proofs.FindLemmas.{IsHeadFound-cut, IsHeadFound-endless, IsHeadFound-longer, IsHeadFound-nothing, IsHeadFound-whole, Searched-all, Searching-skipped, all_none, head_len-found, unseen}
use Rattle.http_wire.proofs.read.head_search.Search.look.Goals as goal

pub returns-then-self-len-le-HEAD_LIMIT-clause-finds : goal.returns-then-self-len-le-HEAD_LIMIT-clause-finds
returns-then-self-len-le-HEAD_LIMIT-clause-finds c bytes h =
    let s = c.args.self.now in
    let held = c.skip.new.self.held in
    let blank = c.blank_in-blank.result in
    let p = Searching-skipped bytes c.args.read_buffer.now.held c.held.result.now held s blank h c.held.ensures.bytes c.blank_in-blank.ensures.blank (ap (λ (a : Ahead). a.held) c.skip.ensures) in
    let rest = unseen s.seen c.held-held.result.now held c.held-held.ensures.bytes in
    let len = head_len-found s.scan s.seen c.in-Some.more held p.0.searched (c.in-Some.ensures.end ∙ ap (head_len_after s.scan.before s.scan.last) rest) in
    IsHeadFound-whole bytes held (s.skipped + blank) (s.seen + c.in-Some.more) p.0.finds p.1 len c.if-self-len-le-HEAD_LIMIT.true

pub returns-else-self-len-le-HEAD_LIMIT-clause-finds : goal.returns-else-self-len-le-HEAD_LIMIT-clause-finds
returns-else-self-len-le-HEAD_LIMIT-clause-finds c bytes h =
    let s = c.args.self.now in
    let held = c.skip.new.self.held in
    let blank = c.blank_in-blank.result in
    let p = Searching-skipped bytes c.args.read_buffer.now.held c.held.result.now held s blank h c.held.ensures.bytes c.blank_in-blank.ensures.blank (ap (λ (a : Ahead). a.held) c.skip.ensures) in
    let rest = unseen s.seen c.held-held.result.now held c.held-held.ensures.bytes in
    let len = head_len-found s.scan s.seen c.in-Some.more held p.0.searched (c.in-Some.ensures.end ∙ ap (head_len_after s.scan.before s.scan.last) rest) in
    IsHeadFound-longer bytes held (s.skipped + blank) (s.seen + c.in-Some.more) p.0.finds p.1 len c.if-self-len-le-HEAD_LIMIT.false

pub returns-then-self-ge-HEAD_LIMIT-clause-finds : goal.returns-then-self-ge-HEAD_LIMIT-clause-finds
returns-then-self-ge-HEAD_LIMIT-clause-finds c bytes h =
    let s = c.args.self.now in
    let held = c.skip.new.self.held in
    let blank = c.blank_in-blank.result in
    let p = Searching-skipped bytes c.args.read_buffer.now.held c.held.result.now held s blank h c.held.ensures.bytes c.blank_in-blank.ensures.blank (ap (λ (a : Ahead). a.held) c.skip.ensures) in
    let rest = unseen s.seen c.held-held.result.now held c.held-held.ensures.bytes in
    let all = Searched-all s.scan c.end_in.new.self s.seen held p.0.searched (c.in_default.ensures.end ∙ ap (head_len_after s.scan.before s.scan.last) rest) (rw (← rest) (c.end_in.ensures.seen c.in_default.is)) in
    let none : head_len held ≡ None = all_none held c.end_in.new.self all in
    IsHeadFound-endless bytes held (s.skipped + blank) p.0.finds p.1 none (rw c.held-held.ensures.bytes at c.if-self-ge-HEAD_LIMIT.true)

pub returns-then-not-is_ended-clause-finds : goal.returns-then-not-is_ended-clause-finds
returns-then-not-is_ended-clause-finds c bytes h =
    let s = c.args.self.now in
    let held = c.skip.new.self.held in
    let blank = c.blank_in-blank.result in
    let p = Searching-skipped bytes c.args.read_buffer.now.held c.held.result.now held s blank h c.held.ensures.bytes c.blank_in-blank.ensures.blank (ap (λ (a : Ahead). a.held) c.skip.ensures) in
    let rest = unseen s.seen c.held-held.result.now held c.held-held.ensures.bytes in
    let all = Searched-all s.scan c.end_in.new.self s.seen held p.0.searched (c.in_default.ensures.end ∙ ap (head_len_after s.scan.before s.scan.last) rest) (rw (← rest) (c.end_in.ensures.seen c.in_default.is)) in
    rw c.held-held.ensures.bytes (record { finds = p.0.finds; searched = all; begun = λ _. p.1 })

pub returns-then-self-eq0-clause-finds : goal.returns-then-self-eq0-clause-finds
returns-then-self-eq0-clause-finds c bytes h =
    let s = c.args.self.now in
    let held = c.skip.new.self.held in
    let blank = c.blank_in-blank.result in
    let p = Searching-skipped bytes c.args.read_buffer.now.held c.held.result.now held s blank h c.held.ensures.bytes c.blank_in-blank.ensures.blank (ap (λ (a : Ahead). a.held) c.skip.ensures) in
    IsHeadFound-nothing bytes held (s.skipped + blank) p.0.finds (omega (arith, c.if-self-ge-HEAD_LIMIT.false)) (rw c.held-held.ensures.bytes at c.if-self-eq0.true)

pub returns-else-self-eq0-clause-finds : goal.returns-else-self-eq0-clause-finds
returns-else-self-eq0-clause-finds c bytes h =
    let s = c.args.self.now in
    let held = c.skip.new.self.held in
    let blank = c.blank_in-blank.result in
    let p = Searching-skipped bytes c.args.read_buffer.now.held c.held.result.now held s blank h c.held.ensures.bytes c.blank_in-blank.ensures.blank (ap (λ (a : Ahead). a.held) c.skip.ensures) in
    let rest = unseen s.seen c.held-held.result.now held c.held-held.ensures.bytes in
    let all = Searched-all s.scan c.end_in.new.self s.seen held p.0.searched (c.in_default.ensures.end ∙ ap (head_len_after s.scan.before s.scan.last) rest) (rw (← rest) (c.end_in.ensures.seen c.in_default.is)) in
    let none : head_len held ≡ None = all_none held c.end_in.new.self all in
    IsHeadFound-cut bytes held (s.skipped + blank) p.0.finds p.1 none (rw c.held-held.ensures.bytes at c.if-self-ge-HEAD_LIMIT.false) (omega (arith, ap length c.held-held.ensures.bytes, c.if-self-eq0.false))
