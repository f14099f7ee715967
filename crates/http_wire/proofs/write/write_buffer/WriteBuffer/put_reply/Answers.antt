use Rattle.std.proofs.Common.{arith, ◌++◌, ◌≡◌, ◌≤◌, ◌∙◌, length, ap, append_assoc, length-append}
use Rattle.tus_steps.specs.PlacedReply.{reply_in}
use Rattle.http_wire.specs.inside.ReplyPage.{content_sent, page_text}
use Rattle.http_wire.specs.inside.Sending.{following}
use Rattle.http_wire.proofs.ReplyLemmas.{reply_text-sent}
use Rattle.http_wire.proofs.SendLemmas.{put-behind}
use Rattle.http_wire.proofs.write.write_buffer.WriteBuffer.put_reply.Goals as goal

pub returns-clause-text : goal.returns-clause-text
returns-clause-text c =
    let box = c.self.inside in
    let head = page_text (reply_in c.args.reply.now) c.args.now c.args.framing in
    let content = content_sent (reply_in c.args.reply.now) c.args.framing in
    let parts : c.follow.new.page ++ following c.follow.result ≡ box.page ++ (head ++ content) =
    c.follow.ensures.text ∙ rw (c.put_reply.ensures, c.take_content.ensures.taken) (append_assoc box.page head content) in
    let len = ap (λ l. length l) c.put_reply.ensures ∙ length-append box.page head in
    let more : length box.page ≤ length c.follow.new.page = omega (arith, len, c.follow.ensures.len) in
    rw (reply_text-sent (reply_in c.args.reply.now) c.args.now c.args.framing)
    (put-behind box.page c.follow.new.page (head ++ content) box.page_sent box.tail c.follow.result c.args.self.now c.self.view_is c.requires c.self.invariant.within more parts)
