use Rattle.std.proofs.Common.{◌≡◌, Err, None, Ok, Some, vec_capacity, sym, ap, ◌∙◌}
use Rattle.upload_book.specs.Book.{plain_of}
use Rattle.tus_steps.specs.Range.{extent_of}
use Rattle.tus_steps.specs.Request.{Request}
use Rattle.tus_steps.proofs.AskedLemmas.{reply-given, reply-none, reply-refused, reply-unseen}
use Rattle.tus_steps.proofs.asked.answer_content.Goals as goal

pub returns-in-Err : goal.returns-in-Err
returns-in-Err c =
    rw c.refuse.ensures (reply-unseen (plain_of c.args.book.now) c.args.request.now c.args.now c.args.name.now (vec_capacity c.args.begun.bytes) c.in-Err.refusal (sym c.look_lent.ensures ∙ c.in-Err.is))

pub returns-in-Err-content_len : goal.returns-in-Err-content_len
returns-in-Err-content_len c =
    rw c.refuse-in-Err-content_len.ensures (reply-refused (plain_of c.args.book.now) c.args.request.now c.args.now c.args.name.now (vec_capacity c.args.begun.bytes) c.in-Err-content_len.refusal (sym c.content_len.ensures ∙ c.in-Err-content_len.is))

pub returns-in-Some : goal.returns-in-Some
returns-in-Some c =
    let len = c.in-Ok-content_len.len in
    let some : extent_of c.args.request.now.range len ≡ Some c.in-Some.extent = ap (λ (r : Request). extent_of r.range len) (sym c.request.view_is) ∙ sym c.extent.ensures ∙ c.in-Some.is in
    rw (c.put_content.ensures, c.metadata.ensures.value) (reply-given (plain_of c.args.book.now) c.args.request.now c.args.now c.args.name.now (vec_capacity c.args.begun.bytes) len c.in-Some.extent c.span.result c.in-Ok.row c.content-content.result
    (sym c.look_lent.ensures ∙ c.in-Ok.is) (sym c.content_len.ensures ∙ c.in-Ok-content_len.is) some c.span.ensures c.content-content.ensures)

pub returns-in-None : goal.returns-in-None
returns-in-None c =
    let len = c.in-Ok-content_len.len in
    let none : extent_of c.args.request.now.range len ≡ None = ap (λ (r : Request). extent_of r.range len) (sym c.request.view_is) ∙ sym c.extent.ensures ∙ c.in-None.is in
    reply-none (plain_of c.args.book.now) c.args.request.now c.args.now c.args.name.now (vec_capacity c.args.begun.bytes) len (sym c.content_len.ensures ∙ c.in-Ok-content_len.is) none
