use Rattle.std.proofs.Common.{◌≡◌, true, false, inl, inr, refl, ap, sym, subst, ◌∙◌}
use Rattle.std.proofs.lemmas.Result.{err_from_is_err_and}
use Rattle.upload_book.specs.Content.{LacksRoom, bytes_at, bytes_of, span_answer, with_content}
use Rattle.upload_book.specs.contracts.book.Book.{the_view}
use Rattle.upload_book.specs.declared.progress.Progress.{Progress}
use Rattle.upload_book.specs.BlockStore.{upload_at}
use Rattle.upload_book.specs.Upload.{Upload, content_of, is_complete, is_reached}
use Rattle.upload_book.specs.Begun.{IsBegun}
use Rattle.upload_book.specs.Book.{plain_of}
use Rattle.upload_book.specs.TenantBook.{visible_upload}
use Rattle.upload_book.proofs.BegunLemmas.{begun-seen, begun-span, told, untold}
use Rattle.upload_book.proofs.Steps.BookSteps.{answer-plain, part-plain}
use Rattle.upload_book.proofs.book.Book.content.Goals as goal

pub returns-in_err-place : goal.returns-in_err-place
returns-in_err-place c =
    let p = err_from_is_err_and c.from_residual.result c.from_residual.ensures.1 in
    inl (rw (p.1, p.2, ← c.self.view_is) (sym (answer-plain (the_view c.self.inside) c.args.name.now.tenant (span_answer c.args.span c.args.name.now.id c.args.now) ∙ ap (λ answer. with_content (bytes_at c.args.span) (bytes_of answer)) c.in_err-place.ensures.refused)))

pub read-requires-clause-begun : goal.read-requires-clause-begun
read-requires-clause-begun c =
    let t = c.args.name.now.tenant in
    let u : Upload = upload_at c.self.inside.store t c.in_ok-place.place in
    let begun : IsBegun (plain_of (the_view c.self.inside)) c.args.name.now c.args.begun.first c.args.begun.bytes.items = subst (λ b. IsBegun (plain_of b) c.args.name.now c.args.begun.first c.args.begun.bytes.items) (sym c.self.view_is) c.requires.begun in
    let seen = ap (λ part. visible_upload part c.args.name.now.id c.args.now) (part-plain (the_view c.self.inside) t) ∙ c.in_ok-place.ensures.visible.visible in
    rw c.from-tenant.ensures (begun-span (content_of u) c.args.begun.bytes.items c.of_span.result.items c.args.begun.first c.args.span.first
    (begun-seen (plain_of (the_view c.self.inside)) c.args.name.now c.args.now u c.args.begun.first c.args.begun.bytes.items begun seen) c.of_span.ensures.bytes)

pub returns-then-not-is_complete : goal.returns-then-not-is_complete
returns-then-not-is_complete c =
    let at = rw c.from-tenant.ensures at c.progress.ensures in
    let u : Upload = upload_at c.self.inside.store c.args.name.now.tenant c.in_ok-place.place in
    let unfinished : is_complete u ≡ false = ap (λ (s : Progress). is_reached s.declared s.offset) (sym at) ∙ sym c.is_complete.ensures ∙ c.if-not-is_complete.true in
    inl (rw (← c.self.view_is) (sym (answer-plain (the_view c.self.inside) c.args.name.now.tenant (span_answer c.args.span c.args.name.now.id c.args.now) ∙ ap (λ answer. with_content (bytes_at c.args.span) (bytes_of answer)) c.in_ok-place.ensures.visible.visible ∙ ap (with_content (bytes_at c.args.span)) (untold u unfinished))))

pub returns-in-Ok : goal.returns-in-Ok
returns-in-Ok c =
    let at = rw c.from-tenant.ensures at c.progress.ensures in
    let bytes = rw c.from-tenant.ensures at c.in-Ok.ensures.bytes in
    let u : Upload = upload_at c.self.inside.store c.args.name.now.tenant c.in_ok-place.place in
    let complete : is_complete u ≡ true = ap (λ (s : Progress). is_reached s.declared s.offset) (sym at) ∙ sym c.is_complete.ensures ∙ c.if-not-is_complete.false in
    inl (rw (c.of.ensures, bytes, ← c.self.view_is) (sym (answer-plain (the_view c.self.inside) c.args.name.now.tenant (span_answer c.args.span c.args.name.now.id c.args.now) ∙ ap (λ answer. with_content (bytes_at c.args.span) (bytes_of answer)) c.in_ok-place.ensures.visible.visible ∙ ap (with_content (bytes_at c.args.span)) (told u complete))))

pub returns-in-Err : goal.returns-in-Err
returns-in-Err c =
    let at = rw c.from-tenant.ensures at c.progress.ensures in
    let lacks = rw c.from-tenant.ensures at c.in-Err.ensures.lacking in
    let u : Upload = upload_at c.self.inside.store c.args.name.now.tenant c.in_ok-place.place in
    let complete : is_complete u ≡ true = ap (λ (s : Progress). is_reached s.declared s.offset) (sym at) ∙ sym c.is_complete.ensures ∙ c.if-not-is_complete.false in
    let answer = answer-plain (the_view c.self.inside) c.args.name.now.tenant (span_answer c.args.span c.args.name.now.id c.args.now) ∙ ap (λ answer. with_content (bytes_at c.args.span) (bytes_of answer)) c.in_ok-place.ensures.visible.visible ∙ ap (with_content (bytes_at c.args.span)) (told u complete) in
    inr (rw (← c.self.view_is, ← c.of_span.ensures.room) (subst (LacksRoom _) (sym answer) lacks), refl)
