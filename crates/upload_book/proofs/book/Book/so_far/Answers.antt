use Rattle.std.proofs.Common.{◌≡◌, ◌<◌, List, ℕ, length, vec_capacity, inl, inr, refl, ap, sym, subst, ◌∙◌}
use Rattle.std.proofs.lemmas.Result.{err_from_is_err_and}
use Rattle.upload_book.specs.Content.{LacksRoom, bytes_had, so_far_answer}
use Rattle.upload_book.specs.contracts.book.Book.{the_view}
use Rattle.upload_book.specs.BlockStore.{upload_at}
use Rattle.upload_book.specs.declared.progress.Progress.{Progress}
use Rattle.upload_book.specs.Upload.{Upload, content_of, offset_of}
use Rattle.upload_book.proofs.BegunLemmas.{front-all}
use Rattle.upload_book.proofs.Steps.BookSteps.{answer-plain}
use Rattle.upload_book.proofs.book.Book.so_far.Goals as goal

pub returns-in_err-place : goal.returns-in_err-place
returns-in_err-place c =
    let p = err_from_is_err_and c.from_residual.result c.from_residual.ensures.1 in
    inl (rw (p.1, p.2, ← c.self.view_is) (sym (answer-plain (the_view c.self.inside) c.args.name.now.tenant (so_far_answer c.args.name.now.id c.args.now) ∙ ap bytes_had c.in_err-place.ensures.refused)))

pub returns-in-Ok : goal.returns-in-Ok
returns-in-Ok c =
    let u : Upload = upload_at c.self.inside.store c.args.name.now.tenant c.in_ok-place.place in
    let count : c.progress.result.offset ≡ offset_of u = ap (λ (s : Progress). s.offset) (rw c.from-tenant.ensures at c.progress.ensures) in
    let all = front-all (content_of u) c.front-all.result c.progress.result.offset c.front-all.ensures count in
    let read = rw c.from-tenant.ensures at c.in-Ok.ensures.bytes in
    let bytes = read ∙ all in
    inl (rw (c.of.ensures, bytes, ← c.self.view_is) (sym (answer-plain (the_view c.self.inside) c.args.name.now.tenant (so_far_answer c.args.name.now.id c.args.now) ∙ ap bytes_had c.in_ok-place.ensures.visible.visible)))

pub returns-in-Err : goal.returns-in-Err
returns-in-Err c =
    let u : Upload = upload_at c.self.inside.store c.args.name.now.tenant c.in_ok-place.place in
    let count : c.progress.result.offset ≡ offset_of u = ap (λ (s : Progress). s.offset) (rw c.from-tenant.ensures at c.progress.ensures) in
    let all = front-all (content_of u) c.front-all.result c.progress.result.offset c.front-all.ensures count in
    let lacking = rw c.from-tenant.ensures at c.in-Err.ensures.lacking in
    let lacks = subst (λ (bytes : List ℕ). vec_capacity c.clear.new.self < length bytes) all lacking in
    let answer = answer-plain (the_view c.self.inside) c.args.name.now.tenant (so_far_answer c.args.name.now.id c.args.now) ∙ ap bytes_had c.in_ok-place.ensures.visible.visible in
    inr (rw (← c.self.view_is, ← c.clear.ensures.capacity) (subst (LacksRoom _) (sym answer) lacks), refl)
