use Rattle.std.proofs.Common.{◌≡◌, Ok, false, true, ap, length, sym, ◌∙◌}
use Rattle.std.proofs.lemmas.Result.{err_from_is_err_and}
use Rattle.upload_book.specs.BlockStore.{upload_at}
use Rattle.upload_book.specs.Content.{bytes_of, len_answer, with_content}
use Rattle.upload_book.specs.contracts.book.Book.{the_view}
use Rattle.upload_book.specs.declared.progress.Progress.{Progress}
use Rattle.upload_book.specs.Upload.{Upload, is_complete, is_reached}
use Rattle.upload_book.proofs.BegunLemmas.{told, untold}
use Rattle.upload_book.proofs.Steps.BookSteps.{answer-plain}
use Rattle.upload_book.proofs.book.Book.content_len.Goals as goal

pub returns-in_err-place : goal.returns-in_err-place
returns-in_err-place c =
    let p = err_from_is_err_and c.from_residual.result c.from_residual.ensures.1 in
    rw (p.1, p.2, ← c.self.view_is) (sym (answer-plain (the_view c.self.inside) c.args.name.now.tenant (len_answer c.args.name.now.id c.args.now) ∙ ap (λ answer. with_content (λ bytes. length bytes) (bytes_of answer)) c.in_err-place.ensures.refused))

pub returns-then-not-is_complete : goal.returns-then-not-is_complete
returns-then-not-is_complete c =
    let at = rw c.from.ensures at c.progress-progress.ensures in
    let u : Upload = upload_at c.self.inside.store c.args.name.now.tenant c.in_ok-place.place in
    let unfinished : is_complete u ≡ false = ap (λ (s : Progress). is_reached s.declared s.offset) (sym at) ∙ sym c.is_complete.ensures ∙ c.if-not-is_complete.true in
    rw (← c.self.view_is) (sym (answer-plain (the_view c.self.inside) c.args.name.now.tenant (len_answer c.args.name.now.id c.args.now) ∙ ap (λ answer. with_content (λ bytes. length bytes) (bytes_of answer)) c.in_ok-place.ensures.visible.visible ∙ ap (with_content (λ bytes. length bytes)) (untold u unfinished)))

pub returns : goal.returns
returns c =
    let at = rw c.from.ensures at c.progress-progress.ensures in
    let u : Upload = upload_at c.self.inside.store c.args.name.now.tenant c.in_ok-place.place in
    let complete : is_complete u ≡ true = ap (λ (s : Progress). is_reached s.declared s.offset) (sym at) ∙ sym c.is_complete.ensures ∙ c.if-not-is_complete.false in
    ap Ok (ap (λ (s : Progress). s.offset) at)
    ∙ rw (← c.self.view_is) (sym (answer-plain (the_view c.self.inside) c.args.name.now.tenant (len_answer c.args.name.now.id c.args.now) ∙ ap (λ answer. with_content (λ bytes. length bytes) (bytes_of answer)) c.in_ok-place.ensures.visible.visible ∙ ap (with_content (λ bytes. length bytes)) (told u complete)))
