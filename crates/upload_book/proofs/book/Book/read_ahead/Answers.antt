use Rattle.std.proofs.Common.{◌≡◌, ◌+◌, ◌-◌, ℕ, List, true, false, inr, refl, ap, sym, subst, ◌∙◌, arith, drop, length, min, take, vec_capacity, vec_len}
use Rattle.upload_book.specs.Begun.{BookHasOnly, HasOnly, IsBegun}
use Rattle.upload_book.specs.BlockStore.{part_at, upload_at}
use Rattle.upload_book.specs.Book.{plain_of}
use Rattle.upload_book.specs.Content.{bytes_of, content_answer}
use Rattle.upload_book.specs.contracts.book.Book.{the_view}
use Rattle.upload_book.specs.declared.progress.Progress.{Progress}
use Rattle.upload_book.specs.TenantBook.{visible_upload}
use Rattle.upload_book.specs.Upload.{Upload, content_of, is_complete, is_reached}
use Rattle.upload_book.proofs.BegunLemmas.{HasOnly-seen, begun-more, begun-seen, begun-within, ids-ascend, span-onto, told, untold}
use Rattle.upload_book.proofs.Steps.BookSteps.{answer-plain, part-plain}
use Rattle.upload_book.proofs.book.Book.read_ahead.Goals as goal

pub returns-then-not-is_complete-clause-more : goal.returns-then-not-is_complete-clause-more
returns-then-not-is_complete-clause-more c =
    let at = rw c.from-tenant.ensures at c.progress.ensures in
    let t = c.args.name.now.tenant in
    let u : Upload = upload_at c.self.inside.store t c.in-Ok.place in
    let unfinished : is_complete u ≡ false = ap (λ (s : Progress). is_reached s.declared s.offset) (sym at) ∙ sym c.is_complete.ensures ∙ c.if-not-is_complete.true in
    let answer = answer-plain (the_view c.self.inside) t (content_answer c.args.name.now.id c.args.now) ∙ ap bytes_of c.in-Ok.ensures.visible.visible ∙ untold u unfinished in
    rw (← c.self.view_is, answer) refl

pub returns-clause-more : goal.returns-clause-more
returns-clause-more c =
    let at = rw c.from-tenant.ensures at c.progress.ensures in
    let t = c.args.name.now.tenant in
    let begun = c.args.begun.now in
    let u : Upload = upload_at c.self.inside.store t c.in-Ok.place in
    let complete : is_complete u ≡ true = ap (λ (s : Progress). is_reached s.declared s.offset) (sym at) ∙ sym c.is_complete.ensures ∙ c.if-not-is_complete.false in
    let answer = answer-plain (the_view c.self.inside) t (content_answer c.args.name.now.id c.args.now) ∙ ap bytes_of c.in-Ok.ensures.visible.visible ∙ told u complete in
    let items = rw (c.from-tenant.ensures) at c.read_onto.ensures.items in
    let count : c.min-count.result ≡ min c.args.most (vec_capacity begun.bytes - vec_len begun.bytes) = omega (arith, c.min-count.ensures, c.capacity.ensures, c.len-done.ensures) in
    let b = the_view c.self.inside in
    let had : IsBegun (plain_of b) c.args.name.now begun.first begun.bytes.items = subst (λ b. IsBegun (plain_of b) c.args.name.now begun.first begun.bytes.items) (sym c.self.view_is) c.requires.begun in
    let seen = ap (λ part. visible_upload part c.args.name.now.id c.args.now) (part-plain b t) ∙ c.in-Ok.ensures.visible.visible in
    let first = begun-seen (plain_of b) c.args.name.now c.args.now u begun.first begun.bytes.items had seen in
    let within = begun-within (content_of u) begun.bytes.items begun.first first in
    let len : c.progress.result.offset ≡ length (content_of u) = ap (λ (s : Progress). s.offset) at in
    let place : c.saturating_add-offset.result ≡ begun.first + length begun.bytes.items = omega (arith, c.saturating_add-offset.ensures, c.len-done.ensures, begun.bytes.ok.0, within, len) in
    rw (← c.self.view_is, answer) (items ∙ span-onto (content_of u) begun.bytes.items begun.first c.min-count.result (min c.args.most (vec_capacity begun.bytes - vec_len begun.bytes)) c.saturating_add-offset.result count place)

pub returns-clause-begins : goal.returns-clause-begins
returns-clause-begins c =
    let at = rw c.from-tenant.ensures at c.progress.ensures in
    let t = c.args.name.now.tenant in
    let b = the_view c.self.inside in
    let begun = c.args.begun.now in
    let u : Upload = upload_at c.self.inside.store t c.in-Ok.place in
    let complete : is_complete u ≡ true = ap (λ (s : Progress). is_reached s.declared s.offset) (sym at) ∙ sym c.is_complete.ensures ∙ c.if-not-is_complete.false in
    let had : IsBegun (plain_of b) c.args.name.now begun.first begun.bytes.items = subst (λ b. IsBegun (plain_of b) c.args.name.now begun.first begun.bytes.items) (sym c.self.view_is) c.requires.begun in
    let seen = ap (λ part. visible_upload part c.args.name.now.id c.args.now) (part-plain b t) ∙ c.in-Ok.ensures.visible.visible in
    let first = begun-seen (plain_of b) c.args.name.now c.args.now u begun.first begun.bytes.items had seen in
    let within = begun-within (content_of u) begun.bytes.items begun.first first in
    let len : c.progress.result.offset ≡ length (content_of u) = ap (λ (s : Progress). s.offset) at in
    let place : c.saturating_add-offset.result ≡ begun.first + length begun.bytes.items = omega (arith, c.saturating_add-offset.ensures, c.len-done.ensures, begun.bytes.ok.0, within, len) in
    let only = HasOnly-seen (part_at b.store t) c.args.name.now.id c.args.now u (ids-ascend b t c.self.invariant.lawful c.in-Ok.ensures.there) c.in-Ok.ensures.visible.visible complete in
    let items = rw (c.from-tenant.ensures) at c.read_onto.ensures.items in
    let all = items ∙ span-onto (content_of u) begun.bytes.items begun.first c.min-count.result c.min-count.result c.saturating_add-offset.result refl place in
    let P : List ℕ → Type 0 = λ bytes. bytes ≡ take (length bytes) (drop begun.first (content_of u)) in
    let stays : BookHasOnly (plain_of b) c.args.name.now (content_of u) = subst (λ part. HasOnly part c.args.name.now.id (content_of u)) (sym (part-plain b t)) only in
    subst (λ b. IsBegun (plain_of b) c.args.name.now begun.first c.read_onto.new.bytes.items) c.self.view_is
    (inr (content_of u, stays, subst P (sym all) (begun-more (content_of u) begun.bytes.items begun.first c.min-count.result first)))
