use Rattle.std.proofs.Common.{◌≡◌, ◌+◌, length, ap, ap₂, subst, ◌∙◌, arith}
use Rattle.upload_book.specs.Account.{blocks_added}
use Rattle.upload_book.specs.Book.{StoredBook, IsBook}
use Rattle.upload_book.specs.declared.settings.Numbers.{Numbers}
use Rattle.upload_book.proofs.Heads.LineSteps.{upload-accounts, upload-charged, upload-small}
use Rattle.upload_book.proofs.book.Book.accounts_after_upload.Goals as goal

pub overflow_add-charge : goal.overflow_add-charge
overflow_add-charge c =
    let b = c.args.self.now in
    let r = c.args.ready.now in
    let kept = subst IsBook c.self.view_is c.self.invariant in
    let size = c.numbers.ensures.value ∙ ap (λ (b : StoredBook). b.settings.numbers) c.self.view_is in
    let cost : c.blocks_added-cost.result ≡ blocks_added b.settings.numbers 0 (length r.first.bytes) =
    c.blocks_added-cost.ensures ∙ ap₂ (λ (n : Numbers) len. blocks_added n 0 len) size c.len-len.ensures in
    omega (arith, upload-small b r kept c.requires, c.charge.ensures, cost)

pub accounts_where-requires-clause-within : goal.accounts_where-requires-clause-within
accounts_where-requires-clause-within c =
    let b = c.args.self.now in
    let r = c.args.ready.now in
    let kept = subst IsBook c.self.view_is c.self.invariant in
    let size = c.numbers.ensures.value ∙ ap (λ (b : StoredBook). b.settings.numbers) c.self.view_is in
    let cost : c.blocks_added-cost.result ≡ blocks_added b.settings.numbers 0 (length r.first.bytes) =
    c.blocks_added-cost.ensures ∙ ap₂ (λ (n : Numbers) len. blocks_added n 0 len) size c.len-len.ensures in
    upload-charged b r kept c.requires (c.charge.result + c.blocks_added-cost.result) (ap₂ (λ x y. x + y) c.charge.ensures cost)

pub returns : goal.returns
returns c =
    let b = c.args.self.now in
    let r = c.args.ready.now in
    let kept = subst IsBook c.self.view_is c.self.invariant in
    let size = c.numbers.ensures.value ∙ ap (λ (b : StoredBook). b.settings.numbers) c.self.view_is in
    let cost : c.blocks_added-cost.result ≡ blocks_added b.settings.numbers 0 (length r.first.bytes) =
    c.blocks_added-cost.ensures ∙ ap₂ (λ (n : Numbers) len. blocks_added n 0 len) size c.len-len.ensures in
    upload-accounts b r kept c.requires (c.charge.result + c.blocks_added-cost.result) c.accounts_where.result (ap₂ (λ x y. x + y) c.charge.ensures cost) c.accounts_where.ensures
