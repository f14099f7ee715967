use Rattle.std.proofs.Common.{◌+◌, ap, ap₂, subst, ◌∙◌, arith}
use Rattle.upload_book.specs.Book.{StoredBook, IsBook}
use Rattle.upload_book.specs.declared.settings.Numbers.{Numbers}
use Rattle.upload_book.specs.inside.FinalBack.{brought_in}
use Rattle.upload_book.proofs.Heads.LineBack.{back-accounts, back-charged, back-small}
use Rattle.upload_book.proofs.book.Book.accounts_after_back.Goals as goal

pub blocks-added-requires-clause-fits : goal.blocks-added-requires-clause-fits
blocks-added-requires-clause-fits c =
    let b = c.args.self.now in
    let r = c.args.upload.now in
    let kept = subst IsBook c.self.view_is c.self.invariant in
    let size = c.numbers.ensures.value ∙ ap (λ (b : StoredBook). b.settings.numbers) c.self.view_is in
    omega (arith, back-small b c.args.tenant r kept c.requires.tenant_there c.requires.form c.requires.accepted, ap (λ (n : Numbers). brought_in n.block_size r.segments) size)

pub overflow_add-charge : goal.overflow_add-charge
overflow_add-charge c =
    let b = c.args.self.now in
    let r = c.args.upload.now in
    let kept = subst IsBook c.self.view_is c.self.invariant in
    let size = c.numbers.ensures.value ∙ ap (λ (b : StoredBook). b.settings.numbers) c.self.view_is in
    let added = c.blocks-added.ensures ∙ ap (λ (n : Numbers). brought_in n.block_size r.segments) size in
    omega (arith, back-small b c.args.tenant r kept c.requires.tenant_there c.requires.form c.requires.accepted, c.charge.ensures, added)

pub accounts_where-requires-clause-within : goal.accounts_where-requires-clause-within
accounts_where-requires-clause-within c =
    let b = c.args.self.now in
    let r = c.args.upload.now in
    let kept = subst IsBook c.self.view_is c.self.invariant in
    let size = c.numbers.ensures.value ∙ ap (λ (b : StoredBook). b.settings.numbers) c.self.view_is in
    let added = c.blocks-added.ensures ∙ ap (λ (n : Numbers). brought_in n.block_size r.segments) size in
    back-charged b c.args.tenant r kept c.requires.tenant_there c.requires.form c.requires.accepted (c.charge.result + c.blocks-added.result) (ap₂ (λ x y. x + y) c.charge.ensures added)

pub returns : goal.returns
returns c =
    let b = c.args.self.now in
    let r = c.args.upload.now in
    let kept = subst IsBook c.self.view_is c.self.invariant in
    let size = c.numbers.ensures.value ∙ ap (λ (b : StoredBook). b.settings.numbers) c.self.view_is in
    let added = c.blocks-added.ensures ∙ ap (λ (n : Numbers). brought_in n.block_size r.segments) size in
    back-accounts b c.args.tenant r kept c.requires.tenant_there c.requires.form c.requires.accepted (c.charge.result + c.blocks-added.result) c.accounts_where.result (ap₂ (λ x y. x + y) c.charge.ensures added) c.accounts_where.ensures
