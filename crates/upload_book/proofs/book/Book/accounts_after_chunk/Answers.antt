use Rattle.std.proofs.Common.{◌+◌, ap₂, subst, arith}
use Rattle.upload_book.specs.Book.{IsBook}
use Rattle.upload_book.proofs.Heads.LineSteps.{chunk-accounts, chunk-charged, chunk-small}
use Rattle.upload_book.proofs.book.Book.accounts_after_chunk.Goals as goal

pub overflow_add-charge : goal.overflow_add-charge
overflow_add-charge c =
    let b = c.args.self.now in
    let r = c.args.ready.now in
    let kept = subst IsBook c.self.view_is c.self.invariant in
    omega (arith, chunk-small b r kept c.requires, c.charge.ensures, c.requires.cost)

pub accounts_where-requires-clause-within : goal.accounts_where-requires-clause-within
accounts_where-requires-clause-within c =
    let b = c.args.self.now in
    let r = c.args.ready.now in
    let kept = subst IsBook c.self.view_is c.self.invariant in
    chunk-charged b r kept c.requires (c.charge.result + r.cost) (ap₂ (λ x y. x + y) c.charge.ensures c.requires.cost)

pub returns : goal.returns
returns c =
    let b = c.args.self.now in
    let r = c.args.ready.now in
    let kept = subst IsBook c.self.view_is c.self.invariant in
    chunk-accounts b r kept c.requires (c.charge.result + r.cost) c.accounts_where.result (ap₂ (λ x y. x + y) c.charge.ensures c.requires.cost) c.accounts_where.ensures
