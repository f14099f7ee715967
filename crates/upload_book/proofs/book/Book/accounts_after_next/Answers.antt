use Rattle.std.proofs.Common.{subst}
use Rattle.upload_book.specs.Book.{IsBook}
use Rattle.upload_book.proofs.Heads.LineBack.{next-accounts, next-charged}
use Rattle.upload_book.proofs.book.Book.accounts_after_next.Goals as goal

pub accounts_where-requires-clause-within : goal.accounts_where-requires-clause-within
accounts_where-requires-clause-within c =
    next-charged c.args.self.now c.args.ready.now (subst IsBook c.self.view_is c.self.invariant) c.requires c.charge.result c.charge.ensures

pub returns : goal.returns
returns c =
    next-accounts c.args.self.now c.args.ready.now (subst IsBook c.self.view_is c.self.invariant) c.requires c.charge.result c.accounts_where.result c.charge.ensures c.accounts_where.ensures
