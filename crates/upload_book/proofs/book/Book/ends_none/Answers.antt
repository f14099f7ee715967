use Rattle.upload_book.specs.Book.{plain_of}
use Rattle.upload_book.specs.contracts.book.Book.{the_view}
use Rattle.upload_book.proofs.Expiries.SweepNone.{EndsNone-first}
use Rattle.upload_book.proofs.book.Book.ends_none.Goals as goal

pub returns-clause-none : goal.returns-clause-none
returns-clause-none c = λ none.
    let b = the_view c.self.inside in
    rw (← c.self.view_is) (EndsNone-first (plain_of b) b.expiries.list c.args.now c.self.invariant.lawful c.self.invariant.expiries (c.begins_after.ensures.0 none))
