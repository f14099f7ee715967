use Rattle.upload_book.proofs.book.Book.head_of_piece.Goals as goal

pub returns-in-Own : goal.returns-in-Own
returns-in-Own c now = rw c.in-Own.is (c.head_of_own.ensures now)

pub returns-in-Joined : goal.returns-in-Joined
returns-in-Joined c now = rw c.in-Joined.is (c.head_of_joined.ensures now)

pub returns-in-Next : goal.returns-in-Next
returns-in-Next c now = rw c.in-Next.is (c.head_of_next.ensures now)

pub returns-in-Totals : goal.returns-in-Totals
returns-in-Totals c now = rw c.in-Totals.is (c.head_of_totals.ensures now)
