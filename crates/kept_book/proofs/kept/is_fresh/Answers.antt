use Rattle.std.proofs.Common.{◌≡◌, ◌<◌, Some, None, slice_get, arith, rules}
use Rattle.std.proofs.lemmas.Bool.Decides.{nat_tests}
use Rattle.upload_book.specs.Book.{plain_of}
use Rattle.upload_book.proofs.Expiries.SweepNone.{EndsNone-first}
use Rattle.kept_book.proofs.kept.is_fresh.Goals as goal

pub returns-in-Some : goal.returns-in-Some
returns-in-Some c = λ lt.
    let first : slice_get c.expiries.result.now 0 ≡ Some c.in-Some.first.now = search rules in
    let later : c.args.now < c.in-Some.first.now.at = grind (arith, nat_tests) in
    EndsNone-first (plain_of c.args.book.now) c.expiries.result.now c.args.now c.settings-lawful.ensures.lawful c.expiries.ensures (rw first later)

pub returns-in-None : goal.returns-in-None
returns-in-None c = λ lt.
    let first : slice_get c.expiries.result.now 0 ≡ None = search rules in
    EndsNone-first (plain_of c.args.book.now) c.expiries.result.now c.args.now c.settings-lawful.ensures.lawful c.expiries.ensures (rw first tt)
