use Rattle.std.proofs.Common.{◌≡◌, List, Ok, ap, subst, sym, ◌∙◌, rules}
use Rattle.std.proofs.lemmas.Result.{err_from_is_err_and}
use Rattle.upload_book.specs.PlainBook.{opening_book}
use Rattle.book_replay.specs.Replay.{replayed}
use Rattle.head_board.specs.Event.{Event}
use Rattle.head_board.specs.Events.{book_at}
use Rattle.journal_frames.specs.Frames.{recovered}
use Rattle.journal_keeper.proofs.OpeningLemmas.{book-left, records-accepted}
use Rattle.journal_keeper.proofs.opening.reopen.Goals as goal

pub new-keeper-requires-clause-journal : goal.new-keeper-requires-clause-journal
new-keeper-requires-clause-journal g c = λ honest.
    let s = g.C.Charges.settings in
    let store = c.make_all_again.new.store in
    let found = recovered c.args.key c.args.opened.frames.items in
    let events : c.seen_events-durable.result.events ≡ store = ap (λ p. p.events) c.seen_events-durable.ensures ∙ c.make_all_again.ensures.seen in
    let read : recovered c.new.result.key c.new.result.rest.now ≡ found = search rules in
    record {
      records = found;
      holds = c.requires.honest honest;
      make = subst (λ (made : List Event). replayed 1 (opening_book s) found ≡ Ok (book_at s made)) (sym events) (ap (replayed 1 (opening_book s)) (sym read) ∙ c.in_ok-records.ensures.made);
    }

pub returns-clause-recovered : goal.returns-clause-recovered
returns-clause-recovered g c = λ kept file left are.
    let s = g.C.Charges.settings in
    let store = c.make_all_again.new.store in
    let read : replayed 1 (opening_book s) (recovered c.args.key c.args.opened.frames.items) ≡ Ok (book_at s store) = search rules in
    book-left c.args.key s kept file (recovered c.args.key c.args.opened.frames.items) (book_at s store) left are read

pub returns-in_err-records-clause-accepts : goal.returns-in_err-records-clause-accepts
returns-in_err-records-clause-accepts g c = λ told file left are.
    let found = recovered c.args.key c.args.opened.frames.items in
    let read : recovered c.new.result.key c.new.result.rest.now ≡ found = search rules in
    let why = err_from_is_err_and c.from_residual.result c.from_residual.ensures.1 in
    rw (why.1, why.2) (records-accepted c.args.key g.C.Charges.settings told file (recovered c.new.result.key c.new.result.rest.now) c.in_err-records.field-0.0 left (read ∙ are) c.in_err-records.ensures.why)
