use Rattle.std.proofs.Common.{◌≡◌, length, ap, subst, sym, ◌∙◌, arith}
use Rattle.std.proofs.lemmas.Result.{IfOk-at_ok}
use Rattle.upload_book.specs.Book.{plain_of}
use Rattle.upload_book.specs.Change.{CanBeMade, book_after_change}
use Rattle.upload_book.specs.PlainBook.{PlainBook, opening_book}
use Rattle.upload_book.specs.Ready.{change_in, moment_in}
use Rattle.upload_book.specs.Settings.{Settings}
use Rattle.head_board.specs.Board.{BoardView}
use Rattle.head_board.specs.Event.{Event}
use Rattle.head_board.specs.Events.{IsNoteOfEvent, book_at}
use Rattle.head_board.proofs.BoardLemmas.{after-one}
use Rattle.head_board.proofs.SettingsLemmas.{at-settings}
use Rattle.head_board_tests.proofs.boards.make.Goals as goal

pub prepare-ready-requires : goal.prepare-ready-requires
prepare-ready-requires g c =
    let count : length c.settings.result.now.tenants ≡ length c.args.book.now.settings.tenants = ap (λ (s : Settings). length s.tenants) c.settings.ensures.value in
    c.requires.can _ (omega (arith, count, c.tenant_count.ensures))

pub show-requires-clause-asked : goal.show-requires-clause-asked
show-requires-clause-asked g c =
    let board = c.args.board.now in
    let same : c.args.book.now.settings ≡ board.settings = ap (λ (b : PlainBook). b.settings) c.requires.book ∙ at-settings board.settings board.events in
    let count : length c.settings.result.now.tenants ≡ length board.settings.tenants = ap (λ (s : Settings). length s.tenants) (c.settings.ensures.value ∙ same) in
    let can : CanBeMade (length board.settings.tenants) c.args.change = c.requires.can _ (omega (arith, count, c.tenant_count.ensures)) in
    subst (CanBeMade (length board.settings.tenants)) (sym (IfOk-at_ok _ c.expect-ready.ensures c.prepare-ready.ensures.change)) can

pub show-requires-clause-note : goal.show-requires-clause-note
show-requires-clause-note g c =
    let board = c.args.board.now in
    let before : plain_of c.prepare-ready.new.self ≡ book_at board.settings board.events = c.prepare-ready.ensures.plain ∙ c.requires.book in
    let event : Event = record { desk = 0; change = change_in c.expect-ready.result; now = moment_in c.expect-ready.result } in
    subst (λ (b : PlainBook). IsNoteOfEvent b event c.note-note.result) before c.note-note.ensures

pub returns-clause-book : goal.returns-clause-book
returns-clause-book g c =
    let board = c.args.board.now in
    let before : plain_of c.prepare-ready.new.self ≡ book_at board.settings board.events = c.prepare-ready.ensures.plain ∙ c.requires.book in
    let event : Event = record { desk = 0; change = change_in c.expect-ready.result; now = moment_in c.expect-ready.result } in
    c.commit.ensures.after ∙ ap (λ (b : PlainBook). book_after_change b event.change event.now) before
    ∙ sym (after-one (opening_book board.settings) board.events event)
    ∙ sym (ap (λ (b : BoardView). book_at b.settings b.events) c.show.ensures)
