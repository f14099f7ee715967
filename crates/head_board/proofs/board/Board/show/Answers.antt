use Rattle.std.proofs.Common.{[], ◌∷◌, ◌++◌, ap, length, subst, sym, ◌∙◌}
use Rattle.upload_book.specs.Change.{CanBeMade}
use Rattle.upload_book.specs.Settings.{Settings}
use Rattle.head_board.specs.Events.{IsNoteOfEvent, book_at, event_of}
use Rattle.head_board.specs.inside.EventLog.{LogPrefix}
use Rattle.head_board.proofs.BoardLemmas.{current-noted}
use Rattle.head_board.proofs.SettingsLemmas.{at-settings}
use Rattle.head_board.proofs.board.Board.show.Goals as goal

pub replace_with-requires : goal.replace_with-requires
replace_with-requires g c =
    let s = c.self.inside.writer.desk.shown.value in
    let event = event_of c.args.coming.now in
    let note = c.args.note.now in
    let kept = c.self.invariant in
    let with_event : LogPrefix → LogPrefix = λ seen. record seen { events = seen.events ++ event ∷ [] } in
    let told : IsNoteOfEvent (book_at s.table.settings c.self.inside.seen.events) event note = rw (← c.self.view_is) at c.requires.note in
    let asked : CanBeMade (length s.table.settings.tenants) event.change = rw (← c.self.view_is) at c.requires.asked in
    let asked_here : CanBeMade (length (book_at s.table.settings s.seen.events).settings.tenants) event.change = subst (λ (settings : Settings). CanBeMade (length settings.tenants) event.change) (sym (at-settings s.table.settings s.seen.events)) asked in
    let told_here : IsNoteOfEvent (book_at s.table.settings s.seen.events) event note = subst (λ (seen : LogPrefix). IsNoteOfEvent (book_at s.table.settings seen.events) event note) kept.same told in
    (kept.rest, λ texts. current-noted s event note c.with-after.result texts kept.rest.current (c.with-after.ensures ∙ ap with_event kept.same) asked_here told_here)
