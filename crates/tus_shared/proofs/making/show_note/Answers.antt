use Rattle.std.proofs.Common.{subst}
use Rattle.upload_book.specs.PlainBook.{PlainBook}
use Rattle.head_board.specs.Events.{IsNoteOfEvent, event_of}
use Rattle.tus_shared.proofs.making.show_note.Goals as goal

pub show-requires-clause-note : goal.show-requires-clause-note
show-requires-clause-note g c = subst (λ (b : PlainBook). IsNoteOfEvent b (event_of c.args.coming.now) c.note-note.result) c.requires.book c.note-note.ensures

pub returns-clause-line : goal.returns-clause-line
returns-clause-line g c = (c.note-note.ensures.line, record { is = c.note-note.ensures.is; leads = c.note-note.ensures.leads })
