-- The settings of a book stay, whatever happens to it.
use Rattle.std.proofs.Common.{◌≡◌, ℕ, List, [], ◌∷◌, map, refl, ◌∙◌}
use Rattle.upload_book.specs.declared.change.Change.{Change}
use Rattle.upload_book.specs.declared.change.Change.TheVariants.{Create, Append, Concat, Terminate, Sweep, Restore}
use Rattle.upload_book.specs.Change.{book_after_change}
use Rattle.upload_book.specs.Events.{ChangeEvent, book_after_all, book_after_event}
use Rattle.upload_book.specs.PlainBook.{PlainBook, opening_book}
use Rattle.upload_book.specs.Settings.{Settings}
use Rattle.upload_book.proofs.Restoring.PieceSteps.{piece-settings}
use Rattle.head_board.specs.Event.{Event}
use Rattle.head_board.specs.Events.{book_at, change_event}

change-settings : (b : PlainBook) (change : Change) (now : ℕ) → (book_after_change b change now).settings ≡ b.settings
change-settings b (Create tenant new first) now = refl
change-settings b (Append name chunk) now = refl
change-settings b (Concat tenant new) now = refl
change-settings b (Terminate name) now = refl
change-settings b Sweep now = refl
change-settings b (Restore restored) now = piece-settings b restored

all-settings : (b : PlainBook) (events : List Event) → (book_after_all b (map {A = Event} {B = ChangeEvent} change_event events)).settings ≡ b.settings
all-settings b [] = refl
all-settings b (e ∷ events) = all-settings (book_after_event b (change_event e)) events ∙ change-settings b e.change e.now

pub at-settings : (s : Settings) (events : List Event) → (book_at s events).settings ≡ s
at-settings s events = all-settings (opening_book s) events
