-- The book after events: what stays of it, and one event more.
use Rattle.std.proofs.Common.{◌≡◌, ℕ, List, [], ◌∷◌, ◌++◌, length, map, refl, sym, ap, subst, ◌∙◌}
use Rattle.std.proofs.lemmas.List.{length-map}
use Rattle.std.proofs.Math.ListN.{length-set}
use Rattle.upload_book.specs.declared.board_line.BoardLine.{BoardLine}
use Rattle.upload_book.specs.declared.change.Change.{Change}
use Rattle.upload_book.specs.declared.change.Change.TheVariants.{Create, Append, Concat, Terminate, Sweep, Restore}
use Rattle.upload_book.specs.declared.settings.TenantQuota.{TenantQuota}
use Rattle.upload_book.specs.Change.{CanBeMade, book_after_change}
use Rattle.upload_book.specs.Events.{ChangeEvent, book_after_all, book_after_event}
use Rattle.upload_book.specs.PlainBook.{PlainBook, opening_book}
use Rattle.upload_book.specs.Settings.{Settings}
use Rattle.upload_book.specs.Sweep.{part_after_sweep}
use Rattle.upload_book.specs.TenantBook.{TenantBook, opening_part}
use Rattle.upload_book.proofs.Restoring.PieceSteps.{piece-tenants}
use Rattle.head_board.specs.Event.{Event}
use Rattle.head_board.specs.Events.{AllHappen, HaveHappened, IsLineOf, book_at, change_event}
use Rattle.tus_shared.specs.Store.{IsBookAt}
use Rattle.head_board.proofs.BoardLemmas.{after-one, happen-one}
use Rattle.head_board.proofs.SettingsLemmas.{at-settings}

change-tenants : (b : PlainBook) (change : Change) (now : ℕ) → length (book_after_change b change now).tenants ≡ length b.tenants
change-tenants b (Create tenant new first) now = length-set b.tenants tenant _
change-tenants b (Append name chunk) now = length-set b.tenants name.tenant _
change-tenants b (Concat tenant new) now = length-set b.tenants tenant _
change-tenants b (Terminate name) now = length-set b.tenants name.tenant _
change-tenants b Sweep now = length-map b.tenants (part_after_sweep now)
change-tenants b (Restore restored) now = piece-tenants b restored

all-tenants : (b : PlainBook) (events : List Event) → length (book_after_all b (map {A = Event} {B = ChangeEvent} change_event events)).tenants ≡ length b.tenants
all-tenants b [] = refl
all-tenants b (e ∷ events) = all-tenants (book_after_event b (change_event e)) events ∙ change-tenants b e.change e.now

-- there are the tenants of the settings
pub at-tenants : (s : Settings) (events : List Event) → length (book_at s events).tenants ≡ length s.tenants
at-tenants s events = all-tenants (opening_book s) events ∙ length-map s.tenants (λ (t : TenantQuota). let part : TenantBook = opening_part t.quota in part)

-- the book after one event more
pub at-one : (s : Settings) (events : List Event) (e : Event) → book_at s (events ++ e ∷ []) ≡ book_after_change (book_at s events) e.change e.now
at-one s events e = after-one (opening_book s) events e

pub book-one : (s : Settings) (events : List Event) (e : Event) (line : BoardLine) (b after : PlainBook) → IsBookAt s events b → CanBeMade (length s.tenants) e.change → IsLineOf b e line → after ≡ book_after_change b e.change e.now → IsBookAt s (events ++ e ∷ []) after
book-one s events e line b after at asked told is = record {
  happened = happen-one (opening_book s) events e at.happened (record {
    asked = subst (λ (of : Settings). CanBeMade (length of.tenants) e.change) (sym (at-settings s events)) asked;
    line = line;
    told = subst (λ (b : PlainBook). IsLineOf b e line) at.is told;
  });
  is = is ∙ ap (λ (b : PlainBook). book_after_change b e.change e.now) at.is ∙ sym (at-one s events e);
}

-- what happened first, happened
happen-first : (b : PlainBook) (first more : List Event) → AllHappen b (first ++ more) → AllHappen b first
happen-first b [] more all = tt
happen-first b (e ∷ first) more all = (all.0, happen-first (book_after_event b (change_event e)) first more all.1)

pub happened-first : (s : Settings) (first more : List Event) → HaveHappened s (first ++ more) → HaveHappened s first
happened-first s first more all = happen-first (opening_book s) first more all
