-- What a reader finds.
use Rattle.std.proofs.Common.{◌≡◌, ℕ, Bool, true, false, if◌then◌else◌, List, Option, Some, None, IfSome, option_map, Result, Ok, Err, refl, sym, ap, ap₂, subst, ◌∙◌}
use mathlib.Core.List.{IsPrefix}
use Rattle.upload_book.specs.declared.head_row.HeadRow.{HeadRow}
use Rattle.upload_book.specs.declared.head_row.Name.{Name}
use Rattle.upload_book.specs.declared.refusal.Refusal.{Refusal}
use Rattle.upload_book.specs.declared.refusal.Refusal.TheVariants.{Gone, Unknown}
use Rattle.upload_book.specs.Heads.{Heads, HeadPart, head_part, heads_of, shown}
use Rattle.upload_book.specs.Lawful.{IsLawful}
use Rattle.upload_book.specs.Look.{look_answer, row_of}
use Rattle.upload_book.specs.PlainBook.{PlainBook, answer_of, opening_book, tenant_book}
use Rattle.upload_book.specs.Settings.{AreSound, Settings}
use Rattle.upload_book.specs.TenantBook.{TenantBook, is_given, kept_in, visible, visible_in, visible_upload}
use Rattle.upload_book.specs.Expiry.{has_expired}
use Rattle.upload_book.specs.Upload.{Upload, head_row_of}
use Rattle.upload_book.proofs.Heads.HeadParts.{head_part-tenant, row-kept}
use Rattle.head_board.specs.declared.board_copy.BoardCopy.{BoardCopy}
use Rattle.head_board.specs.declared.board_copy.View.{View}
use Rattle.head_board.specs.declared.totals.Totals.{Totals}
use Rattle.head_board.specs.Event.{Event}
use Rattle.head_board.specs.Events.{HaveHappened, book_at}
use Rattle.head_board.specs.Expired.{NoneHasExpired}
use Rattle.head_board.specs.Totals.{totals_of}
use Rattle.head_board.specs.inside.EventLog.{IsMore, LogPrefix}
use Rattle.head_board.specs.inside.LastChanges.{last_of}
use Rattle.head_board.specs.inside.Showing.{IsFound, log_of}
use Rattle.head_board.proofs.LawfulLemmas.{books_stay_lawful}
use Rattle.head_board.proofs.PrefixLemmas.{happen-before, more-seen}

-- what is found of an upload is what is found of its row
visible-row : (now : ℕ) (o : Option Upload) → visible (λ (row : HeadRow). row.expires) now (option_map head_row_of o) ≡ row_of (visible (λ (u : Upload). u.expires) now o)
visible-row now None = refl
visible-row now (Some u) = by_test (has_expired now u.expires)
  where
    by_test : (over : Bool) → (if over then Err Gone else Ok (head_row_of u)) ≡ row_of (if over then Err Gone else Ok u)
    by_test true = refl
    by_test false = refl

look-part : (part : TenantBook) (id now : ℕ) → visible_in (λ (row : HeadRow). row.expires) (head_part part) id now ≡ row_of (visible_upload part id now)
look-part part id now = by_test (is_given part id)
  where
    by_test : (given : Bool) → (if given then visible (λ (row : HeadRow). row.expires) now (kept_in (head_part part).uploads id) else Err Unknown) ≡ row_of (if given then visible (λ (u : Upload). u.expires) now (kept_in part.uploads id) else Err Unknown)
    by_test true = ap (visible (λ (row : HeadRow). row.expires) now) (row-kept part.uploads id) ∙ visible-row now (kept_in part.uploads id)
    by_test false = refl

-- the heads of a book tell of an upload what the book does
shown-look : (b : PlainBook) (name : Name) (now : ℕ) → shown (heads_of b) name now ≡ answer_of b name.tenant (look_answer name.id now)
shown-look b name now = ap (λ (part : HeadPart). visible_in (λ (row : HeadRow). row.expires) part name.id now) (head_part-tenant b name.tenant) ∙ look-part (tenant_book b name.tenant) name.id now

-- a copy that was found has the heads of the book after its events
found-heads : (v : View) (s : BoardCopy) (seen events : LogPrefix) → v.knows ≡ true → IsFound v seen s → events ≡ s.seen → s.table ≡ heads_of (book_at v.settings events.events)
found-heads v s seen events knows there is =
    there.current.heads ∙ ap₂ (λ (settings : Settings) (t : LogPrefix). heads_of (book_at settings t.events)) (sym (there.fits knows).0) (sym is)

-- its events happened to the book
found-happened : (v : View) (s : BoardCopy) (seen events : LogPrefix) → v.knows ≡ true → IsFound v seen s → events ≡ s.seen → HaveHappened v.settings events.events
found-happened v s seen events knows there is =
    subst (λ (settings : Settings). HaveHappened settings events.events) (sym (there.fits knows).0)
    (subst (λ (t : LogPrefix). HaveHappened s.table.settings t.events) (sym is) there.current.happened)

-- so that is lawful after them
found-lawful : (v : View) (s : BoardCopy) (seen : LogPrefix) (events : List Event) → v.knows ≡ true → IsFound v seen s → HaveHappened v.settings events → IsLawful (book_at v.settings events)
found-lawful v s seen events knows there happened =
    books_stay_lawful.opened v.settings events (subst AreSound (sym (there.fits knows).0) there.current.sound) happened

-- what a copy that was found rests on is of the log that the reader reads
pub found-log : (v : View) (s : BoardCopy) (seen : LogPrefix) (name : Name) → v.knows ≡ true → log_of v.log ≡ seen.book → IsFound v seen s → (last_of s.last_changes name.id).book ≡ seen.book
found-log v s seen name knows log there = (there.current.rests name).log ∙ sym (there.fits knows).1 ∙ log

-- it tells what the book does after what changed the upload last, and after what was seen
pub found-right : (v : View) (s : BoardCopy) (seen found : LogPrefix) (name : Name) (now : ℕ) (row : Result HeadRow Refusal) → v.knows ≡ true → log_of v.log ≡ seen.book → IsFound v seen s
    → IsMore (last_of s.last_changes name.id) seen found → row ≡ shown s.table name now
    → (found.book ≡ seen.book) × IsPrefix seen.events found.events × HaveHappened v.settings found.events × IsLawful (book_at v.settings found.events)
    × (row ≡ answer_of (book_at v.settings found.events) name.tenant (look_answer name.id now))
found-right v s seen found name now row knows log there more told =
    let rests = there.current.rests name in
    let both = more-seen (last_of s.last_changes name.id) seen found s.seen rests.begins there.begins (found-log v s seen name knows log there) more in
    let settings : s.table.settings ≡ v.settings = sym (there.fits knows).0 in
    let happened : HaveHappened v.settings found.events = subst (λ (settings : Settings). HaveHappened settings found.events) settings (happen-before (opening_book s.table.settings) found.events s.seen.events there.current.happened both.3) in (
      both.0,
      both.1,
      happened,
      found-lawful v s seen found.events knows there happened,
      told ∙ sym (rests.same found.events both.2 both.3 now) ∙ ap (λ (settings : Settings). shown (heads_of (book_at settings found.events)) name now) settings
          ∙ shown-look (book_at v.settings found.events) name now,
    )

-- and what has expired after what happened
pub none-right : (v : View) (s : BoardCopy) (seen : LogPrefix) (now : ℕ) (found : Option LogPrefix) → v.knows ≡ true → log_of v.log ≡ seen.book → IsFound v seen s
    → IfSome found (λ f. (f ≡ s.seen) × NoneHasExpired now s.table)
    → IfSome found (λ f. (f.book ≡ seen.book) × IsPrefix seen.events f.events × HaveHappened v.settings f.events × IsLawful (book_at v.settings f.events) × NoneHasExpired now (heads_of (book_at v.settings f.events)))
none-right v s seen now None knows log there found = tt
none-right v s seen now (Some f) knows log there found = (
  ap (λ (t : LogPrefix). t.book) found.0 ∙ sym (there.fits knows).1 ∙ log,
  subst (λ (t : LogPrefix). IsPrefix seen.events t.events) (sym found.0) there.begins,
  found-happened v s seen f knows there found.0,
  found-lawful v s seen f.events knows there (found-happened v s seen f knows there found.0),
  subst (λ (h : Heads). NoneHasExpired now h) (found-heads v s seen f knows there found.0) found.1,
)

-- and the totals after what happened
pub totals-right : (v : View) (s : BoardCopy) (seen found : LogPrefix) (totals : Totals) → v.knows ≡ true → log_of v.log ≡ seen.book → IsFound v seen s
    → found ≡ s.seen → totals ≡ totals_of s.table
    → (found.book ≡ seen.book) × IsPrefix seen.events found.events × HaveHappened v.settings found.events × IsLawful (book_at v.settings found.events) × (totals ≡ totals_of (heads_of (book_at v.settings found.events)))
totals-right v s seen found totals knows log there is told = (
  ap (λ (t : LogPrefix). t.book) is ∙ sym (there.fits knows).1 ∙ log,
  subst (λ (t : LogPrefix). IsPrefix seen.events t.events) (sym is) there.begins,
  found-happened v s seen found knows there is,
  found-lawful v s seen found.events knows there (found-happened v s seen found knows there is),
  told ∙ ap totals_of (found-heads v s seen found knows there is),
)
