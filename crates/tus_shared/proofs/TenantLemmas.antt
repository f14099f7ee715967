-- What a book tells of a tenant that the settings do not have.
use Rattle.std.proofs.Common.{◌≡◌, ◌≤◌, ℕ, zero, suc, Bool, false, ltb, ◌&&◌, List, Err, length, refl, ap, ◌∙◌, arith}
use Rattle.std.proofs.lemmas.List.{get_or_past}
use Rattle.std.proofs.Math.Bool.{and-false}
use Rattle.std.proofs.lemmas.Bool.{le-ltb}
use Rattle.upload_book.specs.declared.head_row.Name.{Name}
use Rattle.upload_book.specs.declared.refusal.Refusal.TheVariants.{Unknown}
use Rattle.upload_book.specs.Look.{look_answer}
use Rattle.upload_book.specs.PlainBook.{answer_of}
use Rattle.upload_book.specs.Settings.{Settings}
use Rattle.upload_book.specs.TenantBook.{is_given, opening_part}
use Rattle.upload_book.specs.Upload.{Upload}
use Rattle.head_board.specs.Event.{Event}
use Rattle.head_board.specs.Events.{book_at}
use Rattle.tus_shared.proofs.EventLemmas.{at-tenants}

-- a part with no upload gave no id
opening-given : (id : ℕ) → is_given {K = Upload} (opening_part 0) id ≡ false
opening-given zero = refl
opening-given (suc id) = ap (λ (below : Bool). ltb 0 (suc id) && below) (le-ltb (suc id) 1 (omega arith)) ∙ and-false (ltb 0 (suc id))

-- so each id of a tenant past those of the settings is unknown
pub look-past : (s : Settings) (events : List Event) (name : Name) (now : ℕ) → length s.tenants ≤ name.tenant → answer_of (book_at s events) name.tenant (look_answer name.id now) ≡ Err Unknown
look-past s events name now past =
    let there : length (book_at s events).tenants ≡ length s.tenants = at-tenants s events in
    rw (get_or_past (book_at s events).tenants name.tenant (opening_part 0) (rw there past), opening-given name.id) refl
