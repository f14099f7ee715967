-- Refusals come in the one order.
use Rattle.std.proofs.Common.{◌≡◌, ℕ, Bool, true, false, cond, not, is_err, Option, Some, None, Result, Ok, Err, refl}
use Rattle.std.specs.Result.{IsOk, result_err}
use Rattle.upload_book.specs.Change.{MayLackFor, appended_in, change_answer, outcome_in}
use Rattle.upload_book.specs.declared.append.Appended.{Appended}
use Rattle.upload_book.specs.declared.append.Refused.{Refused}
use Rattle.upload_book.specs.declared.change.Change.{Change}
use Rattle.upload_book.specs.declared.change.Change.TheVariants.{Create, Append, Concat, Terminate, Sweep, Restore}
use Rattle.upload_book.specs.declared.change.Outcome.{Outcome}
use Rattle.upload_book.specs.declared.change.Outcome.TheVariants as outcome
use Rattle.upload_book.specs.declared.refusal.Refusal.{Refusal}
use Rattle.upload_book.specs.declared.refusal.Refusal.TheVariants.{Gone, Unknown}
use Rattle.upload_book.specs.declared.restored.Restored.{Restored}
use Rattle.upload_book.specs.declared.restored.Restored.TheVariants as piece
use Rattle.upload_book.specs.Expiry.{has_expired}
use Rattle.upload_book.specs.laws.Steps.{FollowOrder}
use Rattle.upload_book.specs.PlainBook.{PlainBook}
use Rattle.upload_book.specs.Refusal.{unless}
use Rattle.upload_book.specs.snapshot.Restore.{MayLackPiece, piece_refusal}
use Rattle.upload_book.specs.TenantBook.{is_given, kept_in, visible}
use Rattle.upload_book.specs.Upload.{Upload}

-- which upload a request sees is refused by the first of its tests
seen-first : (given : Bool) (now : ℕ) (found : Option Upload)
    → result_err (cond given (visible (λ (u : Upload). u.expires) now found) (Err Unknown))
    ≡ cond (not given) (Some Unknown) (cond (is_err (visible (λ (u : Upload). u.expires) now found)) (Some Gone) None)
seen-first false now found = refl
seen-first true now None = refl
seen-first true now (Some u) = by (has_expired now u.expires)
  where
    by : (expired : Bool) → result_err {T = Upload} {E = Refusal} (cond expired (Err Gone) (Ok u)) ≡ cond (is_err {T = Upload} {E = Refusal} (cond expired (Err Gone) (Ok u))) (Some Gone) None
    by true = refl
    by false = refl

-- what a call gives is given as what its change gives
outcome-ok : {A : Type 0} (given : A → Outcome) (r : Result A Refusal) → IsOk r → IsOk (outcome_in given r)
outcome-ok given (Ok x) ok = refl
outcome-ok given (Err why) ok = absurd (let no : false ≡ true = ok in cc)

appended-ok : (r : Result Appended Refused) → IsOk r → IsOk (appended_in r)
appended-ok (Ok x) ok = refl
appended-ok (Err why) ok = absurd (let no : false ≡ true = ok in cc)

piece-lacks : (b : PlainBook) (r : Restored) → MayLackPiece b r → piece_refusal b r ≡ None
piece-lacks b (piece.Upload tenant r) may = may
piece-lacks b (piece.Next tenant next) may = absurd may
piece-lacks b (piece.Totals released) may = absurd may

-- what may lack memory is refused for nothing else
lacks-last : (b : PlainBook) (change : Change) (now : ℕ) → MayLackFor b change now → IsOk (change_answer b change now)
lacks-last b (Create tenant new first) now may = outcome-ok outcome.Created _ may.0
lacks-last b (Append name chunk) now may = appended-ok _ may.0
lacks-last b (Concat tenant new) now may = outcome-ok outcome.Created _ may
lacks-last b (Terminate name) now may = absurd may
lacks-last b Sweep now may = absurd may
lacks-last b (Restore restored) now may =
    outcome-ok (λ (given : Outcome). given) (unless (piece_refusal b restored) outcome.Restored) (rw (piece-lacks b restored may) refl)

pub follow_order : FollowOrder
follow_order = record {
  visible = λ part id now. seen-first (is_given part id) now (kept_in part.uploads id);
  last = lacks-last;
  creation = λ n account part new first. refl;
  concat = λ n part there complete len. refl;
  append = λ n account part id now row chunk. refl;
  content = λ part id now u. refl;
}
