-- Prefixes of what was seen, and what happened up to each.
use Rattle.std.proofs.Common.{◌≡◌, ◌⊎◌, List, [], ◌∷◌, ◌++◌, length, inl, inr, refl, ap, sym, subst, ◌∙◌, arith, length-append, append_assoc}
use Rattle.std.proofs.lemmas.Bool.{cases_lt}
use Rattle.std.proofs.lemmas.List.{append-nil}
use mathlib.Core.List.{IsPrefix}
use Rattle.upload_book.specs.Events.{book_after_event}
use Rattle.upload_book.specs.PlainBook.{PlainBook}
use Rattle.head_board.specs.Event.{Event}
use Rattle.head_board.specs.Events.{AllHappen, change_event}
use Rattle.head_board.specs.inside.EventLog.{LogPrefix, IsMore}
use Rattle.head_board.proofs.LogLemmas.{prefix_fits, prefix_shorter, prefix_whole}

-- what begins the first begins what it begins
pub prefix_on : {A : Type 0} (xs ys zs : List A) → IsPrefix xs ys → IsPrefix ys zs → IsPrefix xs zs
prefix_on {A = A} xs ys zs p q = (p.0 ++ q.0, sym (append_assoc xs p.0 q.0) ∙ ap (λ (front : List A). front ++ q.0) p.1 ∙ q.1)

-- a prefix of a list with one more element is all of it, or one of the list
pub prefix_or_all : {A : Type 0} (xs ys : List A) (y : A) → IsPrefix xs (ys ++ y ∷ []) → (xs ≡ ys ++ y ∷ []) ⊎ IsPrefix xs ys
prefix_or_all xs ys y p = elim (cases_lt (length ys) (length xs)) [
  | inl longer ↦ inl (prefix_whole xs (ys ++ y ∷ []) p (omega (arith, longer, length-append ys (y ∷ []))))
  | inr fits ↦ inr (prefix_shorter xs ys (ys ++ y ∷ []) p (y ∷ [], refl) fits)
]

-- two lists that begin each other are one
pub prefix_same : {A : Type 0} (xs ys : List A) → IsPrefix xs ys → IsPrefix ys xs → xs ≡ ys
prefix_same xs ys p q = prefix_whole xs ys p (prefix_fits ys xs q)

-- of two prefixes of a list one begins the other
pub prefix_other : {A : Type 0} (xs ys zs : List A) → IsPrefix xs zs → IsPrefix ys zs → (IsPrefix xs ys → ⊥) → IsPrefix ys xs
prefix_other xs ys zs p q apart = elim (cases_lt (length xs) (length ys)) [
  | inl shorter ↦ absurd (apart (prefix_shorter xs ys zs p q (omega (arith, shorter))))
  | inr fits ↦ prefix_shorter ys xs zs q p fits
]

-- what happened up to an event happened
pub happen-before : (b : PlainBook) (before events : List Event) → AllHappen b events → IsPrefix before events → AllHappen b before
happen-before b before events all p = first b before p.0 (subst (AllHappen b) (sym p.1) all)
  where
    first : (b : PlainBook) (events more : List Event) → AllHappen b (events ++ more) → AllHappen b events
    first b [] more all = tt
    first b (e ∷ events) more all = (all.0, first (book_after_event b (change_event e)) events more all.1)

-- where more was seen, both were
pub more-seen : (one other more all : LogPrefix) → IsPrefix one.events all.events → IsPrefix other.events all.events → one.book ≡ other.book → IsMore one other more
    → (more.book ≡ other.book) × IsPrefix other.events more.events × IsPrefix one.events more.events × IsPrefix more.events all.events
more-seen one other more all p q log (inl most) = (
  ap (λ (t : LogPrefix). t.book) most.1,
  subst (λ (t : LogPrefix). IsPrefix other.events t.events) (sym most.1) ([], append-nil other.events),
  subst (λ (t : LogPrefix). IsPrefix one.events t.events) (sym most.1) most.0,
  subst (λ (t : LogPrefix). IsPrefix t.events all.events) (sym most.1) q,
)
more-seen one other more all p q log (inr most) = (
  ap (λ (t : LogPrefix). t.book) most.1 ∙ log,
  subst (λ (t : LogPrefix). IsPrefix other.events t.events) (sym most.1) (prefix_other one.events other.events all.events p q most.0),
  subst (λ (t : LogPrefix). IsPrefix one.events t.events) (sym most.1) ([], append-nil one.events),
  subst (λ (t : LogPrefix). IsPrefix t.events all.events) (sym most.1) p,
)
