-- The desks of an opening.
use Rattle.std.proofs.Common.{◌≡◌, ℕ, zero, suc, ◌+◌, List, ◌++◌, ◌∷◌, [], length, Option, refl, ap, ◌∙◌, add-one, subst, sym}
use Rattle.std.proofs.lemmas.List.{length-append}
use Rattle.std.specs.List.{AllByRecursion}
use Rattle.tus_shared.specs.Desk.{Desk, new_desk, new_desks}

-- there are as many as were asked for
pub new_desks-length : (journal : Option ℕ) (n : ℕ) → length (new_desks journal n) ≡ n
new_desks-length journal zero = refl
new_desks-length journal (suc n) = length-append (new_desks journal n) (new_desk journal n ∷ []) ∙ ap (λ k. k + 1) (new_desks-length journal n) ∙ add-one n

-- a desk that has seen nothing, and was told of nothing that is kept
abbrev pub IsFresh : Desk → Type 0
IsFresh d = (d.seen ≡ []) × (d.kept ≡ [])

fresh-append : (desks : List Desk) (d : Desk) → AllByRecursion IsFresh desks → IsFresh d → AllByRecursion IsFresh (desks ++ d ∷ [])
fresh-append [] d all fresh = (fresh, tt)
fresh-append (x ∷ desks) d all fresh = (all.0, fresh-append desks d all.1 fresh)

new_desks-fresh : (journal : Option ℕ) (n : ℕ) → AllByRecursion IsFresh (new_desks journal n)
new_desks-fresh journal zero = tt
new_desks-fresh journal (suc n) = fresh-append (new_desks journal n) (new_desk journal n) (new_desks-fresh journal n) (refl, refl)

last-fresh : (front : List Desk) (last : Desk) → AllByRecursion IsFresh (front ++ last ∷ []) → IsFresh last
last-fresh [] last all = all.0
last-fresh (x ∷ front) last all = last-fresh front last all.1

-- so is the last of the new desks
pub new_desks-last : (journal : Option ℕ) (n : ℕ) (front : List Desk) (last : Desk) → front ++ last ∷ [] ≡ new_desks journal n → IsFresh last
new_desks-last journal n front last is = last-fresh front last (subst (AllByRecursion IsFresh) (sym is) (new_desks-fresh journal n))
