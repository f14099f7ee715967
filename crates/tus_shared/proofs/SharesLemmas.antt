-- What shares are taken in one after another.
use Rattle.std.proofs.Common.{◌≡◌, ℕ, suc, ◌+◌, List, [], ◌∷◌, ◌++◌, length, add-one, Option, Bool, false, ap, ◌∙◌, arith}
use Rattle.std.proofs.lemmas.List.Sums.{sum_by-cons}
use Rattle.std.specs.List.{sum_by}
use Rattle.head_board.specs.Event.{Event}
use Rattle.tus_shared.specs.Desk.{Desk, new_desks}

-- a share that has these parts and this amount still lacks what the desks that are left have
pub record IsLeft {D : Type 0} (amount_of : D → ℕ) (from worth : ℕ) (all left : List D) (from_now worth_now : ℕ) : Type 0 where
  pub parts : from_now + length left ≡ from + length all
  pub amount : worth_now + sum_by amount_of left ≡ worth + sum_by amount_of all

-- and after the next desk was taken in, what those after it have
pub IsLeft-next : {D : Type 0} (amount_of : D → ℕ) (from worth : ℕ) (all left rest : List D) (d : D) (from_now worth_now from_next worth_next : ℕ) → left ≡ d ∷ rest
    → from_next ≡ from_now + 1 → worth_next ≡ worth_now + amount_of d → IsLeft amount_of from worth all left from_now worth_now → IsLeft amount_of from worth all rest from_next worth_next
IsLeft-next {D = D} amount_of from worth all left rest d from_now worth_now from_next worth_next step parts amount i =
    let long : length left ≡ suc (length rest) = ap (length {A = D}) step in
    let sum : sum_by amount_of left ≡ amount_of d + sum_by amount_of rest = ap (sum_by amount_of) step ∙ sum_by-cons amount_of d rest in
    record {
      parts = omega (arith, long, parts, i.parts);
      amount = omega (arith, sum, amount, i.amount);
    }

-- the desks with one more that has made no step
pub new_desks-next : (journal own : Option ℕ) (n : ℕ) (desks more : List Desk) (charged released made : ℕ) (seen kept : List Event) (missed : Bool)
    → more ≡ desks ++ record { number = n; journal = own; charged = charged; released = released; made = made; seen = seen; kept = kept; room = 0; missed = missed; steps = 0 } ∷ [] → desks ≡ new_desks journal n
    → own ≡ journal → charged ≡ 0 → released ≡ 0 → made ≡ 0 → seen ≡ [] → kept ≡ [] → missed ≡ false → more ≡ new_desks journal (n + 1)
new_desks-next journal own n desks more charged released made seen kept missed pushed so_far key none spent unmade nothing unkept there = rw (add-one, pushed) (simp (so_far, key, none, spent, unmade, nothing, unkept, there))
