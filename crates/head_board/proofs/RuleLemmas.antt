-- The steps of a board keep its rule.
use Rattle.std.proofs.Common.{◌≡◌, ◌≢◌, ℕ, List, [], ◌∷◌, ◌++◌, set, refl, sym, subst, ⊎_elim, ◌∙◌}
use mathlib.Core.Option.{some}
use lib.ListN.{get_elem?}
use Rattle.left_right.specs.Register.{Admits, Forks, Merges, TurnsAt}
use Rattle.atomic_table.proofs.Lists.{at_set, at_snoc}
use Rattle.head_board.specs.declared.board_copy.BoardCopy.{BoardCopy}
use Rattle.head_board.specs.declared.board_copy.View.{View}
use Rattle.head_board.specs.inside.Showing.{Fits, IsConsistent, IsCurrent, no_view, view_of}

-- what is known of each place is right
abbrev AllFit : BoardCopy → List View → Type 0
AllFit s views = (seat : ℕ) (v : View) → get_elem? views seat ≡ some v → Fits v s

fit-set : (s : BoardCopy) (views : List View) (seat : ℕ) (v : View) → AllFit s views → Fits v s → AllFit s (set views seat v)
fit-set s views seat v all fits k u at =
    ⊎_elim (λ (h : (k ≡ seat) × (v ≡ u)). subst (λ (u : View). Fits u s) h.1 fits) (λ (h : (k ≢ seat) × (get_elem? views k ≡ some u)). all k u h.1) (at_set views seat k v u at)

pub fit-snoc : (s : BoardCopy) (views : List View) (v : View) → AllFit s views → Fits v s → AllFit s (views ++ v ∷ [])
fit-snoc s views v all fits k u at =
    ⊎_elim (all k u) (λ (same : v ≡ u). subst (λ (u : View). Fits u s) same fits) (at_snoc views v u k at)

-- nothing is known at first
pub fit-none : (s : BoardCopy) → Fits no_view s
fit-none s knows = absurd (cc)

-- a new place may come at any time
pub admits : Admits IsConsistent no_view
admits s views kept = record { current = kept.current; each = fit-snoc s views no_view kept.each (fit-none s) }

-- a reader enters the copy
pub enters : (seat : ℕ) (v : View) (s : BoardCopy) → TurnsAt IsConsistent seat v s s (λ v x y w. IsCurrent y × Fits v y × (w ≡ v))
enters seat v s views kept at = (
  v,
  record { current = kept.current; each = fit-set s views seat v kept.each (kept.each seat v at) },
  (kept.current, kept.each seat v at, refl),
)

-- what was right of one copy is right of the next one of that board
pub fits-next : (v : View) (s next : BoardCopy) → next.table.settings ≡ s.table.settings → next.seen.book ≡ s.seen.book → Fits v s → Fits v next
fits-next v s next settings log fits knows = ((fits knows).0 ∙ sym settings, (fits knows).1 ∙ sym log)

-- the next copy is shown
pub shows : (seat : ℕ) (v : View) (s next : BoardCopy) → next.table.settings ≡ s.table.settings → next.seen.book ≡ s.seen.book → IsCurrent next → TurnsAt IsConsistent seat v s next (λ v x y w. w ≡ v)
shows seat v s next settings log current views kept at = (
  v,
  record {
    current = current;
    each = fit-set next views seat v (λ k u at. fits-next u s next settings log (kept.each k u at)) (fits-next v s next settings log (kept.each seat v at));
  },
  refl,
)

-- the first copy is shown once more
pub begins : (seat : ℕ) (v : View) (s : BoardCopy) → TurnsAt IsConsistent seat v s s (λ v x y w. w ≡ view_of y)
begins seat v s views kept at = (
  view_of s,
  record { current = kept.current; each = fit-set s views seat (view_of s) kept.each (λ knows. (refl, refl)) },
  refl,
)

-- the writer tells what it knows
pub forks : (seat : ℕ) (v : View) → Forks IsConsistent seat v v v
forks seat v s views kept at = record {
  current = kept.current;
  each = fit-snoc s (set views seat v) v (fit-set s views seat v kept.each (kept.each seat v at)) (kept.each seat v at);
}

-- and a reader learns it
pub merges : (seat : ℕ) (v : View) (other : ℕ) (w : View) → Merges IsConsistent seat v other w w no_view
merges seat v other w s views kept at apart there =
    let theirs : Fits w s = ⊎_elim (λ (h : (other ≡ seat) × (w ≡ w)). absurd (apart h.0)) (λ (h : (other ≢ seat) × (get_elem? views other ≡ some w)). kept.each other w h.1) (at_set views seat other w w there) in
    record {
      current = kept.current;
      each = fit-set s (set views seat w) other no_view (fit-set s views seat w kept.each theirs) (fit-none s);
    }
