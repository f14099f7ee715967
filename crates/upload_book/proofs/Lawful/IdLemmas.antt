-- Ids that ascend below the next one, and the place of an id among them.
use Rattle.std.proofs.Common.{◌≡◌, ◌≢◌, ℕ, ◌+◌, ◌<◌, ◌≤◌, eqb, not, List, [], ◌∷◌, ◌++◌, length, get_or, set, Some, None, Result, Ok, Err, refl, sym, ap, ◌∙◌, subst, inl, inr, arith}
use Rattle.std.specs.List.{All, position, position_or_len, remove}
use Rattle.std.specs.List.Sorted.{IsBinarySearchResult, IsNonDecreasingBy, IsSearchInRange, IsStrictlyIncreasing}
use Rattle.std.specs.Ordering.{nat_cmp, ordering_index}
use Rattle.std.specs.Result.{result_ok}
use Rattle.std.proofs.lemmas.Bool.{cases_lt, eq-eqb}
use Rattle.std.proofs.lemmas.Bool.Decides.{nat_tests}
use Rattle.std.proofs.lemmas.Cmp.{ranked}
use Rattle.std.proofs.lemmas.List.{map-append, map-set, set-get_or}
use Rattle.std.proofs.lemmas.List.Elements.{All-get_or, All-map, All-push, All-set, All-weaker}
use Rattle.std.proofs.lemmas.List.Kept.{AllPairs-from_increasing}
use Rattle.std.proofs.lemmas.List.Sums.{position_or_len_is}
use Rattle.std.proofs.Math.ListN.{get_or-map, length-map}
use Rattle.upload_book.specs.TenantBook.{Entry}
use Rattle.upload_book.specs.inside.Ids.{AreBelow}
use Rattle.upload_book.proofs.Lawful.Entries.{ascending-filter, eqb-other, has_id, ids-push, ids_of, without-place}
use Rattle.upload_book.proofs.Store.Pieces.{All-remove}

module _ {K : Type 0} where
  -- there are no ids yet
  pub AreBelow-none : (next : ℕ) → AreBelow {K = K} next []
  AreBelow-none next = record { ascending = λ k within. absurd (omega arith); below = λ k d within. absurd (omega arith) }

  -- they stay below a next id that is further
  pub AreBelow-next : (next further : ℕ) (entries : List (Entry K)) → next ≤ further → AreBelow next entries → AreBelow further entries
  AreBelow-next next further entries more are = record {
    ascending = are.ascending;
    below = All-weaker (λ (e : Entry K). e.id < next) (λ (e : Entry K). e.id < further) (λ (e : Entry K) less. omega (arith, less, more)) entries are.below;
  }

  -- the next id comes after all
  pub AreBelow-push : (next : ℕ) (entries : List (Entry K)) (kept : K) → AreBelow next entries → AreBelow (next + 1) (entries ++ record { id = next; kept = kept } ∷ [])
  AreBelow-push next entries kept are =
      let e : Entry K = record { id = next; kept = kept } in
      let ids : ids_of (entries ++ e ∷ []) ≡ ids_of entries ++ next ∷ [] = map-append (λ (e : Entry K). e.id) entries (e ∷ []) in
      let less : All (λ (e : Entry K). e.id < next + 1) entries = All-weaker (λ (e : Entry K). e.id < next) (λ (e : Entry K). e.id < next + 1) (λ (e : Entry K) h. omega arith) entries are.below in
      record {
        ascending = subst IsStrictlyIncreasing (sym ids) (ids-push (ids_of entries) next are.ascending (All-map (λ (a : ℕ). a < next) (λ (e : Entry K). e.id) entries are.below));
        below = All-push (λ (e : Entry K). e.id < next + 1) entries e less (omega arith);
      }

  -- the others keep their ids where one is taken out
  pub AreBelow-remove : (next : ℕ) (entries : List (Entry K)) (place : ℕ) (d : Entry K) → place < length entries → AreBelow next entries → AreBelow next (remove entries place)
  AreBelow-remove next entries place d within are =
      let id : ℕ = (get_or entries place d).id in
      let left = without-place entries id place d are.ascending within refl in
      record {
        ascending = subst (λ (l : List (Entry K)). IsStrictlyIncreasing (ids_of l)) left (ascending-filter (λ (e : Entry K). not (eqb e.id id)) entries are.ascending);
        below = All-remove (λ (e : Entry K). e.id < next) entries place are.below;
      }

  -- an entry changes under its id
  pub AreBelow-set : (next : ℕ) (entries : List (Entry K)) (place : ℕ) (e after : Entry K) → place < length entries → e ≡ get_or entries place e → after.id ≡ e.id → AreBelow next entries → AreBelow next (set entries place after)
  AreBelow-set next entries place e after within read same are =
      let P : Entry K → Type 0 = λ e. e.id < next in
      let at : get_or (ids_of entries) place e.id ≡ after.id = get_or-map (λ (e : Entry K). e.id) entries place e ∙ sym (same ∙ ap (λ (e : Entry K). e.id) read) in
      let ids : ids_of (set entries place after) ≡ ids_of entries =
      map-set (λ (e : Entry K). e.id) entries place after ∙ ap (set (ids_of entries) place) (sym at) ∙ set-get_or (ids_of entries) place e.id in
      let here : e.id < next = subst P (sym read) (All-get_or P entries place e within are.below) in
      record {
        ascending = subst IsStrictlyIncreasing (sym ids) are.ascending;
        below = All-set P entries place after (omega (arith, here, same)) are.below;
      }

  module _ (entries : List (Entry K)) (id : ℕ) (ascending : IsStrictlyIncreasing (ids_of entries)) where
    -- an entry before another has the lesser id
    rises : (i j : ℕ) (d : Entry K) → i < j → j < length entries → (get_or entries i d).id < (get_or entries j d).id
    rises i j d before within =
        let long = length-map entries (λ (e : Entry K). e.id) in
        omega (
          arith,
          AllPairs-from_increasing (ids_of entries) ascending i j d.id before (omega (arith, long)),
          get_or-map (λ (e : Entry K). e.id) entries i d,
          get_or-map (λ (e : Entry K). e.id) entries j d,
        )

    -- ids don't fall, as another halving asks
    pub ids_rise : IsNonDecreasingBy (λ (e : Entry K). e.id) entries
    ids_rise i j d no_later within =
        elim (cases_lt i j) [
          | inl before ↦ (let less = rises i j d before within in omega arith)
          | inr other ↦ (let same : i ≡ j = omega arith in rw same (omega arith))
        ]

    -- what ids compare as with one rises, as a halving asks
    comparisons_rise : IsNonDecreasingBy (λ (e : Entry K). ordering_index (nat_cmp e.id id)) entries
    comparisons_rise i j d no_later within =
        elim (cases_lt i j) [
          | inl before ↦ (let less = rises i j d before within in grind (arith, nat_tests))
          | inr other ↦ (let same : i ≡ j = omega arith in rw same (omega arith))
        ]

    -- a place that has the id is the first that has it
    placed : (i : ℕ) (d : Entry K) → i < length entries → (get_or entries i d).id ≡ id → Some i ≡ position (has_id id) entries
    placed i d within named =
        let first : position_or_len (has_id id) entries ≡ i = position_or_len_is (has_id id) entries i d (omega arith)
        (λ k before. let less = rises k i d before within in grind (arith, nat_tests))
        (λ inside. eq-eqb (get_or entries i d).id id named) in
        rw first (grind (arith, nat_tests))

    -- there is none where each differs
    nowhere : (d : Entry K) → ((k : ℕ) → k < length entries → (get_or entries k d).id ≢ id) → None ≡ position (has_id id) entries
    nowhere d differ =
        let last : position_or_len (has_id id) entries ≡ length entries = position_or_len_is (has_id id) entries (length entries) d (omega arith)
        (λ k within. eqb-other (get_or entries k d).id id (differ k within))
        (λ past. absurd (omega arith)) in
        rw last (grind (arith, nat_tests))

    by_halves : (d : Entry K) (r : Result ℕ ℕ) → IsSearchInRange r (length entries) → IsBinarySearchResult (λ (e : Entry K). nat_cmp e.id id) entries r → result_ok r ≡ position (has_id id) entries
    by_halves d (Ok i) within found = placed i d within (ranked (get_or entries i d).id id _ (sym (found d)))
    by_halves d (Err i) within found =
        let parted = found comparisons_rise in
        nowhere d (λ k inside. elim (cases_lt k i) [
          | inl before ↦ (let less : (get_or entries k d).id < id = ranked (get_or entries k d).id id _ (sym (parted.0 k d (omega arith) before)) in λ same. omega arith)
          | inr after ↦ (let more : id < (get_or entries k d).id = ranked (get_or entries k d).id id _ (sym (parted.1 k d after inside)) in λ same. omega arith)
        ])

  -- a halving finds the place that a walk finds
  pub halved : (entries : List (Entry K)) (id : ℕ) → IsStrictlyIncreasing (ids_of entries) → (r : Result ℕ ℕ) → IsSearchInRange r (length entries) → IsBinarySearchResult (λ (e : Entry K). nat_cmp e.id id) entries r
      → result_ok r ≡ position (has_id id) entries
  halved [] id ascending (Ok i) within found = absurd (omega arith)
  halved [] id ascending (Err i) within found = refl
  halved (e ∷ entries) id ascending r within found = by_halves (e ∷ entries) id ascending e r within found
