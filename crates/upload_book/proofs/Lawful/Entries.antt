-- What is kept under ids, and at places.
use Rattle.std.proofs.Common.{◌≡◌, ◌≢◌, ◌⊎◌, ℕ, zero, suc, ◌+◌, ◌<◌, ◌≤◌, Bool, true, false, cond, eqb, ltb, not, List, [], ◌∷◌, ◌++◌, map, length, get_or, set, Option, Some, None, Result, Ok, Err, refl, inl, inr, one-add, sym, ap, ◌∙◌, subst, arith}
use Rattle.std.specs.List.{All, AllPairs, Contains, filter, remove, position, position_or_len}
use Rattle.std.specs.List.Sorted.{IsStrictlyIncreasing}
use Rattle.std.specs.Option.{option_map}
use Rattle.std.proofs.lemmas.Bool.Decides.{eqb_tells, nat_tests}
use Rattle.std.proofs.Math.ListN.{length-map, length-set, length-append, get_or-map}
use Rattle.std.proofs.lemmas.Bool.{cases_Bool, cases_lt, eq-eqb}
use Rattle.std.proofs.lemmas.List.{get_or_append_left, get_or_default, get_or_push, get_or-map as get_or-map_at, get_or-set_same, get_or-set_other, same_lists}
use Rattle.std.proofs.lemmas.List.Elements.{All-head, All-tail, All-contains, All-contains_itself, All-filter, All-from_get_or}
use Rattle.std.proofs.lemmas.List.Kept.{AllPairs-filter, AllPairs-from_increasing}
use Rattle.upload_book.specs.declared.refusal.Refusal.{Refusal}
use Rattle.upload_book.specs.declared.refusal.Refusal.TheVariants.{Unknown, Gone}
use Rattle.upload_book.specs.Expiry.{has_expired}
use Rattle.upload_book.specs.TenantBook.{Entry, TenantPart, kept_in, with_kept, with_changed, visible, visible_in, is_given}

-- the test of two numbers that differ
pub eqb-other : (a b : ℕ) → a ≢ b → eqb a b ≡ false
eqb-other a b other = elim (eqb_tells a b) [ inl same ↦ absurd (other same.1) | inr differs ↦ differs.0 ]

module _ {K : Type 0} where
  -- an entry has the id
  abbrev pub has_id : ℕ → Entry K → Bool
  has_id id e = eqb e.id id

  -- what is kept at the first place, where there is one
  found_at : List (Entry K) → ℕ → Entry K → Option K
  found_at entries i d = cond (ltb i (length entries)) (Some (get_or entries i d).kept) None

  -- one more entry before it moves it on
  found_at-more : (e : Entry K) (entries : List (Entry K)) (i : ℕ) (d : Entry K) → found_at (e ∷ entries) (1 + i) d ≡ found_at entries i d
  unfolding found_at
  found_at-more e entries i d = rw (one-add i) (grind (arith, nat_tests))

  -- it may be the first entry
  found_at-none : (e : Entry K) (entries : List (Entry K)) (d : Entry K) → found_at (e ∷ entries) 0 d ≡ Some e.kept
  unfolding found_at
  found_at-none e entries d = grind (arith, nat_tests)

  -- one more entry before the others
  kept_in-step : (e : Entry K) (entries : List (Entry K)) (id i : ℕ) (d : Entry K) (same : Bool) → kept_in entries id ≡ found_at entries i d → cond same (Some e.kept) (kept_in entries id) ≡ found_at (e ∷ entries) (cond (not same) (1 + i) 0) d
  kept_in-step e entries id i d true rest = sym (found_at-none e entries d)
  kept_in-step e entries id i d false rest = rest ∙ sym (found_at-more e entries i d)

  -- what is kept under an id is what stands at the first place of the id
  kept_in-found_at : (entries : List (Entry K)) (id : ℕ) (d : Entry K) → kept_in entries id ≡ found_at entries (position_or_len (has_id id) entries) d
  unfolding found_at
  kept_in-found_at [] id d = refl
  kept_in-found_at (e ∷ entries) id d = kept_in-step e entries id _ d (eqb e.id id) (kept_in-found_at entries id d)

  -- the same, by the place as an option
  found_at-position : (entries : List (Entry K)) (i : ℕ) (d : Entry K) → found_at entries i d ≡ option_map (λ k. (get_or entries k d).kept) (cond (ltb i (length entries)) (Some i) None)
  unfolding found_at
  found_at-position entries i d = elim (ltb i (length entries)) as (λ b. cond b (Some (get_or entries i d).kept) None ≡ option_map (λ k. (get_or entries k d).kept) (cond b (Some i) None)) [ true ↦ refl | false ↦ refl ]

  pub kept_in-position : (entries : List (Entry K)) (id : ℕ) (d : Entry K) → kept_in entries id ≡ option_map (λ i. (get_or entries i d).kept) (position (has_id id) entries)
  kept_in-position entries id d =
      kept_in-found_at entries id d ∙ found_at-position entries (position_or_len (has_id id) entries) d

  -- under an id that was given stands what its place has
  pub visible_in-given : (expires : K → Option ℕ) (part : TenantPart K) (id now : ℕ) (d : Entry K) (place : Option ℕ) → 0 < id → id < part.next → position (has_id id) part.uploads ≡ place → visible_in expires part id now ≡ visible expires now (option_map (λ i. (get_or part.uploads i d).kept) place)
  visible_in-given expires part id now d place some given is =
      let e = kept_in-position part.uploads id d in
      rw (← is) (grind (arith, nat_tests))

  -- what is seen comes from something that has not expired,
  chosen : (over : Bool) (v u : K) → cond over (Err Gone) (Ok v) ≡ Ok u → v ≡ u
  chosen true v u is = absurd (cc)
  chosen false v u is = cc

  -- which was found,
  visible-Ok : (expires : K → Option ℕ) (now : ℕ) (found : Option K) (u : K) → visible expires now found ≡ Ok u → found ≡ Some u
  visible-Ok expires now None u is = absurd (cc)
  visible-Ok expires now (Some v) u is = ap Some (chosen (has_expired now (expires v)) v u is)

  -- under an id that was given
  given-Ok : (expires : K → Option ℕ) (given : Bool) (now : ℕ) (found : Option K) (u : K) → cond given (visible expires now found) (Err Unknown) ≡ Ok u → found ≡ Some u
  given-Ok expires true now found u is = visible-Ok expires now found u is
  given-Ok expires false now found u is = absurd (cc)

  -- what is visible is there
  pub visible_in-Ok : (expires : K → Option ℕ) (part : TenantPart K) (id now : ℕ) (u : K) → visible_in expires part id now ≡ Ok u → kept_in part.uploads id ≡ Some u
  visible_in-Ok expires part id now u is = given-Ok expires _ now (kept_in part.uploads id) u is

  given_fresh : (expires : K → Option ℕ) (given : Bool) (now : ℕ) (u : K) → cond given (visible expires now (Some u)) (Err Unknown) ≡ Ok u → (given ≡ true) × (has_expired now (expires u) ≡ false)
  given_fresh expires false now u is = absurd cc
  given_fresh expires true now u is = (
    refl,
    elim (cases_Bool (has_expired now (expires u))) [
      | inl t ↦ absurd (gone (rw t at is))
      | inr f ↦ f
    ],
  )
    where
      refused : Result K Refusal
      refused = Err Gone

      gone : refused ≡ Ok u → ⊥
      gone e = absurd cc

  -- what is visible was given, and has not expired
  pub visible_in-fresh : (expires : K → Option ℕ) (part : TenantPart K) (id now : ℕ) (u : K) → visible_in expires part id now ≡ Ok u → (is_given part id ≡ true) × (has_expired now (expires u) ≡ false)
  visible_in-fresh expires part id now u is = given_fresh expires (is_given part id) now u (rw (visible_in-Ok expires part id now u is) at is)

  -- the ids of the entries
  abbrev pub ids_of : List (Entry K) → List ℕ
  ids_of entries = map {A = Entry K} {B = ℕ} (λ e. e.id) entries

  -- where ids ascend, no two places have one
  pub ids_differ : (entries : List (Entry K)) (i k : ℕ) (d : Entry K) → IsStrictlyIncreasing (ids_of entries) → i < length entries → k < length entries → i ≢ k → (get_or entries i d).id ≢ (get_or entries k d).id
  ids_differ entries i k d ascending i_in k_in other =
      let pairs = AllPairs-from_increasing (ids_of entries) ascending in
      let long = length-map entries (λ (e : Entry K). e.id) in
      let at : (n : ℕ) → get_or (ids_of entries) n d.id ≡ (get_or entries n d).id = λ n. get_or-map (λ (e : Entry K). e.id) entries n d in
      λ same. elim (cases_lt i k) [
        | inl before ↦ omega (arith, pairs i k d.id before (omega arith), at i, at k)
        | inr after ↦ omega (arith, pairs k i d.id (omega arith) (omega arith), at i, at k)
      ]

  -- an entry with something else, where it has the id
  changed : ℕ → K → Entry K → Entry K
  changed id u e = cond (eqb e.id id) (record e { kept = u }) e

  -- an entry of the id changes
  changed-same : (id : ℕ) (u : K) (e : Entry K) → e.id ≡ id → changed id u e ≡ record { id = id; kept = u }
  unfolding changed
  changed-same id u e named = rw (eq-eqb e.id id named) (rw named refl)

  -- an entry of another id stays
  changed-other : (id : ℕ) (u : K) (e : Entry K) → e.id ≢ id → changed id u e ≡ e
  unfolding changed
  changed-other id u e other = rw (eqb-other e.id id other) refl

  -- what is kept under an id changes at its place
  pub with_kept-place : (entries : List (Entry K)) (id place : ℕ) (d : Entry K) (u : K) → IsStrictlyIncreasing (ids_of entries) → place < length entries → (get_or entries place d).id ≡ id → with_kept entries id u ≡ set entries place (record { id = id; kept = u })
  unfolding changed
  with_kept-place entries id place d u ascending within named =
      same_lists _ _ (length-map entries (changed id u) ∙ sym (length-set entries place _)) (λ k e inside.
      let k_in : k < length entries = omega (arith, length-map entries (changed id u)) in
      let left = get_or-map_at (changed id u) entries k d e k_in in
      left ∙ elim (eqb_tells k place) [
        | inl same ↦ rw same.1 (rw (get_or-set_same entries place (record { id = id; kept = u }) e within) (changed-same id u _ named))
        | inr differs ↦ rw (get_or-set_other entries place k (record { id = id; kept = u }) e differs.1, get_or_default entries k e d k_in) (changed-other id u _ (λ again. ids_differ entries k place d ascending k_in within differs.1 (again ∙ sym named)))
      ])

  -- a change under an id leaves what is kept under others
  pub kept_in-with_other : (entries : List (Entry K)) (id other : ℕ) (u : K) → other ≢ id → kept_in (with_kept entries id u) other ≡ kept_in entries other
  unfolding changed
  kept_in-with_other [] id other u differs = refl
  kept_in-with_other (e ∷ entries) id other u differs =
      let rest = kept_in-with_other entries id other u differs in
      elim (eqb_tells e.id id) [
        | inl same ↦ rw same.0 (rw (rest, eqb-other e.id other (λ named. differs (sym named ∙ same.1))) refl)
        | inr apart ↦ rw apart.0 (rw rest refl)
      ]

  -- and is what the id has from then on
  pub kept_in-with_same : (entries : List (Entry K)) (id : ℕ) (u before : K) → kept_in entries id ≡ Some before → kept_in (with_kept entries id u) id ≡ Some u
  unfolding changed
  kept_in-with_same [] id u before there = absurd (cc)
  kept_in-with_same (e ∷ entries) id u before there =
      elim (eqb_tells e.id id) [
        | inl same ↦ rw same.0 (rw same.0 refl)
        | inr apart ↦ rw apart.0 (rw apart.0 (kept_in-with_same entries id u before (rw apart.0 at there)))
      ]

  -- a change under an id keeps the ids
  pub ids_of-with_kept : (entries : List (Entry K)) (id : ℕ) (u : K) → ids_of (with_kept entries id u) ≡ ids_of entries
  unfolding changed
  ids_of-with_kept [] id u = refl
  ids_of-with_kept (e ∷ entries) id u =
      rw (ids_of-with_kept entries id u) (elim (eqb e.id id) as (λ same. (cond same (record e { kept = u }) e).id ∷ ids_of entries ≡ e.id ∷ ids_of entries) [ true ↦ refl | false ↦ refl ])

  -- a change after a change is the one that stays
  pub with_kept-twice : (entries : List (Entry K)) (id : ℕ) (u v : K) → with_kept (with_kept entries id u) id v ≡ with_kept entries id v
  with_kept-twice [] id u v = refl
  with_kept-twice (e ∷ entries) id u v =
      let rest = with_kept-twice entries id u v in
      elim (eqb_tells e.id id) [
        | inl same ↦ rw same.0 (rw same.0 (ap (λ l. (record e { kept = v }) ∷ l) rest))
        | inr apart ↦ rw apart.0 (rw apart.0 (ap (λ l. e ∷ l) rest))
      ]

  -- something else that has not expired is visible in the place of what was
  pub visible_in-changed : (expires : K → Option ℕ) (part : TenantPart K) (id now : ℕ) (u v : K) → visible_in expires part id now ≡ Ok u → has_expired now (expires v) ≡ false → visible_in expires (with_changed part id v) id now ≡ Ok v
  visible_in-changed expires part id now u v is fresh =
      rw ((visible_in-fresh expires part id now u is).0, kept_in-with_same part.uploads id v u (visible_in-Ok expires part id now u is), fresh) refl

  -- another id has what it had before one was added
  pub kept_in-push : (entries : List (Entry K)) (e : Entry K) (id : ℕ) → e.id ≢ id → kept_in (entries ++ e ∷ []) id ≡ kept_in entries id
  kept_in-push [] e id other = grind (arith, nat_tests)
  kept_in-push (a ∷ entries) e id other = ap (λ rest. cond (eqb a.id id) (Some a.kept) rest) (kept_in-push entries e id other)

  -- what holds of everything that is kept holds of what is kept under an id
  pub kept_in-All : (P : K → Type 0) (entries : List (Entry K)) (id : ℕ) (u : K) → All (λ (e : Entry K). P e.kept) entries → kept_in entries id ≡ Some u → P u
  kept_in-All P [] id u sound there = absurd (cc)
  kept_in-All P (e ∷ entries) id u sound there =
      let Q : Entry K → Type 0 = λ e. P e.kept in
      elim (eqb_tells e.id id) [
        | inl same ↦
            let is : e.kept ≡ u = (let first = rw same.0 at there in cc) in
            subst P is (All-head Q e entries sound)
        | inr differs ↦ kept_in-All P entries id u (All-tail Q e entries sound) (rw differs.0 at there)
      ]

  -- what is kept under an id stands there under it
  pub kept_in-contains : (entries : List (Entry K)) (id : ℕ) (u : K) → kept_in entries id ≡ Some u → Contains entries (record { id = id; kept = u })
  kept_in-contains [] id u there = absurd (cc)
  kept_in-contains (e ∷ entries) id u there =
      elim (eqb_tells e.id id) [
        | inl same ↦
            let is : e.kept ≡ u = (let first = rw same.0 at there in cc) in
            (0, omega arith, rw (same.1, is) refl)
        | inr differs ↦
            let rest = kept_in-contains entries id u (rw differs.0 at there) in
            (suc rest.0, omega (arith, rest.1), rest.2)
      ]

  -- at every other place stands another id
  abbrev pub AreOthers : List (Entry K) → ℕ → ℕ → Entry K → Type 0
  AreOthers entries id place d = (k : ℕ) → k < length entries → k ≢ place → (get_or entries k d).id ≢ id

  others_in : (entries : List (Entry K)) (id place : ℕ) (d : Entry K) → IsStrictlyIncreasing (ids_of entries) → place < length entries → (get_or entries place d).id ≡ id → AreOthers entries id place d
  others_in entries id place d ascending within named =
      λ k inside other again. ids_differ entries k place d ascending inside within other (again ∙ sym named)

  others_later : (e : Entry K) (entries : List (Entry K)) (id place : ℕ) (d : Entry K) → AreOthers (e ∷ entries) id (suc place) d → AreOthers entries id place d
  others_later e entries id place d others = λ k inside other. others (suc k) (omega arith) (λ same. other (omega arith))

  kept_at : (entries : List (Entry K)) (id place : ℕ) (d : Entry K) → place < length entries → (get_or entries place d).id ≡ id → AreOthers entries id place d → kept_in entries id ≡ Some (get_or entries place d).kept
  kept_at [] id place d within named others = absurd (omega arith)
  kept_at (e ∷ entries) id zero d within named others = rw (eq-eqb e.id id named) refl
  kept_at (e ∷ entries) id (suc place) d within named others =
      rw (eqb-other e.id id (others 0 (omega arith) (λ same. omega arith))) (kept_at entries id place d (omega arith) named (others_later e entries id place d others))

  -- where ids ascend, what stands at the place of an id is what is kept under it
  pub kept_in-place : (entries : List (Entry K)) (id place : ℕ) (d : Entry K) → IsStrictlyIncreasing (ids_of entries) → place < length entries → (get_or entries place d).id ≡ id → kept_in entries id ≡ Some (get_or entries place d).kept
  kept_in-place entries id place d ascending within named =
      kept_at entries id place d within named (others_in entries id place d ascending within named)

  -- a filter leaves a list whose elements all pass
  pub filter_all : (p : Entry K → Bool) (entries : List (Entry K)) → All (λ e. p e ≡ true) entries → filter p entries ≡ entries
  filter_all p [] pass = refl
  filter_all p (e ∷ entries) pass =
      rw (All-head (λ e. p e ≡ true) e entries pass) (ap (λ l. e ∷ l) (filter_all p entries (All-tail (λ e. p e ≡ true) e entries pass)))

  removed_at : (entries : List (Entry K)) (id place : ℕ) (d : Entry K) → place < length entries → (get_or entries place d).id ≡ id → AreOthers entries id place d → filter (λ e. not (eqb e.id id)) entries ≡ remove entries place
  removed_at [] id place d within named others = absurd (omega arith)
  removed_at (e ∷ entries) id zero d within named others =
      rw (eq-eqb e.id id named) (filter_all (λ e. not (eqb e.id id)) entries (All-from_get_or (λ e. not (eqb e.id id) ≡ true) entries d (λ k inside. ap not (eqb-other (get_or entries k d).id id (others (suc k) (omega arith) (λ same. omega arith))))))
  removed_at (e ∷ entries) id (suc place) d within named others =
      rw (eqb-other e.id id (others 0 (omega arith) (λ same. omega arith))) (ap (λ l. e ∷ l) (removed_at entries id place d (omega arith) named (others_later e entries id place d others)))

  -- where ids ascend, what is left without an id is what is left without its place
  pub without-place : (entries : List (Entry K)) (id place : ℕ) (d : Entry K) → IsStrictlyIncreasing (ids_of entries) → place < length entries → (get_or entries place d).id ≡ id → filter (λ e. not (eqb e.id id)) entries ≡ remove entries place
  without-place entries id place d ascending within named =
      removed_at entries id place d within named (others_in entries id place d ascending within named)

  -- what a filter keeps was there
  pub Contains-filter : (p : Entry K → Bool) (entries : List (Entry K)) (e : Entry K) → Contains (filter p entries) e → Contains entries e
  Contains-filter p entries e there =
      All-contains (Contains entries) (filter p entries) e (All-filter p (Contains entries) entries (All-contains_itself entries)) there

  kept_found : (entries : List (Entry K)) (p : Entry K → Bool) (id : ℕ) (found : Option K) → IsStrictlyIncreasing (ids_of entries) → kept_in (filter p entries) id ≡ found → (found ≡ None) ⊎ (found ≡ kept_in entries id)
  kept_found entries p id None ascending is = inl refl
  kept_found entries p id (Some u) ascending is =
      let e : Entry K = record { id = id; kept = u } in
      let there = Contains-filter p entries e (kept_in-contains (filter p entries) id u is) in
      let named : (get_or entries there.0 e).id ≡ id = ap (λ (e : Entry K). e.id) there.2 in
      let kept : (get_or entries there.0 e).kept ≡ u = ap (λ (e : Entry K). e.kept) there.2 in
      inr (sym (kept_in-place entries id there.0 e ascending there.1 named ∙ ap Some kept))

  -- where ids ascend, an id keeps what it had in a filtered list, or has nothing
  pub kept_in-filter : (p : Entry K → Bool) (entries : List (Entry K)) (id : ℕ) → IsStrictlyIncreasing (ids_of entries) → (kept_in (filter p entries) id ≡ None) ⊎ (kept_in (filter p entries) id ≡ kept_in entries id)
  kept_in-filter p entries id ascending = kept_found entries p id (kept_in (filter p entries) id) ascending refl

  ascending_pairs : (entries : List (Entry K)) → AllPairs (λ a b. a.id < b.id) entries → IsStrictlyIncreasing (ids_of entries)
  ascending_pairs [] pairs = λ k within. absurd (omega arith)
  ascending_pairs (e ∷ entries) pairs = λ k within.
      let long = length-map (e ∷ entries) (λ (e : Entry K). e.id) in
      let this = get_or-map_at (λ (e : Entry K). e.id) (e ∷ entries) k e 0 (omega (arith, long)) in
      let next = get_or-map_at (λ (e : Entry K). e.id) (e ∷ entries) (k + 1) e 0 (omega (arith, long)) in
      rw (this, next) (pairs k (k + 1) e (omega arith) (omega (arith, long)))

  -- ids still ascend in a filtered list
  pub ascending-filter : (p : Entry K → Bool) (entries : List (Entry K)) → IsStrictlyIncreasing (ids_of entries) → IsStrictlyIncreasing (ids_of (filter p entries))
  ascending-filter p entries ascending =
      let long = length-map entries (λ (e : Entry K). e.id) in
      let pairs : AllPairs (λ (a b : Entry K). a.id < b.id) entries = λ i j d before inside.
      let early : i < length entries = omega arith in
      let at_i = get_or-map (λ (e : Entry K). e.id) entries i d in
      let at_j = get_or-map (λ (e : Entry K). e.id) entries j d in
      rw (← at_i, ← at_j) (AllPairs-from_increasing (ids_of entries) ascending i j d.id before (omega (arith, long))) in
      ascending_pairs (filter p entries) (AllPairs-filter (λ (a b : Entry K). a.id < b.id) p entries pairs)

-- the ids still ascend where a greater one is added
pub ids-push : (ids : List ℕ) (id : ℕ) → IsStrictlyIncreasing ids → All (λ a. a < id) ids → IsStrictlyIncreasing (ids ++ id ∷ [])
ids-push ids id ascending below = λ k within.
    let long = length-append ids (id ∷ []) in
    let next : k + 1 ≤ length ids = omega (arith, long) in
    let early : k < length ids = omega arith in
    rw (get_or_append_left ids (id ∷ []) 0 k early) (elim (cases_lt (k + 1) (length ids)) [
      | inl inside ↦ rw (get_or_append_left ids (id ∷ []) 0 (k + 1) inside) (ascending k inside)
      | inr last ↦ rw (get_or_push ids id 0 (k + 1) (omega arith)) (below k 0 early)
    ])
