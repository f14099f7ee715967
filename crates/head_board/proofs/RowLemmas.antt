-- The rows of a tenant, entry by entry.
use Rattle.std.proofs.Common.{◌≡◌, ℕ, zero, suc, ◌+◌, ◌<◌, ◌≤◌, Bool, true, false, cond, not, eqb, List, [], ◌∷◌, length, get_or, set, Option, option_map, Some, None, Ok, Err, inl, inr, refl, sym, ap, ap₂, ◌∙◌, arith}
use Rattle.std.specs.List.{filter, position, remove}
use Rattle.std.specs.List.Sorted.{IsStrictlyIncreasing}
use Rattle.std.proofs.lemmas.Bool.Decides.{eqb_tells, nat_tests}
use Rattle.std.proofs.lemmas.List.{get_or_default}
use Rattle.std.proofs.lemmas.List.Edits.{get_or-remove_above, length-remove}
use Rattle.std.proofs.lemmas.List.Elements.{All-get_or}
use Rattle.std.proofs.lemmas.List.Quantifiers.{position-Some}
use Rattle.upload_book.specs.declared.head_row.HeadRow.{HeadRow}
use Rattle.upload_book.specs.declared.head_row.Kind.TheVariants.{Plain}
use Rattle.upload_book.specs.declared.refusal.Refusal.TheVariants.{Gone}
use Rattle.upload_book.specs.Expiry.{has_expired}
use Rattle.upload_book.specs.Heads.{HeadPart}
use Rattle.upload_book.specs.TenantBook.{Entry, kept_in, visible_in, with_kept}
use Rattle.upload_book.proofs.Lawful.Entries.{filter_all, has_id, kept_in-position, visible_in-given, with_kept-place, without-place}
use Rattle.upload_book.specs.inside.Ids.{AreBelow}
use Rattle.head_board.specs.inside.Rows.{Rows, row_ids}

-- no row, where one is only needed for a place past the end
abbrev pub no_row : Entry HeadRow
no_row = record {
  id = 0;
  kept = record { kind = Plain; offset = 0; declared = None; metadata = []; concat = []; expires = None };
}

-- a row stands at its place, whatever would stand past the end
pub read-itself : (rows : List (Entry HeadRow)) (place : ℕ) → place < length rows → get_or rows place no_row ≡ get_or rows place (get_or rows place no_row)
read-itself rows place within = get_or_default rows place no_row (get_or rows place no_row) within

-- a row changes under its id
pub is_set : (rows : List (Entry HeadRow)) (id place : ℕ) (e after : Entry HeadRow) (row : HeadRow) → IsStrictlyIncreasing (row_ids rows) → position (has_id id) rows ≡ Some place → e ≡ get_or rows place e → after ≡ record e { kept = row } → set rows place after ≡ with_kept rows id row
is_set rows id place e after row ascending found read is =
    let at = position-Some (has_id id) rows place e found in
    let named : (get_or rows place e).id ≡ id = (let test : eqb (get_or rows place e).id id ≡ true = at.1 in grind (arith, nat_tests)) in
    let id_is : e.id ≡ id = ap (λ (e : Entry HeadRow). e.id) read ∙ named in
    ap (set rows place) (is ∙ ap (λ (n : ℕ). let e : Entry HeadRow = record { id = n; kept = row } in e) id_is) ∙ sym (with_kept-place rows id place e row ascending at.0 named)

-- the place that was found is one of theirs
pub found-within : (rows : List (Entry HeadRow)) (id place : ℕ) → position (has_id id) rows ≡ Some place → place < length rows
found-within rows id place found = (position-Some (has_id id) rows place no_row found).0

-- the row at its place stands under its id,
pub kept-placed : (rows : List (Entry HeadRow)) (id place : ℕ) (e : Entry HeadRow) → position (has_id id) rows ≡ Some place → e ≡ get_or rows place e → kept_in rows id ≡ Some e.kept
kept-placed rows id place e found read =
    kept_in-position rows id e ∙ ap (option_map (λ i. (get_or rows i e).kept)) found ∙ ap (λ (e : Entry HeadRow). Some e.kept) (sym read)

-- and that is not the next one
pub not-next : (next : ℕ) (rows : List (Entry HeadRow)) (id place : ℕ) (e : Entry HeadRow) → position (has_id id) rows ≡ Some place → AreBelow next rows → eqb id next ≡ false
not-next next rows id place e found are =
    let at = position-Some (has_id id) rows place e found in
    let named : (get_or rows place e).id ≡ id = (let test : eqb (get_or rows place e).id id ≡ true = at.1 in grind (arith, nat_tests)) in
    let below : (get_or rows place e).id < next = All-get_or (λ (e : Entry HeadRow). e.id < next) rows place e at.0 are.below in
    grind (arith, nat_tests)

-- a row is taken out under its id
pub is_removed : (rows : List (Entry HeadRow)) (id place : ℕ) → IsStrictlyIncreasing (row_ids rows) → position (has_id id) rows ≡ Some place → remove rows place ≡ filter (λ e. not (eqb e.id id)) rows
is_removed rows id place ascending found =
    let at = position-Some (has_id id) rows place no_row found in
    let named : (get_or rows place no_row).id ≡ id = (let test : eqb (get_or rows place no_row).id id ≡ true = at.1 in grind (arith, nat_tests)) in
    sym (without-place rows id place no_row ascending at.0 named)

module _ {K : Type 0} where
  -- what has no entry is not missed,
  pub without-absent : (entries : List (Entry K)) (id : ℕ) → kept_in entries id ≡ None → filter (λ e. not (eqb e.id id)) entries ≡ entries
  without-absent [] id none = refl
  without-absent (e ∷ entries) id none = elim (eqb_tells e.id id) [
    | inl same ↦ absurd (let there = rw same.0 at none in cc)
    | inr apart ↦ rw apart.0 (ap (λ rest. e ∷ rest) (without-absent entries id (rw apart.0 at none)))
  ]

  -- and does not change
  pub with_kept-absent : (entries : List (Entry K)) (id : ℕ) (u : K) → kept_in entries id ≡ None → with_kept entries id u ≡ entries
  with_kept-absent [] id u none = refl
  with_kept-absent (e ∷ entries) id u none = elim (eqb_tells e.id id) [
    | inl same ↦ absurd (let there = rw same.0 at none in cc)
    | inr apart ↦ rw apart.0 (ap (λ rest. e ∷ rest) (with_kept-absent entries id u (rw apart.0 at none)))
  ]

-- an id that has no place has no row
pub is_absent : (rows : List (Entry HeadRow)) (id : ℕ) → position (has_id id) rows ≡ None → kept_in rows id ≡ None
is_absent rows id none = kept_in-position rows id no_row ∙ rw none refl

-- rows in the place of others,
pub with_rows : (r : Rows) (xs ys : List (Entry HeadRow)) → xs ≡ ys → record r { part = record r.part { uploads = xs } } ≡ record r { part = record r.part { uploads = ys } }
with_rows r xs ys same = ap (λ (rows : List (Entry HeadRow)). let q : Rows = record r { part = record r.part { uploads = rows } } in q) same

-- and the same rows
pub same_rows : (r : Rows) (xs : List (Entry HeadRow)) → xs ≡ r.part.uploads → r ≡ record r { part = record r.part { uploads = xs } }
same_rows r xs same = with_rows r r.part.uploads xs (sym same)

abbrev expiry : HeadRow → Option ℕ
expiry row = row.expires

-- a row that has not expired is seen at its place,
pub look-found : (part : HeadPart) (id now place : ℕ) (e : Entry HeadRow) → 0 < id → id < part.next → position (has_id id) part.uploads ≡ Some place → e ≡ get_or part.uploads place e → has_expired now e.kept.expires ≡ false → visible_in expiry part id now ≡ Ok e.kept
look-found part id now place e some given is read stays =
    visible_in-given expiry part id now e (Some place) some given is ∙ rw (← read) (rw stays refl)

-- one that has expired is gone,
pub look-expired : (part : HeadPart) (id now place : ℕ) (e : Entry HeadRow) → 0 < id → id < part.next → position (has_id id) part.uploads ≡ Some place → e ≡ get_or part.uploads place e → has_expired now e.kept.expires ≡ true → visible_in expiry part id now ≡ Err Gone
look-expired part id now place e some given is read over =
    visible_in-given expiry part id now e (Some place) some given is ∙ rw (← read) (rw over refl)

-- and so is one that has ended
pub look-ended : (part : HeadPart) (id now : ℕ) → 0 < id → id < part.next → position (has_id id) part.uploads ≡ None → visible_in expiry part id now ≡ Err Gone
look-ended part id now some given is = visible_in-given expiry part id now no_row None some given is

-- a row stays in a sweep
abbrev pub stays : ℕ → Entry HeadRow → Bool
stays now e = not (has_expired now e.kept.expires)

-- Of a part, the rows that have expired were taken out from a place on: those behind it stay, and what stays of all is what
-- stays of those that are left.
pub record IsSweptFrom (old r : Rows) (now place : ℕ) : Type 0 where
  pub part : r.part ≡ record old.part { uploads = r.part.uploads }
  pub room : r.room ≡ old.room
  pub left : filter (stays now) r.part.uploads ≡ filter (stays now) old.part.uploads
  pub seen : (k : ℕ) (d : Entry HeadRow) → place ≤ k → k < length r.part.uploads → stays now (get_or r.part.uploads k d) ≡ true
  pub within : place ≤ length r.part.uploads

-- what does not pass is not missed by a filter
filter-without : {X : Type 0} (p : X → Bool) (xs : List X) (i : ℕ) (d : X) → i < length xs → p (get_or xs i d) ≡ false → filter p (remove xs i) ≡ filter p xs
filter-without p [] i d within fails = absurd (omega arith)
filter-without p (x ∷ xs) zero d within fails = rw fails refl
filter-without p (x ∷ xs) (suc i) d within fails = ap (λ rest. cond (p x) (x ∷ rest) rest) (filter-without p xs i d (omega arith) fails)

-- the one before it is taken out where it has expired,
pub IsSweptFrom-out : (old r after : Rows) (now from place : ℕ) → IsSweptFrom old r now from → from ≡ place + 1 → ((d : Entry HeadRow) → true ≡ has_expired now (get_or r.part.uploads place d).kept.expires) → after ≡ record r { part = record r.part { uploads = remove r.part.uploads place } } → IsSweptFrom old after now place
IsSweptFrom-out old r after now from place f next over is =
    let rows : after.part.uploads ≡ remove r.part.uploads place = ap (λ (r : Rows). r.part.uploads) is in
    let fails : stays now (get_or r.part.uploads place no_row) ≡ false = ap not (sym (over no_row)) in
    let within : place < length r.part.uploads = omega (arith, f.within) in
    let fewer = length-remove r.part.uploads place within in
    record {
      part = ap (λ (r : Rows). r.part) is ∙ ap (λ (p : HeadPart). let q : HeadPart = record p { uploads = remove r.part.uploads place } in q) f.part ∙ ap (λ (rows : List (Entry HeadRow)). let q : HeadPart = record old.part { uploads = rows } in q) (sym rows);
      room = ap (λ (r : Rows). r.room) is ∙ f.room;
      left = ap (filter (stays now)) rows ∙ filter-without (stays now) r.part.uploads place no_row within fails ∙ f.left;
      seen = λ k d above below.
          let there : k < length (remove r.part.uploads place) = omega (arith, below, ap length rows) in
          ap (λ rows. stays now (get_or rows k d)) rows ∙ ap (stays now) (get_or-remove_above r.part.uploads place d k above within) ∙ f.seen (k + 1) d (omega (arith, above)) (omega (arith, there, fewer));
      within = omega (arith, ap length rows, fewer);
    }

-- and stays where it has not
pub IsSweptFrom-passed : (old r : Rows) (now from place : ℕ) → IsSweptFrom old r now from → from ≡ place + 1 → ((d : Entry HeadRow) → false ≡ has_expired now (get_or r.part.uploads place d).kept.expires) → IsSweptFrom old r now place
IsSweptFrom-passed old r now from place f next fresh = record {
  part = f.part;
  room = f.room;
  left = f.left;
  seen = λ k d above below. elim (eqb_tells k place) [
    | inl same ↦ ap (λ k. stays now (get_or r.part.uploads k d)) same.1 ∙ ap not (sym (fresh d))
    | inr differs ↦ f.seen k d (let other = differs.1 in omega (arith, above)) below
  ];
  within = omega (arith, f.within);
}

-- at the end the part is swept
pub IsSweptFrom-all : (old r : Rows) (now : ℕ) → IsSweptFrom old r now 0 → r ≡ record old { part = record old.part { uploads = filter (stays now) old.part.uploads } }
IsSweptFrom-all old r now f =
    let rows : r.part.uploads ≡ filter (stays now) old.part.uploads = sym (filter_all (stays now) r.part.uploads (λ k d below. f.seen k d (omega arith) below)) ∙ f.left in
    let part : r.part ≡ record old.part { uploads = filter (stays now) old.part.uploads } = f.part ∙ ap (λ (rows : List (Entry HeadRow)). let q : HeadPart = record old.part { uploads = rows } in q) rows in
    ap₂ (λ (p : HeadPart) (n : ℕ). let q : Rows = record { part = p; room = n } in q) part f.room
