-- The rows of a tenant as they are listed, place by place.
use Rattle.std.proofs.Common.{◌≡◌, ℕ, zero, suc, ◌+◌, ◌<◌, ◌≤◌, Bool, cond, not, ltb, List, [], ◌∷◌, length, get_or, map, set, take, Option, Some, None, refl, sym, ap, ap₂, subst, ◌∙◌, arith}
use Rattle.std.specs.List.{All, position, position_or_len, remove}
use Rattle.std.specs.List.Sorted.{IsStrictlyIncreasing}
use Rattle.std.proofs.Math.ListN.{length-map}
use Rattle.std.proofs.lemmas.List.{get_or-map, map-set, take_all}
use Rattle.std.proofs.lemmas.List.Elements.{All-map}
use Rattle.upload_book.specs.declared.head_note.Growth.{Growth}
use Rattle.upload_book.specs.declared.head_row.HeadRow.{HeadRow}
use Rattle.upload_book.specs.HeadNotes.{row_grown}
use Rattle.upload_book.specs.TenantBook.{Entry}
use Rattle.upload_book.proofs.Lawful.Entries.{has_id}
use Rattle.head_board.specs.inside.BoardRow.{BoardRow, row_entry}
use Rattle.head_board.specs.inside.RowList.{ListedRows}
use Rattle.head_board.specs.inside.Rows.{AreBounded, IsNotBefore, row_ids}

module _ {X Y : Type 0} (f : X → Y) where
  -- one is taken out of what was made of a list
  pub map-remove : (xs : List X) (i : ℕ) → map f (remove xs i) ≡ remove (map f xs) i
  map-remove [] zero = refl
  map-remove [] (suc i) = refl
  map-remove (x ∷ xs) zero = refl
  map-remove (x ∷ xs) (suc i) = ap (λ rest. f x ∷ rest) (map-remove xs i)

  -- the first that passes is found there
  first-map : (p : Y → Bool) (xs : List X) → position_or_len p (map f xs) ≡ position_or_len (λ x. p (f x)) xs
  first-map p [] = refl
  first-map p (x ∷ xs) = ap (λ n. cond (not (p (f x))) (1 + n) 0) (first-map p xs)

  pub position-map : (p : Y → Bool) (xs : List X) → position p (map f xs) ≡ position (λ x. p (f x)) xs
  position-map p xs = ap₂ (λ n len. cond (ltb n len) (Some n) None) (first-map p xs) (length-map xs f)

-- the rows of some entries
abbrev pub rows_in : List (Entry BoardRow) → List (Entry HeadRow)
rows_in entries = map {A = Entry BoardRow} {B = Entry HeadRow} row_entry entries

-- stand under their ids,
ids-same : (entries : List (Entry BoardRow)) → row_ids (rows_in entries) ≡ map {A = Entry BoardRow} {B = ℕ} (λ e. e.id) entries
ids-same [] = refl
ids-same (e ∷ entries) = ap (λ rest. e.id ∷ rest) (ids-same entries)

pub ids-ascend : (entries : List (Entry BoardRow)) → IsStrictlyIncreasing (row_ids (rows_in entries)) → IsStrictlyIncreasing (map {A = Entry BoardRow} {B = ℕ} (λ e. e.id) entries)
ids-ascend entries ascending = subst IsStrictlyIncreasing (ids-same entries) ascending

-- at the same places,
pub place-same : (entries : List (Entry BoardRow)) (id : ℕ) → position (has_id id) entries ≡ position (has_id id) (rows_in entries)
place-same entries id = sym (position-map row_entry (has_id id) entries)

pub row-at : (entries : List (Entry BoardRow)) (place : ℕ) (e : Entry BoardRow) (d : Entry HeadRow) → place < length entries → e ≡ get_or entries place e → row_entry e ≡ get_or (rows_in entries) place d
row-at entries place e d within read = sym (get_or-map row_entry entries place e d within ∙ ap row_entry (sym read))

-- and there are as many
pub rows-long : (entries : List (Entry BoardRow)) → length (rows_in entries) ≡ length entries
rows-long entries = length-map entries row_entry

-- the rows that are listed, by the entries
abbrev made : ℕ → List (Entry HeadRow) → ListedRows
made room rows = record { rows = rows; room = room }

-- with one less,
pub listed-fewer : (room : ℕ) (entries after : List (Entry BoardRow)) (place : ℕ) → after ≡ remove entries place → made room (rows_in after) ≡ made room (remove (rows_in entries) place)
listed-fewer room entries after place is = ap (made room) (ap rows_in is ∙ map-remove row_entry entries place)

-- and with one that grew
pub listed-grown : (room : ℕ) (entries : List (Entry BoardRow)) (place : ℕ) (e after : Entry BoardRow) (growth : Growth) (d : Entry HeadRow) → place < length (rows_in entries) → e ≡ get_or entries place e → after ≡ record e { kept = record e.kept { row = row_grown growth e.kept.row } }
    → made room (rows_in (set entries place after)) ≡ made room (set (rows_in entries) place (record { id = (get_or (rows_in entries) place d).id; kept = row_grown growth (get_or (rows_in entries) place d).kept }))
listed-grown room entries place e after growth d within read is =
    let grown : Entry HeadRow → Entry HeadRow = λ x. record { id = x.id; kept = row_grown growth x.kept } in
    let there : place < length entries = omega (arith, within, rows-long entries) in
    ap (made room) (map-set row_entry entries place after ∙ ap (set (rows_in entries) place) (ap row_entry is ∙ ap grown (row-at entries place e d there read)))

-- Where all were read, none of them ends before a bound.
pub bounded-rows : (bound : Option ℕ) (i : ℕ) (entries read : List (Entry BoardRow)) → read ≡ entries → length read ≤ i → All (λ (e : Entry BoardRow). IsNotBefore bound e.kept.row.expires) (take i read) → AreBounded bound (rows_in entries)
bounded-rows bound i entries read same all are =
    All-map (λ (e : Entry HeadRow). IsNotBefore bound e.kept.expires) row_entry entries
    (subst (All (λ (e : Entry BoardRow). IsNotBefore bound e.kept.row.expires)) (take_all i read all ∙ same) are)
