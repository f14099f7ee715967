-- What a change of one tenant's part does to the heads of a book and to its accounts.
use Rattle.std.proofs.Common.{◌≡◌, ℕ, ◌+◌, ◌<◌, ◌≤◌, Bool, true, false, cond, List, [], ◌∷◌, map, length, set, Option, Some, None, IfSome, IfNone, Ok, refl, inl, inr, ap, sym, subst, ◌∙◌, arith}
use Rattle.std.specs.List.{All, filter}
use Rattle.std.specs.Option.{option_map}
use Rattle.std.proofs.lemmas.Bool.{cases_lt}
use Rattle.std.proofs.lemmas.Bool.Decides.{eqb_tells}
use Rattle.std.proofs.lemmas.List.{get_or_past, map-append, map-set}
use Rattle.std.proofs.lemmas.List.Elements.{All-map}
use Rattle.std.proofs.Math.ListN.{get_or-map, length-map}
use Rattle.upload_book.specs.declared.board_line.BoardLine.{BoardLine}
use Rattle.upload_book.specs.declared.board_line.HeadChange.{HeadChange}
use Rattle.upload_book.specs.declared.head_row.HeadRow.{HeadRow}
use Rattle.upload_book.specs.declared.settings.Numbers.{Numbers}
use Rattle.upload_book.specs.Heads.{HeadPart, accounts_of, head_part, head_part_at, heads_of, parts_after}
use Rattle.upload_book.specs.HeadSteps.{IsWithin, MayChange}
use Rattle.upload_book.specs.laws.Steps.{LeadsTo}
use Rattle.upload_book.specs.Lawful.{IsLawful, IsTenantOf}
use Rattle.upload_book.specs.PlainBook.{PlainBook, tenant_book, with_tenant_book}
use Rattle.upload_book.specs.TenantBook.{Entry, TenantBook, kept_in, opening_part, visible_upload, with_changed, with_kept, with_new}
use Rattle.upload_book.specs.Upload.{Upload, head_row_of}
use Rattle.upload_book.proofs.Steps.BookLemmas.{book_with, with_tenant_book-itself}
use Rattle.upload_book.proofs.Lawful.Entries.{visible_in-Ok}

-- the row of an upload under its id
abbrev pub head_entry : Entry Upload → Entry HeadRow
head_entry e = record { id = e.id; kept = head_row_of e.kept }

-- a tenant's part of the heads is that of the book with rows
pub head_part-tenant : (b : PlainBook) (t : ℕ) → head_part_at (heads_of b) t ≡ head_part (tenant_book b t)
head_part-tenant b t = get_or-map head_part b.tenants t (opening_part 0)

-- so a new upload is a new row,
pub head_part-new : (part : TenantBook) (u : Upload) → head_part (with_new part u) ≡ with_new (head_part part) (head_row_of u)
head_part-new part u =
    ap (λ (rows : List (Entry HeadRow)). record { quota = part.quota; next = part.next + 1; uploads = rows }) (map-append head_entry part.uploads (record { id = part.next; kept = u } ∷ []))

changed-row : (entries : List (Entry Upload)) (id : ℕ) (u : Upload) → map {A = Entry Upload} {B = Entry HeadRow} head_entry (with_kept entries id u) ≡ with_kept (map {A = Entry Upload} {B = Entry HeadRow} head_entry entries) id (head_row_of u)
changed-row [] id u = refl
changed-row (e ∷ entries) id u =
    let rest = changed-row entries id u in
    elim (eqb_tells e.id id) [ inl same ↦ rw (same.0, rest) refl | inr differs ↦ rw (differs.0, rest) refl ]

-- a changed one another row,
pub head_part-changed : (part : TenantBook) (id : ℕ) (u : Upload) → head_part (with_changed part id u) ≡ with_changed (head_part part) id (head_row_of u)
head_part-changed part id u =
    ap (λ (rows : List (Entry HeadRow)). record { quota = part.quota; next = part.next; uploads = rows }) (changed-row part.uploads id u)

-- and what is left are the rows of what is left
pub rows-filter : (p : Entry Upload → Bool) (q : Entry HeadRow → Bool) (entries : List (Entry Upload)) → ((e : Entry Upload) → q (head_entry e) ≡ p e)
    → map {A = Entry Upload} {B = Entry HeadRow} head_entry (filter p entries) ≡ filter q (map {A = Entry Upload} {B = Entry HeadRow} head_entry entries)
rows-filter p q [] same = refl
rows-filter p q (e ∷ entries) same =
    rw (same e) (by_test (p e) _ _ (rows-filter p q entries same))
  where
    by_test : (test : Bool) (rest : List (Entry Upload)) (rows : List (Entry HeadRow)) → map {A = Entry Upload} {B = Entry HeadRow} head_entry rest ≡ rows
        → map {A = Entry Upload} {B = Entry HeadRow} head_entry (cond test (e ∷ rest) rest) ≡ cond test (head_entry e ∷ rows) rows
    by_test true rest rows is = ap (λ rows. head_entry e ∷ rows) is
    by_test false rest rows is = is

-- the row that stands under an id is that of the upload
pub row-kept : (entries : List (Entry Upload)) (id : ℕ) → kept_in (map {A = Entry Upload} {B = Entry HeadRow} head_entry entries) id ≡ option_map head_row_of (kept_in entries id)
row-kept [] id = refl
row-kept (e ∷ entries) id =
    let rest = row-kept entries id in
    elim (eqb_tells e.id id) [ inl same ↦ rw same.0 refl | inr differs ↦ rw (differs.0, rest) refl ]

-- an upload that is visible is a tenant's of the book
pub visible-within : (b : PlainBook) (t id now : ℕ) (u : Upload) → visible_upload (tenant_book b t) id now ≡ Ok u → t < length b.tenants
visible-within b t id now u seen =
    elim (cases_lt t (length b.tenants)) [
      | inl within ↦ within
      | inr past ↦
          let none : tenant_book b t ≡ opening_part 0 = get_or_past b.tenants t (opening_part 0) past in
          absurd (nothing (subst (λ (part : TenantBook). kept_in part.uploads id ≡ Some u) none (visible_in-Ok (λ (u : Upload). u.expires) (tenant_book b t) id now u seen)))
    ]
  where
    nothing : kept_in (opening_part {K = Upload} 0).uploads id ≡ Some u → ⊥
    nothing is = absurd cc

-- a tenant's part that is as it should be is within its numbers
within-head : (n : Numbers) (part : TenantBook) → IsTenantOf n part → IsWithin n (head_part part)
within-head n part sound = record { few = omega (arith, length-map part.uploads head_entry, sound.few); last = sound.last }

-- A line leads to a lawful book whose totals did not fall, where its change is that of the tenants' parts.
pub leads : (b : PlainBook) (tenants : List TenantBook) (charged released : ℕ) (head : HeadChange) → IsLawful (book_with b tenants charged released) → b.charged ≤ charged → b.released ≤ released
    → map {A = TenantBook} {B = HeadPart} head_part tenants ≡ parts_after (heads_of b) head → MayChange (heads_of b) head
    → LeadsTo b (record { change = head; accounts = accounts_of (book_with b tenants charged released) }) (book_with b tenants charged released)
leads b tenants charged released head lawful more back is may = record {
  may = record {
    change = may;
    within = subst (All (IsWithin b.settings.numbers)) is (All-map (IsWithin b.settings.numbers) head_part tenants (λ k d within. within-head b.settings.numbers _ (lawful.tenants k d within)));
    charged = more;
    released = back;
  };
  heads = ap (λ (parts : List HeadPart). record { settings = b.settings; tenants = parts; accounts = accounts_of (book_with b tenants charged released) }) is;
}

-- So does one that changes one tenant's part.
pub leads-part : (b : PlainBook) (t : ℕ) (part : TenantBook) (head : HeadChange) → IsLawful (with_tenant_book b t part)
    → parts_after (heads_of b) head ≡ set (heads_of b).tenants t (head_part part) → MayChange (heads_of b) head
    → LeadsTo b (record { change = head; accounts = accounts_of (with_tenant_book b t part) }) (with_tenant_book b t part)
leads-part b t part head lawful is may =
    leads b (set b.tenants t part) _ _ head lawful (omega arith) (omega arith) (map-set head_part b.tenants t part ∙ sym is) may

-- the line with this change that leads to a book
abbrev pub line_to : PlainBook → HeadChange → BoardLine
line_to after head = record { change = head; accounts = accounts_of after }

-- there is a line that leads to the book after a change, or no line, and the book stays
abbrev pub IsFollowed : PlainBook → PlainBook → Option HeadChange → Type 0
IsFollowed b after head =
    IfSome (option_map (line_to after) head) (λ line. LeadsTo b line after) × IfNone (option_map (line_to after) head) (after ≡ b)

-- there is one where the part becomes another, which the line tells
pub followed-part : (b : PlainBook) (t : ℕ) (later part : TenantBook) (found : Option HeadChange) (head : HeadChange) → found ≡ Some head → later ≡ part → LeadsTo b (line_to (with_tenant_book b t part) head) (with_tenant_book b t part)
    → IsFollowed b (with_tenant_book b t later) found
followed-part b t later part found head is same leads =
    subst (λ (part : TenantBook). IsFollowed b (with_tenant_book b t part) found) (sym same)
    (subst (IsFollowed b (with_tenant_book b t part)) (sym is) (leads, tt))

-- there is none where the part stays
pub followed-stays : (b : PlainBook) (t : ℕ) (later : TenantBook) (found : Option HeadChange) → found ≡ None → later ≡ tenant_book b t → IsFollowed b (with_tenant_book b t later) found
followed-stays b t later found none same =
    subst (IsFollowed b (with_tenant_book b t later)) (sym none) (tt, ap (with_tenant_book b t) same ∙ with_tenant_book-itself b t)
