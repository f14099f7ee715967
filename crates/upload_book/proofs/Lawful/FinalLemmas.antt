-- What stands under an id of a book after a change of one tenant's part.
use Rattle.std.proofs.Common.{◌≡◌, ◌⊎◌, ℕ, Bool, true, false, eqb, List, [], ◌∷◌, ◌++◌, length, get_or, Some, refl, inl, inr, sym, ap, ◌∙◌}
use Rattle.std.specs.List.{filter}
use Rattle.std.proofs.lemmas.Bool.{cases_lt}
use Rattle.std.proofs.lemmas.Bool.Decides.{eqb_tells}
use Rattle.std.proofs.lemmas.List.{get_or-set_same, get_or-set_other, set_past}
use Rattle.upload_book.specs.declared.head_row.Name.{Name}
use Rattle.upload_book.specs.Events.{StandsAs}
use Rattle.upload_book.specs.PlainBook.{PlainBook, tenant_book, with_tenant_book}
use Rattle.upload_book.specs.TenantBook.{Entry, TenantBook, kept_in, opening_part}
use Rattle.upload_book.specs.Upload.{Upload}

-- what is kept under an id is kept where one is added,
pub kept-push : (entries more : List (Entry Upload)) (id : ℕ) (u : Upload) → kept_in entries id ≡ Some u → kept_in (entries ++ more) id ≡ Some u
kept-push [] more id u there = absurd cc
kept-push (e ∷ entries) more id u there = elim (eqb_tells e.id id) [
  | inl same ↦ rw same.0 (rw same.0 at there)
  | inr differs ↦ rw differs.0 (kept-push entries more id u (rw differs.0 at there))
]

-- and where a filter keeps it
pub kept-filter : (p : Entry Upload → Bool) (entries : List (Entry Upload)) (id : ℕ) (u : Upload) → kept_in entries id ≡ Some u → ((e : Entry Upload) → e.id ≡ id → e.kept ≡ u → p e ≡ true) → kept_in (filter p entries) id ≡ Some u
kept-filter p [] id u there keeps = absurd cc
kept-filter p (e ∷ entries) id u there keeps = elim (eqb_tells e.id id) [
  | inl same ↦
      let is : e.kept ≡ u = (let first = rw same.0 at there in cc) in
      rw (keeps e same.1 is) (rw same.0 (ap Some is))
  | inr differs ↦ by (p e) refl differs.0 (kept-filter p entries id u (rw differs.0 at there) keeps)
]
  where
    by : (test : Bool) → p e ≡ test → eqb e.id id ≡ false → kept_in (filter p entries) id ≡ Some u → kept_in (filter p (e ∷ entries)) id ≡ Some u
    by true is other rest = rw is (rw other rest)
    by false is other rest = rw is rest

-- the part of a tenant after one of its own changes, or another's
pub part-after : (b : PlainBook) (tenant t : ℕ) (part : TenantBook) → (tenant_book (with_tenant_book b tenant part) t ≡ tenant_book b t) ⊎ ((t ≡ tenant) × (tenant_book (with_tenant_book b tenant part) t ≡ part))
part-after b tenant t part = elim (cases_lt tenant (length b.tenants)) [
  | inr past ↦ inl (ap (λ tenants. get_or tenants t (opening_part 0)) (set_past b.tenants tenant part past))
  | inl within ↦ elim (eqb_tells t tenant) [
    | inl same ↦ inr (same.1, rw same.1 (get_or-set_same b.tenants tenant part (opening_part 0) within))
    | inr differs ↦ inl (get_or-set_other b.tenants tenant t part (opening_part 0) differs.1)
  ]
]

-- and so to the book
pub stays-book : (b : PlainBook) (tenant : ℕ) (part : TenantBook) (name : Name) (u : Upload) → StandsAs b name u → (name.tenant ≡ tenant → kept_in part.uploads name.id ≡ Some u) → StandsAs (with_tenant_book b tenant part) name u
stays-book b tenant part name u there own = elim (part-after b tenant name.tenant part) [
  | inl same ↦ ap (λ (part : TenantBook). kept_in part.uploads name.id) same ∙ there
  | inr its ↦ ap (λ (part : TenantBook). kept_in part.uploads name.id) its.1 ∙ own its.0
]

-- the same under the tenant's own place
pub moved : (b : PlainBook) (tenant : ℕ) (name : Name) (u : Upload) → StandsAs b name u → name.tenant ≡ tenant → kept_in (tenant_book b tenant).uploads name.id ≡ Some u
moved b tenant name u there same = ap (λ t. kept_in (tenant_book b t).uploads name.id) (sym same) ∙ there
