-- When the uploads of a book expire after a change of one tenant's part.
use Rattle.std.proofs.Common.{◌≡◌, ◌≢◌, ◌⊎◌, ℕ, ◌<◌, Bool, true, false, cond, eqb, not, List, [], ◌∷◌, ◌++◌, length, Option, Some, None, refl, inl, inr, sym, ap, ◌∙◌, subst, arith}
use Rattle.std.proofs.lemmas.Option.{none-some}
use Rattle.std.specs.List.{All, filter}
use Rattle.std.specs.List.Sorted.{IsStrictlyIncreasing}
use Rattle.std.specs.Option.{option_and_then}
use Rattle.std.proofs.lemmas.Bool.{cases_lt, eq-eqb, false≢true}
use Rattle.std.proofs.lemmas.Bool.Decides.{eqb_tells}
use Rattle.std.proofs.lemmas.List.{get_or_past, get_or-set_same, get_or-set_other}
use Rattle.std.proofs.lemmas.List.Elements.{All-contains, All-head, All-tail, filter_passes}
use Rattle.std.proofs.Math.ListN.{get_or-map}
use Rattle.upload_book.specs.declared.head_row.Name.{Name}
use Rattle.upload_book.specs.Expiries.{end_in, ends_of}
use Rattle.upload_book.specs.Expiry.{has_expired}
use Rattle.upload_book.specs.ExpiryList.{ends_after, with_end}
use Rattle.upload_book.specs.Lawful.{IsLawful}
use Rattle.upload_book.specs.PlainBook.{PlainBook, tenant_book, with_tenant_book}
use Rattle.upload_book.specs.Sweep.{book_after_sweep, part_after_sweep}
use Rattle.upload_book.specs.TenantBook.{TenantBook, Entry, kept_in, opening_part, with_changed, with_new}
use Rattle.upload_book.specs.Terminate.{without}
use Rattle.upload_book.specs.Upload.{Upload}
use Rattle.upload_book.proofs.Expiries.EndsLemmas.{same_name-tells, with_end-same, with_end-other}
use Rattle.upload_book.proofs.Lawful.Entries.{ids_of, kept_in-contains, kept_in-filter, kept_in-push, kept_in-with_other, kept_in-with_same}
use Rattle.upload_book.proofs.Lawful.FinalLemmas.{kept-filter}

module _ {K : Type 0} where
  -- an id above all others has nothing,
  pub kept_in-above : (entries : List (Entry K)) (id : ℕ) → All (λ (e : Entry K). e.id < id) entries → kept_in entries id ≡ None
  kept_in-above [] id below = refl
  kept_in-above (e ∷ entries) id below = elim (eqb_tells e.id id) [
    | inl same ↦ absurd (omega (arith, same.1, All-head (λ (e : Entry K). e.id < id) e entries below))
    | inr apart ↦ rw apart.0 (kept_in-above entries id (All-tail (λ (e : Entry K). e.id < id) e entries below))
  ]

  -- until it is added
  pub kept_in-added : (entries : List (Entry K)) (id : ℕ) (u : K) → All (λ (e : Entry K). e.id < id) entries → kept_in (entries ++ record { id = id; kept = u } ∷ []) id ≡ Some u
  kept_in-added [] id u below = rw (eq-eqb id id refl) refl
  kept_in-added (e ∷ entries) id u below = elim (eqb_tells e.id id) [
    | inl same ↦ absurd (omega (arith, same.1, All-head (λ (e : Entry K). e.id < id) e entries below))
    | inr apart ↦ rw apart.0 (kept_in-added entries id u (All-tail (λ (e : Entry K). e.id < id) e entries below))
  ]

  -- an id that was taken out has nothing,
  pub kept_in-taken : (entries : List (Entry K)) (id : ℕ) → kept_in (filter (λ (e : Entry K). not (eqb e.id id)) entries) id ≡ None
  kept_in-taken [] id = refl
  kept_in-taken (e ∷ entries) id = elim (eqb_tells e.id id) [
    | inl same ↦ rw same.0 (kept_in-taken entries id)
    | inr apart ↦ rw apart.0 (rw apart.0 (kept_in-taken entries id))
  ]

  -- and any other what it had
  pub kept_in-left : (entries : List (Entry K)) (id other : ℕ) → other ≢ id → kept_in (filter (λ (e : Entry K). not (eqb e.id id)) entries) other ≡ kept_in entries other
  kept_in-left [] id other differs = refl
  kept_in-left (e ∷ entries) id other differs = elim (eqb_tells e.id id) [
    | inl same ↦ elim (eqb_tells e.id other) [
      | inl again ↦ absurd (differs (sym again.1 ∙ same.1))
      | inr apart ↦ rw (same.0, apart.0) (kept_in-left entries id other differs)
    ]
    | inr apart ↦ rw apart.0 (ap (λ rest. cond (eqb e.id other) (Some e.kept) rest) (kept_in-left entries id other differs))
  ]

-- when an upload that is kept expires
abbrev end_kept : Option Upload → Option ℕ
end_kept found = option_and_then (λ (u : Upload). u.expires) found

-- a part in which an id has an end, and any other the one that it had
pub record HasEnd (before after : TenantBook) (id : ℕ) (end : Option ℕ) : Type 0 where
  pub here : end_in after id ≡ end
  pub others : (other : ℕ) → other ≢ id → end_in after other ≡ end_in before other

-- a new upload has its end
pub HasEnd-new : (part : TenantBook) (u : Upload) → All (λ (e : Entry Upload). e.id < part.next) part.uploads → HasEnd part (with_new part u) part.next u.expires
HasEnd-new part u below = record {
  here = ap end_kept (kept_in-added part.uploads part.next u below);
  others = λ other differs. ap end_kept (kept_in-push part.uploads (record { id = part.next; kept = u }) other (λ same. differs (sym same)));
}

-- so has an upload that changes
pub HasEnd-changed : (part : TenantBook) (id : ℕ) (u before : Upload) → kept_in part.uploads id ≡ Some before → HasEnd part (with_changed part id u) id u.expires
HasEnd-changed part id u before there = record {
  here = ap end_kept (kept_in-with_same part.uploads id u before there);
  others = λ other differs. ap end_kept (kept_in-with_other part.uploads id other u differs);
}

-- and one that ended has none
pub HasEnd-without : (part : TenantBook) (id : ℕ) → HasEnd part (without part id) id None
HasEnd-without part id = record {
  here = ap end_kept (kept_in-taken part.uploads id);
  others = λ other differs. ap end_kept (kept_in-left part.uploads id other differs);
}

named : ℕ → ℕ → Name
named tenant id = record { tenant = tenant; id = id }

-- the ends of the book with the part
pub ends-with : (b : PlainBook) (t id : ℕ) (part : TenantBook) (end : Option ℕ) → t < length b.tenants → HasEnd (tenant_book b t) part id end
    → (other : Name) → with_end (ends_of b) (record { tenant = t; id = id }) end other ≡ ends_of (with_tenant_book b t part) other
unfolding named
ends-with b t id part end within has other =
    let here : tenant_book (with_tenant_book b t part) t ≡ part = get_or-set_same b.tenants t part (opening_part 0) within in
    elim (same_name-tells other (record { tenant = t; id = id })) [
      | inl same ↦
          ap (with_end (ends_of b) (record { tenant = t; id = id }) end) same.1 ∙ with_end-same (ends_of b) (record { tenant = t; id = id }) end
          ∙ sym has.here ∙ ap (λ part. end_in part id) (sym here) ∙ ap (ends_of (with_tenant_book b t part)) (sym same.1)
      | inr apart ↦
          with_end-other (ends_of b) (record { tenant = t; id = id }) end other apart.1 ∙ elim (eqb_tells other.tenant t) [
            | inl tenant ↦
                ap (λ t. end_in (tenant_book b t) other.id) tenant.1
                ∙ sym (has.others other.id (λ same. apart.1 (ap (λ t. named t other.id) tenant.1 ∙ ap (named t) same)))
                ∙ ap (λ part. end_in part other.id) (sym here)
                ∙ ap (λ t'. end_in (tenant_book (with_tenant_book b t part) t') other.id) (sym tenant.1)
            | inr tenant ↦ ap (λ part. end_in part other.id) (sym (get_or-set_other b.tenants t other.tenant part (opening_part 0) tenant.1))
          ]
    ]

-- where a name has an end, its tenant is there
pub tenant-there : (b : PlainBook) (name : Name) (at : ℕ) → ends_of b name ≡ Some at → name.tenant < length b.tenants
tenant-there b name at told = elim (cases_lt name.tenant (length b.tenants)) [
  | inl within ↦ within
  | inr past ↦ absurd (none-some at (ap (λ (part : TenantBook). end_in part name.id) (sym (get_or_past b.tenants name.tenant (opening_part 0) past)) ∙ told))
]

-- an upload that a sweep leaves
abbrev stays : ℕ → Entry Upload → Bool
stays now e = not (has_expired now e.kept.expires)

-- After a sweep an id has the end that it had, where that is later.
end-swept : (now id : ℕ) (entries : List (Entry Upload)) → IsStrictlyIncreasing (ids_of entries)
    → end_kept (kept_in (filter (stays now) entries) id) ≡ cond (has_expired now (end_kept (kept_in entries id))) None (end_kept (kept_in entries id))
end-swept now id entries ascending = by_kept (kept_in entries id) refl (kept_in-filter (stays now) entries id ascending) where
  gone : (u : Upload) → has_expired now u.expires ≡ true → kept_in (filter (stays now) entries) id ≡ Some u → ⊥
  gone u over there =
      let passes = All-contains (λ e. stays now e ≡ true) (filter (stays now) entries) (record { id = id; kept = u }) (filter_passes (stays now) entries) (kept_in-contains (filter (stays now) entries) id u there) in
      false≢true (ap not (sym over) ∙ passes)

  by_test : (u : Upload) (over : Bool) → has_expired now u.expires ≡ over → kept_in entries id ≡ Some u → (kept_in (filter (stays now) entries) id ≡ None) ⊎ (kept_in (filter (stays now) entries) id ≡ kept_in entries id)
      → end_kept (kept_in (filter (stays now) entries) id) ≡ cond over None u.expires
  by_test u true over there (inl none) = ap end_kept none
  by_test u true over there (inr same) = absurd (gone u over (same ∙ there))
  by_test u false over there left =
      ap end_kept (kept-filter (stays now) entries id u there (λ e named same. rw same (rw over refl)))

  by_kept : (found : Option Upload) → kept_in entries id ≡ found → (kept_in (filter (stays now) entries) id ≡ None) ⊎ (kept_in (filter (stays now) entries) id ≡ kept_in entries id)
      → end_kept (kept_in (filter (stays now) entries) id) ≡ cond (has_expired now (end_kept (kept_in entries id))) None (end_kept (kept_in entries id))
  by_kept None there (inl none) = rw there (ap end_kept none)
  by_kept None there (inr same) = rw there (ap end_kept (same ∙ there))
  by_kept (Some u) there left = rw there (by_test u (has_expired now u.expires) refl there left)

-- so the ends of a book after it are those that are later
pub ends-swept : (b : PlainBook) (now : ℕ) → IsLawful b → (name : Name) → ends_after now (ends_of b) name ≡ ends_of (book_after_sweep b now) name
ends-swept b now lawful name =
    let part : tenant_book (book_after_sweep b now) name.tenant ≡ part_after_sweep now (tenant_book b name.tenant) = get_or-map (part_after_sweep now) b.tenants name.tenant (opening_part 0) in
    sym (ap (λ (part : TenantBook). end_in part name.id) part ∙ end-swept now name.id (tenant_book b name.tenant).uploads ascending)
  where
    ascending : IsStrictlyIncreasing (ids_of (tenant_book b name.tenant).uploads)
    ascending = elim (cases_lt name.tenant (length b.tenants)) [
      | inl within ↦ (lawful.tenants name.tenant (opening_part 0) within).ascending
      | inr past ↦ subst (λ (part : TenantBook). IsStrictlyIncreasing (ids_of part.uploads)) (sym (get_or_past b.tenants name.tenant (opening_part 0) past)) (λ k within. absurd (omega arith))
    ]
