-- The first bytes of a complete upload, which are copied piece by piece.
use Rattle.std.proofs.Common.{◌≡◌, ℕ, ◌<◌, ◌≤◌, ◌+◌, ◌-◌, ◌⊎◌, true, false, Err, List, [], ◌++◌, length, get_or, drop, min, take, Some, Ok, inl, inr, refl, ap, sym, subst, ◌∙◌, arith, rules}
use Rattle.std.specs.List.Sorted.{IsStrictlyIncreasing}
use Rattle.std.proofs.lemmas.Bool.Decides.{nat_tests}
use Rattle.std.proofs.lemmas.List.{length-map, places, same_lists, take_all}
use Rattle.std.proofs.lemmas.List.Elements.{All-get_or}
use Rattle.upload_book.specs.Begun.{HasOnly, IsBegun}
use Rattle.upload_book.specs.Book.{StoredBook, plain_of}
use Rattle.upload_book.specs.BlockStore.{part_at}
use Rattle.upload_book.specs.Content.{bytes_at, content_told}
use Rattle.upload_book.specs.declared.content.ByteSpan.{ByteSpan}
use Rattle.upload_book.specs.declared.head_row.Name.{Name}
use Rattle.upload_book.specs.declared.refusal.Refusal.TheVariants.{Unfinished}
use Rattle.upload_book.specs.Events.{ChangeEvent, book_after_all}
use Rattle.upload_book.specs.Lawful.{IsLawful, IsTenantOf}
use Rattle.upload_book.specs.PlainBook.{PlainBook, tenant_book}
use Rattle.upload_book.specs.Stored.{part_of}
use Rattle.upload_book.specs.TenantBook.{Entry, TenantBook, opening_part, visible_upload}
use Rattle.upload_book.specs.Upload.{Upload, content_of, is_complete}
use Rattle.upload_book.proofs.ContentsStayLemmas.{contents_stay}
use Rattle.upload_book.proofs.Lawful.Entries.{ids_of, kept_in-contains, kept_in-place, visible_in-Ok, visible_in-fresh}
use Rattle.upload_book.proofs.Lawful.LawfulConcat.{complete-from_test}
use Rattle.upload_book.proofs.Store.OwnLemmas.{span-len}
use Rattle.upload_book.proofs.Steps.BookSteps.{part-plain}

-- the ids of a tenant's uploads ascend
pub ids-ascend : (b : StoredBook) (t : ℕ) → IsLawful (plain_of b) → t < length b.store.stored_tenants → IsStrictlyIncreasing (ids_of (part_at b.store t).uploads)
ids-ascend b t lawful there =
    let P : TenantBook → Type 0 = λ part. IsStrictlyIncreasing (ids_of part.uploads) in
    let found : IsTenantOf b.settings.numbers (tenant_book (plain_of b) t) =
    All-get_or (IsTenantOf b.settings.numbers) (plain_of b).tenants t (opening_part 0) (omega (arith, there, length-map b.store.stored_tenants (part_of b.store.pool))) lawful.tenants in
    subst P (part-plain b t) found.ascending

-- where ids ascend, a complete upload that is seen is all that stands under its id
pub HasOnly-seen : (part : TenantBook) (id now : ℕ) (u : Upload) → IsStrictlyIncreasing (ids_of part.uploads) → visible_upload part id now ≡ Ok u → is_complete u ≡ true → HasOnly part id (content_of u)
HasOnly-seen part id now u ascending seen complete = record {
  given = let given = (visible_in-fresh (λ (v : Upload). v.expires) part id now u seen).0 in grind (arith, nat_tests);
  has = λ v c.
      let d : Entry Upload = record { id = id; kept = v } in
      let at : get_or part.uploads c.0 d ≡ d = c.2 in
      let kept = kept_in-place part.uploads id c.0 d ascending c.1 (ap (λ (e : Entry Upload). e.id) at) ∙ ap (λ (e : Entry Upload). Some e.kept) at in
      let same : u ≡ v = only (sym (visible_in-Ok (λ (w : Upload). w.expires) part id now u seen) ∙ kept) in
      subst (λ w. w) refl (rw (← same) (complete-from_test u complete, refl));
}
  where
    only : {a b : Upload} → Some a ≡ Some b → a ≡ b
    only e = cc

-- an upload that is complete tells its bytes
pub told : (u : Upload) → is_complete u ≡ true → content_told u ≡ Ok (content_of u)
told u complete = rw complete refl

-- and one that is not does not
pub untold : (u : Upload) → is_complete u ≡ false → content_told u ≡ Err Unfinished
untold u unfinished = rw unfinished refl

-- bytes that were begun are the first ones from their place on of what is seen
pub begun-seen : (b : PlainBook) (name : Name) (now : ℕ) (u : Upload) (first : ℕ) (bytes : List ℕ) → IsBegun b name first bytes → visible_upload (tenant_book b name.tenant) name.id now ≡ Ok u → bytes ≡ take (length bytes) (drop first (content_of u))
begun-seen b name now u first bytes (inl none) seen = rw none refl
begun-seen b name now u first bytes (inr begun) seen =
    let same = (begun.1.has u (kept_in-contains (tenant_book b name.tenant).uploads name.id u (visible_in-Ok (λ (w : Upload). w.expires) (tenant_book b name.tenant) name.id now u seen))).1 in
    begun.2 ∙ ap (λ (content : List ℕ). take (length bytes) (drop first content)) (sym same)

-- so many bytes from the start as there are are all
pub front-all : (content : List ℕ) (span : ByteSpan) (count : ℕ) → span ≡ record { first = 0; count = count } → count ≡ length content → bytes_at span content ≡ content
front-all content span count is all = rw (is, all) (take_all (length content) content (omega arith))

-- the first bytes from a place on are no more than stand there
pub begun-within : (content bytes : List ℕ) (first : ℕ) → bytes ≡ take (length bytes) (drop first content) → length bytes ≤ length content - first
begun-within content bytes first is =
    let len : length bytes ≡ min (length bytes) (length content - first) = ap (λ (bytes : List ℕ). length bytes) is ∙ span-len content first (length bytes) in
    omega (arith, len)

-- what follows some bytes, by their count and its place
pub span-onto : (content bytes : List ℕ) (first count most offset : ℕ) → count ≡ most → offset ≡ first + length bytes → bytes ++ take count (drop offset content) ≡ bytes ++ take most (drop (first + length bytes) content)
span-onto content bytes first count most offset same place = rw (same, place) refl

-- where all of them are kept for a span that begins there, and else none, they are the first ones of the span
pub begun-span : (content bytes kept : List ℕ) (first place : ℕ) → bytes ≡ take (length bytes) (drop first content) → (kept ≡ []) ⊎ ((kept ≡ bytes) × (first ≡ place)) → kept ≡ take (length kept) (drop place content)
begun-span content bytes kept first place is (inl none) = rw none refl
begun-span content bytes kept first place is (inr same) = rw (← same.1, same.0) is

-- with the next ones behind them they still are
pub begun-more : (content bytes : List ℕ) (first count : ℕ) → bytes ≡ take (length bytes) (drop first content)
    → bytes ++ take count (drop (first + length bytes) content) ≡ take (length (bytes ++ take count (drop (first + length bytes) content))) (drop first content)
begun-more content bytes first count is = same_lists _ _ (search (rules, places)) (λ i d l. grind (arith, places))

-- whatever happens, bytes that were begun stay so
pub begun-stay : (b : PlainBook) (events : List ChangeEvent) (name : Name) (first : ℕ) (bytes : List ℕ) → IsBegun b name first bytes → IsBegun (book_after_all b events) name first bytes
begun-stay b events name first bytes (inl none) = inl none
begun-stay b events name first bytes (inr begun) = inr (begun.0, contents_stay b events name begun.0 begun.1, begun.2)
