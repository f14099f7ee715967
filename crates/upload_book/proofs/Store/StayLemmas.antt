-- Where no piece changes: at the start, and where an entry changes in all but its pieces.
use Rattle.std.proofs.Common.{◌≡◌, ℕ, zero, suc, ◌<◌, List, [], ◌∷◌, ◌++◌, map, length, get_or, set, ap, sym, refl, ◌∙◌, subst, arith}
use Rattle.std.specs.List.{sum_by, All, flat_map}
use Rattle.std.proofs.lemmas.List.Elements.{All-head, All-tail}
use Rattle.std.proofs.lemmas.List.Sums.{sum_by-cons}
use Rattle.block_pool.specs.Blocks.{Blocks, count_at, all_free, places_of}
use Rattle.upload_book.specs.Stored.{StoredTenant, StoredUpload, pieces_of, placed_in, places_on, charge_on, some_of, ArePieces, HoldsPieces}
use Rattle.upload_book.specs.TenantBook.{Entry}
use Rattle.upload_book.specs.Charge.{charge_of}
use Rattle.upload_book.proofs.Charge.InUse.{Contains-none, paid}
use Rattle.upload_book.proofs.Store.Pieces.{IsEntry, with_entry, kept_pieces}
use Rattle.upload_book.proofs.Store.StoredTenants.{IsStoredTenant, IsStoredOn, IsStoredOn-stored_tenant, Changes, HoldsPieces-changed}

-- at the start each block is free
pub count_at-free : (n size b : ℕ) → count_at (all_free n size) b ≡ 0
count_at-free zero size b = refl
count_at-free (suc n) size zero = refl
count_at-free (suc n) size (suc b) = count_at-free n size b

-- a term that is none at each element sums to none
sum_by-nothing : {X : Type 0} (f : X → ℕ) (xs : List X) → All (λ x. f x ≡ 0) xs → sum_by f xs ≡ 0
sum_by-nothing f [] none = refl
sum_by-nothing f (x ∷ xs) none =
    omega (arith, sum_by-cons f x xs, All-head (λ x. f x ≡ 0) x xs none, sum_by-nothing f xs (All-tail (λ x. f x ≡ 0) x xs none))

-- a book in which each block is free and no tenant has an upload is stored
pub HoldsPieces-opening : (p : Blocks) (stored_tenants : List StoredTenant) → ((b : ℕ) → count_at p b ≡ 0) → All (λ s. s.uploads ≡ []) stored_tenants → HoldsPieces p stored_tenants
HoldsPieces-opening p stored_tenants free none = record {
  pieces = λ k d l.
      let no_piece : pieces_of (get_or stored_tenants k d) ≡ [] = ap (flat_map kept_pieces) (none k d l) in
      subst (ArePieces p.block_size (get_or stored_tenants k d).next) (sym no_piece) (record {
        each = λ x c. absurd (Contains-none x c);
        agree = λ x y c e. absurd (Contains-none x c);
      });
  counts = λ b. free b ∙ sym (sum_by-nothing (places_on b) stored_tenants (λ k d l. nowhere b k d l));
  apart = λ b. omega (arith, sum_by-nothing (λ s. some_of (places_on b s)) stored_tenants (λ k d l. ap some_of (nowhere b k d l)));
}
  where
    nowhere : (b k : ℕ) (d : StoredTenant) → k < length stored_tenants → places_on b (get_or stored_tenants k d) ≡ 0
    nowhere b k d l = ap (λ (entries : List (Entry StoredUpload)). places_of b (placed_in (flat_map kept_pieces entries))) (none k d l)

-- an element that has the same pieces leaves all pieces
flat_map-set_same : {X A : Type 0} (f : X → List A) (xs : List X) (i : ℕ) (new d : X) → f new ≡ f (get_or xs i d) → flat_map f (set xs i new) ≡ flat_map f xs
flat_map-set_same f [] i new d same = refl
flat_map-set_same f (x ∷ xs) zero new d same = ap (λ ys. ys ++ flat_map f xs) same
flat_map-set_same f (x ∷ xs) (suc i) new d same = ap (λ ys. f x ++ ys) (flat_map-set_same f xs i new d same)

-- an entry with the same pieces leaves all pieces
pub pieces-same : (old : StoredTenant) (i : ℕ) (e new : Entry StoredUpload) → IsEntry old i e → new.kept.pieces ≡ e.kept.pieces → pieces_of (with_entry old i new) ≡ pieces_of old
pieces-same old i e new is same = flat_map-set_same kept_pieces old.uploads i new e (same ∙ ap kept_pieces is.read)

-- it changes no block
pub Changes-same : (p : Blocks) (old : StoredTenant) (i : ℕ) (e new : Entry StoredUpload) → IsStoredOn p old → IsEntry old i e → new.kept.pieces ≡ e.kept.pieces → Changes p old p (with_entry old i new)
Changes-same p old i e new on is same =
    let pieces : pieces_of (with_entry old i new) ≡ pieces_of old = pieces-same old i e new is same in
    let places : (b : ℕ) → places_on b (with_entry old i new) ≡ places_on b old = λ b. ap (λ pieces. places_of b (placed_in pieces)) pieces in
    record {
      sizes = record { blocks = refl; bytes = refl };
      pieces = subst (ArePieces p.block_size old.next) (sym pieces) on.pieces;
      counts = λ b. omega (arith, places b);
      fresh = λ b some none. absurd (omega (arith, places b));
    }

-- the stored book with the entry
pub HoldsPieces-same : (p : Blocks) (stored_tenants : List StoredTenant) (t : ℕ) (old : StoredTenant) (i : ℕ) (e new : Entry StoredUpload) → HoldsPieces p stored_tenants → IsStoredTenant stored_tenants t old → IsEntry old i e → new.kept.pieces ≡ e.kept.pieces → HoldsPieces p (set stored_tenants t (with_entry old i new))
HoldsPieces-same p stored_tenants t old i e new kept stored_tenant is same =
    HoldsPieces-changed p stored_tenants t old p (with_entry old i new) kept stored_tenant (Changes-same p old i e new (IsStoredOn-stored_tenant p stored_tenants t old kept stored_tenant) is same)

-- the tenant pays as before
pub same-charge : (size : ℕ) (old : StoredTenant) (i : ℕ) (e new : Entry StoredUpload) → IsEntry old i e → new.kept.pieces ≡ e.kept.pieces → charge_on size (with_entry old i new) ≡ charge_on size old
same-charge size old i e new is same = ap (λ pieces. charge_of size old.next (map paid pieces)) (pieces-same old i e new is same)
