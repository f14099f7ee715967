-- No other piece of a tenant was sent to an upload that takes bytes: the others were sent to other uploads, and
-- a final upload has only complete partial ones as its parts.
use Rattle.std.proofs.Common.{◌≡◌, ◌≢◌, ◌⊎◌, ℕ, ◌<◌, ◌≤◌, List, [], ◌∷◌, map, length, get_or, refl, inl, inr, ap, subst, ◌∙◌, arith}
use Rattle.std.specs.List.{All, Contains, remove}
use Rattle.std.specs.List.Sorted.{IsStrictlyIncreasing}
use Rattle.std.proofs.Math.ListN.{length-map}
use Rattle.std.proofs.lemmas.Bool.{cases_lt}
use Rattle.std.proofs.lemmas.List.{get_or-map, get_or_read}
use Rattle.std.proofs.lemmas.List.Elements.{All-contains}
use Rattle.std.proofs.lemmas.List.Kept.{AllPairs-from_increasing}
use Rattle.block_pool.specs.Blocks.{Blocks}
use Rattle.upload_book.specs.declared.head_row.Kind.{Kind}
use Rattle.upload_book.specs.declared.head_row.Kind.TheVariants.{Plain, Partial, Final}
use Rattle.upload_book.specs.Lawful.{IsOfKind}
use Rattle.upload_book.specs.BlockStore.{BlockStore, no_upload, stored_tenant_at, part_at, entry_at}
use Rattle.upload_book.specs.inside.Places.{IsAlone as IsAloneIn}
use Rattle.upload_book.specs.declared.pieces.Piece.{Piece}
use Rattle.upload_book.specs.Stored.{StoredTenant, StoredUpload, entry_of, parts_of}
use Rattle.upload_book.specs.inside.Pieces.{own_chain, HasOwnPiece}
use Rattle.upload_book.specs.TenantBook.{Entry, TenantBook}
use Rattle.upload_book.specs.Upload.{Upload}
use Rattle.upload_book.proofs.Charge.InUse.{Contains-cases, Contains-none}
use Rattle.upload_book.proofs.Store.Pieces.{IsEntry, kept_pieces, Contains-flat_map, Contains-remove_at}
use Rattle.upload_book.proofs.Store.PutLemmas.{own_piece, IsAlone}

-- an upload is final, or it is not
pub final-or_not : (kind : Kind) → (kind ≡ Final) ⊎ (kind ≢ Final)
final-or_not Plain = inr (λ e. absurd cc)
final-or_not Partial = inr (λ e. absurd cc)
final-or_not Final = inl refl

-- where other entries have other ids, and no final one has the id as a part, no other piece has it as its origin
pub alone-from : (old : StoredTenant) (i : ℕ) (e : Entry StoredUpload) → i < length old.uploads → All HasOwnPiece old.uploads → ((k : ℕ) (d : Entry StoredUpload) → k < length old.uploads → k ≢ i → (get_or old.uploads k d).id ≢ e.id)
    → ((f : Entry StoredUpload) (z : Piece) → Contains old.uploads f → f.kept.kind ≡ Final → Contains f.kept.pieces z → z.origin ≢ e.id)
    → IsAlone old i e.id
alone-from old i e l own differ no_part = record {
  others = λ z c.
      let found = Contains-flat_map kept_pieces (remove old.uploads i) z c in
      let f : Entry StoredUpload = found.0 in
      let there = Contains-remove_at old.uploads i f l found.1 in
      let named : f.id ≢ e.id = subst (λ (g : Entry StoredUpload). g.id ≢ e.id) there.3 (differ there.0 f there.1 there.2) in
      elim (final-or_not f.kept.kind) [
        | inl final ↦ no_part f z (there.0, there.1, there.3) final found.2
        | inr not_final ↦
            let one = subst HasOwnPiece there.3 (own there.0 f there.1) not_final in
            elim (Contains-cases (own_piece f.id (own_chain f.kept.pieces)) z [] (subst (λ pieces. Contains pieces z) one found.2)) [
              | inl same ↦ λ sent. named (ap (λ (x : Piece). x.origin) same ∙ sent)
              | inr none ↦ absurd (Contains-none z none)
            ]
      ];
}

-- the ids are those of the plain book
abbrev pub ids_on : List (Entry StoredUpload) → List ℕ
ids_on entries = map {A = Entry StoredUpload} {B = ℕ} (λ e. e.id) entries

pub ids-kept : (p : Blocks) (entries : List (Entry StoredUpload)) → map {A = Entry Upload} {B = ℕ} (λ e. e.id) (map {A = Entry StoredUpload} {B = Entry Upload} (entry_of p) entries) ≡ ids_on entries
ids-kept p [] = refl
ids-kept p (e ∷ entries) = ap (λ ids. e.id ∷ ids) (ids-kept p entries)

-- where ids ascend, no two places have one
pub ids-differ : {K : Type 0} (entries : List (Entry K)) (i k : ℕ) (d : Entry K) → IsStrictlyIncreasing (map {A = Entry K} {B = ℕ} (λ e. e.id) entries) → i < length entries → k < length entries → k ≢ i → (get_or entries k d).id ≢ (get_or entries i d).id
ids-differ {K} entries i k d ascending i_in k_in other =
    let ids : List ℕ = map {A = Entry K} {B = ℕ} (λ e. e.id) entries in
    let pairs = AllPairs-from_increasing ids ascending in
    let long : length ids ≡ length entries = length-map entries (λ (e : Entry K). e.id) in
    let at_i : get_or ids i d.id ≡ (get_or entries i d).id = get_or-map (λ (e : Entry K). e.id) entries i d d.id i_in in
    let at_k : get_or ids k d.id ≡ (get_or entries k d).id = get_or-map (λ (e : Entry K). e.id) entries k d d.id k_in in
    λ same. elim (cases_lt i k) [
      | inl before ↦ omega (arith, pairs i k d.id before (omega arith), at_i, at_k)
      | inr after ↦ omega (arith, pairs k i d.id (omega arith) (omega arith), at_i, at_k)
    ]

-- what a list has, its image has mapped
Contains-map : {X Y : Type 0} (f : X → Y) (xs : List X) (x : X) → Contains xs x → Contains (map f xs) (f x)
Contains-map f xs x c = (c.0, omega (arith, c.1, length-map xs f), get_or-map f xs c.0 x (f x) c.1 ∙ ap f c.2)

-- nobody else has the bytes of an upload where no other of the store's uploads has its id, as its own or as a part
pub alone-store : (s : BlockStore) (t i : ℕ) (e : Entry StoredUpload) → All HasOwnPiece (stored_tenant_at s t).uploads → IsEntry (stored_tenant_at s t) i e → IsAloneIn s t i → IsAlone (stored_tenant_at s t) i e.id
alone-store s t i e own is alone =
    let old : StoredTenant = stored_tenant_at s t in
    let ascending : IsStrictlyIncreasing (ids_on old.uploads) = subst IsStrictlyIncreasing (ids-kept s.pool old.uploads) alone.ids in
    let named : (d : Entry StoredUpload) → e.id ≡ (get_or old.uploads i d).id = λ d. ap (λ (e : Entry StoredUpload). e.id) (get_or_read old.uploads i e is.within is.read d) in
    alone-from old i e is.within own
    (λ k d l other same. ids-differ old.uploads i k d ascending is.within l other (same ∙ named d))
    (λ f z there final c same.
    let at : get_or (part_at s t).uploads there.0 (entry_of s.pool f) ≡ entry_of s.pool f = get_or-map (entry_of s.pool) old.uploads there.0 f (entry_of s.pool f) there.1 ∙ ap (entry_of s.pool) there.2 in
    let others = subst (λ (f : Entry Upload). f.kept.kind ≡ Final → All (λ o. o ≢ (entry_at s t i).id) f.kept.parts) at (alone.parts there.0 (entry_of s.pool f) (omega (arith, there.1, length-map old.uploads (entry_of s.pool)))) final in
    let origins : List ℕ = map {A = Piece} {B = ℕ} (λ x. x.origin) f.kept.pieces in
    let differ : All (λ o. o ≢ (entry_at s t i).id) origins = subst (λ kind. All (λ o. o ≢ (entry_at s t i).id) (parts_of kind origins)) final others in
    All-contains (λ o. o ≢ (entry_at s t i).id) origins z.origin differ (Contains-map (λ (x : Piece). x.origin) f.kept.pieces z c) (same ∙ named no_upload))

-- an upload of each kind has at most 32 segments
pub segments-few : (part : TenantBook) (u : Upload) (kind : Kind) → IsOfKind part u kind → length u.segments ≤ 32
segments-few part u Plain is = omega (arith, is.segment)
segments-few part u Partial is = omega (arith, is.segment)
segments-few part u Final is = omega (arith, is.0.few, is.0.each)
