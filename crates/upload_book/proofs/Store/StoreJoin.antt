-- The store where a final upload is joined of a tenant's partial ones.
use Rattle.std.proofs.Common.{◌≡◌, ℕ, zero, suc, ◌+◌, ◌<◌, ◌≤◌, Bool, List, [], ◌∷◌, ◌++◌, map, length, get_or, set, take, Option, Some, refl, sym, ap, ap₂, ◌∙◌, subst, inl, inr, arith}
use Rattle.std.specs.List.{All, Contains, flat_map, sum_by}
use Rattle.std.proofs.Math.ListN.{length-map}
use Rattle.std.proofs.lemmas.List.{get_or-map, get_or_push}
use Rattle.std.proofs.lemmas.List.Elements.{All-push}
use Rattle.std.proofs.lemmas.List.Sums.{sum_by-cons}
use Rattle.block_pool.specs.Blocks.{Blocks, bytes_of as blocks_read}
use Rattle.block_bodies.specs.Bodies.{content_of}
use Rattle.block_bodies.specs.Changes.{Holds, MayHold}
use Rattle.upload_book.specs.Charge.{charge_with}
use Rattle.upload_book.specs.Concat.{final_upload, joined_len, parts_found, rows_of}
use Rattle.upload_book.specs.declared.head_row.Kind.TheVariants.{Final}
use Rattle.upload_book.specs.declared.pieces.Piece.{Piece}
use Rattle.upload_book.specs.declared.pieces.UnheldPiece.{UnheldPiece}
use Rattle.upload_book.specs.declared.stored_tenant.StoredTenant.{StoredTenant as KeptTenant}
use Rattle.upload_book.specs.declared.block_store.BlockStore.TheInside.{Inside}
use Rattle.upload_book.specs.inside.Kept.{stored_tenant_of, store_of, AreInOrder, HasUploadRoom, IsKept}
use Rattle.upload_book.specs.NewFinal.{NewFinal}
use Rattle.upload_book.specs.BlockStore.{BlockStore, Joins, plain_in, part_at, stored_tenant_at, entry_at, pieces_named as pieces_at, rows_at, no_upload}
use Rattle.upload_book.specs.inside.Places.{AreFew}
use Rattle.upload_book.specs.Stored.{Segment, StoredTenant, StoredUpload, entry_of, part_of, parts_kept, pieces_len, pieces_of, placed_in, segment_of, upload_of, charge_on, HoldsPieces}
use Rattle.upload_book.specs.inside.Pieces.{as_piece, final_of, own_chain, HasOwnPiece, ReadsWhole}
use Rattle.upload_book.specs.TenantBook.{Entry, with_new}
use Rattle.upload_book.specs.Upload.{Upload, content_of as upload_content_of, head_row_of, offset_of}
use Rattle.upload_book.proofs.Charge.InUse.{Contains-first, Contains-later}
use Rattle.upload_book.proofs.Store.InOrder.{AreInOrder-push}
use Rattle.upload_book.proofs.Store.JoinLemmas.{AreCopies, AreCopies-from, Contains-with_new, HoldsPieces-join, MayHold-join, join-charge}
use Rattle.upload_book.proofs.Store.OwnLemmas.{HasOwnPiece-final, parts-join}
use Rattle.upload_book.proofs.Steps.PartLemmas.{ArePartsOf-named, parts-plain, pieces-named}
use Rattle.upload_book.proofs.Store.Pieces.{flat_map-contains, kept_pieces}
use Rattle.upload_book.proofs.Store.PlainStoredTenants.{content-own, content-same, part-with_new, segments-join}
use Rattle.upload_book.proofs.Store.PutLemmas.{own_piece}
use Rattle.upload_book.proofs.Store.StoredTenants.{IsStoredOn-stored_tenant}
use Rattle.upload_book.proofs.Store.StoreLemmas.{with_stored_tenant, with_stored_tenant-part, part_within, IsPart, IsStoredTenant-part, stored_tenant_at-part, own-part, order-part, reads-part, charge-part, charge_with-part, IsKept-with_stored_tenant, plain_in-with_stored_tenant}

-- some uploads have their own piece each, which reads whole
pub record AreOwn (p : Blocks) (entries : List (Entry StoredUpload)) : Type 0 where
  pub own : (e : Entry StoredUpload) → Contains entries e → e.kept.pieces ≡ own_piece e.id (own_chain e.kept.pieces) ∷ []
  pub whole : (e : Entry StoredUpload) → Contains entries e → length (content_of p (own_chain e.kept.pieces)) ≡ (own_chain e.kept.pieces).len

AreOwn-rest : (p : Blocks) (e : Entry StoredUpload) (entries : List (Entry StoredUpload)) → AreOwn p (e ∷ entries) → AreOwn p entries
AreOwn-rest p e entries are = record { own = λ f c. are.own f (Contains-later e f entries c); whole = λ f c. are.whole f (Contains-later e f entries c) }

-- their pieces come from them,
origins-own : (p : Blocks) (entries : List (Entry StoredUpload)) → AreOwn p entries → map {A = Piece} {B = ℕ} (λ x. x.origin) (flat_map kept_pieces entries) ≡ map {A = Entry Upload} {B = ℕ} (λ e. e.id) (map (entry_of p) entries)
origins-own p [] are = refl
origins-own p (e ∷ entries) are =
    ap (λ (pieces : List Piece). map {A = Piece} {B = ℕ} (λ x. x.origin) (pieces ++ flat_map kept_pieces entries)) (are.own e (Contains-first e entries))
    ∙ ap (λ (ids : List ℕ). e.id ∷ ids) (origins-own p entries (AreOwn-rest p e entries are))

-- read as their contents,
contents-own : (p : Blocks) (entries : List (Entry StoredUpload)) → AreOwn p entries
    → map {A = Piece} {B = List ℕ} (λ x. content_of p x.chain) (flat_map kept_pieces entries) ≡ map {A = Entry Upload} {B = List ℕ} (λ e. upload_content_of e.kept) (map (entry_of p) entries)
contents-own p [] are = refl
contents-own p (e ∷ entries) are =
    let own = are.own e (Contains-first e entries) in
    ap (λ (pieces : List Piece). map {A = Piece} {B = List ℕ} (λ x. content_of p x.chain) (pieces ++ flat_map kept_pieces entries)) own
    ∙ ap₂ (λ (bytes : List ℕ) (rest : List (List ℕ)). bytes ∷ rest) (sym (content-own p e.kept e.id (own_chain e.kept.pieces) own)) (contents-own p entries (AreOwn-rest p e entries are))

-- and have as many bytes together as they
lens-own : (p : Blocks) (entries : List (Entry StoredUpload)) → AreOwn p entries → pieces_len (flat_map kept_pieces entries) ≡ joined_len (rows_of (map (entry_of p) entries))
lens-own p [] are = refl
lens-own p (e ∷ entries) are =
    let x = own_chain e.kept.pieces in
    let own = are.own e (Contains-first e entries) in
    let here : offset_of (upload_of p e.kept) ≡ x.len = ap (length {A = ℕ}) (content-own p e.kept e.id x own) ∙ are.whole e (Contains-first e entries) in
    ap (λ (pieces : List Piece). pieces_len (pieces ++ flat_map kept_pieces entries)) own
    ∙ sum_by-cons (λ (x : Piece). x.chain.len) (own_piece e.id x) (flat_map kept_pieces entries)
    ∙ ap₂ (λ (a b : ℕ). a + b) (sym here) (lens-own p entries (AreOwn-rest p e entries are))
    ∙ sym (sum_by-cons (λ row. row.offset) (head_row_of (upload_of p e.kept)) (rows_of (map (entry_of p) entries)))

-- the parts that are named have
pub AreOwn-named : (v : Inside) (t : ℕ) (old : KeptTenant) (named : List (Option ℕ)) (now : ℕ) → IsKept v → IsPart v t old → AreOwn v.pool (parts_kept (stored_tenant_of old) now named)
AreOwn-named v t old named now kept part = record { own = own; whole = whole }
  where
    stored_tenant : StoredTenant
    stored_tenant = stored_tenant_of old

    own : (e : Entry StoredUpload) → Contains (parts_kept (stored_tenant_of old) now named) e → e.kept.pieces ≡ own_piece e.id (own_chain e.kept.pieces) ∷ []
    own e c =
        let is = ArePartsOf-named (stored_tenant_of old) now named e c in
        let has : HasOwnPiece e = subst HasOwnPiece is.there.2 (own-part v t old kept part is.there.0 e is.there.1) in
        has (λ final. let partial = is.partial in absurd cc)

    whole : (e : Entry StoredUpload) → Contains (parts_kept (stored_tenant_of old) now named) e → length (content_of v.pool (own_chain e.kept.pieces)) ≡ (own_chain e.kept.pieces).len
    whole e c = reads-part v t old kept part (own_piece e.id (own_chain e.kept.pieces)) (pieces-named (stored_tenant_of old) now named _ (flat_map-contains kept_pieces (parts_kept (stored_tenant_of old) now named) e _ c (subst (λ (pieces : List Piece). Contains pieces (own_piece e.id (own_chain e.kept.pieces))) (sym (own e c)) (Contains-first _ []))))

-- pieces of the same segments have as many bytes
lens-same : (xs ys : List Piece) → map segment_of xs ≡ map segment_of ys → pieces_len xs ≡ pieces_len ys
lens-same xs ys same = by_segments xs ∙ ap (sum_by (λ (s : Segment). s.len)) same ∙ sym (by_segments ys)
  where
    by_segments : (xs : List Piece) → pieces_len xs ≡ sum_by (λ (s : Segment). s.len) (map segment_of xs)
    by_segments [] = refl
    by_segments (x ∷ xs) =
        sum_by-cons (λ (x : Piece). x.chain.len) x xs ∙ ap (λ n. x.chain.len + n) (by_segments xs) ∙ sym (sum_by-cons (λ (s : Segment). s.len) (segment_of x) (map segment_of xs))

-- where there is a place, something stands there
there : {X : Type 0} (xs : List X) (i : ℕ) → i < length xs → (x : X) × (x ≡ get_or xs i x)
there [] i l = absurd (omega arith)
there (x ∷ xs) zero l = (x, refl)
there (x ∷ xs) (suc i) l = there xs i (omega arith)

-- a tenant of the store has a part
pub part-there : (v : Inside) (s : BlockStore) (t : ℕ) → store_of v ≡ s → t < length s.stored_tenants → (old : KeptTenant) × IsPart v t old
part-there v s t is within =
    let inside : t < length v.stored_tenants.items = part_within v s t is within in
    let found = there v.stored_tenants.items t inside in
    (found.0, record { within = inside; read = found.1 })

-- the pieces that were listed of a store are those of its part
pub listed-read : (v : Inside) (s : BlockStore) (t : ℕ) (old : KeptTenant) (named parts : List (Option ℕ)) (now : ℕ) (pieces : List Piece) → store_of v ≡ s → IsPart v t old → named ≡ parts → map segment_of pieces ≡ map segment_of (pieces_at s t named now)
    → map segment_of pieces ≡ map segment_of (flat_map kept_pieces (parts_kept (stored_tenant_of old) now parts))
listed-read v s t old named parts now pieces is part same listed =
    listed ∙ ap₂ (λ (s : BlockStore) (named : List (Option ℕ)). map segment_of (pieces_at s t named now)) (sym is) same
    ∙ ap (λ (stored_tenant : StoredTenant). map segment_of (flat_map kept_pieces (parts_kept stored_tenant now parts))) (stored_tenant_at-part v t old part)

-- a final upload is joined of pieces with the segments of those that are named, whose blocks are held for it
pub record JoinsIn (v : Inside) (t : ℕ) (old : KeptTenant) (new : NewFinal) (now : ℕ) (pieces : List Piece) (q : Blocks) : Type 0 where
  pub part : IsPart v t old
  pub segments : map segment_of pieces ≡ map segment_of (flat_map kept_pieces (parts_kept (stored_tenant_of old) now new.parts))
  pub holds : Holds v.pool (placed_in pieces) q

-- so it is where the pieces that were listed are held
pub JoinsIn-held : (v : Inside) (s : BlockStore) (t : ℕ) (old : KeptTenant) (named : List (Option ℕ)) (new : NewFinal) (now : ℕ) (unheld : List UnheldPiece) (before pieces : List Piece) (q : Blocks) → store_of v ≡ s → IsPart v t old → named ≡ new.parts
    → map segment_of (map as_piece unheld) ≡ map segment_of (pieces_at s t named now) → before ≡ [] → pieces ≡ before ++ map as_piece unheld → Holds v.pool (placed_in (map as_piece unheld)) q → JoinsIn v t old new now pieces q
JoinsIn-held v s t old named new now unheld before pieces q is part same listed none put holds =
    let held : map as_piece unheld ≡ pieces = sym (put ∙ ap (λ (before : List Piece). before ++ map as_piece unheld) none) in
    record {
      part = part;
      segments = subst (λ (pieces : List Piece). map segment_of pieces ≡ map segment_of (flat_map kept_pieces (parts_kept (stored_tenant_of old) now new.parts))) held
          (listed-read v s t old named new.parts now (map as_piece unheld) is part same listed);
      holds = subst (λ (pieces : List Piece). Holds v.pool (placed_in pieces) q) held holds;
    }

-- the part with the upload
pub record IsJoined (v : Inside) (old changed : KeptTenant) (new : NewFinal) (pieces : List Piece) (expires : Option ℕ) : Type 0 where
  pub quota : changed.quota ≡ old.quota
  pub next : changed.next ≡ old.next + 1
  pub charge : changed.charge ≡ old.charge
  pub boxed : Bool
  pub uploads : changed.uploads.items ≡ old.uploads.items ++ record { id = old.next; kept = final_of boxed new pieces expires } ∷ []
  pub room : HasUploadRoom v.room changed

-- the pieces are copies of the tenant's
pub joined-copies : (old : StoredTenant) (named : List (Option ℕ)) (now : ℕ) (pieces : List Piece) → map segment_of pieces ≡ map segment_of (flat_map kept_pieces (parts_kept old now named)) → AreCopies old pieces
joined-copies old named now pieces same = AreCopies-from old pieces (flat_map kept_pieces (parts_kept old now named)) same (pieces-named old now named)

-- and may be held
pub joined-held : (v : Inside) (t : ℕ) (old : KeptTenant) (named : List (Option ℕ)) (now : ℕ) (pieces : List Piece) → IsKept v → IsPart v t old → AreFew (store_of v) t
    → map segment_of pieces ≡ map segment_of (flat_map kept_pieces (parts_kept (stored_tenant_of old) now named)) → length pieces ≤ 32 → MayHold v.pool (placed_in pieces)
joined-held v t old named now pieces kept part few same short =
    let stored_tenant = stored_tenant_at-part v t old part in
    let is = IsStoredOn-stored_tenant v.pool (store_of v).stored_tenants t (stored_tenant_of old) kept.stored (IsStoredTenant-part v t old part) in
    MayHold-join v.pool (stored_tenant_of old) pieces is (joined-copies (stored_tenant_of old) named now pieces same)
    (omega (arith, few.uploads, ap (λ (s : StoredTenant). length (part_of v.pool s).uploads) stored_tenant, length-map (stored_tenant_of old).uploads (entry_of v.pool)))
    (λ k d l.
    let e : Entry StoredUpload = get_or (stored_tenant_of old).uploads k d in
    let entry : get_or (part_of v.pool (stored_tenant_of old)).uploads k (entry_of v.pool d) ≡ entry_of v.pool e = get_or-map (entry_of v.pool) (stored_tenant_of old).uploads k d (entry_of v.pool d) l in
    let segments : All (λ (e : Entry Upload). length e.kept.segments ≤ 32) (part_of v.pool (stored_tenant_of old)).uploads = subst (λ (s : StoredTenant). All (λ (e : Entry Upload). length e.kept.segments ≤ 32) (part_of v.pool s).uploads) stored_tenant few.segments in
    omega (arith, segments k (entry_of v.pool d) (omega (arith, l, length-map (stored_tenant_of old).uploads (entry_of v.pool))), ap (λ (e : Entry Upload). length e.kept.segments) entry, length-map e.kept.pieces (λ (x : Piece). content_of v.pool x.chain)))
    short

-- they are as many bytes as the parts have
pub joined-len : (v : Inside) (t : ℕ) (old : KeptTenant) (named : List (Option ℕ)) (now : ℕ) (pieces : List Piece) → IsKept v → IsPart v t old
    → map segment_of pieces ≡ map segment_of (flat_map kept_pieces (parts_kept (stored_tenant_of old) now named)) → joined_len (rows_at (store_of v) t named now) ≡ pieces_len pieces
joined-len v t old named now pieces kept part same =
    ap (λ (s : StoredTenant). joined_len (rows_of (parts_found (part_of v.pool s) now named))) (stored_tenant_at-part v t old part)
    ∙ ap (λ (found : List (Entry Upload)). joined_len (rows_of found)) (parts-plain v.pool (stored_tenant_of old) now named)
    ∙ sym (lens-own v.pool (parts_kept (stored_tenant_of old) now named) (AreOwn-named v t old named now kept part))
    ∙ sym (lens-same pieces (flat_map kept_pieces (parts_kept (stored_tenant_of old) now named)) same)

module _ (v : Inside) (t : ℕ) (old changed : KeptTenant) (new : NewFinal) (now : ℕ) (pieces : List Piece) (expires : Option ℕ) (q : Blocks) (kept : IsKept v) (joins : JoinsIn v t old new now pieces q) (is : IsJoined v old changed new pieces expires) where
  abbrev final : StoredUpload
  final = final_of is.boxed new pieces expires

  stored_tenant : stored_tenant_of changed ≡ with_new (stored_tenant_of old) final
  stored_tenant = rw (is.quota, is.next, is.uploads) refl

  copies : AreCopies (stored_tenant_of old) final.pieces
  copies = joined-copies (stored_tenant_of old) new.parts now pieces joins.segments

  -- all pieces read whole
  joined-reads : ReadsWhole q (pieces_of (with_new (stored_tenant_of old) final))
  joined-reads x c = elim (Contains-with_new (stored_tenant_of old) final x c) [
    | inl before ↦ ap (length {A = ℕ}) (content-same v.pool q x.chain (λ b some. joins.holds.bytes b)) ∙ reads-part v t old kept joins.part x before
    | inr here ↦
        let z = copies x here in
        let same : content_of q x.chain ≡ content_of q z.0.chain = ap (λ (s : Segment). take s.len (blocks_read q s.blocks)) z.2 in
        let len : x.chain.len ≡ z.0.chain.len = ap (λ (s : Segment). s.len) z.2 in
        ap (length {A = ℕ}) (same ∙ content-same v.pool q z.0.chain (λ b some. joins.holds.bytes b)) ∙ reads-part v t old kept joins.part z.0 z.1 ∙ sym len
  ]

  -- the store is kept
  pub IsKept-joined : IsKept (with_stored_tenant v q t changed)
  IsKept-joined =
      let part = IsStoredTenant-part v t old joins.part in
      let on = IsStoredOn-stored_tenant v.pool (store_of v).stored_tenants t (stored_tenant_of old) kept.stored part in
      IsKept-with_stored_tenant v q t old changed kept joins.part joins.holds.sizes
      (subst (λ (s : StoredTenant). HoldsPieces q (set (store_of v).stored_tenants t s)) (sym stored_tenant) (HoldsPieces-join v.pool (store_of v).stored_tenants t (stored_tenant_of old) final q kept.stored part copies joins.holds))
      (λ k other there differs b some. joins.holds.bytes b)
      (subst (λ (s : StoredTenant). All HasOwnPiece s.uploads) (sym stored_tenant) (All-push HasOwnPiece (stored_tenant_of old).uploads (record { id = old.next; kept = final }) (own-part v t old kept joins.part) (HasOwnPiece-final (record { id = old.next; kept = final }) refl)))
      (subst (λ (s : StoredTenant). ReadsWhole q (pieces_of s)) (sym stored_tenant) joined-reads)
      (subst AreInOrder (sym stored_tenant) (AreInOrder-push (stored_tenant_of old) final (λ x c. let z = copies x c in omega (arith, (on.pieces.each z.0 z.1).given, ap (λ (s : Segment). s.origin) z.2)) (order-part v t old kept joins.part)))
      (is.charge ∙ charge-part v t old kept joins.part ∙ sym (join-charge v.pool (store_of v).stored_tenants t (stored_tenant_of old) final q kept.stored part copies joins.holds) ∙ ap (charge_on v.pool.block_size) (sym stored_tenant))
      is.room

  -- it is the final upload of its parts
  final-plain : upload_of q final ≡ final_upload (parts_found (part_of v.pool (stored_tenant_of old)) now new.parts) new expires
  final-plain =
      let entries = parts_kept (stored_tenant_of old) now new.parts in
      let are = AreOwn-named v t old new.parts now kept joins.part in
      let ids = parts-join q final (flat_map kept_pieces entries) refl joins.segments ∙ origins-own v.pool entries are in
      let segments = segments-join v.pool final (placed_in pieces) (flat_map kept_pieces entries) q joins.holds joins.segments ∙ contents-own v.pool entries are in
      let len : pieces_len pieces ≡ joined_len (rows_of (map (entry_of v.pool) entries)) = lens-same pieces (flat_map kept_pieces entries) joins.segments ∙ lens-own v.pool entries are in
      rw (parts-plain v.pool (stored_tenant_of old) now new.parts) (same_final _ _ _ _ _ _ ids segments len)
    where
      same_final : (ids ids' : List ℕ) (segments segments' : List (List ℕ)) (len len' : ℕ) → ids ≡ ids' → segments ≡ segments' → len ≡ len'
          → ◌≡◌ {A = Upload} (record { kind = Final; parts = ids; declared = Some len; segments = segments; metadata = new.metadata; concat = new.concat; expires = expires }) (record { kind = Final; parts = ids'; declared = Some len'; segments = segments'; metadata = new.metadata; concat = new.concat; expires = expires })
      same_final ids ids' segments segments' len len' same same' same'' = rw (same, same', same'') refl

  -- the plain book gets it
  pub plain-joined : plain_in (store_of (with_stored_tenant v q t changed)) ≡ set (plain_in (store_of v)) t (with_new (part_at (store_of v) t) (final_upload (parts_found (part_at (store_of v) t) now new.parts) new expires))
  plain-joined =
      plain_in-with_stored_tenant v q t old changed joins.part (λ k other there differs b some. joins.holds.bytes b)
      ∙ ap (set (plain_in (store_of v)) t) (ap (part_of q) stored_tenant ∙ part-with_new v.pool q (stored_tenant_of old) final (λ b some. joins.holds.bytes b) ∙ ap (with_new (part_of v.pool (stored_tenant_of old))) final-plain
      ∙ ap (λ (s : StoredTenant). with_new (part_of v.pool s) (final_upload (parts_found (part_of v.pool s) now new.parts) new expires)) (sym (stored_tenant_at-part v t old joins.part)))

  -- the tenant pays as much as before
  pub charge-joined : charge_with v.pool.block_size (part_at (store_of (with_stored_tenant v q t changed)) t) ≡ charge_with v.pool.block_size (part_at (store_of v) t)
  charge-joined =
      let w = with_stored_tenant v q t changed in
      let part : IsPart w t changed = with_stored_tenant-part v q t old changed joins.part in
      let after : charge_with v.pool.block_size (part_at (store_of w) t) ≡ changed.charge =
      subst (λ size. charge_with size (part_at (store_of w) t) ≡ changed.charge) joins.holds.sizes.bytes (charge_with-part w t changed IsKept-joined part ∙ sym (charge-part w t changed IsKept-joined part)) in
      after ∙ is.charge ∙ charge-part v t old kept joins.part ∙ sym (charge_with-part v t old kept joins.part)

  -- it has the blocks of its parts, and nothing else changes in the pool
  pub Joins-joined : Joins (store_of v) (store_of (with_stored_tenant v q t changed)) t new now
  Joins-joined =
      let w = with_stored_tenant v q t changed in
      let part : IsPart w t changed = with_stored_tenant-part v q t old changed joins.part in
      let before : stored_tenant_at (store_of v) t ≡ stored_tenant_of old = stored_tenant_at-part v t old joins.part in
      let last : get_or (old.uploads.items ++ record { id = old.next; kept = final } ∷ []) (length old.uploads.items) no_upload ≡ record { id = old.next; kept = final } = get_or_push old.uploads.items (record { id = old.next; kept = final }) no_upload (length old.uploads.items) refl in
      let entry : entry_at (store_of w) t (length (stored_tenant_at (store_of v) t).uploads) ≡ record { id = old.next; kept = final } =
      ap₂ (λ (after before : StoredTenant). get_or after.uploads (length before.uploads) no_upload) (stored_tenant_at-part w t changed part ∙ stored_tenant) before ∙ last in
      record {
        blocks = ap (λ (e : Entry StoredUpload). map segment_of e.kept.pieces) entry ∙ joins.segments ∙ ap (λ (s : StoredTenant). map segment_of (flat_map kept_pieces (parts_kept s now new.parts))) (sym before);
        free = joins.holds.free;
        bytes = joins.holds.bytes;
      }
