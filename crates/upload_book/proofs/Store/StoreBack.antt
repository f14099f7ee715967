-- The store where a final upload is put back as a tenant's next one.
use Rattle.std.proofs.Common.{◌≡◌, ◌≢◌, ℕ, ◌+◌, ◌<◌, ◌≤◌, Bool, true, List, [], ◌∷◌, ◌++◌, map, length, get_or, set, take, Option, Some, unwrap_or, refl, sym, ap, ap₂, ◌∙◌, subst, arith}
use Rattle.std.specs.List.{All}
use Rattle.std.proofs.Math.ListN.{length-map}
use Rattle.std.proofs.lemmas.List.{get_or-map, take_all}
use Rattle.std.proofs.lemmas.List.Elements.{All-push}
use Rattle.std.proofs.lemmas.List.Sums.{sum_by-cons}
use Rattle.block_pool.specs.Blocks.{Blocks, free_in}
use Rattle.block_bodies.specs.Bodies.{Chain, content_of}
use Rattle.block_bodies.specs.Changes.{SameSizes}
use Rattle.upload_book.specs.BlockStore.{plain_in, part_at, stored_tenant_at}
use Rattle.upload_book.specs.declared.block_store.BlockStore.TheInside.{Inside}
use Rattle.upload_book.specs.declared.head_row.Kind.{Kind}
use Rattle.upload_book.specs.declared.pieces.Piece.{Piece}
use Rattle.upload_book.specs.declared.ready.ReadyBack.{ReadyBack}
use Rattle.upload_book.specs.declared.stored_tenant.StoredTenant.{StoredTenant as KeptTenant}
use Rattle.upload_book.specs.inside.FinalBack.{BringsTo, IsRoomFor, MayBringEach, brought_in, final_named, segment_len, sent_len}
use Rattle.upload_book.specs.inside.Kept.{stored_tenant_of, store_of, AreInOrder, HasUploadRoom, IsKept}
use Rattle.upload_book.specs.inside.Pieces.{HasOwnPiece, ReadsWhole, final_of}
use Rattle.upload_book.specs.inside.Places.{MayKeep}
use Rattle.upload_book.specs.snapshot.Restore.{sent_back, sent_in, upload_back}
use Rattle.upload_book.specs.snapshot.Restored.{RestoredSegment}
use Rattle.upload_book.specs.Stored.{StoredTenant, StoredUpload, charge_on, entry_of, part_of, parts_of, pieces_len, pieces_of, places_on, upload_of, HoldsPieces}
use Rattle.upload_book.specs.TenantBook.{Entry, TenantBook, with_new}
use Rattle.upload_book.specs.Upload.{Upload}
use Rattle.upload_book.proofs.Charge.InUse.{Contains-first, Contains-later}
use Rattle.upload_book.proofs.Restoring.FinalFound.{sent-pieces, sent_pieces}
use Rattle.upload_book.proofs.Store.InOrder.{AreInOrder-push}
use Rattle.upload_book.proofs.Store.BackGrows.{AreHad, AreHad-to, AreToHave, MayBring-next, grown, own-grown}
use Rattle.upload_book.proofs.Store.JoinLemmas.{pieces-few}
use Rattle.upload_book.proofs.Store.OwnLemmas.{HasOwnPiece-final}
use Rattle.upload_book.proofs.Store.PlainStoredTenants.{KeepBytes, part-with_new}
use Rattle.upload_book.proofs.Store.StoreAppend.{free-read}
use Rattle.upload_book.proofs.Store.StoredTenants.{HoldsPieces-changed, IsStoredOn-stored_tenant, IsStoredTenant, charge-changed, places_on-held}
use Rattle.upload_book.proofs.Store.StoreLemmas.{with_stored_tenant, IsPart, IsStoredTenant-part, stored_tenant_at-part, own-part, order-part, reads-part, charge-part, IsKept-with_stored_tenant, plain_in-with_stored_tenant}

-- pieces that read whole are as long as their bytes
sent-lens : (q : Blocks) (pieces : List Piece) → ReadsWhole q pieces → sent_len (sent_pieces q pieces) ≡ pieces_len pieces
sent-lens q [] reads = refl
sent-lens q (x ∷ pieces) reads =
    let here : length (content_of q x.chain) ≡ x.chain.len = reads x (Contains-first x pieces) in
    let rest : sent_len (sent_pieces q pieces) ≡ pieces_len pieces = sent-lens q pieces (λ y c. reads y (Contains-later x y pieces c)) in
    sum_by-cons (λ (s : ℕ × List ℕ). length s.1) (x.origin, content_of q x.chain) (sent_pieces q pieces) ∙ ap₂ (λ (a b : ℕ). a + b) here rest ∙ sym (sum_by-cons (λ (x : Piece). x.chain.len) x pieces)

-- their origins and their bytes
sent-firsts : (q : Blocks) (pieces : List Piece) → map {A = ℕ × List ℕ} {B = ℕ} (λ s. s.0) (sent_pieces q pieces) ≡ map {A = Piece} {B = ℕ} (λ x. x.origin) pieces
sent-firsts q [] = refl
sent-firsts q (x ∷ pieces) = ap (λ (rest : List ℕ). x.origin ∷ rest) (sent-firsts q pieces)

sent-seconds : (q : Blocks) (pieces : List Piece) → map {A = ℕ × List ℕ} {B = List ℕ} (λ s. s.1) (sent_pieces q pieces) ≡ map {A = Piece} {B = List ℕ} (λ x. content_of q x.chain) pieces
sent-seconds q [] = refl
sent-seconds q (x ∷ pieces) = ap (λ (rest : List (List ℕ)). content_of q x.chain ∷ rest) (sent-seconds q pieces)

module _ (v : Inside) (t : ℕ) (old : KeptTenant) (r : ReadyBack) (kept : IsKept v) (part : IsPart v t old) (may : MayKeep (store_of v) t r) where
  abbrev was : StoredTenant
  was = stored_tenant_of old

  abbrev segments : List RestoredSegment
  segments = r.upload.segments

  -- the segments that stand are the pieces
  standing : sent_in (part_at (store_of v) t).uploads ≡ sent_pieces v.pool (pieces_of was)
  standing = ap (λ (s : StoredTenant). sent_in (part_of v.pool s).uploads) (stored_tenant_at-part v t old part) ∙ sent-pieces v.pool was.uploads (own-part v t old kept part)

  -- there are few
  pieces-most : length (pieces_of was) ≤ 2097152
  pieces-most =
      let here = stored_tenant_at-part v t old part in
      let each : All (λ (e : Entry StoredUpload). length e.kept.pieces ≤ 32) was.uploads = λ k d l.
      let e : Entry StoredUpload = get_or was.uploads k d in
      let entry : get_or (part_of v.pool was).uploads k (entry_of v.pool d) ≡ entry_of v.pool e = get_or-map (entry_of v.pool) was.uploads k d (entry_of v.pool d) l in
      let few : All (λ (e : Entry Upload). length e.kept.segments ≤ 32) (part_of v.pool was).uploads = subst (λ (s : StoredTenant). All (λ (e : Entry Upload). length e.kept.segments ≤ 32) (part_of v.pool s).uploads) here may.few.segments in
      omega (arith, few k (entry_of v.pool d) (omega (arith, l, length-map was.uploads (entry_of v.pool))), ap (λ (e : Entry Upload). length e.kept.segments) entry, length-map e.kept.pieces (λ (x : Piece). content_of v.pool x.chain)) in
      let uploads : length was.uploads ≤ 65536 = omega (arith, may.few.uploads, ap (λ (s : StoredTenant). length (part_of v.pool s).uploads) here, length-map was.uploads (entry_of v.pool)) in
      omega (arith, uploads, pieces-few was 32 each)

  to-have : AreToHave v.pool was segments
  to-have = record {
    on = IsStoredOn-stored_tenant v.pool (store_of v).stored_tenants t was kept.stored (IsStoredTenant-part v t old part);
    reads = reads-part v t old kept part;
    size = kept.size;
    sent = may.sent;
    had = ap (λ (standing : List (ℕ × List ℕ)). sent_back standing segments) (sym standing) ∙ may.had;
    given = subst (λ (s : StoredTenant). All (λ (x : RestoredSegment). x.origin < s.next) segments) (stored_tenant_at-part v t old part) may.given;
    few = omega (arith, pieces-most, may.segments);
    blocks = free-read v (brought_in v.pool.block_size segments) kept may.fits;
  }

  -- the upload with these pieces
  abbrev joined : Bool → List Piece → StoredUpload
  joined boxed pieces = final_of boxed (final_named r.upload) pieces r.upload.expires

  -- each may be had
  pub back-may : MayBringEach v.pool (pieces_of was) segments r.bodies.items
  back-may = record {
    long = may.rooms.long;
    each = λ k q pieces s x within brings at is.
        let room : IsRoomFor v.pool.block_size (unwrap_or (segment_len (pieces_of (stored_tenant_at (store_of v) t)) (take k segments) (get_or segments k s)) 0) (get_or r.bodies.items k x) = may.rooms.each k s x (omega (arith, within, may.rooms.long)) in
        let here : IsRoomFor v.pool.block_size (unwrap_or (segment_len (pieces_of was) (take k segments) s) 0) x =
        subst (λ (x : Chain). IsRoomFor v.pool.block_size (unwrap_or (segment_len (pieces_of was) (take k segments) s) 0) x) (sym is)
        (subst (λ (s' : RestoredSegment). IsRoomFor v.pool.block_size (unwrap_or (segment_len (pieces_of was) (take k segments) s') 0) (get_or r.bodies.items k x)) (sym at)
        (subst (λ (st : StoredTenant). IsRoomFor v.pool.block_size (unwrap_or (segment_len (pieces_of st) (take k segments) (get_or segments k s)) 0) (get_or r.bodies.items k x)) (stored_tenant_at-part v t old part) room)) in
        MayBring-next v.pool was (joined true []) segments to-have k q pieces s (AreHad-to v.pool was (joined true []) segments to-have k q pieces (omega (arith, within)) brings) within at x here;
  }

  module _ (q : Blocks) (pieces : List Piece) (brings : BringsTo v.pool (pieces_of was) segments (length segments) q pieces) where
    abbrev now : Bool → StoredTenant
    now boxed = grown was (joined boxed pieces) pieces

    had-as : (boxed : Bool) → AreHad v.pool was (joined boxed pieces) segments (length segments) q pieces
    had-as boxed = AreHad-to v.pool was (joined boxed pieces) segments to-have (length segments) q pieces (omega arith) brings

    had : AreHad v.pool was (joined true pieces) segments (length segments) q pieces
    had = had-as true

    -- the blocks of what they bring were taken
    pub back-used : free_in q + brought_in v.pool.block_size segments ≡ free_in v.pool
    back-used = subst (λ (l : List RestoredSegment). free_in q + brought_in v.pool.block_size l ≡ free_in v.pool) (take_all (length segments) segments (omega arith)) had.used

    pub sizes-back : SameSizes v.pool q
    sizes-back = had.grows.changes.sizes

    -- the segments are those that are put back
    sent-is : may.sent ≡ sent_pieces q pieces
    unfolding to-have
    sent-is =
        let all : sent_back (sent_pieces v.pool (pieces_of was)) segments ≡ Some had.done = ap (sent_back (sent_pieces v.pool (pieces_of was))) (sym (take_all (length segments) segments (omega arith))) ∙ had.had in
        let both : Some may.sent ≡ Some had.done = sym to-have.had ∙ all in
        let one : may.sent ≡ had.done = (cc) in
        one ∙ sym had.same

    reads-own : ReadsWhole q pieces
    reads-own x c = had.grows.reads x (own-grown was (joined true pieces) pieces x c)

    pub back-len : unwrap_or r.upload.declared 0 ≡ pieces_len pieces
    back-len = ap (λ (n : Option ℕ). unwrap_or n 0) may.whole ∙ ap sent_len sent-is ∙ sent-lens q pieces reads-own

    -- the upload is the one that is put back
    upload-is : (boxed : Bool) (sent : List (ℕ × List ℕ)) → sent_back (sent_in (part_at (store_of v) t).uploads) segments ≡ Some sent → upload_of q (joined boxed pieces) ≡ upload_back r.upload sent
    upload-is boxed sent is =
        let both : Some sent ≡ Some may.sent = sym is ∙ may.had in
        let one : sent ≡ sent_pieces q pieces = (let same : sent ≡ may.sent = (cc) in same ∙ sent-is) in
        let declared : Some (pieces_len pieces) ≡ r.upload.declared = ap Some (sym (ap sent_len sent-is ∙ sent-lens q pieces reads-own)) ∙ sym may.whole in
        let made : Kind → Option ℕ → Option ℕ → List ℕ → List (List ℕ) → Upload =
        λ kind declared expires origins contents. record {
          kind = kind;
          parts = parts_of kind origins;
          declared = declared;
          segments = contents;
          metadata = r.upload.metadata;
          concat = r.upload.concat;
          expires = expires;
        } in
        ap₂ (λ (kind : Kind) (declared : Option ℕ). made kind declared r.upload.expires (map {A = Piece} {B = ℕ} (λ x. x.origin) pieces) (map {A = Piece} {B = List ℕ} (λ x. content_of q x.chain) pieces)) (sym may.final) declared
        ∙ ap₂ (λ (origins : List ℕ) (contents : List (List ℕ)). made r.upload.kind r.upload.declared r.upload.expires origins contents) (sym (sent-firsts q pieces)) (sym (sent-seconds q pieces))
        ∙ ap (λ (sent : List (ℕ × List ℕ)). made r.upload.kind r.upload.declared r.upload.expires (map {A = ℕ × List ℕ} {B = ℕ} (λ s. s.0) sent) (map {A = ℕ × List ℕ} {B = List ℕ} (λ s. s.1) sent)) (sym one)

    module _ (boxed : Bool) (changed : KeptTenant) (taken : ℕ) (free : taken + free_in q ≡ free_in v.pool) (quota : changed.quota ≡ old.quota) (next : changed.next ≡ old.next + 1) (charge : changed.charge ≡ old.charge + taken) (uploads : changed.uploads.items ≡ old.uploads.items ++ record { id = old.next; kept = joined boxed pieces } ∷ [])
        (room : HasUploadRoom v.room changed) where
      stored_tenant : stored_tenant_of changed ≡ now boxed
      stored_tenant = rw (quota, next, uploads) refl

      there : IsStoredTenant (store_of v).stored_tenants t was
      there = IsStoredTenant-part v t old part

      -- the blocks of others keep their bytes
      elsewhere : (k : ℕ) (other : StoredTenant) → IsStoredTenant (store_of v).stored_tenants k other → k ≢ t → KeepBytes v.pool q (λ b. places_on b other)
      elsewhere k other is differs b some =
          (had-as boxed).grows.bytes b (omega (arith, some, places_on-held v.pool other (IsStoredOn-stored_tenant v.pool (store_of v).stored_tenants k other kept.stored is) b))

      pays : charge_on v.pool.block_size (now boxed) ≡ charge_on v.pool.block_size was + taken
      pays = more _ _ _ _ _ (charge-changed v.pool (store_of v).stored_tenants t was q (now boxed) kept.stored there (had-as boxed).grows.changes) free where
        more : (f g a b n : ℕ) → g + b ≡ f + a → n + g ≡ f → b ≡ a + n
        more f g a b n change free = omega arith

      pub IsKept-back : IsKept (with_stored_tenant v q t changed)
      IsKept-back =
          IsKept-with_stored_tenant v q t old changed kept part (had-as boxed).grows.changes.sizes
          (subst (λ (s : StoredTenant). HoldsPieces q (set (store_of v).stored_tenants t s)) (sym stored_tenant) (HoldsPieces-changed v.pool (store_of v).stored_tenants t was q (now boxed) kept.stored there (had-as boxed).grows.changes))
          elsewhere
          (subst (λ (s : StoredTenant). All HasOwnPiece s.uploads) (sym stored_tenant) (All-push HasOwnPiece was.uploads (record { id = old.next; kept = joined boxed pieces }) (own-part v t old kept part) (HasOwnPiece-final (record { id = old.next; kept = joined boxed pieces }) refl)))
          (subst (λ (s : StoredTenant). ReadsWhole q (pieces_of s)) (sym stored_tenant) (had-as boxed).grows.reads)
          (subst AreInOrder (sym stored_tenant) (AreInOrder-push was (joined boxed pieces) (λ x c. let given = ((had-as boxed).grows.changes.pieces.each x (own-grown was (joined boxed pieces) pieces x c)).given in omega (arith, given)) (order-part v t old kept part)))
          (charge ∙ ap (λ (n : ℕ). n + taken) (charge-part v t old kept part) ∙ sym pays ∙ ap (charge_on v.pool.block_size) (sym stored_tenant))
          room

      pub plain-back : (sent : List (ℕ × List ℕ)) → sent_back (sent_in (part_at (store_of v) t).uploads) segments ≡ Some sent
          → plain_in (store_of (with_stored_tenant v q t changed)) ≡ set (plain_in (store_of v)) t (with_new (part_at (store_of v) t) (upload_back r.upload sent))
      plain-back sent is =
          plain_in-with_stored_tenant v q t old changed part elsewhere
          ∙ ap (λ (s : StoredTenant). set (plain_in (store_of v)) t (part_of q s)) stored_tenant
          ∙ ap (set (plain_in (store_of v)) t)
          (part-with_new v.pool q was (joined boxed pieces) (λ b some. (had-as boxed).grows.bytes b (omega (arith, some, places_on-held v.pool was to-have.on b)))
          ∙ ap₂ (λ (part : TenantBook) (u : Upload). with_new part u) (ap (part_of v.pool) (sym (stored_tenant_at-part v t old part))) (upload-is boxed sent is))
