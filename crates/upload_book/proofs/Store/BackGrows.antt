-- A final upload that is put back gets its pieces, one after another: each holds blocks of its tenant once more, or has bytes
-- that are brought.
use Rattle.std.proofs.Common.{◌≡◌, ◌≢◌, ℕ, zero, suc, ◌+◌, ◌<◌, ◌≤◌, List, [], ◌∷◌, ◌++◌, length, get_or, take, drop, Option, None, Some, option_map, unwrap_or, refl, inl, inr, ap, ap₂, sym, subst, ◌∙◌, arith, append_assoc, append-nil, length-append}
use Rattle.std.specs.List.{All, Contains, sum_by}
use Rattle.std.proofs.lemmas.Bool.{cases_lt}
use Rattle.std.proofs.lemmas.List.{map-append, take-append-drop, take_more}
use Rattle.std.proofs.lemmas.List.Elements.{Contains-append_right, Contains-push_cases}
use Rattle.std.proofs.lemmas.List.Sums.{sum_by-append}
use Rattle.block_pool.specs.Blocks.{Blocks, bytes_at, bytes_of as blocks_read, count_at, free_in, places_of}
use Rattle.block_bodies.specs.Bodies.{Chain, StandsOnce, blocks_for, content_of}
use Rattle.block_bodies.specs.Changes.{Holds, MayHold, Puts}
use Rattle.block_bodies.proofs.EachBlock.{Holds-none}
use Rattle.upload_book.specs.declared.pieces.Piece.{Piece}
use Rattle.upload_book.specs.inside.FinalBack.{Brings, BringsTo, HasBytes, IsRoomFor, MayBring, brought_blocks, brought_in, chain_from, segment_len}
use Rattle.upload_book.specs.inside.Pieces.{ReadsWhole, no_chain}
use Rattle.upload_book.specs.snapshot.Restore.{bytes_back, bytes_from, sent_back}
use Rattle.upload_book.specs.snapshot.Restored.{RestoredSegment}
use Rattle.upload_book.specs.Stored.{Segment, StoredTenant, StoredUpload, pieces_of, places_on, segment_of}
use Rattle.upload_book.specs.TenantBook.{with_new}
use Rattle.upload_book.proofs.Charge.InUse.{Contains-cases, Contains-none, places-within}
use Rattle.upload_book.proofs.Restoring.FinalFound.{bytes_from-chain, chain_from-alone, chain_from-contains, next-has, segment_len-is, sent-more, sent_piece, sent_pieces}
use Rattle.upload_book.proofs.Store.BackLemmas.{Changes-brought, Changes-held, HasOneMore}
use Rattle.upload_book.proofs.Store.JoinLemmas.{Changes-join, MayHold-copies, pieces-with_new, places-with_new}
use Rattle.upload_book.proofs.Store.Pieces.{IsCopyIn}
use Rattle.upload_book.proofs.Store.PlainStoredTenants.{content-same, map-same}
use Rattle.upload_book.proofs.Store.PutLemmas.{own_piece}
use Rattle.upload_book.proofs.Store.StoredTenants.{Changes, IsStoredOn, places_on-held}

-- the part with an upload more, which has these pieces
abbrev pub grown : StoredTenant → StoredUpload → List Piece → StoredTenant
grown old new pieces = with_new old (record new { pieces = pieces })

-- whose pieces stand after the others
pub pieces-grown : (old : StoredTenant) (new : StoredUpload) (pieces : List Piece) → pieces_of (grown old new pieces) ≡ pieces_of old ++ pieces
pieces-grown old new pieces = pieces-with_new old (record new { pieces = pieces }) ∙ ap (λ (l : List Piece). pieces_of old ++ l) (append-nil pieces)

-- so they are the tenant's,
pub own-grown : (old : StoredTenant) (new : StoredUpload) (pieces : List Piece) (z : Piece) → Contains pieces z → Contains (pieces_of (grown old new pieces)) z
own-grown old new pieces z c = subst (λ (l : List Piece). Contains l z) (sym (pieces-grown old new pieces)) (Contains-append_right (pieces_of old) pieces z c)

-- and where it gets one more, so does the tenant
grown-more : (old : StoredTenant) (new : StoredUpload) (pieces : List Piece) (x : Piece) → HasOneMore (grown old new pieces) x (grown old new (pieces ++ x ∷ []))
grown-more old new pieces x = record {
  pieces = pieces-grown old new (pieces ++ x ∷ []) ∙ sym (append_assoc (pieces_of old) pieces (x ∷ [])) ∙ ap (λ (l : List Piece). l ++ x ∷ []) (sym (pieces-grown old new pieces));
  next = omega arith;
}

-- ---- changes, one after another

-- what is kept of the blocks of a tenant is kept,
pub IsStoredOn-changed : (p : Blocks) (old : StoredTenant) (q : Blocks) (s : StoredTenant) → IsStoredOn p old → Changes p old q s → IsStoredOn q s
IsStoredOn-changed p old q s on c = record {
  pieces = c.pieces;
  counts = λ b some. elim (cases_lt 0 (places_on b old)) [
    | inl before ↦ omega (arith, on.counts b before, c.counts b)
    | inr none ↦ let absent : places_on b old ≡ 0 = omega arith in omega (arith, c.fresh b some absent, c.counts b, absent)
  ];
}

-- and two are one
Changes-then : (p : Blocks) (old : StoredTenant) (q : Blocks) (s : StoredTenant) (r : Blocks) (t : StoredTenant) → Changes p old q s → Changes q s r t → Changes p old r t
Changes-then p old q s r t c d = record {
  sizes = record { blocks = d.sizes.blocks ∙ c.sizes.blocks; bytes = d.sizes.bytes ∙ c.sizes.bytes };
  pieces = d.pieces;
  counts = λ b. omega (arith, c.counts b, d.counts b);
  fresh = λ b some none. elim (cases_lt 0 (places_on b s)) [
    | inl middle ↦ c.fresh b middle none
    | inr absent ↦ let nowhere : places_on b s ≡ 0 = omega arith in omega (arith, d.fresh b some nowhere, c.counts b, nowhere, none)
  ];
}

-- ---- the pieces so far

-- What the blocks of a tenant are where its new final upload has these pieces: as they should be, those that somebody held
-- keep their bytes, and each piece reads whole.
pub record Grows (p : Blocks) (old : StoredTenant) (new : StoredUpload) (q : Blocks) (pieces : List Piece) : Type 0 where
  pub changes : Changes p old q (grown old new pieces)
  pub bytes : (b : ℕ) → 0 < count_at p b → bytes_at q b ≡ bytes_at p b
  pub reads : ReadsWhole q (pieces_of (grown old new pieces))

module _ (p : Blocks) (old : StoredTenant) (new : StoredUpload) (on : IsStoredOn p old) where
  -- with none it has the tenant's
  Grows-none : ReadsWhole p (pieces_of old) → Grows p old new p []
  Grows-none reads = record {
    changes = Changes-join p old (record new { pieces = [] }) p on (λ x c. absurd (Contains-none x c)) (Holds-none p);
    bytes = λ b some. refl;
    reads = subst (ReadsWhole p) (sym (pieces-grown old new [] ∙ append-nil (pieces_of old))) reads;
  }

  module _ (q : Blocks) (pieces : List Piece) (grows : Grows p old new q pieces) where
    abbrev now : StoredTenant
    now = grown old new pieces

    pub on-now : IsStoredOn q now
    on-now = IsStoredOn-changed p old q now on grows.changes

    -- all that are held of them are held by somebody
    held-now : (z : Piece) → Contains (pieces_of now) z → (b : ℕ) → 0 < places_of b z.chain.blocks → 0 < count_at q b
    held-now z c b some = omega (arith, some, places-within b (pieces_of now) z c, places_on-held q now on-now b)

    -- what was held is held
    still-held : (b : ℕ) → 0 < count_at p b → 0 < count_at q b
    still-held b some = elim (cases_lt 0 (places_on b old)) [
      | inl before ↦ omega (arith, grows.changes.counts b, on.counts b before, places-more b)
      | inr none ↦ omega (arith, grows.changes.counts b)
    ]
      where
        places-more : (b : ℕ) → places_on b old ≤ places_on b now
        places-more b = omega (arith, places-with_new b old (record new { pieces = pieces }))

    -- one more piece, held once more,
    Grows-held : (x : Piece) (r : Blocks) → IsCopyIn (pieces_of now) x → Holds q x.chain.blocks r → Grows p old new r (pieces ++ x ∷ [])
    Grows-held x r copy h = record {
      changes = Changes-then p old q now r (grown old new (pieces ++ x ∷ [])) grows.changes (Changes-held q now x r (grown old new (pieces ++ x ∷ [])) on-now (grown-more old new pieces x) copy h);
      bytes = λ b some. h.bytes b ∙ grows.bytes b some;
      reads = λ z c. elim (Contains-push_cases (pieces_of now) x z (subst (λ (l : List Piece). Contains l z) (grown-more old new pieces x).pieces c)) [
        | inl before ↦ ap (length {A = ℕ}) (content-same q r z.chain (λ b some. h.bytes b)) ∙ grows.reads z before
        | inr last ↦ subst (λ (z : Piece). length (content_of r z.chain) ≡ z.chain.len) last (
            let w = copy in
            let same : content_of r x.chain ≡ content_of r w.0.chain = ap (λ (s : Segment). take s.len (blocks_read r s.blocks)) w.2 in
            let len : x.chain.len ≡ w.0.chain.len = ap (λ (s : Segment). s.len) w.2 in
            ap (length {A = ℕ}) (same ∙ content-same q r w.0.chain (λ b some. h.bytes b)) ∙ grows.reads w.0 w.1 ∙ sym len)
      ];
    }

    -- or with bytes that are brought
    Grows-brought : (origin : ℕ) (bytes : List ℕ) (y : Chain) (r : Blocks) → origin < old.next + 1 → ((z : Piece) → Contains (pieces_of now) z → z.origin ≢ origin) → Puts q no_chain bytes r y → StandsOnce y.blocks → Grows p old new r (pieces ++ own_piece origin y ∷ [])
    Grows-brought origin bytes y r given alone puts once = record {
      changes = Changes-then p old q now r (grown old new (pieces ++ own_piece origin y ∷ [])) grows.changes (Changes-brought q now origin bytes r y (grown old new (pieces ++ own_piece origin y ∷ [])) on-now (grown-more old new pieces (own_piece origin y)) given alone puts once);
      bytes = λ b some. puts.others b (still-held b some) ∙ grows.bytes b some;
      reads = λ z c. elim (Contains-push_cases (pieces_of now) (own_piece origin y) z (subst (λ (l : List Piece). Contains l z) (grown-more old new pieces (own_piece origin y)).pieces c)) [
        | inl before ↦ ap (length {A = ℕ}) (content-same q r z.chain (λ b some. puts.others b (held-now z before b some))) ∙ grows.reads z before
        | inr last ↦ subst (λ (z : Piece). length (content_of r z.chain) ≡ z.chain.len) last (let read : length (content_of r y) ≡ length bytes = ap (length {A = ℕ}) puts.content in omega (arith, read, puts.len))
      ];
    }

-- ---- the segments so far

-- one that brings its bytes has them where none stand,
back-brings : (found : Option (List ℕ)) (b bytes : List ℕ) → bytes_back found (Some b) ≡ Some bytes → (found ≡ None) × (b ≡ bytes)
back-brings None b bytes back = (refl, cc)
back-brings (Some stand) b bytes back = absurd (cc)

-- and one that does not those that stand
back-held : (found : Option (List ℕ)) (bytes : List ℕ) → bytes_back found None ≡ Some bytes → found ≡ Some bytes
back-held None bytes back = absurd (cc)
back-held (Some stand) bytes back = back

none-mapped : {X Y : Type 0} (f : X → Y) (found : Option X) → option_map f found ≡ None → found ≡ None
none-mapped f None is = refl
none-mapped f (Some x) is = absurd (cc)

-- the first so many segments are had by these pieces, and the blocks of what they brought are taken
pub record AreHad (p : Blocks) (old : StoredTenant) (new : StoredUpload) (segments : List RestoredSegment) (k : ℕ) (q : Blocks) (pieces : List Piece) : Type 0 where
  pub grows : Grows p old new q pieces
  pub done : List (ℕ × List ℕ)
  pub had : sent_back (sent_pieces p (pieces_of old)) (take k segments) ≡ Some done
  pub same : sent_pieces q pieces ≡ done
  pub count : length pieces ≡ k
  pub used : free_in q + brought_in p.block_size (take k segments) ≡ free_in p

-- All segments of a final upload may be had behind the pieces of its tenant.
pub record AreToHave (p : Blocks) (old : StoredTenant) (segments : List RestoredSegment) : Type 0 where
  pub on : IsStoredOn p old
  pub reads : ReadsWhole p (pieces_of old)
  pub size : 0 < p.block_size
  pub sent : List (ℕ × List ℕ)
  pub had : sent_back (sent_pieces p (pieces_of old)) segments ≡ Some sent
  pub given : All (λ (s : RestoredSegment). s.origin < old.next) segments
  pub few : length (pieces_of old) + length segments + 1 < 18446744073709551616
  pub blocks : brought_in p.block_size segments ≤ free_in p

module _ (p : Blocks) (old : StoredTenant) (new : StoredUpload) (segments : List RestoredSegment) (all : AreToHave p old segments) where
  -- none are had at the start
  AreHad-none : AreHad p old new segments 0 p []
  AreHad-none = record {
    grows = Grows-none p old new all.on all.reads;
    done = [];
    had = refl;
    same = refl;
    count = refl;
    used = omega arith;
  }

  module _ (k : ℕ) (q : Blocks) (pieces : List Piece) (s : RestoredSegment) (so_far : AreHad p old new segments k q pieces) (within : k < length segments) (at : s ≡ get_or segments k s) where
    abbrev standing : List (ℕ × List ℕ)
    standing = sent_pieces p (pieces_of old)

    -- the segment has its bytes
    has : (bytes : List ℕ) × (bytes_back (bytes_from (standing ++ so_far.done) s.origin) s.bytes ≡ Some bytes)
    has = next-has standing segments all.sent k s so_far.done all.had within at so_far.had

    abbrev bytes : List ℕ
    bytes = has.0

    -- what stands now are the pieces over the changed pool
    stands : sent_pieces q (pieces_of old ++ pieces) ≡ standing ++ so_far.done
    stands =
        map-append (sent_piece q) (pieces_of old) pieces
        ∙ ap₂ (λ (a b : List (ℕ × List ℕ)). a ++ b)
        (map-same {X = Piece} {Y = ℕ × List ℕ} (sent_piece q) (sent_piece p) (pieces_of old) (λ x c. ap (λ (bytes : List ℕ). (x.origin, bytes)) (content-same p q x.chain (λ b some. so_far.grows.bytes b (omega (arith, some, places-within b (pieces_of old) x c, places_on-held p old all.on b))))))
        so_far.same

    found : bytes_from (standing ++ so_far.done) s.origin ≡ option_map (content_of q) (chain_from (pieces_of old ++ pieces) s.origin)
    found = ap (λ (l : List (ℕ × List ℕ)). bytes_from l s.origin) (sym stands) ∙ bytes_from-chain q (pieces_of old ++ pieces) s.origin

    brought-as : (brought : Option (List ℕ)) → s.bytes ≡ brought → bytes_back (bytes_from (standing ++ so_far.done) s.origin) brought ≡ Some bytes
    brought-as brought is = subst (λ (brought : Option (List ℕ)). bytes_back (bytes_from (standing ++ so_far.done) s.origin) brought ≡ Some bytes) is has.1

    -- one that is held has the bytes of what it holds
    held-content : (z : Chain) → s.bytes ≡ None → chain_from (pieces_of old ++ pieces) s.origin ≡ Some z → content_of q z ≡ bytes
    held-content z none is =
        let both : Some (content_of q z) ≡ Some bytes = sym (found ∙ ap (option_map (content_of q)) is) ∙ back-held (bytes_from (standing ++ so_far.done) s.origin) bytes (brought-as None none) in
        cc

    -- of those before it
    first : take (k + 1) segments ≡ take k segments ++ s ∷ []
    first = take_more segments k s within ∙ ap (λ (s : RestoredSegment). take k segments ++ s ∷ []) (sym at)

    brought-more : brought_in p.block_size (take (k + 1) segments) ≡ brought_in p.block_size (take k segments) + brought_blocks p.block_size s
    brought-more = ap (brought_in p.block_size) first ∙ sum_by-append (brought_blocks p.block_size) (take k segments) (s ∷ []) ∙ ap (λ (n : ℕ). brought_in p.block_size (take k segments) + n) (single (brought_blocks p.block_size) s) where
      single : (f : RestoredSegment → ℕ) (s : RestoredSegment) → sum_by f (s ∷ []) ≡ f s
      single f s = omega arith

    brought-within : brought_in p.block_size (take k segments) + brought_blocks p.block_size s ≤ brought_in p.block_size segments
    brought-within =
        let split : brought_in p.block_size segments ≡ brought_in p.block_size (take (k + 1) segments) + brought_in p.block_size (drop (k + 1) segments) =
        ap (brought_in p.block_size) (sym (take-append-drop (k + 1) segments)) ∙ sum_by-append (brought_blocks p.block_size) (take (k + 1) segments) (drop (k + 1) segments) in
        omega (arith, split, brought-more)

    -- a piece that is found
    in-now : (z : Chain) → chain_from (pieces_of old ++ pieces) s.origin ≡ Some z → Contains (pieces_of (grown old new pieces)) (record { origin = s.origin; chain = z })
    in-now z is = subst (λ (l : List Piece). Contains l (record { origin = s.origin; chain = z })) (sym (pieces-grown old new pieces)) (chain_from-contains (pieces_of old ++ pieces) s.origin z is)

    -- ---- it may be had

    on-q : IsStoredOn q (grown old new pieces)
    on-q = on-now p old new all.on q pieces so_far.grows

    sizes-q : q.block_size ≡ p.block_size
    sizes-q = so_far.grows.changes.sizes.bytes

    room-for : (x : Chain) → IsRoomFor p.block_size (unwrap_or (segment_len (pieces_of old) (take k segments) s) 0) x → blocks_for p.block_size (length bytes) ≤ x.room
    room-for x room =
        let len : segment_len (pieces_of old) (take k segments) s ≡ Some (length bytes) = segment_len-is p (pieces_of old) (take k segments) s so_far.done all.reads so_far.had ∙ ap (option_map length) has.1 in
        subst (λ (n : Option ℕ). blocks_for p.block_size (unwrap_or n 0) ≤ x.room) len room.room

    one-copy : (z : Chain) → chain_from (pieces_of old ++ pieces) s.origin ≡ Some z → MayHold q z.blocks
    one-copy z is =
        let y : Piece = record { origin = s.origin; chain = z } in
        let listed : MayHold q (z.blocks ++ []) =
        MayHold-copies q (grown old new pieces) (y ∷ []) on-q
        (λ x c. elim (Contains-cases y x [] c) [ inl same ↦ (y, in-now z is, ap segment_of (sym same)) | inr none ↦ absurd (Contains-none x none) ])
        (omega (arith, all.few, so_far.count, ap (length {A = Piece}) (pieces-grown old new pieces), length-append (pieces_of old) pieces, within)) in
        subst (MayHold q) (append-nil z.blocks) listed

    pub MayBring-next : (x : Chain) → IsRoomFor p.block_size (unwrap_or (segment_len (pieces_of old) (take k segments) s) 0) x → MayBring q (pieces_of old ++ pieces) s x
    MayBring-next x room = record {
      empty = room.empty;
      size = omega (arith, all.size, sizes-q);
      brought = λ b is.
          let one : b ≡ bytes = brings b is in
          let len : x.len ≡ 0 = ap (λ (x : Chain). x.len) room.empty in
          let blocks : blocks_for q.block_size (x.len + length b) ≡ blocks_for p.block_size (length bytes) = ap₂ (λ (size n : ℕ). blocks_for size n) sizes-q (ap₂ (λ (a c : ℕ). a + c) len (ap (length {A = ℕ}) one) ∙ omega arith) in
          let its : brought_blocks p.block_size s ≡ blocks_for p.block_size (length bytes) = ap (λ (brought : Option (List ℕ)). brought_blocks p.block_size (record { origin = s.origin; bytes = brought })) is ∙ ap (λ (b : List ℕ). blocks_for p.block_size (length b)) one in
          record {
            listed = omega (arith, blocks, room-for x room);
            free = omega (arith, blocks, its, brought-within, so_far.used, all.blocks);
          };
      held = λ none. stood none (chain_from (pieces_of old ++ pieces) s.origin) refl;
    }
      where
        brings : (b : List ℕ) → s.bytes ≡ Some b → b ≡ bytes
        brings b is = (back-brings (bytes_from (standing ++ so_far.done) s.origin) b bytes (brought-as (Some b) is)).1

        stood : s.bytes ≡ None → (chain : Option Chain) → chain_from (pieces_of old ++ pieces) s.origin ≡ chain → (z : Chain) × (chain_from (pieces_of old ++ pieces) s.origin ≡ Some z) × MayHold q z.blocks × (length z.blocks ≤ x.room)
        stood none None absent =
            let never : None ≡ Some bytes = sym (found ∙ ap (option_map (content_of q)) absent) ∙ back-held (bytes_from (standing ++ so_far.done) s.origin) bytes (brought-as None none) in
            absurd (cc)
        stood none (Some z) is =
            let content : content_of q z ≡ bytes = held-content z none is in
            let y : Piece = record { origin = s.origin; chain = z } in
            let blocks : length z.blocks ≡ blocks_for q.block_size z.len = (on-q.pieces.each y (in-now z is)).blocks in
            let whole : length (content_of q z) ≡ z.len = so_far.grows.reads y (in-now z is) in
            let same : blocks_for q.block_size z.len ≡ blocks_for p.block_size (length bytes) = ap₂ (λ (size n : ℕ). blocks_for size n) sizes-q (sym whole ∙ ap (length {A = ℕ}) content) in
            (z, is, one-copy z is, omega (arith, blocks, same, room-for x room))

    -- ---- it is had

    -- a piece with these bytes stands after the others
    same-more : (r : Blocks) (x : Chain) → ((z : Piece) → Contains pieces z → content_of r z.chain ≡ content_of q z.chain) → content_of r x ≡ bytes → sent_pieces r (pieces ++ own_piece s.origin x ∷ []) ≡ so_far.done ++ (s.origin, bytes) ∷ []
    same-more r x stay read =
        map-append (sent_piece r) pieces (own_piece s.origin x ∷ [])
        ∙ ap₂ (λ (a : List (ℕ × List ℕ)) (b : List ℕ). a ++ (s.origin, b) ∷ [])
        (map-same {X = Piece} {Y = ℕ × List ℕ} (sent_piece r) (sent_piece q) pieces (λ z c. ap (λ (bytes : List ℕ). (z.origin, bytes)) (stay z c)) ∙ so_far.same) read

    had-more : sent_back standing (take (k + 1) segments) ≡ Some (so_far.done ++ (s.origin, bytes) ∷ [])
    had-more = ap (sent_back standing) first ∙ sent-more standing (take k segments) s so_far.done bytes so_far.had has.1

    AreHad-held : (x z : Chain) (r : Blocks) → s.bytes ≡ None → chain_from (pieces_of old ++ pieces) s.origin ≡ Some z → x.blocks ≡ z.blocks → x.len ≡ z.len → Holds q x.blocks r → AreHad p old new segments (k + 1) r (pieces ++ own_piece s.origin x ∷ [])
    AreHad-held x z r none is blocks len holds =
        let y : Piece = record { origin = s.origin; chain = z } in
        let copied : segment_of (own_piece s.origin x) ≡ segment_of y = ap₂ (λ (blocks : List ℕ) (len : ℕ). segment_as s.origin blocks len) blocks len in
        let read : content_of r x ≡ bytes = ap₂ (λ (blocks : List ℕ) (len : ℕ). take len (blocks_read r blocks)) blocks len ∙ content-same q r z (λ b some. holds.bytes b) ∙ held-content z none is in
        let its : brought_blocks p.block_size s ≡ 0 = ap (λ (brought : Option (List ℕ)). brought_blocks p.block_size (record { origin = s.origin; bytes = brought })) none in
        record {
          grows = Grows-held p old new all.on q pieces so_far.grows (own_piece s.origin x) r (y, in-now z is, copied) holds;
          done = so_far.done ++ (s.origin, bytes) ∷ [];
          had = had-more;
          same = same-more r x (λ w c. content-same q r w.chain (λ b some. holds.bytes b)) read;
          count = length-append pieces (own_piece s.origin x ∷ []) ∙ ap (λ (n : ℕ). n + 1) so_far.count;
          used = omega (arith, holds.free, so_far.used, brought-more, its);
        }
      where
        segment_as : ℕ → List ℕ → ℕ → Segment
        segment_as origin blocks len = record { origin = origin; blocks = blocks; len = len }

    AreHad-brought : (x : Chain) (b : List ℕ) (r : Blocks) → s.bytes ≡ Some b → Puts q no_chain b r x → StandsOnce x.blocks → AreHad p old new segments (k + 1) r (pieces ++ own_piece s.origin x ∷ [])
    AreHad-brought x b r is puts once =
        let back = back-brings (bytes_from (standing ++ so_far.done) s.origin) b bytes (brought-as (Some b) is) in
        let absent : chain_from (pieces_of old ++ pieces) s.origin ≡ None = none-mapped (content_of q) (chain_from (pieces_of old ++ pieces) s.origin) (sym found ∙ back.0) in
        let blocks : length x.blocks ≡ blocks_for p.block_size (length b) = puts.body.blocks ∙ ap₂ (λ (size n : ℕ). blocks_for size n) (puts.sizes.bytes ∙ sizes-q) (omega (arith, puts.len)) in
        let its : brought_blocks p.block_size s ≡ blocks_for p.block_size (length b) = ap (λ (brought : Option (List ℕ)). brought_blocks p.block_size (record { origin = s.origin; bytes = brought })) is in
        let given : s.origin < old.next = subst (λ (s : RestoredSegment). s.origin < old.next) (sym at) (all.given k s within) in
        record {
          grows = Grows-brought p old new all.on q pieces so_far.grows s.origin b x r (omega (arith, given))
              (λ z c. chain_from-alone (pieces_of old ++ pieces) s.origin absent z (subst (λ (l : List Piece). Contains l z) (pieces-grown old new pieces) c)) puts once;
          done = so_far.done ++ (s.origin, bytes) ∷ [];
          had = had-more;
          same = same-more r x (λ w c. content-same q r w.chain (λ b some. puts.others b (held-now p old new all.on q pieces so_far.grows w (own-grown old new pieces w c) b some))) (puts.content ∙ back.1);
          count = length-append pieces (own_piece s.origin x ∷ []) ∙ ap (λ (n : ℕ). n + 1) so_far.count;
          used = omega (arith, puts.free, so_far.used, brought-more, its, blocks);
        }

    AreHad-more : (after : List Piece) (r : Blocks) → Brings q (pieces_of old) pieces s r after → AreHad p old new segments (k + 1) r after
    AreHad-more after r brings = subst (AreHad p old new segments (k + 1) r) (sym brings.is) (by s.bytes refl brings.has) where
      by : (brought : Option (List ℕ)) → s.bytes ≡ brought → HasBytes q (pieces_of old ++ pieces) s.origin brought r brings.chain → AreHad p old new segments (k + 1) r (pieces ++ own_piece s.origin brings.chain ∷ [])
      by (Some b) is it = AreHad-brought brings.chain b r is it.0 it.1
      by None none it = AreHad-held brings.chain it.0 r none it.1 it.2 it.3 it.4

  -- the first so many are had
  pub AreHad-to : (k : ℕ) (q : Blocks) (pieces : List Piece) → k ≤ length segments → BringsTo p (pieces_of old) segments k q pieces → AreHad p old new segments k q pieces
  AreHad-to zero q pieces within at = subst (λ (q : Blocks). AreHad p old new segments 0 q pieces) (sym at.0) (subst (AreHad p old new segments 0 p) (sym at.1) AreHad-none)
  AreHad-to (suc k) q pieces within more =
      let before : AreHad p old new segments k more.pool more.pieces = AreHad-to k more.pool more.pieces (omega (arith, within)) more.before in
      let less : k < length segments = omega (arith, within) in
      let next : k + 1 ≡ suc k = omega arith in
      subst (λ (n : ℕ). AreHad p old new segments n q pieces) next (AreHad-more k more.pool more.pieces more.segment before less more.at pieces q more.brings)
