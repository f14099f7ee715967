-- The segments of a final upload that is put back, found among the pieces of its tenant and the segments before them.
use Rattle.std.proofs.Common.{◌≡◌, ◌≢◌, ℕ, ◌+◌, ◌<◌, ◌≤◌, Bool, ◌&&◌, true, List, [], ◌∷◌, ◌++◌, map, length, get_or, take, drop, Option, Some, None, option_map, refl, inl, inr, sym, ap, ap₂, subst, ◌∙◌, arith, append_assoc, append-nil}
use Rattle.std.specs.List.{All, Contains, flat_map, list_all, position, sum_by, zip}
use Rattle.std.specs.Option.{option_map_or}
use Rattle.std.proofs.lemmas.Bool.Decides.{eqb_tells, nat_tests}
use Rattle.std.proofs.lemmas.List.{drop_more, map-append, take-append-drop, take_all, take_more}
use Rattle.std.proofs.lemmas.List.Elements.{All-head, All-tail}
use Rattle.std.proofs.lemmas.List.Quantifiers.{position-Some}
use Rattle.std.proofs.lemmas.List.Sums.{sum_by-append}
use Rattle.block_pool.specs.Blocks.{Blocks}
use Rattle.block_bodies.specs.Bodies.{Chain, content_of}
use Rattle.upload_book.specs.Charge.{origins}
use Rattle.upload_book.specs.declared.final_back.Left.{Left}
use Rattle.upload_book.specs.declared.head_row.Kind.{Kind}
use Rattle.upload_book.specs.declared.head_row.Kind.TheVariants.{Plain, Partial, Final}
use Rattle.upload_book.specs.declared.pieces.Piece.{Piece}
use Rattle.upload_book.specs.inside.FinalBack.{brought_blocks, brought_from, brought_in, chain_from, left_of, left_with, len_back, segment_len, sent_len}
use Rattle.upload_book.specs.inside.Pieces.{HasOwnPiece, ReadsWhole, own_chain}
use Rattle.upload_book.specs.Concat.{is_partial}
use Rattle.upload_book.specs.snapshot.Restore.{may_be_part, bytes_back, bytes_from, sent_back, sent_in, sent_of}
use Rattle.upload_book.specs.snapshot.Restored.{RestoredSegment}
use Rattle.upload_book.specs.Stored.{StoredTenant, StoredUpload, entry_of, part_of, parts_of, pieces_of, upload_of}
use Rattle.upload_book.specs.TenantBook.{Entry}
use Rattle.upload_book.specs.Upload.{Upload, is_complete}
use Rattle.upload_book.proofs.Charge.InUse.{Contains-cases, Contains-first, Contains-later, Contains-none}
use Rattle.upload_book.proofs.Restoring.LawfulBack.{sent-first}
use Rattle.upload_book.proofs.Lawful.Entries.{has_id, kept_in-position}
use Rattle.upload_book.proofs.Lawful.SeenLemmas.{kept_in-plain}
use Rattle.upload_book.proofs.Store.Pieces.{Contains-entry, kept_pieces}

-- a segment with its origin
abbrev Segment : Type 0
Segment = ℕ × List ℕ

-- ---- the first piece of an origin

-- what is found in the first of two lists is found in both,
pub chain_from-found : (xs ys : List Piece) (origin : ℕ) (z : Chain) → chain_from xs origin ≡ Some z → chain_from (xs ++ ys) origin ≡ Some z
chain_from-found [] ys origin z is = absurd (cc)
chain_from-found (x ∷ xs) ys origin z is = elim (eqb_tells x.origin origin) [
  | inl same ↦ rw same.0 (rw same.0 at is)
  | inr differs ↦ rw differs.0 (chain_from-found xs ys origin z (rw differs.0 at is))
]

-- else the second tells
pub chain_from-later : (xs ys : List Piece) (origin : ℕ) → chain_from xs origin ≡ None → chain_from (xs ++ ys) origin ≡ chain_from ys origin
chain_from-later [] ys origin none = refl
chain_from-later (x ∷ xs) ys origin none = elim (eqb_tells x.origin origin) [
  | inl same ↦ absurd (let some = rw same.0 at none in cc)
  | inr differs ↦ rw differs.0 (chain_from-later xs ys origin (rw differs.0 at none))
]

-- it is one of them
pub chain_from-contains : (xs : List Piece) (origin : ℕ) (z : Chain) → chain_from xs origin ≡ Some z → Contains xs (record { origin = origin; chain = z })
chain_from-contains [] origin z is = absurd (cc)
chain_from-contains (x ∷ xs) origin z is = elim (eqb_tells x.origin origin) [
  | inl same ↦
      let chain : x.chain ≡ z = (let some = rw same.0 at is in cc) in
      subst (λ (y : Piece). Contains (x ∷ xs) y) (rw (← same.1, ← chain) refl) (Contains-first x xs)
  | inr differs ↦ Contains-later x (record { origin = origin; chain = z }) xs (chain_from-contains xs origin z (rw differs.0 at is))
]

-- where none is found, none has the origin
pub chain_from-alone : (xs : List Piece) (origin : ℕ) → chain_from xs origin ≡ None → (z : Piece) → Contains xs z → z.origin ≢ origin
chain_from-alone [] origin none z there same = Contains-none z there
chain_from-alone (x ∷ xs) origin none z there is = elim (eqb_tells x.origin origin) [
  | inl same ↦ absurd (let some = rw same.0 at none in cc)
  | inr differs ↦ elim (Contains-cases x z xs there) [
    | inl first ↦ differs.1 (ap (λ (y : Piece). y.origin) first ∙ is)
    | inr later ↦ chain_from-alone xs origin (rw differs.0 at none) z later is
  ]
]

-- the pieces of the uploads from a place on
pub pieces-from : (uploads : List (Entry StoredUpload)) (k : ℕ) (e : Entry StoredUpload) → k < length uploads → e ≡ get_or uploads k e → flat_map kept_pieces (drop k uploads) ≡ e.kept.pieces ++ flat_map kept_pieces (drop (k + 1) uploads)
pieces-from uploads k e within read =
    ap (flat_map kept_pieces) (drop_more uploads k e within) ∙ ap (λ (e : Entry StoredUpload). e.kept.pieces ++ flat_map kept_pieces (drop (k + 1) uploads)) (sym read)

-- ---- pieces as segments

-- a piece with its bytes
abbrev pub sent_piece : Blocks → Piece → ℕ × List ℕ
sent_piece p x = (x.origin, content_of p x.chain)

-- several
abbrev pub sent_pieces : Blocks → List Piece → List (ℕ × List ℕ)
sent_pieces p pieces = map {A = Piece} {B = ℕ × List ℕ} (sent_piece p) pieces

zip-pieces : (p : Blocks) (pieces : List Piece) → zip (map {A = Piece} {B = ℕ} (λ x. x.origin) pieces) (map {A = Piece} {B = List ℕ} (λ x. content_of p x.chain) pieces) ≡ sent_pieces p pieces
zip-pieces p [] = refl
zip-pieces p (x ∷ pieces) = ap (λ (rest : List Segment). sent_piece p x ∷ rest) (zip-pieces p pieces)

-- the segments of an upload are its pieces
sent-kind : (p : Blocks) (id : ℕ) (kind : Kind) (pieces : List Piece) → (kind ≢ Final → pieces ≡ record { origin = id; chain = own_chain pieces } ∷ [])
    → zip (origins kind id (parts_of kind (map {A = Piece} {B = ℕ} (λ x. x.origin) pieces))) (map {A = Piece} {B = List ℕ} (λ x. content_of p x.chain) pieces) ≡ sent_pieces p pieces
sent-kind p id Plain pieces own =
    let one = own (λ is. absurd (cc)) in
    ap (λ (pieces : List Piece). zip (id ∷ []) (map {A = Piece} {B = List ℕ} (λ x. content_of p x.chain) pieces)) one ∙ sym (ap (sent_pieces p) one)
sent-kind p id Partial pieces own =
    let one = own (λ is. absurd (cc)) in
    ap (λ (pieces : List Piece). zip (id ∷ []) (map {A = Piece} {B = List ℕ} (λ x. content_of p x.chain) pieces)) one ∙ sym (ap (sent_pieces p) one)
sent-kind p id Final pieces own = zip-pieces p pieces

pub sent-kept : (p : Blocks) (e : Entry StoredUpload) → HasOwnPiece e → sent_of (entry_of p e) ≡ sent_pieces p e.kept.pieces
sent-kept p e own = sent-kind p e.id e.kept.kind e.kept.pieces own

-- so are those of all uploads of a tenant
pub sent-pieces : (p : Blocks) (uploads : List (Entry StoredUpload)) → All HasOwnPiece uploads → sent_in (map {A = Entry StoredUpload} {B = Entry Upload} (entry_of p) uploads) ≡ sent_pieces p (flat_map kept_pieces uploads)
sent-pieces p [] own = refl
sent-pieces p (e ∷ uploads) own =
    ap₂ (λ (first rest : List Segment). first ++ rest) (sent-kept p e (All-head HasOwnPiece e uploads own)) (sent-pieces p uploads (All-tail HasOwnPiece e uploads own))
    ∙ sym (map-append (sent_piece p) e.kept.pieces (flat_map kept_pieces uploads))

-- the bytes of an origin are those of the first piece of it
pub bytes_from-chain : (p : Blocks) (pieces : List Piece) (origin : ℕ) → bytes_from (sent_pieces p pieces) origin ≡ option_map (content_of p) (chain_from pieces origin)
bytes_from-chain p [] origin = refl
bytes_from-chain p (x ∷ pieces) origin = elim (eqb_tells x.origin origin) [
  | inl same ↦ rw same.0 refl
  | inr differs ↦ rw differs.0 (bytes_from-chain p pieces origin)
]

-- ---- segments, one after another

-- bytes that are found in the first of two lists are found in both,
pub bytes_from-found : (xs ys : List (ℕ × List ℕ)) (origin : ℕ) (bytes : List ℕ) → bytes_from xs origin ≡ Some bytes → bytes_from (xs ++ ys) origin ≡ Some bytes
bytes_from-found [] ys origin bytes is = absurd (cc)
bytes_from-found (x ∷ xs) ys origin bytes is = elim (eqb_tells x.0 origin) [
  | inl same ↦ rw same.0 (rw same.0 at is)
  | inr differs ↦ rw differs.0 (bytes_from-found xs ys origin bytes (rw differs.0 at is))
]

-- else the second tells
pub bytes_from-later : (xs ys : List (ℕ × List ℕ)) (origin : ℕ) → bytes_from xs origin ≡ None → bytes_from (xs ++ ys) origin ≡ bytes_from ys origin
bytes_from-later [] ys origin none = refl
bytes_from-later (x ∷ xs) ys origin none = elim (eqb_tells x.0 origin) [
  | inl same ↦ absurd (let some = rw same.0 at none in cc)
  | inr differs ↦ rw differs.0 (bytes_from-later xs ys origin (rw differs.0 at none))
]

-- where none stands of an origin, the first of it brings its bytes
sent-brought : (standing : List Segment) (segments : List RestoredSegment) (sent : List Segment) (origin : ℕ) → sent_back standing segments ≡ Some sent → bytes_from standing origin ≡ None → bytes_from sent origin ≡ brought_from segments origin
sent-brought standing [] sent origin is none = let empty : [] ≡ sent = (cc) in ap (λ (l : List Segment). bytes_from l origin) (sym empty)
sent-brought standing (s ∷ segments) sent origin is none =
    let first = sent-first standing s segments sent is in
    ap (λ (l : List Segment). bytes_from l origin) first.is ∙ elim (eqb_tells s.origin origin) [
      | inl same ↦
          let absent : bytes_from standing s.origin ≡ None = ap (bytes_from standing) same.1 ∙ none in
          rw same.0 (sym (rw absent at first.found))
      | inr differs ↦
          let absent : bytes_from (standing ++ (s.origin, first.bytes) ∷ []) origin ≡ None = bytes_from-later standing ((s.origin, first.bytes) ∷ []) origin none ∙ rw differs.0 refl in
          rw differs.0 (sent-brought (standing ++ (s.origin, first.bytes) ∷ []) segments first.others origin first.rest absent)
    ]

-- segments after others are put back behind them
pub sent-append : (standing : List (ℕ × List ℕ)) (xs ys : List RestoredSegment) (done : List (ℕ × List ℕ)) → sent_back standing xs ≡ Some done
    → sent_back standing (xs ++ ys) ≡ option_map (λ (rest : List (ℕ × List ℕ)). done ++ rest) (sent_back (standing ++ done) ys)
sent-append standing [] ys done is =
    let none : [] ≡ done = (cc) in
    subst (λ (done : List Segment). sent_back standing ys ≡ option_map (λ (rest : List Segment). done ++ rest) (sent_back (standing ++ done) ys)) none
    (itself (sent_back standing ys) ∙ ap (λ (l : List Segment). option_map (λ (rest : List Segment). rest) (sent_back l ys)) (sym (append-nil standing)))
  where
    itself : (found : Option (List Segment)) → found ≡ option_map (λ (rest : List Segment). rest) found
    itself None = refl
    itself (Some l) = refl
sent-append standing (s ∷ xs) ys done is =
    let first = sent-first standing s xs done is in
    let rest = sent-append (standing ++ (s.origin, first.bytes) ∷ []) xs ys first.others first.rest in
    let regrouped : standing ++ (s.origin, first.bytes) ∷ [] ++ first.others ≡ standing ++ done = append_assoc standing ((s.origin, first.bytes) ∷ []) first.others ∙ ap (λ (l : List Segment). standing ++ l) (sym first.is) in
    rw first.found (ap (option_map (λ (l : List Segment). (s.origin, first.bytes) ∷ l)) (rest ∙ ap (λ (l : List Segment). option_map (λ (rest : List Segment). first.others ++ rest) (sent_back l ys)) regrouped)
    ∙ both (s.origin, first.bytes) first.others (sent_back (standing ++ done) ys) ∙ ap (λ (l : List Segment). option_map (λ (rest : List Segment). l ++ rest) (sent_back (standing ++ done) ys)) (sym first.is))
  where
    both : (a : Segment) (others : List Segment) (found : Option (List Segment)) → option_map (λ (l : List Segment). a ∷ l) (option_map (λ (rest : List Segment). others ++ rest) found) ≡ option_map (λ (rest : List Segment). a ∷ others ++ rest) found
    both a others None = refl
    both a others (Some l) = refl

-- one more at the end
pub sent-more : (standing : List (ℕ × List ℕ)) (xs : List RestoredSegment) (s : RestoredSegment) (done : List (ℕ × List ℕ)) (bytes : List ℕ) → sent_back standing xs ≡ Some done → bytes_back (bytes_from (standing ++ done) s.origin) s.bytes ≡ Some bytes
    → sent_back standing (xs ++ s ∷ []) ≡ Some (done ++ (s.origin, bytes) ∷ [])
sent-more standing xs s done bytes is has = sent-append standing xs (s ∷ []) done is ∙ rw has refl

-- one that is not had
pub sent-lacks : (standing : List (ℕ × List ℕ)) (xs ys : List RestoredSegment) (s : RestoredSegment) (done : List (ℕ × List ℕ)) → sent_back standing xs ≡ Some done → bytes_back (bytes_from (standing ++ done) s.origin) s.bytes ≡ None → sent_back standing (xs ++ s ∷ ys) ≡ None
sent-lacks standing xs ys s done is lacks = sent-append standing xs (s ∷ ys) done is ∙ rw lacks refl

-- where all are had, so is each behind those before it
pub next-has : (standing : List (ℕ × List ℕ)) (segments : List RestoredSegment) (sent : List (ℕ × List ℕ)) (k : ℕ) (s : RestoredSegment) (done : List (ℕ × List ℕ)) → sent_back standing segments ≡ Some sent → k < length segments → s ≡ get_or segments k s → sent_back standing (take k segments) ≡ Some done
    → (bytes : List ℕ) × (bytes_back (bytes_from (standing ++ done) s.origin) s.bytes ≡ Some bytes)
next-has standing segments sent k s done all within read is = by (bytes_back (bytes_from (standing ++ done) s.origin) s.bytes) refl where
  split : take k segments ++ s ∷ drop (k + 1) segments ≡ segments
  split = ap (λ (l : List RestoredSegment). take k segments ++ l) (ap (λ (s : RestoredSegment). s ∷ drop (k + 1) segments) read ∙ sym (drop_more segments k s within)) ∙ take-append-drop k segments

  by : (found : Option (List ℕ)) → bytes_back (bytes_from (standing ++ done) s.origin) s.bytes ≡ found → (bytes : List ℕ) × (bytes_back (bytes_from (standing ++ done) s.origin) s.bytes ≡ Some bytes)
  by (Some bytes) found = (bytes, found)
  by None lacks =
      let never : Some sent ≡ None = sym all ∙ ap (sent_back standing) (sym split) ∙ sent-lacks standing (take k segments) (drop (k + 1) segments) s done is lacks in
      absurd (cc)

-- ---- how long a segment is

-- by lengths as by bytes
len-back : (found brought : Option (List ℕ)) → len_back (option_map length found) brought ≡ option_map length (bytes_back found brought)
len-back None brought = refl
len-back (Some bytes) None = refl
len-back (Some bytes) (Some again) = refl

pub segment_len-is : (p : Blocks) (pieces : List Piece) (earlier : List RestoredSegment) (s : RestoredSegment) (done : List (ℕ × List ℕ)) → ReadsWhole p pieces → sent_back (sent_pieces p pieces) earlier ≡ Some done
    → segment_len pieces earlier s ≡ option_map length (bytes_back (bytes_from (sent_pieces p pieces ++ done) s.origin) s.bytes)
segment_len-is p pieces earlier s done reads is = by (chain_from pieces s.origin) refl where
  by : (found : Option Chain) → chain_from pieces s.origin ≡ found → segment_len pieces earlier s ≡ option_map length (bytes_back (bytes_from (sent_pieces p pieces ++ done) s.origin) s.bytes)
  by None none =
      let absent : bytes_from (sent_pieces p pieces) s.origin ≡ None = bytes_from-chain p pieces s.origin ∙ ap (option_map (content_of p)) none in
      let found : bytes_from (sent_pieces p pieces ++ done) s.origin ≡ brought_from earlier s.origin = bytes_from-later (sent_pieces p pieces) done s.origin absent ∙ sent-brought (sent_pieces p pieces) earlier done s.origin is absent in
      rw (none, found) (len-back (brought_from earlier s.origin) s.bytes)
  by (Some z) stands =
      let there = chain_from-contains pieces s.origin z stands in
      let len : length (content_of p z) ≡ z.len = reads (record { origin = s.origin; chain = z }) there in
      let found : bytes_from (sent_pieces p pieces ++ done) s.origin ≡ Some (content_of p z) = bytes_from-found (sent_pieces p pieces) done s.origin (content_of p z) (bytes_from-chain p pieces s.origin ∙ ap (option_map (content_of p)) stands) in
      rw (stands, found) (ap (λ (n : ℕ). len_back (Some n) s.bytes) (sym len) ∙ len-back (Some (content_of p z)) s.bytes)

-- ---- what is left of limits

left_of-none : (limit : Option ℕ) → left_of limit 0 ≡ limit
left_of-none None = refl
left_of-none (Some limit) = grind (arith, nat_tests)

left_of-more : (limit : Option ℕ) (a b : ℕ) → left_of (left_of limit a) b ≡ left_of limit (a + b)
left_of-more None a b = refl
left_of-more (Some limit) a b = grind (arith, nat_tests)

pub left-with_none : (limits : Left) → left_with limits 0 0 ≡ limits
left-with_none limits = rw (left_of-none limits.bytes, left_of-none limits.quota, left_of-none limits.total) refl

left-more : (limits : Left) (a b c d : ℕ) → left_with (left_with limits a b) c d ≡ left_with limits (a + c) (b + d)
left-more limits a b c d = rw (left_of-more limits.bytes a c, left_of-more limits.quota b d, left_of-more limits.total b d) refl

-- so much is left of limits where the first so many segments are had
pub record IsLeft (standing : List (ℕ × List ℕ)) (segments : List RestoredSegment) (k : ℕ) (limits : Left) (size : ℕ) (left : Left) : Type 0 where
  pub done : List (ℕ × List ℕ)
  pub had : sent_back standing (take k segments) ≡ Some done
  pub is : left ≡ left_with limits (sent_len done) (brought_in size (take k segments))

pub IsLeft-none : (standing : List (ℕ × List ℕ)) (segments : List RestoredSegment) (limits : Left) (size : ℕ) → IsLeft standing segments 0 limits size limits
IsLeft-none standing segments limits size = record { done = []; had = refl; is = sym (left-with_none limits) }

-- the bytes of one that is had
some-bytes : (found : Option (List ℕ)) (len : ℕ) → option_map length found ≡ Some len → (bytes : List ℕ) × (found ≡ Some bytes) × (length bytes ≡ len)
some-bytes None len is = absurd (cc)
some-bytes (Some bytes) len is = (bytes, refl, cc)

no-bytes : (found : Option (List ℕ)) → option_map length found ≡ None → found ≡ None
no-bytes None is = refl
no-bytes (Some bytes) is = absurd (cc)

pub IsLeft-more : (p : Blocks) (pieces : List Piece) (segments : List RestoredSegment) (k len blocks : ℕ) (s : RestoredSegment) (limits left : Left) (size : ℕ) → ReadsWhole p pieces → k < length segments → s ≡ get_or segments k s
    → segment_len pieces (take k segments) s ≡ Some len → blocks ≡ brought_blocks size s → IsLeft (sent_pieces p pieces) segments k limits size left → IsLeft (sent_pieces p pieces) segments (k + 1) limits size (left_with left len blocks)
IsLeft-more p pieces segments k len blocks s limits left size reads within read told takes so_far =
    let first : take (k + 1) segments ≡ take k segments ++ s ∷ [] = take_more segments k s within ∙ ap (λ (s : RestoredSegment). take k segments ++ s ∷ []) (sym read) in
    let found = some-bytes (bytes_back (bytes_from (sent_pieces p pieces ++ so_far.done) s.origin) s.bytes) len (sym (segment_len-is p pieces (take k segments) s so_far.done reads so_far.had) ∙ told) in
    let sum : sent_len (so_far.done ++ (s.origin, found.0) ∷ []) ≡ sent_len so_far.done + len = sum_by-append (λ (s : Segment). length s.1) so_far.done ((s.origin, found.0) ∷ []) ∙ ap (λ (n : ℕ). sent_len so_far.done + n) (one s.origin found.0 found.2) in
    let more : brought_in size (take (k + 1) segments) ≡ brought_in size (take k segments) + blocks =
    ap (brought_in size) first ∙ sum_by-append (brought_blocks size) (take k segments) (s ∷ []) ∙ ap (λ (n : ℕ). brought_in size (take k segments) + n) (single (brought_blocks size) s blocks takes) in
    record {
      done = so_far.done ++ (s.origin, found.0) ∷ [];
      had = ap (sent_back (sent_pieces p pieces)) first ∙ sent-more (sent_pieces p pieces) (take k segments) s so_far.done found.0 so_far.had found.1;
      is = ap (λ (left : Left). left_with left len blocks) so_far.is ∙ left-more limits (sent_len so_far.done) (brought_in size (take k segments)) len blocks ∙ ap₂ (left_with limits) (sym sum) (sym more);
    }
  where
    one : (origin : ℕ) (bytes : List ℕ) → length bytes ≡ len → sum_by (λ (s : Segment). length s.1) ((origin, bytes) ∷ []) ≡ len
    one origin bytes is = omega (arith, is)

    single : (f : RestoredSegment → ℕ) (s : RestoredSegment) (n : ℕ) → n ≡ f s → sum_by f (s ∷ []) ≡ n
    single f s n is = omega (arith, is)

-- where one is not had, none are
pub IsLeft-lacks : (p : Blocks) (pieces : List Piece) (segments : List RestoredSegment) (k : ℕ) (s : RestoredSegment) (limits left : Left) (size : ℕ) → ReadsWhole p pieces → k < length segments → s ≡ get_or segments k s
    → segment_len pieces (take k segments) s ≡ None → IsLeft (sent_pieces p pieces) segments k limits size left → sent_back (sent_pieces p pieces) segments ≡ None
IsLeft-lacks p pieces segments k s limits left size reads within read lacks so_far =
    let all : take k segments ++ s ∷ drop (k + 1) segments ≡ segments = ap (λ (l : List RestoredSegment). take k segments ++ l) (ap (λ (s : RestoredSegment). s ∷ drop (k + 1) segments) read ∙ sym (drop_more segments k s within)) ∙ take-append-drop k segments in
    let absent = no-bytes (bytes_back (bytes_from (sent_pieces p pieces ++ so_far.done) s.origin) s.bytes) (sym (segment_len-is p pieces (take k segments) s so_far.done reads so_far.had) ∙ lacks) in
    ap (sent_back (sent_pieces p pieces)) (sym all) ∙ sent-lacks (sent_pieces p pieces) (take k segments) (drop (k + 1) segments) s so_far.done so_far.had absent

-- ---- what stands under the id of a part

-- the upload at its place tells whether it may be one,
pub part-at : (p : Blocks) (t : StoredTenant) (id place : ℕ) (e : Entry StoredUpload) → position (has_id id) t.uploads ≡ Some place → e ≡ get_or t.uploads place e → may_be_part (part_of p t) id ≡ (is_partial e.kept.kind && is_complete (upload_of p e.kept))
part-at p t id place e at read =
    ap (λ (found : Option Upload). option_map_or (λ (u : Upload). is_partial u.kind && is_complete u) found true)
    (kept_in-plain p t.uploads id
    ∙ ap (option_map (upload_of p)) (kept_in-position t.uploads id e ∙ ap (option_map (λ (i : ℕ). (get_or t.uploads i e).kept)) at ∙ ap (λ (e : Entry StoredUpload). Some e.kept) (sym read)))

-- and where none stands, it may
pub part-none : (p : Blocks) (t : StoredTenant) (id : ℕ) (d : Entry StoredUpload) → position (has_id id) t.uploads ≡ None → may_be_part (part_of p t) id ≡ true
part-none p t id d none =
    ap (λ (found : Option Upload). option_map_or (λ (u : Upload). is_partial u.kind && is_complete u) found true)
    (kept_in-plain p t.uploads id ∙ ap (option_map (upload_of p)) (kept_in-position t.uploads id d ∙ ap (option_map (λ (i : ℕ). (get_or t.uploads i d).kept)) none))

-- a piece of an upload is one of its tenant
pub reads-upload : (p : Blocks) (t : StoredTenant) (id place : ℕ) (e : Entry StoredUpload) → position (has_id id) t.uploads ≡ Some place → e ≡ get_or t.uploads place e → ReadsWhole p (pieces_of t) → ReadsWhole p e.kept.pieces
reads-upload p t id place e at read reads x there =
    reads x (Contains-entry t place e x (record { within = (position-Some (has_id id) t.uploads place e at).0; read = read }) there)

-- where all are had, so much is left
pub IsLeft-all : (standing : List (ℕ × List ℕ)) (segments : List RestoredSegment) (k : ℕ) (limits : Left) (size : ℕ) (left : Left) → length segments ≤ k → IsLeft standing segments k limits size left
    → Some left ≡ option_map (λ (sent : List (ℕ × List ℕ)). left_with limits (sent_len sent) (brought_in size segments)) (sent_back standing segments)
IsLeft-all standing segments k limits size left most all =
    let whole : take k segments ≡ segments = take_all k segments most in
    let had : sent_back standing segments ≡ Some all.done = ap (sent_back standing) (sym whole) ∙ all.had in
    let is : left ≡ left_with limits (sent_len all.done) (brought_in size segments) = all.is ∙ ap (λ (l : List RestoredSegment). left_with limits (sent_len all.done) (brought_in size l)) whole in
    rw had (ap Some is)

-- ---- whether each may be a part

pub all-at : {X : Type 0} (test : X → Bool) (xs : List X) (k : ℕ) (x : X) → k < length xs → x ≡ get_or xs k x → list_all test (drop k xs) ≡ (test x && list_all test (drop (k + 1) xs))
all-at {X} test xs k x within read = ap (list_all test) (drop_more xs k x within) ∙ ap (λ (y : X). test y && list_all test (drop (k + 1) xs)) (sym read)
