-- The segments of a final upload that is put back, by how the pieces of its tenant are kept.
use Rattle.std.specs.Prelude.{◌≡◌, ℕ, zero, suc, ◌-◌, ◌<◌, ◌≤◌, ◌||◌, Bool, not, List, [], ◌∷◌, ◌++◌, get_or, length, nat_lt, nat_le, take, ◌==◌, Option, Some, None, is_some, option_map, unwrap_or, if◌then◌else◌}
use Rattle.std.specs.List.{list_all, sum_by}
use Rattle.std.specs.Option.{option_map_or}
use Rattle.block_pool.specs.Blocks.{Blocks}
use Rattle.block_bodies.specs.Bodies.{Chain, HasRoom, StandsOnce, blocks_for}
use Rattle.block_bodies.specs.Changes.{Holds, MayHold, Puts}
use Rattle.upload_book.specs.declared.board_line.Account.{Account}
use Rattle.upload_book.specs.declared.final_back.Left.{Left}
use Rattle.upload_book.specs.declared.pieces.Piece.{Piece}
use Rattle.upload_book.specs.declared.refusal.Refusal.{Refusal}
use Rattle.upload_book.specs.declared.refusal.Refusal.TheVariants.{Field, TooLong, PartOpen, Uploads, Spent, Quota}
use Rattle.upload_book.specs.declared.settings.Numbers.{Numbers}
use Rattle.upload_book.specs.inside.Pieces.{no_chain}
use Rattle.upload_book.specs.NewFinal.{NewFinal}
use Rattle.upload_book.specs.snapshot.Restore.{ends_rightly, may_be_part}
use Rattle.upload_book.specs.snapshot.Restored.{RestoredSegment, RestoredUpload}
use Rattle.upload_book.specs.TenantBook.{TenantBook}
use Rattle.upload_book.specs.Upload.{is_reached}

-- the body of the first of some pieces that has this origin, where there is one
abbrev pub chain_from : List Piece → ℕ → Option Chain
chain_from [] origin = None
chain_from (x ∷ pieces) origin = if x.origin == origin then Some x.chain else chain_from pieces origin

-- the bytes that the first of some segments of this origin brings, where there is one and it does
abbrev pub brought_from : List RestoredSegment → ℕ → Option (List ℕ)
brought_from [] origin = None
brought_from (s ∷ segments) origin = if s.origin == origin then s.bytes else brought_from segments origin

-- How many bytes stand of an origin: those of a piece, or else those that a segment before brings.
abbrev pub len_standing : Option Chain → Option (List ℕ) → Option ℕ
len_standing None brought = option_map length brought
len_standing (Some chain) brought = Some chain.len

-- how many a segment has of which so many stand; none where it lacks its bytes or brings them again
abbrev pub len_back : Option ℕ → Option (List ℕ) → Option ℕ
len_back None brought = option_map length brought
len_back (Some len) None = Some len
len_back (Some len) (Some again) = None

-- how many bytes a segment has behind these pieces and segments
abbrev pub segment_len : List Piece → List RestoredSegment → RestoredSegment → Option ℕ
segment_len pieces earlier s =
    len_back (len_standing (chain_from pieces s.origin) (brought_from earlier s.origin)) s.bytes

-- how many blocks of a size the bytes take that a segment brings
abbrev pub brought_blocks : ℕ → RestoredSegment → ℕ
brought_blocks size s = option_map_or (λ bytes. blocks_for size (length bytes)) s.bytes 0

-- the same of several
abbrev pub brought_in : ℕ → List RestoredSegment → ℕ
brought_in size segments = sum_by (brought_blocks size) segments

-- how many bytes segments have together
abbrev pub sent_len : List (ℕ × List ℕ) → ℕ
sent_len sent = sum_by (λ (s : ℕ × List ℕ). length s.1) sent

-- what is left of a limit where so much is used of it; none where it is passed, or there is no limit
abbrev pub left_of : Option ℕ → ℕ → Option ℕ
left_of None used = None
left_of (Some limit) used = if nat_le used limit then Some (limit - used) else None

-- what is left where so many bytes are had and so many blocks taken
abbrev pub left_with : Left → ℕ → ℕ → Left
left_with left bytes blocks = record {
  bytes = left_of left.bytes bytes;
  quota = left_of left.quota blocks;
  total = left_of left.total blocks;
}

-- what an upload of this length and a tenant with this account may still have
abbrev pub limits_of : Numbers → Account → Option ℕ → Left
limits_of n account declared = record {
  bytes = declared;
  quota = Some (account.quota - account.charge);
  total = Some (n.last_total - account.charged);
}

-- the tests of a final upload whose segments are had, where so much is left for it
abbrev pub final_tests : Numbers → TenantBook → RestoredUpload → Left → List (Bool × Refusal)
final_tests n part r left =
    (not (ends_rightly n r.kind (is_reached left.bytes 0) r.expires), Field)
    ∷ (nat_lt n.max_size (unwrap_or r.declared n.max_size), TooLong)
    ∷ (not (list_all (λ s. may_be_part part s.origin) r.segments), PartOpen)
    ∷ (nat_le n.uploads (length part.uploads), Uploads)
    ∷ (nat_lt n.last_id r.id || not (is_some left.total), Spent)
    ∷ (not (is_some left.quota), Quota)
    ∷ []

-- an empty body with room for so many bytes, in blocks of a size
pub record IsRoomFor (size len : ℕ) (x : Chain) : Type 0 where
  pub empty : x ≡ record no_chain { room = x.room }
  pub room : blocks_for size len ≤ x.room

-- there is one for each of some segments
pub record AreRoomsFor (size : ℕ) (pieces : List Piece) (segments : List RestoredSegment) (bodies : List Chain) : Type 0 where
  pub long : length bodies ≡ length segments
  pub each : (k : ℕ) (s : RestoredSegment) (x : Chain) → k < length bodies → IsRoomFor size (unwrap_or (segment_len pieces (take k segments) (get_or segments k s)) 0) (get_or bodies k x)

-- A segment may be had behind these pieces, in a body with room: for the bytes that it brings, or for the blocks of a piece of
-- its origin, which may be held once more.
pub record MayBring (p : Blocks) (pieces : List Piece) (s : RestoredSegment) (x : Chain) : Type 0 where
  pub empty : x ≡ record no_chain { room = x.room }
  pub size : 0 < p.block_size
  pub brought : (bytes : List ℕ) → s.bytes ≡ Some bytes → HasRoom p x (length bytes)
  pub held : s.bytes ≡ None → (z : Chain) × (chain_from pieces s.origin ≡ Some z) × MayHold p z.blocks × (length z.blocks ≤ x.room)

-- how a segment is had: its bytes are put into new blocks, or the blocks of a piece of its origin are held once more
abbrev pub HasBytes : Blocks → List Piece → ℕ → Option (List ℕ) → Blocks → Chain → Type 0
HasBytes p pieces origin (Some bytes) q x = Puts p no_chain bytes q x × StandsOnce x.blocks
HasBytes p pieces origin None q x =
    (z : Chain) × (chain_from pieces origin ≡ Some z) × (x.blocks ≡ z.blocks) × (x.len ≡ z.len) × Holds p x.blocks q

-- a piece at the end of these has a segment, behind all that stand
pub record Brings (p : Blocks) (standing before : List Piece) (s : RestoredSegment) (q : Blocks) (after : List Piece) : Type 0 where
  pub chain : Chain
  pub is : after ≡ before ++ record { origin = s.origin; chain = chain } ∷ []
  pub has : HasBytes p (standing ++ before) s.origin s.bytes q chain

-- one more segment is had, the one at a place
pub record BringsMore (Before : Blocks → List Piece → Type 0) (standing : List Piece) (segments : List RestoredSegment) (k : ℕ) (q : Blocks) (after : List Piece) : Type 0 where
  pub pool : Blocks
  pub pieces : List Piece
  pub before : Before pool pieces
  pub segment : RestoredSegment
  pub at : segment ≡ get_or segments k segment
  pub brings : Brings pool standing pieces segment q after

-- the first so many segments are had, one after another, by these pieces
abbrev pub BringsTo : Blocks → List Piece → List RestoredSegment → ℕ → Blocks → List Piece → Type 0
BringsTo p standing segments zero q after = (q ≡ p) × (after ≡ [])
BringsTo p standing segments (suc k) q after = BringsMore (BringsTo p standing segments k) standing segments k q after

-- once those before it are had, each segment may be, in its body
pub record MayBringEach (p : Blocks) (standing : List Piece) (segments : List RestoredSegment) (bodies : List Chain) : Type 0 where
  pub long : length bodies ≡ length segments
  pub each : (k : ℕ) (q : Blocks) (pieces : List Piece) (s : RestoredSegment) (x : Chain) → k < length segments → BringsTo p standing segments k q pieces → s ≡ get_or segments k s → x ≡ get_or bodies k x → MayBring q (standing ++ pieces) s x

-- a final upload that is put back, as a new one of no parts, which its pieces give
abbrev pub final_named : RestoredUpload → NewFinal
final_named r = record { parts = []; metadata = r.metadata; concat = r.concat }
