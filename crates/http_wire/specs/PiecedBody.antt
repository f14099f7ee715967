-- A body that is taken in pieces, as its bytes come.
use Rattle.std.specs.Prelude.{◌≡◌, ◌≤◌, ◌+◌, ◌-◌, ◌&&◌, ℕ, nat_lt, true, List, [], ◌++◌, length, take, drop, Option, Some, None}
use Rattle.std.specs.Prelude.{if◌then◌else◌}
use Rattle.tus_steps.specs.Method.{is_taken_in_pieces}
use Rattle.http_wire.specs.Conversation.{continue_text}
use Rattle.http_wire.specs.Incoming.{FramedRequest}
use Rattle.http_wire.specs.Layout.{field_at, framed_at}
use Rattle.http_wire.specs.declared.read.layout.Layout.{Layout}
use Rattle.http_wire.specs.declared.read.pieces.PiecedBody.{PiecedBody}
use Rattle.http_wire.specs.inside.HeadLayout.{BeginsHead}
use Rattle.http_wire.specs.declared.request_limits.RequestLimits.{RequestLimits}

-- the message is a PATCH or a POST without a checksum
abbrev pub IsPlain : Layout → Type 0
IsPlain p = (head : List ℕ) → is_taken_in_pieces p.method (field_at head p.fields.checksum) ≡ true

-- The body of a message, where it is taken in pieces of so many bytes. The message is a PATCH or a POST without a checksum, and
-- its body has more bytes than a piece.
abbrev pub pieced_by : Option ℕ → Layout → Option PiecedBody
pieced_by None p = None
pieced_by (Some n) p =
    if is_taken_in_pieces p.method (field_at [] p.fields.checksum) && nat_lt n p.body_len
    then Some (record { layout = p; given = 0; piece = n; created = None }) else None

-- the layout of its next n bytes: how many of the body were taken before, how many are to come behind them, and the upload that
-- the pieces before created
abbrev pub piece_at : PiecedBody → ℕ → Layout
piece_at b n = record b.layout { given = b.given; more = b.layout.body_len - (b.given + n); created = b.created }

-- the request of a piece that stands in these bytes behind the head
abbrev pub piece_in : PiecedBody → List ℕ → FramedRequest
piece_in b text = framed_at text (piece_at b (length text - b.layout.head_len))

-- Some bytes came, and this was said meanwhile. They begin with a message whose head is here. These bytes of its body are gone,
-- and what came behind them is here, behind the head.
pub record IsTaken (limits : RequestLimits) (bytes said gone : List ℕ) (b : PiecedBody) (here : List ℕ) : Type 0 where
  pub waits : said ≡ continue_text b.layout.is_waiting
  pub given : length gone ≡ b.given
  pub head : b.layout.head_len ≤ length here
  pub begins : BeginsHead limits bytes b.layout (take b.layout.head_len here ++ (gone ++ drop b.layout.head_len here))
