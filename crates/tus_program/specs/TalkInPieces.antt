-- A conversation of `talk` whose bodies come in pieces.
use Rattle.std.specs.Prelude.{◌≡◌, ◌≤◌, ◌^◌, ◌⊎◌, ℕ, false, List, [], All, length, min, Option, Some}
use Rattle.std.specs.Io.KnownBytes.{Appends, Consumes}
use Rattle.http_wire.specs.History.{Follows, HasHistory, History, answer_moments}
use Rattle.http_wire.specs.OnConnection.{OnConnection, wanted}
use Rattle.http_wire.specs.declared.request_limits.RequestLimits.{RequestLimits}
use Rattle.http_wire.specs.declared.connection.Wants.TheVariants.{Nothing}
use Rattle.tus_steps.specs.Request.{Request}
use Rattle.tus_steps.specs.declared.reply.Reply.{Reply}

-- The most bytes of bodies, where an upload has at most so many: one that comes in pieces may be as long, and one that is
-- gathered has at most 16 MiB.
abbrev pub limits_in_pieces : ℕ → RequestLimits
limits_in_pieces most = record { plain = most; other = min most (2 ^ 24); ranges = false }

-- these moments are all this one
abbrev pub AreAt : ℕ → List ℕ → Type 0
AreAt now moments = All (λ (m : ℕ). m ≡ now) moments

module _ {A : Type 0} (steps : A → Request → ℕ → Reply → A → Type 0) where
  -- This passed on a connection whose bodies come in pieces of n bytes, where an upload has at most so many. What was taken came
  -- from the reader, and what was handed out went to the writer, whose bytes are told before and after, where they are known. All
  -- messages and pieces had one moment, and at most 4,096 were messages. Their answers are steps at that moment, from one state
  -- to another.
  pub record TalksInPieces (n now most : ℕ) (before after : A) (unread left written told : Option (List ℕ)) : Type 0 where
    pub connection : OnConnection
    pub limits : connection.limits ≡ limits_in_pieces most
    pub piece : connection.piece ≡ Some n
    pub passed : History
    pub has : HasHistory passed connection
    pub taken : Consumes unread left passed.taken
    pub handed : Appends written told passed.handed
    pub messages : AreAt now passed.moments
    pub all : AreAt now passed.all_moments
    pub noted : AreAt now (answer_moments passed.answered)
    pub few : length passed.moments ≤ 4096
    pub answered : Follows steps before passed.answered after

-- Nothing is left to be sent after this, and the connection wants nothing more, or all messages were had.
pub record IsOver (passed : History) (c : OnConnection) : Type 0 where
  pub sent : c.write_buffer.pending ≡ []
  pub ended : (wanted c ≡ Nothing) ⊎ (length passed.moments ≡ 4096)
