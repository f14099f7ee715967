-- What a turn of a connection does: whatever has passed on it is carried on.
use Rattle.std.specs.Prelude.{◌≡◌, ◌⊎◌, ⊤, ℕ, List, [], ◌∷◌, ◌++◌, length, Option, Some, None}
use Rattle.std.specs.Io.KnownBytes.{Appends, Consumes}
use Rattle.tus_steps.specs.Request.{Request}
use Rattle.tus_steps.specs.declared.reply.Reply.{Reply}
use Rattle.http_wire.specs.Clock.{Tells}
use Rattle.http_wire.specs.OnConnection.{IsFresh, OnConnection}
use Rattle.http_wire.specs.History.{Follows, HasHistory, History, answer_moments, gave}
use Rattle.http_wire.specs.declared.request_limits.RequestLimits.{RequestLimits}

-- what stands around a connection: what answers on it, the clock, and, where they are known, the bytes that its reader has left
-- and all that its writer was given
pub record Around (A K : Type 0) : Type 0 where
  pub answerer : A
  pub clock : K
  pub unread : Option (List ℕ)
  pub written : Option (List ℕ)

abbrev pub around : {A K : Type 0} → A → K → Option (List ℕ) → Option (List ℕ) → Around A K
around answerer clock unread written = record { answerer = answerer; clock = clock; unread = unread; written = written }

-- a connection, with what stands around it
pub record OnTurn (A K : Type 0) : Type 0 where
  pub connection : OnConnection
  pub around : Around A K

abbrev pub on_turn : {A K : Type 0} → OnConnection → A → K → Option (List ℕ) → Option (List ℕ) → OnTurn A K
on_turn connection answerer clock unread written = record { connection = connection; around = around answerer clock unread written }

-- a history, and what passed then
abbrev pub and_then : History → History → History
and_then p more = record {
  taken = p.taken ++ more.taken;
  handed = p.handed ++ more.handed;
  moments = p.moments ++ more.moments;
  all_moments = p.all_moments ++ more.all_moments;
  answered = p.answered ++ more.answered;
}

-- these moments are among others, in their order
abbrev pub AreAmong : List ℕ → List ℕ → Type 0
AreAmong [] others = ⊤
AreAmong (m ∷ moments) [] = ⊥
AreAmong (m ∷ moments) (t ∷ others) = ((m ≡ t) × AreAmong moments others) ⊎ AreAmong (m ∷ moments) others

-- The moments of messages are among all that were told: where bodies are taken in pieces, others are those of pieces.
abbrev pub AreTimed : Option ℕ → List ℕ → List ℕ → Type 0
AreTimed None moments told = moments ≡ told
AreTimed (Some n) moments told = AreAmong moments told

module _ {A K : Type 0} (steps : A → Request → ℕ → Reply → A → Type 0) (tells : K → ℕ → K → Type 0) where
  -- This passed meanwhile: the bytes came from the reader and went to the writer, the clock told all moments, those of messages
  -- are so many, and the answers are steps, each at a moment of its own.
  pub record Passes (piece : Option ℕ) (count : ℕ) (old new : Around A K) (more : History) : Type 0 where
    pub taken : Consumes old.unread new.unread more.taken
    pub handed : Appends old.written new.written more.handed
    pub told : Tells tells old.clock more.all_moments new.clock
    pub timed : AreTimed piece more.moments more.all_moments
    pub counted : length more.moments ≡ count
    pub noted : AreAmong (answer_moments more.answered) more.all_moments
    pub answered : Follows steps old.answerer more.answered new.answerer

  -- Whatever had passed on the connection, it has passed still, and then what passed meanwhile, with so many messages.
  abbrev pub CarriesOn : Option ℕ → ℕ → OnTurn A K → OnTurn A K → Type 0
  CarriesOn piece count old new = (p : History) → HasHistory p old.connection → (more : History) × Passes piece count old.around new.around more × HasHistory (and_then p more) new.connection

-- Some of what was pending went to the writer, and nothing else passed.
abbrev pub SendsOn : OnConnection → OnConnection → Option (List ℕ) → Option (List ℕ) → Type 0
SendsOn old new before after = (p : History) → HasHistory p old → (given : List ℕ) × Appends before after given × HasHistory (gave p given) new

-- A history of a client whose bodies have at most these lengths, and are taken in pieces of this size, where there are pieces.
-- Its connection may be put away while it is silent: then each new one has that history.
abbrev pub HasHistoryWithin : RequestLimits → Option ℕ → History → Option OnConnection → Type 0
HasHistoryWithin limits piece p None = (c : OnConnection) → IsFresh c → c.limits ≡ limits → c.piece ≡ piece → HasHistory p c
HasHistoryWithin limits piece p (Some c) = HasHistory p c × (c.limits ≡ limits) × (c.piece ≡ piece)

-- the same of a client whose connection may be put away
abbrev pub SendsOnWithin : RequestLimits → Option ℕ → Option OnConnection → Option OnConnection → Option (List ℕ) → Option (List ℕ) → Type 0
SendsOnWithin limits piece old new before after =
    (p : History) → HasHistoryWithin limits piece p old → (given : List ℕ) × Appends before after given × HasHistoryWithin limits piece (gave p given) new
