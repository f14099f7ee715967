-- A conversation turn by turn, and one that a fault breaks off.
use Rattle.std.specs.Prelude.{◌≡◌, ◌⊎◌, ℕ, Bool, true, false, List, [], ◌∷◌, ◌++◌, take, Option, Some, None, Result, Ok, Err, ⊤}
use Rattle.std.specs.Io.KnownBytes.{IsAtEnd}
use Rattle.tus_steps.specs.Request.{Request}
use Rattle.tus_steps.specs.declared.reply.Reply.{Reply}
use Rattle.http_wire.specs.Conversation.{continue_text, Conversation}
use Rattle.http_wire.specs.Exchange.{Exchange, first_part, last_part, followed}
use Rattle.http_wire.specs.NextMessage.{NextMessage, message, refused, cut_patch, cut_other, clean_end, IsNextMessage}
use Rattle.http_wire.specs.ReplyText.{reply_text, refusal_text}
use Rattle.http_wire.specs.declared.conversation.Ended.{Ended}
use Rattle.http_wire.specs.declared.conversation.Ended.TheVariants as ended
use Rattle.http_wire.specs.declared.fault.WireFault.{WireFault}
use Rattle.http_wire.specs.declared.fault.WireFault.TheVariants as fault
use Rattle.http_wire.specs.declared.framing.Framing.{Framing}
use Rattle.http_wire.specs.declared.request_limits.RequestLimits.{RequestLimits}

-- what may follow the bytes that were read: nothing, where the input ended
abbrev pub MayRemain : Ended → List ℕ → Type 0
MayRemain ended.Input rest = rest ≡ []
MayRemain ended.Closed rest = ⊤
MayRemain ended.Cut rest = rest ≡ []
MayRemain ended.Moments rest = ⊤

-- the input ended only where no byte of it is left
abbrev pub IsReadWhen : Ended → Option (List ℕ) → Type 0
IsReadWhen ended.Input remaining = IsAtEnd remaining
IsReadWhen ended.Closed remaining = ⊤
IsReadWhen ended.Cut remaining = IsAtEnd remaining
IsReadWhen ended.Moments remaining = ⊤

-- the input ended, between two messages or inside one
abbrev pub EndsWithInput : Ended → Type 0
EndsWithInput ended.Input = ⊤
EndsWithInput ended.Closed = ⊥
EndsWithInput ended.Cut = ⊤
EndsWithInput ended.Moments = ⊥

-- how a turn may end the conversation: not for want of a moment, since it had one
abbrev pub EndsByTurn : Option Ended → Type 0
EndsByTurn None = ⊤
EndsByTurn (Some ended.Input) = ⊤
EndsByTurn (Some ended.Closed) = ⊤
EndsByTurn (Some ended.Cut) = ⊤
EndsByTurn (Some ended.Moments) = ⊥

-- what makes these steps, over a connection whose bodies have at most these lengths
module _ {A : Type 0} (steps : A → Request → ℕ → Reply → A → Type 0) (limits : RequestLimits) where
  -- The message that the input begins with is answered, which leaves this rest of the input, and the
  -- connection open.
  pub record Answered (now : ℕ) (x : Exchange A) (rest : List ℕ) : Type 0 where
    pub request : Request
    pub framing : Framing
    pub waiting : Bool
    pub reply : Reply
    pub next_message : IsNextMessage limits x.input (message request framing waiting rest)
    pub stays : framing.close ≡ false
    pub step : steps x.before request now reply x.after
    pub wrote : x.text ≡ continue_text waiting ++ reply_text reply now framing

  -- whole turns at these moments, one for each, that leave this rest of the input, and the connection open
  abbrev pub Turns : List ℕ → Exchange A → List ℕ → Type 0
  Turns [] x rest = (rest ≡ x.input) × (x.text ≡ []) × (x.after ≡ x.before)
  Turns (now ∷ moments) x rest =
      (text later middle : List ℕ) × (b : A) × Answered now (first_part x text b) middle
      × Turns moments (last_part x middle b later) rest × (x.text ≡ text ++ later)

  -- `100 Continue` was due, and a prefix of it was written, before any step
  abbrev pub FailsToContinue : Bool → Exchange A → Type 0
  FailsToContinue waiting x =
      (waiting ≡ true) × (x.after ≡ x.before) × ((n : ℕ) × (x.text ≡ take n (continue_text true)))

  -- The answer to a message was broken off by a write that failed: a prefix of the reply or of the refusal was written, after
  -- `100 Continue` where that was due. A step that was made before its reply could not be written stays.
  abbrev pub FailsToAnswer : ℕ → NextMessage → Exchange A → Type 0
  FailsToAnswer now (message request framing waiting rest) x =
      (reply : Reply) × (n : ℕ) × steps x.before request now reply x.after
      × (x.text ≡ continue_text waiting ++ take n (reply_text reply now framing))
  FailsToAnswer now (refused why framing) x =
      (x.after ≡ x.before) × ((n : ℕ) × (x.text ≡ take n (refusal_text why now framing)))
  FailsToAnswer now (cut_patch request framing waiting) x = ⊥
  FailsToAnswer now (cut_other waiting) x = ⊥
  FailsToAnswer now clean_end x = ⊥

  -- The turn of a message was broken off by a write that failed: that of `100 Continue`, or that of its answer.
  abbrev pub FailsIn : ℕ → NextMessage → Exchange A → Type 0
  FailsIn now (message request framing waiting rest) x =
      FailsToContinue waiting x ⊎ FailsToAnswer now (message request framing waiting rest) x
  FailsIn now (refused why framing) x = FailsToAnswer now (refused why framing) x
  FailsIn now (cut_patch request framing waiting) x = FailsToContinue waiting x
  FailsIn now (cut_other waiting) x = FailsToContinue waiting x
  FailsIn now clean_end x = ⊥

  -- after whole turns, the turn of what follows them was broken off by a write that failed
  abbrev pub BreaksOff : List ℕ → Exchange A → Type 0
  BreaksOff [] x = ⊥
  BreaksOff (now ∷ moments) x =
      ((f : NextMessage) × IsNextMessage limits x.input f × FailsIn now f x)
      ⊎ ((text later rest : List ℕ) × (b : A) × Answered now (first_part x text b) rest
      × BreaksOff moments (last_part x rest b later) × (x.text ≡ text ++ later))

  -- The conversation ended so, after this input was read, whatever bytes may follow it: so the cuts that a
  -- reader makes between its bytes change nothing.
  abbrev pub Converses : List ℕ → Exchange A → Ended → Type 0
  Converses moments x e = (rest : List ℕ) → MayRemain e rest → Conversation steps limits moments (followed x rest) e

  -- A fault broke the conversation off. After a read that failed it is the conversation of the bytes that were
  -- read, as a whole input, and ends with that; after a write that failed, every text before the last is written
  -- whole, and a prefix of the last. Memory is lacking only before anything is read.
  abbrev pub Breaks : List ℕ → Exchange A → WireFault → Type 0
  Breaks moments x fault.Read = (e : Ended) × EndsWithInput e × Conversation steps limits moments x e
  Breaks moments x fault.Write = BreaksOff moments x
  Breaks moments x fault.Memory = (x.input ≡ []) × (x.text ≡ []) × (x.after ≡ x.before)
  Breaks moments x fault.Failed = ⊥

  -- a turn with which the conversation ends, whatever moments are left
  abbrev pub LastTurn : ℕ → Exchange A → Ended → Type 0
  LastTurn now x e = (moments : List ℕ) → Conversation steps limits (now ∷ moments) x e

  -- a turn was broken off by a fault, after this input
  abbrev pub BreaksTurn : ℕ → Exchange A → WireFault → Type 0
  BreaksTurn now x fault.Read = (e : Ended) × EndsWithInput e × LastTurn now x e
  BreaksTurn now x fault.Write = (f : NextMessage) × IsNextMessage limits x.input f × FailsIn now f x
  BreaksTurn now x fault.Memory = ⊥
  BreaksTurn now x fault.Failed = ⊥

  -- A turn was taken: the input begins with its message, and what follows it changes nothing. Then the next
  -- message is in what is held and what follows it, or the conversation ends.
  abbrev pub TakesTurn : ℕ → Exchange A → List ℕ → Result (Option Ended) WireFault → Type 0
  TakesTurn now x held (Ok None) = (rest : List ℕ) → Answered now (followed x rest) (held ++ rest)
  TakesTurn now x held (Ok (Some e)) = (rest : List ℕ) → MayRemain e rest → LastTurn now (followed x rest) e
  TakesTurn now x held (Err e) = BreaksTurn now x e
