-- When the clock is asked for the moment of a message: after it has come. Where a fault comes first, the clock is not asked; but
-- for a PATCH that a failed read cut and that is applied: it has come as far as it will.
use Rattle.std.specs.Prelude.{◌≡◌, ℕ, Bool, List, ◌++◌}
use Rattle.tus_steps.specs.Request.{Request}
use Rattle.tus_steps.specs.declared.reply.Reply.{Reply}
use Rattle.http_wire.specs.Clock.{Tells}
use Rattle.http_wire.specs.Exchange.{Exchange, first_part, last_part}
use Rattle.http_wire.specs.Conversation.{continue_text}
use Rattle.http_wire.specs.NextMessage.{NextMessage, cut_patch, IsNextMessage}
use Rattle.http_wire.specs.ReadOnWire.{BreaksMessage}
use Rattle.http_wire.specs.Turns.{FailsToAnswer, Turns}
use Rattle.http_wire.specs.declared.fault.WireFault.{WireFault}
use Rattle.http_wire.specs.declared.fault.WireFault.TheVariants.{Read, Write, Memory, Failed}
use Rattle.http_wire.specs.declared.framing.Framing.{Framing}
use Rattle.http_wire.specs.declared.request_limits.RequestLimits.{RequestLimits}

-- what makes these steps, over a connection whose bodies have at most these lengths
module _ {A : Type 0} (steps : A → Request → ℕ → Reply → A → Type 0) (limits : RequestLimits) where
  -- The input begins with a PATCH that was cut, which was applied at this moment with the bytes that came, and got no reply.
  pub record AppliesCut (now : ℕ) (x : Exchange A) : Type 0 where
    pub request : Request
    pub framing : Framing
    pub waiting : Bool
    pub reply : Reply
    pub next_message : IsNextMessage limits x.input (cut_patch request framing waiting)
    pub step : steps x.before request now reply x.after
    pub wrote : x.text ≡ continue_text waiting

  -- A fault broke off the turn of something that had come, at this moment: a failed read cut a PATCH that was applied, or a
  -- failed write cut the reply to a message or the text of a refusal.
  abbrev pub BreaksAnswer : ℕ → Exchange A → WireFault → Type 0
  BreaksAnswer now x Read = AppliesCut now x
  BreaksAnswer now x Write = (f : NextMessage) × IsNextMessage limits x.input f × FailsToAnswer steps limits now f x
  BreaksAnswer now x Memory = ⊥
  BreaksAnswer now x Failed = ⊥

-- what makes these steps, over a connection whose bodies have at most these lengths, at the moments that a clock tells
module _ {A C : Type 0} (steps : A → Request → ℕ → Reply → A → Type 0) (tells : C → ℕ → C → Type 0) (limits : RequestLimits) where
  -- A turn was broken off by a fault. Either that was while what had come was answered, and the clock was asked once for its
  -- moment; or it was before, and then the clock was not asked, and nothing was answered.
  pub data BreaksAsked (before after : C) (x : Exchange A) (fault : WireFault) : Type 0 where
    asked : (now : ℕ) → tells before now after → BreaksAnswer steps limits now x fault → BreaksAsked before after x fault
    unasked : after ≡ before → x.after ≡ x.before → BreaksMessage limits (record { input = x.input; text = x.text }) fault → BreaksAsked before after x fault

  -- A conversation was broken off by a fault: whole turns, for each of which the clock was asked once, and then such a turn.
  pub record BreaksAfterTurns (before after : C) (x : Exchange A) (fault : WireFault) : Type 0 where
    pub moments : List ℕ
    pub last : C
    pub told : Tells tells before moments last
    pub text : List ℕ
    pub later : List ℕ
    pub rest : List ℕ
    pub state : A
    pub turns : Turns steps limits moments (first_part x text state) rest
    pub breaks : BreaksAsked last after (last_part x rest state later) fault
    pub whole : x.text ≡ text ++ later
