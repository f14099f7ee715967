-- Laws above the definitions: an input that comes in two parts, and what an input begins with.
use Rattle.std.specs.Prelude.{◌≡◌, ◌≤◌, ◌⊎◌, ◌↔◌, ℕ, ◌+◌, Bool, true, List, [], ◌++◌, length, Option}
use Rattle.httparse.specs.Grammar.{RequestHead}
use Rattle.upload_book.specs.laws.Order.{order, stand_in}
use Rattle.tus_steps.specs.Request.{Request}
use Rattle.tus_steps.specs.declared.reply.Reply.{Reply}
use Rattle.http_wire.specs.Asking.{BreaksAsked}
use Rattle.http_wire.specs.RequestLimits.{AreWithin}
use Rattle.http_wire.specs.Conversation.{Conversation}
use Rattle.http_wire.specs.Exchange.{Exchange, joined}
use Rattle.http_wire.specs.NextMessage.{NextMessage, message, refused, cut_other, Begins, IsNextMessage}
use Rattle.http_wire.specs.HeadText.{HeadText, head_limit}
use Rattle.http_wire.specs.Questions.{IsParsed, IsReason, questions, refusal_in, words_of}
use Rattle.http_wire.specs.Turns.{Turns}
use Rattle.http_wire.specs.declared.conversation.Ended.{Ended}
use Rattle.http_wire.specs.declared.fault.WireFault.TheVariants.{Read}
use Rattle.http_wire.specs.declared.framing.Framing.{Framing}
use Rattle.http_wire.specs.declared.refusal.WireRefusal.{WireRefusal}
use Rattle.http_wire.specs.declared.refusal.WireRefusal.TheVariants.{Memory}
use Rattle.http_wire.specs.declared.request_limits.RequestLimits.{RequestLimits}

-- laws of conversations with what makes these steps
module _ {A : Type 0} (steps : A → Request → ℕ → Reply → A → Type 0) where
  -- Where some bytes are whole messages after which the connection stays open, a conversation over them and
  -- what comes later is the one over them, followed by one over what comes later from the state that they
  -- left, at the moments that are left.
  abbrev pub InputsJoin : Type 0
  InputsJoin =
      (limits : RequestLimits) (before after : List ℕ) (x y : Exchange A) (e : Ended) → y.before ≡ x.after
      → Turns steps limits before x [] → Conversation steps limits after y e → Conversation steps limits (before ++ after) (joined x y) e

  -- The same for whole messages followed by whole messages, so that an input may come in any number of parts.
  -- The later ones may leave a rest.
  abbrev pub TurnsJoin : Type 0
  TurnsJoin =
      (limits : RequestLimits) (before after : List ℕ) (x y : Exchange A) (rest : List ℕ) → y.before ≡ x.after
      → Turns steps limits before x [] → Turns steps limits after y rest → Turns steps limits (before ++ after) (joined x y) rest

-- Where a failed read cut a message that is not applied when it is cut, in its head or in its body, the clock was not asked,
-- and nothing was answered: so no clock is asked between a head and such a body.
abbrev pub BodiesComeFirst : {A C : Type 0} → (A → Request → ℕ → Reply → A → Type 0) → (C → ℕ → C → Type 0) → Type 0
BodiesComeFirst {A} {C} steps tells =
    (limits : RequestLimits) (before after : C) (x : Exchange A) (waiting : Bool) → IsNextMessage limits x.input (cut_other waiting)
    → BreaksAsked steps tells limits before after x Read → (after ≡ before) × (x.after ≡ x.before)

-- A message takes no more bytes of the input than a head may have, with the line ends before it, and the greatest body. No limit
-- of bodies is above `most`.
abbrev pub MessagesAreShort : Type 0
MessagesAreShort =
    (limits : RequestLimits) (most : ℕ) (input : List ℕ) (request : Request) (framing : Framing) (waiting : Bool) (rest : List ℕ) → AreWithin limits most
    → IsNextMessage limits input (message request framing waiting rest) → length input ≤ head_limit + most + length rest

-- the refusal that memory is lacking
abbrev pub RefusesForMemory : NextMessage → Type 0
RefusesForMemory f = (framing : Framing) × (f ≡ refused Memory framing)

-- An input begins with one thing, and with no other: with the one message that its first bytes are, or with
-- the one reason why there is none. But there may be no memory for it, and then that is the reason.
abbrev pub OneMessage : Type 0
OneMessage =
    (limits : RequestLimits) (input : List ℕ) (f g : NextMessage) → IsNextMessage limits input f → IsNextMessage limits input g
    → (f ≡ g) ⊎ (RefusesForMemory f ⊎ RefusesForMemory g)

-- An input that begins with this head text is refused for the first of the wire's questions that holds, where lacking memory
-- may hold, and for no other reason; and where none holds it is not refused. The words of all questions, as they are asked,
-- stand in the order of refusals.
pub record WireFollowsOrder : Type 0 where
  pub first : (limits : RequestLimits) (t : HeadText) (parsed : Option RequestHead) (why : Option WireRefusal) → IsParsed t parsed
      → IsReason (questions limits t parsed) why ↔ ((f : NextMessage) × Begins limits t f × (refusal_in f ≡ why))
  pub order : (limits : RequestLimits) (t : HeadText) (parsed : Option RequestHead) → stand_in (words_of (questions limits t parsed)) order ≡ true
