-- A conversation over a connection: what is written for an input, how what answers is left, and how it
-- ends.
use Rattle.std.specs.Prelude.{◌≡◌, ℕ, Bool, true, false, List, [], ◌∷◌, ◌++◌, codes, MatchBool}
use Rattle.tus_steps.specs.Request.{Request}
use Rattle.tus_steps.specs.declared.reply.Reply.{Reply}
use Rattle.http_wire.specs.Exchange.{Exchange, last_part}
use Rattle.http_wire.specs.NextMessage.{NextMessage, message, refused, cut_patch, cut_other, clean_end, IsNextMessage}
use Rattle.http_wire.specs.ReplyText.{crlf, reply_text, refusal_text}
use Rattle.http_wire.specs.declared.request_limits.RequestLimits.{RequestLimits}
use Rattle.http_wire.specs.declared.conversation.Ended.{Ended}
use Rattle.http_wire.specs.declared.conversation.Ended.TheVariants.{Input, Closed, Cut, Moments}

-- what a client that waits for it is told before it sends a body (RFC 9110, section 15.2.1)
abbrev pub continue_text : Bool → List ℕ
continue_text true = codes "HTTP/1.1 100 Continue" ++ crlf ++ crlf
continue_text false = []

-- what may become of an input: what passes, and how it ends
abbrev pub Course : Type 0 → Type 1
Course A = Exchange A → Ended → Type 0

module _ {A : Type 0} where
  -- the conversation ends here, with this text, and nothing more is answered
  pub record EndsWith (ends : Ended) (last : List ℕ) (x : Exchange A) (e : Ended) : Type 0 where
    pub ended : e ≡ ends
    pub text : x.text ≡ last
    pub same : x.after ≡ x.before

  -- after a reply: the end where it closes the connection, and else what follows the rest of the input
  abbrev pub Goes : Bool → Course A → Course A
  Goes close next x e = MatchBool close (EndsWith Closed [] x e) (next x e)

-- Conversations with what makes these steps. Each goes from a state, by a request at a moment, with a reply, to the state after
-- it. Bodies have at most these lengths.
module _ {A : Type 0} (steps : A → Request → ℕ → Reply → A → Type 0) where
  -- the turn of what the input begins with, at a moment
  abbrev pub MessageTurn : ℕ → Course A → NextMessage → Course A
  MessageTurn now next (message request framing waiting rest) x e =
      (reply : Reply) × (b : A) × (later : List ℕ) × steps x.before request now reply b
      × (x.text ≡ (continue_text waiting ++ reply_text reply now framing) ++ later)
      × Goes framing.close next (last_part x rest b later) e
  MessageTurn now next (refused why framing) x e = EndsWith Closed (refusal_text why now framing) x e
  MessageTurn now next (cut_patch request framing waiting) x e =
      (reply : Reply) × steps x.before request now reply x.after × (e ≡ Cut) × (x.text ≡ continue_text waiting)
  MessageTurn now next (cut_other waiting) x e = EndsWith Cut (continue_text waiting) x e
  MessageTurn now next clean_end x e = EndsWith Input [] x e

  -- the conversation of an input: the k-th message has the k-th moment
  abbrev pub Conversation : RequestLimits → List ℕ → Course A
  Conversation limits [] x e = EndsWith Moments [] x e
  Conversation limits (now ∷ moments) x e = (f : NextMessage) × IsNextMessage limits x.input f × MessageTurn now (Conversation limits moments) f x e
