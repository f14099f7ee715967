-- When a request is told, and what is told of it.
use Rattle.std.specs.Prelude.{◌≡◌, ℕ, ◌+◌, ◌-◌, ◌^◌, ◌<◌, ◌≤◌, ◌⊎◌, ◌++◌, List, [], ◌∷◌, Option, Some, None, drop, length, min, nat_lt, sum_by, if◌then◌else◌}
use Rattle.access_log.specs.declared.seen.Answered.{Answered}
use Rattle.access_log.specs.declared.seen.SeenReply.{SeenReply}
use Rattle.tus_steps.specs.declared.method.Method.{Method}
use Rattle.tus_steps.specs.declared.method.Method.TheVariants.{Post}

-- how many bytes the replies to these requests have
abbrev pub reply_bytes : List Answered → ℕ
reply_bytes answered = sum_by (λ a. a.sent) answered

-- Where so many of all bytes are not sent yet, the reply to each of the first requests was sent whole, and to no other: those
-- behind them have all that is not sent.
pub record AreSent (unsent : ℕ) (answered : List Answered) (count : ℕ) : Type 0 where
  pub within : count ≤ length answered
  pub whole : 0 < count → unsent ≤ reply_bytes (drop count answered)
  pub no_more : (more : ℕ) → count < more → more ≤ length answered → reply_bytes (drop more answered) < unsent

-- the status that is told of a request: where its last piece was answered, that of its creation
abbrev pub status_of : Option Method → SeenReply → ℕ
status_of (Some Post) reply = reply.creation_status
status_of method reply = reply.status

-- a request with what its reply tells
abbrev pub replied : Answered → SeenReply → Answered
replied a reply = record a { status = Some (status_of a.method reply); word = reply.word }

-- a request that came in pieces is told as it began, with all that came of its body
abbrev pub as_begun : Option Answered → Answered → Answered
as_begun None asked = asked
as_begun (Some begun) asked = record begun { received = asked.received }

-- a request as it is told, whose reply has so many bytes; of none of them nothing is told
abbrev pub told_by : Option SeenReply → Answered → Answered
told_by None a = a
told_by (Some reply) a = if nat_lt 0 a.sent then replied a reply else a

abbrev pub told_of : Option Answered → Answered → Option SeenReply → ℕ → Answered
told_of begun asked reply sent = told_by reply (record (as_begun begun asked) { sent = sent })

-- the request whose body has more pieces to come, after one of them was asked for
abbrev pub begun_by : Option Answered → Option Answered → Option Answered
begun_by None asked = asked
begun_by (Some begun) asked = Some begun

-- a request was put behind those that are to be told, or is counted as lost
abbrev pub IsAdded : Answered → List Answered → ℕ → List Answered → ℕ → Type 0
IsAdded a old lost new lost_now =
    ((new ≡ old ++ a ∷ []) × (lost_now ≡ lost)) ⊎ ((new ≡ old) × (lost_now ≡ min (lost + 1) (2 ^ 64 - 1)))
