-- The steps of a turn.
use Rattle.std.specs.Prelude.{ℕ, Option, Some, None}
use Rattle.http_wire.specs.declared.read.pieces.PiecedBody.{PiecedBody}
use Rattle.connection_turns.specs.declared.turn.Step.{Step}
use Rattle.connection_turns.specs.declared.turn.Step.TheVariants as step

-- how many messages a step answered
abbrev pub messages_of : Step → ℕ
messages_of (step.Read n) = 0
messages_of (step.Sent n) = 0
messages_of step.Again = 0
messages_of step.Answered = 1
messages_of step.Took = 0
messages_of (step.Stops outcome) = 0

-- what an answer was, by the body that is under way in pieces behind it
abbrev pub answer_step : Option PiecedBody → Step
answer_step None = step.Answered
answer_step (Some b) = step.Took
