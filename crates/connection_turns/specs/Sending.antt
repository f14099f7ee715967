-- What comes of sending what is pending.
use Rattle.connection_turns.specs.declared.turn.TurnOutcome.{TurnOutcome}
use Rattle.connection_turns.specs.declared.turn.TurnOutcome.TheVariants as outcome
use Rattle.std.specs.Prelude.{⊤}

-- it waits for room, failed, or may have more to do
abbrev pub IsAfterSending : TurnOutcome → Type 0
IsAfterSending outcome.AwaitsRoom = ⊤
IsAfterSending outcome.Failed = ⊤
IsAfterSending outcome.HasMore = ⊤
IsAfterSending other = ⊥
