-- What a turn did to a wire and to what answers.
use Rattle.std.specs.Prelude.{◌≡◌, ℕ, Bool, true, false, List, ◌++◌, Option, Some, None, Result, Ok, Err, is_ok, IsErr, OnOk, IfOk, IfErr, ⊤}
use Rattle.std.specs.Io.KnownBytes.{Appends, Consumes}
use Rattle.tus_steps.specs.Request.{Request}
use Rattle.tus_steps.specs.declared.reply.Reply.{Reply}
use Rattle.http_wire.specs.Asking.{BreaksAsked}
use Rattle.http_wire.specs.RequestLimits.{alike}
use Rattle.http_wire.specs.Clock.{IsTimed}
use Rattle.http_wire.specs.Fault.{NamesStream}
use Rattle.http_wire.specs.OnWire.{OnWire}
use Rattle.http_wire.specs.Streams.{Streams}
use Rattle.http_wire.specs.Turns.{EndsByTurn, IsReadWhen, TakesTurn}
use Rattle.http_wire.specs.declared.conversation.Ended.{Ended}
use Rattle.http_wire.specs.declared.conversation.Ended.TheVariants.{Input}
use Rattle.http_wire.specs.declared.fault.WireFault.{WireFault}
use Rattle.http_wire.specs.declared.fault.WireFault.TheVariants.{Failed}

-- the conversation goes on after a turn
abbrev pub goes_on : Result (Option Ended) WireFault → Bool
goes_on (Ok None) = true
goes_on (Ok (Some e)) = false
goes_on (Err fault) = false

-- the input ended only where no byte of it is left
abbrev pub EndsAtEnd : Option (List ℕ) → Option Ended → Type 0
EndsAtEnd remaining None = ⊤
EndsAtEnd remaining (Some e) = IsReadWhen e remaining

-- a wire, what answers on it, and the clock of its turns
pub record ServedWire (R W A C : Type 0) : Type 0 where
  pub wire : OnWire R W
  pub state : A
  pub clock : C

module _ {R W A C : Type 0} (s : Streams R W) (steps : A → Request → ℕ → Reply → A → Type 0) (tells : C → ℕ → C → Type 0) where
  -- A turn on a wire that reads: some bytes were read and this text was written, and it is the turn of what they begin with,
  -- at a moment that the clock told, which was not asked before its message had come. Nothing had failed before; where something did now, the fault names which. Nothing is
  -- read after the reader's end. Then the wire reads on where the conversation goes on, and writes on unless something failed.
  pub record TakesTurnOn (old new : ServedWire R W A C) (r : Result (Option Ended) WireFault) : Type 0 where
    pub turn : IsTimed tells old.clock new.clock (IsErr r) (λ now. (got text : List ℕ) × Consumes (s.remaining old.wire.reader) (s.remaining new.wire.reader) got
        × Appends (s.contents old.wire.writer) (s.contents new.wire.writer) text
        × TakesTurn steps (alike old.wire.max_size) now (record { input = old.wire.held ++ got; text = text; before = old.state; after = new.state }) new.wire.held r)
    pub asked : IfErr r (λ f. (got text : List ℕ) × Consumes (s.remaining old.wire.reader) (s.remaining new.wire.reader) got
        × Appends (s.contents old.wire.writer) (s.contents new.wire.writer) text
        × BreaksAsked steps tells (alike old.wire.max_size) old.clock new.clock (record { input = old.wire.held ++ got; text = text; before = old.state; after = new.state }) f)
    pub end : IfOk r (EndsAtEnd (s.remaining new.wire.reader))
    pub ends : IfOk r EndsByTurn
    pub stops : old.wire.ended ≡ true → (new.wire.reader ≡ old.wire.reader) × (new.wire.ended ≡ true)
    pub reader : OnOk r (s.read_failed new.wire.reader ≡ false)
    pub writer : OnOk r (s.write_failed new.wire.writer ≡ false)
    pub fault : IfErr r (NamesStream (s.read_failed new.wire.reader) (s.write_failed new.wire.writer))
    pub alive : (s.read_failed old.wire.reader ≡ false) × (s.write_failed old.wire.writer ≡ false)
    pub size : new.wire.max_size ≡ old.wire.max_size
    pub reads : new.wire.reads ≡ goes_on r
    pub writes : new.wire.writes ≡ is_ok r

  -- What a call of `take_turn` did: where the wire reads no more, it gives the end of the input, or that the wire failed
  -- before, and nothing changes.
  pub record TurnOn (old new : ServedWire R W A C) (r : Result (Option Ended) WireFault) : Type 0 where
    pub reading : old.wire.reads ≡ true → TakesTurnOn old new r
    pub ended : old.wire.reads ≡ false → old.wire.writes ≡ true → (r ≡ Ok (Some Input)) × (new ≡ old)
    pub failed : old.wire.reads ≡ false → old.wire.writes ≡ false → (r ≡ Err Failed) × (new ≡ old)
