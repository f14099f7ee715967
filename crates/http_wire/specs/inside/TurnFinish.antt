-- The second half of a turn, after its message was read: a request is answered or refused, and once that is sent the
-- conversation goes on or ends.
use Rattle.std.specs.Prelude.{ℕ, List, [], take, Option, Some, None, ◌≡◌, ◌≢◌, Bool, true, false, ◌++◌, Result, Ok, Err, OnOk, IfOk, IfErr}
use Rattle.http_wire.specs.inside.Ahead.{Ahead, SeesEnd}
use Rattle.http_wire.specs.declared.conversation.Ended.{Ended}
use Rattle.http_wire.specs.declared.conversation.Ended.TheVariants as ended
use Rattle.http_wire.specs.declared.fault.WireFault.TheVariants as fault
use Rattle.std.specs.Io.KnownBytes.{Appends}
use Rattle.tus_steps.specs.Request.{Request}
use Rattle.tus_steps.specs.declared.reply.Reply.{Reply}
use Rattle.http_wire.specs.Asking.{BreaksAnswer}
use Rattle.http_wire.specs.Exchange.{Exchange}
use Rattle.http_wire.specs.Fault.{NamesStream}
use Rattle.http_wire.specs.Incoming.{FramedRequest, is_cut_by_fault}
use Rattle.http_wire.specs.ReadOnWire.{ComesIn, TellsEnd}
use Rattle.http_wire.specs.Turns.{EndsByTurn, IsReadWhen, TakesTurn}
use Rattle.http_wire.specs.declared.fault.WireFault.{WireFault}
use Rattle.http_wire.specs.declared.incoming.Cut.{Cut}
use Rattle.http_wire.specs.declared.incoming.Cut.TheVariants as cut
use Rattle.http_wire.specs.declared.incoming.Incoming.{Incoming}
use Rattle.http_wire.specs.declared.request_limits.RequestLimits.{RequestLimits}

-- the input ended only where no byte of it is left
abbrev pub EndsTurnAtEnd : Option (List ℕ) → Ahead → Option Ended → Type 0
EndsTurnAtEnd remaining a None = SeesEnd remaining a
EndsTurnAtEnd remaining a (Some e) = IsReadWhen e remaining

-- how a turn ends once its reply is sent: with the connection, where that closes
abbrev pub ended_after : Bool → Option Ended
ended_after true = Some ended.Closed
ended_after false = None

-- how a turn ends whose body was cut
abbrev pub turn_cut : Cut → Result (Option Ended) WireFault
turn_cut cut.Ended = Ok (Some ended.Cut)
turn_cut cut.Fault = Err fault.Read

module _ {A : Type 0} (steps : A → Request → ℕ → Reply → A → Type 0) where
  -- what a turn came to after its message had come: where a fault broke it off, that was while the message was answered
  abbrev pub FinishesIn : RequestLimits → ℕ → Exchange A → List ℕ → Result (Option Ended) WireFault → Type 0
  FinishesIn limits now x held (Ok e) = TakesTurn steps limits now x held (Ok e)
  FinishesIn limits now x held (Err fault) = BreaksAnswer steps limits now x fault

  -- What came in was answered at this moment, and this is pending now. Whatever that was read from: once all that is pending
  -- is sent, it is a turn; and where a write fails after a prefix of it, a turn that was broken off. Only a PATCH that a failed
  -- read cut makes it the reader's fault, and then nothing is pending.
  pub record AnswersTurn (now : ℕ) (a : Ahead) (incoming : Incoming FramedRequest) (pending : List ℕ) (before after : A) (r : Result (Option Ended) WireFault) : Type 0 where
    pub sent : (limits : RequestLimits) (input said : List ℕ) → ComesIn limits (record { input = input; text = said }) a.held incoming
        → FinishesIn limits now (record { input = input; text = said ++ pending; before = before; after = after }) a.held r
    pub unsent : (limits : RequestLimits) (n : ℕ) (input said : List ℕ) → ComesIn limits (record { input = input; text = said }) a.held incoming → pending ≢ []
        → BreaksAnswer steps limits now (record { input = input; text = said ++ take n pending; before = before; after = after }) fault.Write
    pub silent : is_cut_by_fault incoming ≡ true → pending ≡ []
    pub end : (remaining : Option (List ℕ)) → SeesEnd remaining a → TellsEnd a.ended (Ok incoming) → IfOk r (EndsTurnAtEnd remaining a)
    pub ends : IfOk r EndsByTurn
    pub reader : OnOk r (is_cut_by_fault incoming ≡ false)
    pub fault : IfErr r (NamesStream (is_cut_by_fault incoming) false)

  -- A turn was finished by what came in, at this moment: whatever that was read from, with what is written now it is a turn.
  -- Only a PATCH that a failed read cut makes it the reader's fault, and only a write that failed the writer's.
  pub record FinishesTurn (now : ℕ) (a : Ahead) (incoming : Incoming FramedRequest) (wrote writes : Option (List ℕ)) (failed : Bool) (before after : A)
      (r : Result (Option Ended) WireFault) : Type 0 where
    pub turn : (limits : RequestLimits) (input said : List ℕ) → ComesIn limits (record { input = input; text = said }) a.held incoming
        → (text : List ℕ) × Appends wrote writes text × FinishesIn limits now (record { input = input; text = said ++ text; before = before; after = after }) a.held r
    pub end : (remaining : Option (List ℕ)) → SeesEnd remaining a → TellsEnd a.ended (Ok incoming) → IfOk r (EndsTurnAtEnd remaining a)
    pub ends : IfOk r EndsByTurn
    pub reader : OnOk r (is_cut_by_fault incoming ≡ false)
    pub writer : OnOk r (failed ≡ false)
    pub fault : IfErr r (NamesStream (is_cut_by_fault incoming) failed)
