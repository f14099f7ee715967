use Rattle.std.proofs.Common.{rules, ◌≡◌, true, List, ℕ, Option, Some, None, Result, Ok, Err, IfOk, is_ok, true≢false, ap, sym, ◌∙◌}
use Rattle.http_wire.specs.TurnOnWire.{EndsAtEnd, goes_on}
use Rattle.http_wire.specs.WireState.{is_open, is_alive}
use Rattle.http_wire.specs.declared.request_limits.RequestLimits.{RequestLimits}
use Rattle.http_wire.specs.declared.conversation.Ended.{Ended}
use Rattle.http_wire.specs.declared.fault.WireFault.{WireFault}
use Rattle.http_wire.specs.inside.Ahead.{Ahead}
use Rattle.http_wire.specs.inside.TurnFinish.{EndsTurnAtEnd}
use Rattle.http_wire.proofs.WireLemmas.{alike_is}
use Rattle.http_wire.proofs.wire.Wire.take_turn.Goals as goal
use Rattle.http_wire.proofs.wire.Wire.take_turn.Goals.{in-Ok-None, in-Ok-Some, in-Err}

-- where the reader's end was seen only at its end, so was what a turn ended with
ends : {P : Type 0} (remaining : Option (List ℕ)) (a : Ahead) (r : Result (Option Ended) WireFault) → P → IfOk r (λ e. P → EndsTurnAtEnd remaining a e) → IfOk r (EndsAtEnd remaining)
ends remaining a (Ok None) p h = tt
ends remaining a (Ok (Some e)) p h = h p
ends remaining a (Err fault) p h = tt

pub returns-after-turn : goal.returns-after-turn
returns-after-turn g c =
    let turn = c.take_turn-turn.ensures in
    let reading : is_open c.self.inside.state ≡ true = ap is_open c.in-Open.is in
    let alive : is_alive c.self.inside.state ≡ true = ap is_alive c.in-Open.is in
    let reads : is_open c.match-turn.self ≡ goes_on c.take_turn-turn.result = elim c.match-turn.branch [
      | in-Ok-None w ↦ search rules
      | in-Ok-Some w ↦ search rules
      | in-Err w ↦ search rules
    ] in
    let writes : is_alive c.match-turn.self ≡ is_ok c.take_turn-turn.result = elim c.match-turn.branch [
      | in-Ok-None w ↦ search rules
      | in-Ok-Some w ↦ search rules
      | in-Err w ↦ search rules
    ] in
    rw (← c.self.view_is) (record {
      turn = record {
        reading = λ _. record {
          turn = rw (alike_is c.self.inside.connection.limits c.self.invariant.limits c.self.invariant.ranges) at turn.turn;
          asked = rw (alike_is c.self.inside.connection.limits c.self.invariant.limits c.self.invariant.ranges) at turn.asked;
          end = ends _ c.take_turn-turn.new.connection.read_buffer c.take_turn-turn.result (c.self.invariant.sound.end reading) turn.end;
          ends = turn.ends;
          stops = turn.stops;
          reader = turn.reader;
          writer = turn.writer;
          fault = turn.fault;
          alive = (c.self.invariant.sound.reader_alive reading, c.self.invariant.sound.writer_alive alive);
          size = ap (λ (l : RequestLimits). l.other) turn.limits;
          reads = reads;
          writes = writes;
        };
        ended = λ no. absurd (true≢false (sym reading ∙ no));
        failed = λ no. absurd (true≢false (sym reading ∙ no));
      };
    })
