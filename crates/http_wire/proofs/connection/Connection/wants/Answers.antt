use Rattle.std.proofs.Common.{[], Ok, IfSome, refl, sym, subst, ◌∙◌, append-nil, arith, true≢false}
use Rattle.http_wire.specs.Layout.{framed_at}
use Rattle.http_wire.specs.OnConnection.{OnConnection, StandsIn, owed_in}
use Rattle.http_wire.specs.History.{HasHistory}
use Rattle.http_wire.specs.ReadOnWire.{TellsEnd}
use Rattle.http_wire.specs.declared.phase.Phase.TheVariants.{Looking}
use Rattle.http_wire.specs.inside.Phases.{map_phase}
use Rattle.http_wire.specs.inside.Standing.{KeepsBody, pieced}
use Rattle.http_wire.proofs.HistoryLemmas.{History-looked}
use Rattle.http_wire.proofs.PhaseLemmas.{gathers, not-looking, owed-tells, reads-unended, reads-unfinished, same-body, same-looking}
use Rattle.http_wire.proofs.connection.Connection.wants.Goals as goal

pub returns-in-Looking-clause-stands : goal.returns-in-Looking-clause-stands
returns-in-Looking-clause-stands c = rw (← c.self.view_is) (λ bytes said h. c.look_on-self-inside.ensures.stands bytes said (rw c.in-Looking.is at h))

pub returns-in-Looking-clause-history : goal.returns-in-Looking-clause-history
returns-in-Looking-clause-history c =
    let read_buffer = c.self.inside.buffers.read_buffer in
    let write_buffer = c.self.inside.buffers.write_buffer in
    let limits = c.self.inside.limits in
    let piece = c.self.inside.piece in
    let looked = c.look_on-self-inside in
    let old : OnConnection = record { read_buffer = read_buffer; phase = Looking c.in-Looking.stage; write_buffer = write_buffer; limits = limits; piece = piece } in
    λ p h. History-looked p old c.in-Looking.stage _ _ _ (λ bytes said stands. looked.ensures.stands bytes said stands) (subst (KeepsBody piece (pieced c.in-Looking.stage)) (sym (same-body _ looked.result)) looked.ensures.body)
    (subst (λ q. HasHistory p (record { read_buffer = read_buffer; phase = map_phase (framed_at read_buffer.lent) q; write_buffer = write_buffer; limits = limits; piece = piece })) c.in-Looking.is (subst (HasHistory p) (sym c.self.view_is) h))

pub returns-in-Looking-clause-needs : goal.returns-in-Looking-clause-needs
returns-in-Looking-clause-needs c reads bytes said =
    let new = c.look_on-self-inside.new.buffers in
    let looked = c.look_on-self-inside in
    reads-unfinished (framed_at new.read_buffer.lent) new.read_buffer looked.result new.write_buffer c.self.inside.limits bytes said looked.ensures.phase (sym (c.wants_at.ensures.wants new.read_buffer.lent) ∙ reads)

pub returns : goal.returns
returns c =
    let read_buffer = c.self.inside.buffers.read_buffer in
    let phase = c.self.inside.phase in
    let f = framed_at read_buffer.lent in
    let other = not-looking phase c.in_default.not-Looking in
    rw (← c.self.view_is) (record {
      wants = c.wants_at-2.ensures.wants read_buffer.lent;
      stands = λ bytes said h. ([], sym (append-nil _), subst (λ t. StandsIn c.self.inside.limits bytes t read_buffer (map_phase f phase)) (sym (append-nil said)) h);
      history = λ p h. h;
      still = λ _. refl;
      same = λ _. refl;
      looks = λ _ looks. absurd (true≢false (sym looks ∙ same-looking f phase ∙ other));
      needs = λ reads bytes said h. reads-unfinished f read_buffer phase c.self.inside.buffers.write_buffer c.self.inside.limits bytes said c.self.invariant.phase (sym (c.wants_at-2.ensures.wants read_buffer.lent) ∙ reads) h;
      few = c.wants_at-2.ensures.few;
      some = c.wants_at-2.ensures.some other;
      nearer = omega arith;
      unended = λ reads. reads-unended f read_buffer phase c.self.inside.buffers.write_buffer c.self.invariant.phase (sym (c.wants_at-2.ensures.wants read_buffer.lent) ∙ reads);
      ended = refl;
      tells_end = subst (λ (o : OnConnection). IfSome (owed_in (map_phase f phase)) (λ i. TellsEnd o.read_buffer.ended (Ok i))) c.self.view_is (owed-tells read_buffer phase c.self.invariant.phase);
      unbroken = λ looks. absurd (true≢false (sym looks ∙ same-looking f phase ∙ other));
      gathers = gathers f phase c.self.inside.piece c.self.invariant.body;
      limits = refl;
      piece = refl;
    })
