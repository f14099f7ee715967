use Rattle.std.proofs.Common.{◌++◌, [], ◌≡◌, ◌≢◌, ◌≤◌, ◌+◌, ℕ, List, arith, IfOk, length, ap, refl, sym, ◌∙◌, subst, take, append_assoc}
use Rattle.std.proofs.lemmas.Result.{err_from_is_err_and}
use Rattle.std.specs.Io.KnownBytes.{Appends, IsAtEnd}
use Rattle.http_wire.specs.RequestLimits.{AreWithin}
use Rattle.http_wire.specs.OnConnection.{OnConnection, Stands, StandsIn, is_looking}
use Rattle.http_wire.specs.ReadOnWire.{BreaksMessage, read_limit}
use Rattle.http_wire.specs.declared.fault.WireFault.TheVariants as fault
use Rattle.http_wire.specs.inside.Sending.{OnOutbox}
use Rattle.http_wire.proofs.AheadLemmas.{Appends-more, Appends-none, Consumes-kept, Consumes-more, Consumes-none, IfOk-known, OnErr-known, StopsAtEnd-open}
use Rattle.http_wire.proofs.ConversationLemmas.{IfErr-from}
use Rattle.http_wire.proofs.DrivingLemmas.{Breaks-continue, Breaks-over, CameIn-broken, CameIn-wanted, read-few, reads-other, settled-reads, writes-looking}
use Rattle.http_wire.proofs.FindLemmas.{Searching-start}
use Rattle.http_wire.proofs.PhaseLemmas.{StandsIn-unlent}
use Rattle.http_wire.proofs.driving.await_incoming.Goals as goal

pub loop-connection-init : goal.loop-connection-init
loop-connection-init g c =
    let start = c.args.connection.now in
    let passed = c.pass_over.ensures in
    let ended = ap (λ (o : OnConnection). o.read_buffer.ended) passed in
    record {
      reader = c.requires.reader;
      writer = c.requires.writer;
      looks = ap (λ (o : OnConnection). is_looking o.phase) passed ∙ ap is_looking c.requires.between.phase;
      sent = ap (λ (o : OnConnection). o.write_buffer) passed ∙ c.requires.between.write_buffer;
      limits = ap (λ (o : OnConnection). o.limits) passed;
      gathers = ap (λ (o : OnConnection). o.piece) passed ∙ c.requires.between.gathers;
      piece = ap (λ (o : OnConnection). o.piece) passed;
      stands = (
        [],
        [],
        Consumes-none (g.R.Source.remaining c.args.reader.now),
        Appends-none (g.W.Sink.contents c.args.writer.now),
        subst (Stands (start.read_buffer.held ++ []) []) (sym passed) (subst (StandsIn start.limits (start.read_buffer.held ++ []) [] start.read_buffer) (sym c.requires.between.phase) (refl, Searching-start start.read_buffer.held)),
        λ most within. omega arith,
      );
      stops = λ h. (refl, ended ∙ h);
      end = λ sees h. sees (sym ended ∙ h);
    }

pub returns-in_err-ended-in-Read-clause-breaks : goal.returns-in_err-ended-in-Read-clause-breaks
returns-in_err-ended-in-Read-clause-breaks g c =
    let loop = c.loop-connection.invariant in
    let s = loop.stands in
    let bytes = c.args.connection.now.read_buffer.held ++ s.0 in
    let p = err_from_is_err_and c.from_residual.result c.from_residual.ensures.1 in
    let stands = settled-reads c.loop-connection.connection.write_buffer c.wants.new.self bytes s.1 loop.sent c.wants.ensures.same (sym c.wants.ensures.wants ∙ c.in-Read.is) (c.wants.ensures.stands bytes s.1 s.4) in
    let none = OnErr-known c.read_from.result (sym c.is_err.ensures.value ∙ c.if-is_err.true) c.read_from.ensures.none in
    let kept = subst (Stands bytes s.1) (sym none.1) (StandsIn-unlent c.wants.new.self.limits bytes s.1 c.wants.new.self.read_buffer c.wants.new.self.write_buffer c.wants.new.self.phase (sym c.wants.ensures.wants ∙ c.in-Read.is) stands) in
    let broken = Breaks-over c.read_from.new.self.limits bytes s.1 c.fail.new.self.read_buffer c.fail.new.self.phase c.in_err-ended-in-Read.field-0.0 (c.fail.ensures.breaks bytes s.1 kept) c.in_err-ended-in-Read.ensures in
    let size = ap (λ (o : OnConnection). o.limits) none.1 ∙ c.wants.ensures.limits ∙ loop.limits in
    IfErr-from _ c.from_residual.result p.0 c.in_err-ended-in-Read.field-0.0 p.1 p.2 (
      s.0,
      s.1,
      Consumes-kept _ _ _ s.0 s.2 none.0,
      s.3,
      subst (λ m. BreaksMessage m (record { input = bytes; text = s.1 }) c.in_err-ended-in-Read.field-0.0) size broken.0,
      s.5,
    )

pub returns-in_err-ended-in-Read-clause-fault : goal.returns-in_err-ended-in-Read-clause-fault
returns-in_err-ended-in-Read-clause-fault g c =
    let loop = c.loop-connection.invariant in
    let s = loop.stands in
    let bytes = c.args.connection.now.read_buffer.held ++ s.0 in
    let p = err_from_is_err_and c.from_residual.result c.from_residual.ensures.1 in
    let stands = settled-reads c.loop-connection.connection.write_buffer c.wants.new.self bytes s.1 loop.sent c.wants.ensures.same (sym c.wants.ensures.wants ∙ c.in-Read.is) (c.wants.ensures.stands bytes s.1 s.4) in
    let error = sym c.is_err.ensures.value ∙ c.if-is_err.true in
    let none = OnErr-known c.read_from.result error c.read_from.ensures.none in
    let kept = subst (Stands bytes s.1) (sym none.1) (StandsIn-unlent c.wants.new.self.limits bytes s.1 c.wants.new.self.read_buffer c.wants.new.self.write_buffer c.wants.new.self.phase (sym c.wants.ensures.wants ∙ c.in-Read.is) stands) in
    let broken = Breaks-over c.read_from.new.self.limits bytes s.1 c.fail.new.self.read_buffer c.fail.new.self.phase c.in_err-ended-in-Read.field-0.0 (c.fail.ensures.breaks bytes s.1 kept) c.in_err-ended-in-Read.ensures in
    IfErr-from _ c.from_residual.result p.0 fault.Read p.1 (p.2 ∙ broken.1) (c.read_from.ensures.failed ∙ error, loop.writer)

pub returns-in_err-ended-in-Read-clause-tells_end : goal.returns-in_err-ended-in-Read-clause-tells_end
returns-in_err-ended-in-Read-clause-tells_end g c =
    let loop = c.loop-connection.invariant in
    let s = loop.stands in
    let bytes = c.args.connection.now.read_buffer.held ++ s.0 in
    let p = err_from_is_err_and c.from_residual.result c.from_residual.ensures.1 in
    let stands = settled-reads c.loop-connection.connection.write_buffer c.wants.new.self bytes s.1 loop.sent c.wants.ensures.same (sym c.wants.ensures.wants ∙ c.in-Read.is) (c.wants.ensures.stands bytes s.1 s.4) in
    let none = OnErr-known c.read_from.result (sym c.is_err.ensures.value ∙ c.if-is_err.true) c.read_from.ensures.none in
    let kept = subst (Stands bytes s.1) (sym none.1) (StandsIn-unlent c.wants.new.self.limits bytes s.1 c.wants.new.self.read_buffer c.wants.new.self.write_buffer c.wants.new.self.phase (sym c.wants.ensures.wants ∙ c.in-Read.is) stands) in
    let broken = Breaks-over c.read_from.new.self.limits bytes s.1 c.fail.new.self.read_buffer c.fail.new.self.phase c.in_err-ended-in-Read.field-0.0 (c.fail.ensures.breaks bytes s.1 kept) c.in_err-ended-in-Read.ensures in
    IfErr-from _ c.from_residual.result p.0 fault.Read p.1 (p.2 ∙ broken.1) (c.fail.ensures.ended ∙ ap (λ (o : OnConnection). o.read_buffer.ended) none.1 ∙ c.wants.ensures.unended c.in-Read.is)

pub returns-then-is_err-clause-comes : goal.returns-then-is_err-clause-comes
returns-then-is_err-clause-comes g c =
    let loop = c.loop-connection.invariant in
    let s = loop.stands in
    let bytes = c.args.connection.now.read_buffer.held ++ s.0 in
    let stands = settled-reads c.loop-connection.connection.write_buffer c.wants.new.self bytes s.1 loop.sent c.wants.ensures.same (sym c.wants.ensures.wants ∙ c.in-Read.is) (c.wants.ensures.stands bytes s.1 s.4) in
    let error = sym c.is_err.ensures.value ∙ c.if-is_err.true in
    let none = OnErr-known c.read_from.result error c.read_from.ensures.none in
    let kept = subst (Stands bytes s.1) (sym none.1) (StandsIn-unlent c.wants.new.self.limits bytes s.1 c.wants.new.self.read_buffer c.wants.new.self.write_buffer c.wants.new.self.phase (sym c.wants.ensures.wants ∙ c.in-Read.is) stands) in (
      s.0,
      s.1,
      Consumes-kept _ _ _ s.0 s.2 none.0,
      s.3,
      CameIn-broken c.read_from.new.self.limits bytes s.1 _ c.fail.new.self _ (c.fail.ensures.breaks bytes s.1 kept) (sym c.fail.ensures.limits) (sym c.ended.ensures ∙ c.in_ok-ended-in-Read.was)
          (c.fail.ensures.gathers (c.fail.ensures.piece ∙ ap (λ (o : OnConnection). o.piece) none.1 ∙ c.wants.ensures.piece ∙ loop.gathers)) c.fail.ensures.tells_end (c.read_from.ensures.failed ∙ error),
      s.5,
    )

pub loop-connection-preserved-else-is_err : goal.loop-connection-preserved-else-is_err
loop-connection-preserved-else-is_err g c =
    let start = c.args.connection.now.read_buffer in
    let loop = c.loop-connection.invariant in
    let s = loop.stands in
    let bytes = start.held ++ s.0 in
    let reads = sym c.wants.ensures.wants ∙ c.in-Read.is in
    let stands = settled-reads c.loop-connection.connection.write_buffer c.wants.new.self bytes s.1 loop.sent c.wants.ensures.same reads (c.wants.ensures.stands bytes s.1 s.4) in
    let ok = sym c.is_err.ensures.value ∙ c.if-is_err.false in
    let read = IfOk-known _ c.read_from.result ok c.read_from.ensures.takes in
    let got = read.2.0 in
    let takes = read.2.3 in
    let size = c.wants.ensures.limits ∙ loop.limits in
    let end = subst (λ r. IfOk r (λ n. n ≡ 0 → IsAtEnd (g.R.Source.remaining c.read_from.new.reader))) read.1 c.read_from.ensures.end in
    record {
      reader = c.read_from.ensures.failed ∙ ok;
      writer = loop.writer;
      looks = takes.looks;
      sent = takes.write_buffer ∙ c.wants.ensures.same (reads-other c.wants.new.self.write_buffer c.wants.new.self.phase reads) ∙ loop.sent;
      limits = takes.limits ∙ c.wants.ensures.limits ∙ loop.limits;
      gathers = takes.piece ∙ c.wants.ensures.piece ∙ loop.gathers;
      piece = takes.piece ∙ c.wants.ensures.piece ∙ loop.piece;
      stands = (
        s.0 ++ got,
        s.1,
        Consumes-more _ _ _ s.0 got s.2 read.2.2,
        s.3,
        subst (λ i. Stands i s.1 c.read_from.new.self) (append_assoc start.held s.0 got) (takes.stands bytes s.1 stands),
        λ most within.
            read-few most start.held s.0 got read.0 read.2.1
            (subst (λ r. IfOk r (λ n. (most : ℕ) → AreWithin c.wants.new.self.limits most → (bytes said : List ℕ) → Stands bytes said c.wants.new.self → length bytes + n ≤ read_limit most)) read.1 c.read_from.ensures.few most
            (subst (λ l. AreWithin l most) (sym size) within) bytes s.1 stands),
      );
      stops = StopsAtEnd-open _ c.loop-connection.reader c.read_from.new.reader start c.loop-connection.connection.read_buffer c.read_from.new.self.read_buffer loop.stops (sym c.wants.ensures.ended ∙ c.wants.ensures.unended c.in-Read.is);
      end = λ _ ended. end (sym read.2.1 ∙ ap length (takes.ended.1 ended));
    }

pub loop-connection-preserved : goal.loop-connection-preserved
loop-connection-preserved g c =
    let loop = c.loop-connection.invariant in
    let s = loop.stands in
    let bytes = c.args.connection.now.read_buffer.held ++ s.0 in
    let put = c.wants.ensures.stands bytes s.1 s.4 in
    let sent = c.flush.ensures.sent in
    let wrote = c.in_ok-flush-in-Write.ensures.writes in
    let all : c.wants.new.self.write_buffer.pending ≡ put.0 = put.1 ∙ ap (λ (o : OnOutbox). o.pending ++ put.0) loop.sent in
    record {
      reader = loop.reader;
      writer = wrote.failed;
      looks = ap (λ (o : OnConnection). is_looking o.phase) sent ∙ writes-looking c.loop-connection.connection.write_buffer c.wants.new.self loop.sent c.wants.ensures.same (sym c.wants.ensures.wants ∙ c.in-Write.is);
      sent = ap (λ (o : OnConnection). o.write_buffer) sent;
      limits = ap (λ (o : OnConnection). o.limits) sent ∙ c.wants.ensures.limits ∙ loop.limits;
      gathers = ap (λ (o : OnConnection). o.piece) sent ∙ c.wants.ensures.piece ∙ loop.gathers;
      piece = ap (λ (o : OnConnection). o.piece) sent ∙ c.wants.ensures.piece ∙ loop.piece;
      stands = (
        s.0,
        s.1 ++ put.0,
        s.2,
        Appends-more _ _ _ s.1 put.0 s.3 (subst (Appends _ _) all wrote.all),
        subst (Stands bytes (s.1 ++ put.0)) (sym sent) put.2,
        s.5,
      );
      stops = λ h.
          let p = loop.stops h in
          (p.0, ap (λ (o : OnConnection). o.read_buffer.ended) sent ∙ c.wants.ensures.ended ∙ p.1);
      end = λ sees ended. loop.end sees (sym c.wants.ensures.ended ∙ sym (ap (λ (o : OnConnection). o.read_buffer.ended) sent) ∙ ended);
    }

pub returns-in_err-flush-in-Write-clause-breaks : goal.returns-in_err-flush-in-Write-clause-breaks
returns-in_err-flush-in-Write-clause-breaks g c =
    let loop = c.loop-connection.invariant in
    let s = loop.stands in
    let bytes = c.args.connection.now.read_buffer.held ++ s.0 in
    let put = c.wants.ensures.stands bytes s.1 s.4 in
    let looks = writes-looking c.loop-connection.connection.write_buffer c.wants.new.self loop.sent c.wants.ensures.same (sym c.wants.ensures.wants ∙ c.in-Write.is) in
    let all : c.wants.new.self.write_buffer.pending ≡ put.0 = put.1 ∙ ap (λ (o : OnOutbox). o.pending ++ put.0) loop.sent in
    let p = err_from_is_err_and c.from_residual-in_err-flush-in-Write.result c.from_residual-in_err-flush-in-Write.ensures.1 in
    let writes = c.in_err-flush-in-Write.ensures.writes in
    let n = writes.prefix.0 in
    let some = subst (λ l. l ≢ []) all (c.wants.ensures.some c.in-Write.is) in
    let breaks = Breaks-continue c.wants.new.self.limits bytes s.1 put.0 n c.wants.new.self.read_buffer c.wants.new.self.phase put.2 looks some in
    IfErr-from _ c.from_residual-in_err-flush-in-Write.result p.0 fault.Write p.1 (p.2 ∙ writes.fault) (
      s.0,
      s.1 ++ take n put.0,
      s.2,
      Appends-more _ _ _ s.1 (take n put.0) s.3 (subst (λ l. Appends (g.W.Sink.contents c.loop-connection.writer) (g.W.Sink.contents c.flush.new.writer) (take n l)) all writes.prefix.2),
      subst (λ m. BreaksMessage m (record { input = bytes; text = s.1 ++ take n put.0 }) fault.Write) (c.wants.ensures.limits ∙ loop.limits) breaks,
      s.5,
    )

pub returns-in-Answer-clause-comes : goal.returns-in-Answer-clause-comes
returns-in-Answer-clause-comes g c =
    let loop = c.loop-connection.invariant in
    let s = loop.stands in
    let bytes = c.args.connection.now.read_buffer.held ++ s.0 in (
      s.0,
      s.1,
      s.2,
      s.3,
      CameIn-wanted bytes s.1 _ c.loop-connection.connection.write_buffer c.wants.new.self c.wants.result loop.sent c.wants.ensures.same c.wants.ensures.wants c.in-Answer.is (c.wants.ensures.gathers (c.wants.ensures.piece ∙ loop.gathers)) (c.wants.ensures.stands bytes s.1 s.4)
          c.wants.ensures.tells_end (c.wants.ensures.unbroken loop.looks) loop.reader,
      s.5,
    )

pub returns-in_err-flush-in-Write-clause-tells_end : goal.returns-in_err-flush-in-Write-clause-tells_end
returns-in_err-flush-in-Write-clause-tells_end g c =
    let p = err_from_is_err_and c.from_residual-in_err-flush-in-Write.result c.from_residual-in_err-flush-in-Write.ensures.1 in
    IfErr-from _ c.from_residual-in_err-flush-in-Write.result p.0 fault.Write p.1 (p.2 ∙ c.in_err-flush-in-Write.ensures.writes.fault) tt
