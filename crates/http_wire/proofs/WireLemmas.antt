-- What the reading of the next message does to a wire.
use Rattle.std.proofs.Common.{arith, ◌≡◌, ◌≤◌, ◌++◌, ℕ, length, Bool, true, false, true≢false, List, Option, Result, Ok, Err, IfErr, OnOk, ap, ap₂, refl, sym, subst, ◌∙◌}
use Rattle.std.specs.Io.KnownBytes.{Appends, Consumes, IsAtEnd}
use Rattle.http_wire.specs.RequestLimits.{AreWithin, alike}
use Rattle.http_wire.specs.Fault.{NamesStream}
use Rattle.http_wire.specs.Incoming.{FramedRequest, is_cut_by_fault}
use Rattle.http_wire.specs.OnConnection.{OnConnection}
use Rattle.http_wire.specs.ReadOnWire.{BreaksMessage, ComesAtEnd, ComesIn, Reads, ReadsOn, TellsEnd, read_limit}
use Rattle.http_wire.specs.Streams.{Streams}
use Rattle.http_wire.specs.WireState.{is_open, state_after}
use Rattle.http_wire.specs.declared.request_limits.RequestLimits.{RequestLimits}
use Rattle.http_wire.specs.declared.fault.WireFault.{WireFault}
use Rattle.http_wire.specs.declared.incoming.Cut.TheVariants as cut
use Rattle.http_wire.specs.declared.incoming.Incoming.{Incoming}
use Rattle.http_wire.specs.declared.incoming.Incoming.TheVariants as incoming
use Rattle.http_wire.specs.declared.wire.State.{State}
use Rattle.http_wire.specs.inside.Ahead.{SeesEnd, StopsAtEnd}
use Rattle.http_wire.specs.inside.Driving.{CameIn}
use Rattle.http_wire.specs.inside.WireModel.{IsWire, or_end, read_by, wire_of}

-- what was cut by the end came where no byte is left
comes-at-end : (remaining : Option (List ℕ)) (ended : Bool) (i : Incoming FramedRequest) → TellsEnd ended (Ok i) → (ended ≡ true → IsAtEnd remaining) → ComesAtEnd remaining i
comes-at-end remaining ended (incoming.Message m) tells sees = tt
comes-at-end remaining ended (incoming.CutPatch m cut.Ended) tells sees = sees tells
comes-at-end remaining ended (incoming.CutPatch m cut.Fault) tells sees = tt
comes-at-end remaining ended incoming.CutOther tells sees = sees tells
comes-at-end remaining ended (incoming.Refused why framing) tells sees = tt
comes-at-end remaining ended incoming.End tells sees = sees tells

-- limits that are the same, without ranges, are alike, and within either
pub alike_is : (limits : RequestLimits) → limits.plain ≡ limits.other → limits.ranges ≡ false → limits ≡ alike limits.other
alike_is limits same none = ap₂ (λ (most : ℕ) (ranges : Bool). record limits { plain = most; ranges = ranges }) same none

alike_within : (limits : RequestLimits) → limits.plain ≡ limits.other → AreWithin limits limits.other
alike_within limits same = (omega (arith, same), omega arith)

-- the reading of the next message on a wire that reads
module _ {R W : Type 0} (s : Streams R W) (r0 r1 : R) (w0 w1 : W) (c0 c1 : OnConnection) (st st1 : State) where
  -- a message came in, or what comes in its place
  Reads-came : (got text : List ℕ) (i : Incoming FramedRequest) → is_open st ≡ true → IsWire s r0 w0 c0 st → Consumes (s.remaining r0) (s.remaining r1) got → Appends (s.contents w0) (s.contents w1) text
      → ComesIn c1.limits (record { input = c0.read_buffer.held ++ got; text = text }) c1.read_buffer.held i → TellsEnd c1.read_buffer.ended (Ok i) → s.read_failed r1 ≡ is_cut_by_fault i
      → (SeesEnd (s.remaining r0) c0.read_buffer → SeesEnd (s.remaining r1) c1.read_buffer) → StopsAtEnd r0 r1 c0.read_buffer c1.read_buffer → s.write_failed w1 ≡ false → c1.limits ≡ c0.limits
      → ((most : ℕ) → AreWithin c0.limits most → length got ≤ read_limit most) → Reads s (wire_of r0 w0 c0 st) (wire_of r1 w1 c1 (state_after (Ok i))) (Ok i)
  Reads-came got text i opened wire consumes appends comes tells why end stops writer size few = record {
    next = (got, text, consumes, appends, subst (λ m. ComesIn m (record { input = c0.read_buffer.held ++ got; text = text }) c1.read_buffer.held i) (size ∙ alike_is c0.limits wire.limits wire.ranges) comes, few c0.limits.other (alike_within c0.limits wire.limits));
    at_end = comes-at-end (s.remaining r1) c1.read_buffer.ended i tells (end (wire.sound.end opened));
    tells_end = tells;
    stops = stops;
    reader = why;
    writer = writer;
    fault = tt;
    alive = (wire.sound.reader_alive opened, wire.sound.writer_alive (wire.sound.both opened));
    size = ap (λ (l : RequestLimits). l.other) size;
    reads = refl;
    writes = refl;
  }

  -- and whatever came of it
  pub ReadsOn-came : (r : Result Unit WireFault) → is_open st ≡ true → IsWire s r0 w0 c0 st → st1 ≡ state_after (read_by r c1)
      → OnOk r ((got text : List ℕ) × Consumes (s.remaining r0) (s.remaining r1) got × Appends (s.contents w0) (s.contents w1) text × CameIn (c0.read_buffer.held ++ got) text (s.read_failed r1) c1 × ((most : ℕ) → AreWithin c0.limits most → length got ≤ read_limit most))
      → IfErr r (λ f. (got text : List ℕ) × Consumes (s.remaining r0) (s.remaining r1) got × Appends (s.contents w0) (s.contents w1) text × BreaksMessage c0.limits (record { input = c0.read_buffer.held ++ got; text = text }) f × ((most : ℕ) → AreWithin c0.limits most → length got ≤ read_limit most))
      → OnOk r (SeesEnd (s.remaining r0) c0.read_buffer → SeesEnd (s.remaining r1) c1.read_buffer) → IfErr r (λ f. TellsEnd c1.read_buffer.ended (Err f)) → StopsAtEnd r0 r1 c0.read_buffer c1.read_buffer
      → OnOk r (s.write_failed w1 ≡ false) → IfErr r (λ f. NamesStream (s.read_failed r1) (s.write_failed w1) f) → c1.limits ≡ c0.limits
      → ReadsOn s (wire_of r0 w0 c0 st) (wire_of r1 w1 c1 st1) (read_by r c1)
  ReadsOn-came r opened wire after comes breaks end tells stops writer fault size = record {
    reading = λ _. subst (λ z. Reads s (wire_of r0 w0 c0 st) (wire_of r1 w1 c1 z) (read_by r c1)) (sym after) (reads r comes breaks end tells writer fault);
    ended = λ no. absurd (true≢false (sym opened ∙ no));
    failed = λ no. absurd (true≢false (sym opened ∙ no));
  }
    where
      reads : (r : Result Unit WireFault)
          → OnOk r ((got text : List ℕ) × Consumes (s.remaining r0) (s.remaining r1) got × Appends (s.contents w0) (s.contents w1) text × CameIn (c0.read_buffer.held ++ got) text (s.read_failed r1) c1 × ((most : ℕ) → AreWithin c0.limits most → length got ≤ read_limit most))
          → IfErr r (λ f. (got text : List ℕ) × Consumes (s.remaining r0) (s.remaining r1) got × Appends (s.contents w0) (s.contents w1) text × BreaksMessage c0.limits (record { input = c0.read_buffer.held ++ got; text = text }) f × ((most : ℕ) → AreWithin c0.limits most → length got ≤ read_limit most))
          → OnOk r (SeesEnd (s.remaining r0) c0.read_buffer → SeesEnd (s.remaining r1) c1.read_buffer) → IfErr r (λ f. TellsEnd c1.read_buffer.ended (Err f))
          → OnOk r (s.write_failed w1 ≡ false) → IfErr r (λ f. NamesStream (s.read_failed r1) (s.write_failed w1) f)
          → Reads s (wire_of r0 w0 c0 st) (wire_of r1 w1 c1 (state_after (read_by r c1))) (read_by r c1)
      reads (Ok done) comes breaks end tells writer fault =
          let came = comes.4 in
          subst (λ i. Reads s (wire_of r0 w0 c0 st) (wire_of r1 w1 c1 (state_after (Ok i))) (Ok i)) (sym (ap or_end came.owed))
          (Reads-came comes.0 comes.1 came.incoming opened wire comes.2 comes.3 came.comes came.tells_end came.why end stops writer size comes.5)
      reads (Err f) comes breaks end tells writer fault = record {
        next = (
          breaks.0,
          breaks.1,
          breaks.2,
          breaks.3,
          subst (λ m. BreaksMessage m (record { input = c0.read_buffer.held ++ breaks.0; text = breaks.1 }) f) (alike_is c0.limits wire.limits wire.ranges) breaks.4,
          breaks.5 c0.limits.other (alike_within c0.limits wire.limits),
        );
        at_end = tt;
        tells_end = tells;
        stops = stops;
        reader = tt;
        writer = tt;
        fault = fault;
        alive = (wire.sound.reader_alive opened, wire.sound.writer_alive (wire.sound.both opened));
        size = ap (λ (l : RequestLimits). l.other) size;
        reads = refl;
        writes = refl;
      }
