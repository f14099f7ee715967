-- What the reading of the next message tells of the bytes that were read, and of the text that was written meanwhile.
use Rattle.std.specs.Prelude.{◌≡◌, ◌⊎◌, ◌≤◌, ◌+◌, ℕ, length, Bool, true, false, List, [], ◌++◌, take, Option, Result, Ok, Err, IfOk, OnOk, IfErr, ⊤}
use Rattle.std.specs.Io.KnownBytes.{Appends, Consumes, IsAtEnd}
use Rattle.http_wire.specs.RequestLimits.{alike}
use Rattle.http_wire.specs.Conversation.{continue_text}
use Rattle.http_wire.specs.NextMessage.{NextMessage, IsNextMessage, message, refused, cut_patch, cut_other, clean_end}
use Rattle.http_wire.specs.Fault.{NamesStream}
use Rattle.http_wire.specs.HeadText.{head_limit}
use Rattle.http_wire.specs.Incoming.{FramedRequest, is_cut_by_fault}
use Rattle.http_wire.specs.OnWire.{OnWire}
use Rattle.http_wire.specs.Streams.{Streams}
use Rattle.http_wire.specs.WireState.{is_open, is_alive, state_after}
use Rattle.http_wire.specs.declared.fault.WireFault.{WireFault}
use Rattle.http_wire.specs.declared.fault.WireFault.TheVariants.{Read, Write, Memory, Failed}
use Rattle.http_wire.specs.declared.incoming.Cut.TheVariants.{Ended, Fault}
use Rattle.http_wire.specs.declared.incoming.Incoming.{Incoming}
use Rattle.http_wire.specs.declared.incoming.Incoming.TheVariants.{Message, CutPatch, CutOther, Refused, End}
use Rattle.http_wire.specs.declared.request_limits.RequestLimits.{RequestLimits}

-- the most bytes that are read ahead of the next message: a read asks for at most so many beyond what the message lacks
abbrev pub ahead_limit : ℕ
ahead_limit = 16384

-- the most bytes that are read for one message: those of a head with the line ends before it, of a body, and what is read ahead
abbrev pub read_limit : ℕ → ℕ
read_limit max = head_limit + max + ahead_limit

-- these bytes were read, and this text was written meanwhile
pub record Intake : Type 0 where
  pub input : List ℕ
  pub text : List ℕ

-- The input begins with what came in. What follows it changes no message and no refusal; after a message, these bytes of
-- it are left.
abbrev pub ComesIn : RequestLimits → Intake → List ℕ → Incoming FramedRequest → Type 0
ComesIn limits i left (Message m) =
    (waiting : Bool) × (i.text ≡ continue_text waiting)
    × ((rest : List ℕ) → IsNextMessage limits (i.input ++ rest) (message m.request m.framing waiting (left ++ rest)))
ComesIn limits i left (CutPatch m why) =
    (waiting : Bool) × (i.text ≡ continue_text waiting) × IsNextMessage limits i.input (cut_patch m.request m.framing waiting)
ComesIn limits i left CutOther =
    (waiting : Bool) × (i.text ≡ continue_text waiting) × IsNextMessage limits i.input (cut_other waiting)
ComesIn limits i left (Refused why framing) =
    (i.text ≡ []) × ((rest : List ℕ) → IsNextMessage limits (i.input ++ rest) (refused why framing))
ComesIn limits i left End = (i.text ≡ []) × IsNextMessage limits i.input clean_end

-- the request waits for `100 Continue`
abbrev pub waits : NextMessage → Bool
waits (message request framing waiting rest) = waiting
waits (refused why framing) = false
waits (cut_patch request framing waiting) = waiting
waits (cut_other waiting) = waiting
waits clean_end = false

-- there is no whole message, and none that is refused
abbrev pub IsCut : NextMessage → Type 0
IsCut (message request framing waiting rest) = ⊥
IsCut (refused why framing) = ⊥
IsCut (cut_patch request framing waiting) = ⊤
IsCut (cut_other waiting) = ⊤
IsCut clean_end = ⊤

-- A read failed, and the bytes that were read would be cut as a whole input, or nothing; or the write of `100 Continue`
-- failed, and a prefix of it was written.
abbrev pub BreaksMessage : RequestLimits → Intake → WireFault → Type 0
BreaksMessage limits i Read =
    ((waiting : Bool) × (i.text ≡ continue_text waiting) × IsNextMessage limits i.input (cut_other waiting))
    ⊎ ((i.text ≡ []) × IsNextMessage limits i.input clean_end)
BreaksMessage limits i Write =
    (f : NextMessage) × IsNextMessage limits i.input f × (waits f ≡ true) × ((n : ℕ) × (i.text ≡ take n (continue_text true)))
BreaksMessage limits i Memory = ⊥
BreaksMessage limits i Failed = ⊥

-- what a reading gave, and these bytes are left
abbrev pub ReadsNext : RequestLimits → Intake → List ℕ → Result (Incoming FramedRequest) WireFault → Type 0
ReadsNext limits i left (Ok m) = ComesIn limits i left m
ReadsNext limits i left (Err fault) = BreaksMessage limits i fault

-- the input is cut or ended only where no byte of it is left
abbrev pub ComesAtEnd : Option (List ℕ) → Incoming FramedRequest → Type 0
ComesAtEnd remaining (Message m) = ⊤
ComesAtEnd remaining (CutPatch m Ended) = IsAtEnd remaining
ComesAtEnd remaining (CutPatch m Fault) = ⊤
ComesAtEnd remaining CutOther = IsAtEnd remaining
ComesAtEnd remaining (Refused why framing) = ⊤
ComesAtEnd remaining End = IsAtEnd remaining

-- The reader's end was seen where the input ended or was cut by its end, and not where a read failed: after the
-- end no read is tried.
abbrev pub TellsEnd : Bool → Result (Incoming FramedRequest) WireFault → Type 0
TellsEnd ended (Ok (Message m)) = ⊤
TellsEnd ended (Ok (CutPatch m Ended)) = ended ≡ true
TellsEnd ended (Ok (CutPatch m Fault)) = ended ≡ false
TellsEnd ended (Ok CutOther) = ended ≡ true
TellsEnd ended (Ok (Refused why framing)) = ⊤
TellsEnd ended (Ok End) = ended ≡ true
TellsEnd ended (Err Read) = ended ≡ false
TellsEnd ended (Err Write) = ⊤
TellsEnd ended (Err Memory) = ⊤
TellsEnd ended (Err Failed) = ⊤

-- What the reading of the next message did to a wire that reads: some bytes were read, no more than the limit, and some were
-- written, and what came in is what they begin with. Nothing had failed before. Where something did now, the fault names which; after what came in,
-- the writer has not failed, and the reader only where a read that failed cut a PATCH. Nothing is read after the reader's end.
pub record Reads {R W : Type 0} (s : Streams R W) (old new : OnWire R W) (r : Result (Incoming FramedRequest) WireFault) : Type 0 where
  pub next : (got text : List ℕ) × Consumes (s.remaining old.reader) (s.remaining new.reader) got × Appends (s.contents old.writer) (s.contents new.writer) text
      × ReadsNext (alike old.max_size) (record { input = old.held ++ got; text = text }) new.held r × (length got ≤ read_limit old.max_size)
  pub at_end : IfOk r (ComesAtEnd (s.remaining new.reader))
  pub tells_end : TellsEnd new.ended r
  pub stops : old.ended ≡ true → (new.reader ≡ old.reader) × (new.ended ≡ true)
  pub reader : IfOk r (λ n. s.read_failed new.reader ≡ is_cut_by_fault n)
  pub writer : OnOk r (s.write_failed new.writer ≡ false)
  pub fault : IfErr r (NamesStream (s.read_failed new.reader) (s.write_failed new.writer))
  pub alive : (s.read_failed old.reader ≡ false) × (s.write_failed old.writer ≡ false)
  pub size : new.max_size ≡ old.max_size
  pub reads : new.reads ≡ is_open (state_after r)
  pub writes : new.writes ≡ is_alive (state_after r)

-- what a call of `read_request` did to a wire: after the end, a cut or a refusal it gives the end, and after a fault the
-- answer that it failed, and the wire is as it was, its reader and its writer too
pub record ReadsOn {R W : Type 0} (s : Streams R W) (old new : OnWire R W) (r : Result (Incoming FramedRequest) WireFault) : Type 0 where
  pub reading : old.reads ≡ true → Reads s old new r
  pub ended : old.reads ≡ false → old.writes ≡ true → (r ≡ Ok End) × (new ≡ old)
  pub failed : old.reads ≡ false → old.writes ≡ false → (r ≡ Err Failed) × (new ≡ old)
