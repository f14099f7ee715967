-- The faults of a wire: their words, and which of the two streams each names.
use Rattle.std.specs.Prelude.{ℕ, List, codes, ◌≡◌, Bool, false, true}
use Rattle.http_wire.specs.declared.fault.WireFault.{WireFault}
use Rattle.http_wire.specs.declared.fault.WireFault.TheVariants.{Read, Write, Memory, Failed}
use Rattle.http_wire.specs.declared.fault.WireFault.TheVariants as fault

-- what a fault displays
abbrev pub words_of : WireFault → List ℕ
words_of Read = codes "a read failed"
words_of Write = codes "a write failed"
words_of Memory = codes "out of memory"
words_of Failed = codes "the wire failed before"

-- A fault names the one that failed, the reader or the writer, and the other has not failed. So after a read
-- that failed nothing is written, and after a write that failed nothing is read: such a call might fail too.
abbrev pub NamesStream : Bool → Bool → WireFault → Type 0
NamesStream reader writer fault.Read = (reader ≡ true) × (writer ≡ false)
NamesStream reader writer fault.Write = (reader ≡ false) × (writer ≡ true)
NamesStream reader writer fault.Memory = ⊥
NamesStream reader writer fault.Failed = ⊥

-- the same, or there was no memory, and then nothing failed
abbrev pub NamesOrMemory : Bool → Bool → WireFault → Type 0
NamesOrMemory reader writer fault.Read = (reader ≡ true) × (writer ≡ false)
NamesOrMemory reader writer fault.Write = (reader ≡ false) × (writer ≡ true)
NamesOrMemory reader writer fault.Memory = (reader ≡ false) × (writer ≡ false)
NamesOrMemory reader writer fault.Failed = ⊥
