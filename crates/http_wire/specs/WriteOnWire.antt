-- What a call that writes a text did to a wire.
use Rattle.std.specs.Prelude.{◌≡◌, ◌&&◌, ℕ, true, false, List, Result, Err, is_ok}
use Rattle.http_wire.specs.OnWire.{OnWire}
use Rattle.http_wire.specs.Streams.{Streams}
use Rattle.http_wire.specs.Writes.{Writes}
use Rattle.http_wire.specs.declared.fault.WireFault.{WireFault}
use Rattle.http_wire.specs.declared.fault.WireFault.TheVariants.{Failed}

-- What a call that writes a text did to a wire. Where the wire writes, the text is written; or a write failed, a prefix of
-- the text is written, and from then on the wire does nothing. Where it does not write, the call says that it failed, and
-- the wire is as it was, its writer too.
pub record WritesOn {R W T : Type 0} (s : Streams R W) (text : List ℕ) (old new : OnWire R W) (r : Result T WireFault) : Type 0 where
  pub writing : old.writes ≡ true → Writes (s.contents old.writer) (s.contents new.writer) (s.write_failed new.writer) text r
  pub alive : old.writes ≡ true → s.write_failed old.writer ≡ false
  pub stays : old.writes ≡ true → new ≡ record old { writer = new.writer; reads = old.reads && is_ok r; writes = is_ok r }
  pub failed : old.writes ≡ false → (r ≡ Err Failed) × (new ≡ old)
