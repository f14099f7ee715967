-- A text that was written, or broke off.
use Rattle.std.proofs.Common.{ℕ, Bool, List, Option, Result, Ok, Err, sym, subst}
use Rattle.http_wire.specs.Writes.{Writes}
use Rattle.http_wire.specs.declared.fault.WireFault.{WireFault}
use Rattle.journal_folders.specs.StreamUse.{WritesOrFails}

-- what a write of a text leaves
pub written : {T : Type 0} (before after : Option (List ℕ)) (failed : Bool) (text : List ℕ) (r : Result T WireFault) → Writes before after failed text r → WritesOrFails before after failed text
unfolding WritesOrFails
written before after failed text (Ok v) h = subst (λ f. WritesOrFails before after f text) (sym h.failed) h.all
written before after failed text (Err e) h = subst (λ f. WritesOrFails before after f text) (sym h.failed) h.prefix
