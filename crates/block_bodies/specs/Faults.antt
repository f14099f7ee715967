-- What a fault of a body says.
use Rattle.std.specs.Prelude.{ℕ, List, codes}
use Rattle.block_bodies.specs.declared.fault.BodyFault.{BodyFault}
use Rattle.block_bodies.specs.declared.fault.BodyFault.TheVariants.{Full, Memory}

abbrev pub fault_text : BodyFault → List ℕ
fault_text Full = codes "too few blocks are free"
fault_text Memory = codes "out of memory"
