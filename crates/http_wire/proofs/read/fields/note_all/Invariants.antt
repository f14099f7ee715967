use Rattle.std.proofs.Common.{take}
use Rattle.http_wire.specs.inside.HeadFields.{Shows}
use Rattle.http_wire.proofs.read.fields.note_all.Given as goal

-- the map shows the fields so far
abbrev pub invariant-loop-span : goal.invariant-loop-span
invariant-loop-span l = Shows l.number l.head (take l.span-index l.spans) l.map
