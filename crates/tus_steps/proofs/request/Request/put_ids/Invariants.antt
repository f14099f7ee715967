use Rattle.std.proofs.Common.{◌≡◌, map, take}
use Rattle.tus_steps.specs.Creation.{part_id}
use Rattle.tus_steps.proofs.request.Request.put_ids.Given as goal

-- the parts so far, in their order
abbrev pub invariant-loop-part : goal.invariant-loop-part
invariant-loop-part l = l.ids.items ≡ map (part_id l.self) (take l.part-index l.parts)
