use Rattle.std.proofs.Common.{◌≡◌, ◌≤◌, false, ap, ◌∙◌, arith, rules}
use Rattle.journal_file.specs.Journal.{room_of}
use Rattle.journal_keeper.proofs.CompactionLemmas.{will-keep-under}
use Rattle.journal_keeper.proofs.KeeperLemmas.{kept-longer}
use Rattle.journal_keeper.proofs.keeper.Keeper.grant.Goals as goal

pub invariant_of-self : goal.invariant_of-self
invariant_of-self g c =
    let well : c.self.inside.has_failed ≡ false = ap (λ k. k.failed) c.self.view_is ∙ c.requires in
    let covers : c.self.inside.granted ≤ room_of c.make_room.new.self = omega (arith, c.self.invariant.0.covered well, c.make_room.ensures.grows) in (
      kept-longer c.self.inside.journal c.make_room.new.self _ _ _ _ _ _ _ c.self.inside.granted _ _ well c.self.invariant.0 c.make_room.ensures.key c.make_room.ensures.stays covers,
      will-keep-under _ _ _ _ c.self.inside.compaction c.make_room.ensures.key c.self.invariant.1,
    )

pub invariant_of-self-2 : goal.invariant_of-self-2
invariant_of-self-2 g c =
    let well : c.self.inside.has_failed ≡ false = ap (λ k. k.failed) c.self.view_is ∙ c.requires in
    let covers : c.in-Some.all ≤ room_of c.make_room.new.self = search rules in (
      kept-longer c.self.inside.journal c.make_room.new.self _ _ _ _ _ _ _ c.self.inside.granted _ _ well c.self.invariant.0 c.make_room.ensures.key c.make_room.ensures.stays covers,
      will-keep-under _ _ _ _ c.self.inside.compaction c.make_room.ensures.key c.self.invariant.1,
    )
