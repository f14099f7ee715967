use Rattle.std.proofs.Common.{◌≡◌, ◌≤◌, false, [], ap, ◌∙◌, arith}
use Rattle.journal_file.specs.Journal.{room_of}
use Rattle.journal_keeper.proofs.CompactionLemmas.{will-keep-under}
use Rattle.journal_keeper.proofs.KeeperLemmas.{kept-longer}
use Rattle.journal_keeper.proofs.keeper.Keeper.shorten.Goals as goal

pub invariant_of-self : goal.invariant_of-self
invariant_of-self g c =
    let well : c.self.inside.has_failed ≡ false = ap (λ k. k.failed) c.self.view_is ∙ c.requires in
    let covers : c.self.inside.granted ≤ room_of c.shorten.new.self = omega (arith, c.self.invariant.0.covered well, c.shorten.ensures.room) in (
      kept-longer c.self.inside.journal c.shorten.new.self _ _ _ _ _ _ _ c.self.inside.granted _ _ well c.self.invariant.0 c.shorten.ensures.key (λ payloads. c.shorten.ensures.stays payloads []) covers,
      will-keep-under _ _ _ _ c.self.inside.compaction c.shorten.ensures.key c.self.invariant.1,
    )

pub invariant_of-self-else-is_ok : goal.invariant_of-self-else-is_ok
invariant_of-self-else-is_ok g c =
    let well : c.self.inside.has_failed ≡ false = ap (λ k. k.failed) c.self.view_is ∙ c.requires in
    let covers : c.self.inside.granted ≤ room_of c.shorten.new.self = omega (arith, c.self.invariant.0.covered well, c.shorten.ensures.room) in (
      kept-longer c.self.inside.journal c.shorten.new.self _ _ _ _ _ _ _ c.self.inside.granted _ _ well c.self.invariant.0 c.shorten.ensures.key (λ payloads. c.shorten.ensures.stays payloads []) covers,
      will-keep-under _ _ _ _ c.self.inside.compaction c.shorten.ensures.key c.self.invariant.1,
    )
