use Rattle.std.proofs.Common.{length, set, ap, sym, ◌∙◌}
use Rattle.std.proofs.lemmas.List.{with_items_is}
use Rattle.std.proofs.lemmas.List.Edits.{map_over_more}
use Rattle.head_board.specs.inside.EventLog.{LogPrefix}
use Rattle.head_board.proofs.LastLemmas.{all-same}
use Rattle.head_board.proofs.last_changes.LastChanges.mark_all.Goals as goal

pub loop-slot-preserved : goal.loop-slot-preserved
loop-slot-preserved c =
    ap (λ (slot : LogPrefix). set c.loop-slot.slot-items c.loop-slot.slot-index slot) c.again.ensures
    ∙ map_over_more (λ (slot : LogPrefix). c.args.after.now) c.deref_mut-slot-items.result.now c.loop-slot.slot-items c.loop-slot.slot-index c.slot-item.result c.loop-slot-test.true c.loop-slot.invariant c.slot-item.is

pub returns : goal.returns
returns c =
    let len = ap length c.deref_mut-slot-items.ensures.value ∙ sym c.self.inside.slots.ok.0 in
    with_items_is c.self.inside.slots c.loop-slot.slot-items (c.loop-slot.auto.slot-items ∙ len)
    ∙ all-same c.deref_mut-slot-items.result.now c.loop-slot.slot-items c.loop-slot.slot-index c.args.after.now c.loop-slot.invariant c.loop-slot-test.false (len ∙ c.self.invariant)
