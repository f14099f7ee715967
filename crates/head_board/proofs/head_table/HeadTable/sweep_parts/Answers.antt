use Rattle.std.proofs.Common.{◌≡◌, List, length, map, set, ap, sym, subst, ◌∙◌}
use Rattle.std.specs.List.{All}
use Rattle.std.specs.Vec.{with_items}
use Rattle.std.proofs.lemmas.List.{with_items_is}
use Rattle.std.proofs.lemmas.List.Edits.{map_over_more}
use Rattle.upload_book.specs.Heads.{HeadPart, Heads}
use Rattle.head_board.specs.inside.Rows.{Rows}
use Rattle.head_board.proofs.BoundLemmas.{AllBounded, bounded-swept}
use Rattle.head_board.proofs.TableLemmas.{heads-swept, room-swept, swept, swept-all}
use Rattle.head_board.proofs.head_table.HeadTable.sweep_parts.Goals as goal

-- all rows are swept
all : (c : goal.After-self-1) → (with_items c.self.inside.parts c.loop-part.part-items).items ≡ map {A = Rows} {B = Rows} (swept c.args.now) c.self.inside.parts.items
all c =
    with_items_is c.self.inside.parts c.loop-part.part-items (c.loop-part.auto.part-items ∙ ap length c.deref_mut-part-items.ensures.value ∙ sym c.self.inside.parts.ok.0)
    ∙ swept-all c.args.now c.deref_mut-part-items.result.now c.loop-part.part-items c.loop-part.part-index c.loop-part.invariant c.loop-part-test.false
    ∙ ap (map {A = Rows} {B = Rows} (swept c.args.now)) c.deref_mut-part-items.ensures.value

pub invariant_of-self : goal.invariant_of-self
invariant_of-self c =
    let room = c.self.inside.settings.numbers.uploads in
    record {
      room = subst (All (λ (r : Rows). r.room ≡ room)) (sym (all c)) (room-swept c.args.now room c.self.inside.parts.items c.self.invariant.room);
      bound = subst (AllBounded c.self.inside.first_end) (sym (all c)) (bounded-swept c.self.inside.first_end c.args.now c.self.inside.parts.items c.self.invariant.bound);
    }

pub loop-part-preserved : goal.loop-part-preserved
loop-part-preserved c =
    ap (λ (r : Rows). set c.loop-part.part-items c.loop-part.part-index r) (c.sweep.ensures ∙ ap (swept c.args.now) (sym c.part-item.is))
    ∙ map_over_more (swept c.args.now) c.deref_mut-part-items.result.now c.loop-part.part-items c.loop-part.part-index c.part-item.result c.loop-part-test.true c.loop-part.invariant c.part-item.is

pub returns : goal.returns
returns c =
    let heads : List HeadPart → Heads = λ tenants. record { settings = c.self.inside.settings; tenants = tenants; accounts = c.self.inside.accounts } in
    rw (← c.self.view_is) (ap heads (ap (map {A = Rows} {B = HeadPart} (λ r. r.part)) (all c) ∙ heads-swept c.args.now c.self.inside.parts.items))
