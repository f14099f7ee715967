use Rattle.std.proofs.Common.{Some, option_map, sym, ap, ◌∙◌, rules, arith}
use Rattle.std.proofs.lemmas.Bool.Decides.{nat_tests}
use Rattle.block_pool.specs.Blocks.{count_at}
use Rattle.upload_book.specs.inside.Kept.{stored_tenant_of}
use Rattle.upload_book.proofs.Store.HoldersLemmas.{holders-place, holders-entry, block-within}
use Rattle.upload_book.proofs.Store.Pieces.{IsEntry}
use Rattle.upload_book.proofs.Store.StoreLemmas.{IsPart, ids-read}
use Rattle.upload_book.proofs.block_store.BlockStore.holders.Goals as goal

pub place-requires : goal.place-requires
place-requires c =
    ids-read c.self.inside c.args.name.now.tenant c.in_ok-stored_tenant.stored_tenant.now c.self.invariant
    (rw (← c.from.ensures, ← c.deref.ensures.value) (grind (arith, nat_tests)))
    (rw (← c.from.ensures, ← c.deref.ensures.value) (search rules))

pub returns-in_err-place-clause-value : goal.returns-in_err-place-clause-value
returns-in_err-place-clause-value c =
    let part : IsPart c.self.inside c.args.name.now.tenant c.in_ok-stored_tenant.stored_tenant.now = record {
      within = rw (← c.from.ensures, ← c.deref.ensures.value) (grind (arith, nat_tests));
      read = rw (← c.from.ensures, ← c.deref.ensures.value) (search rules);
    } in
    c.from_residual-in_err-place.ensures ∙ sym (holders-place c.self.inside c.args.self.now c.args.name.now.tenant c.args.name.now.id c.args.segment c.args.place c.in_ok-stored_tenant.stored_tenant.now _ c.self.view_is part (sym c.place.ensures ∙ c.in_err-place.was))

pub returns-in_err-block-clause-value : goal.returns-in_err-block-clause-value
returns-in_err-block-clause-value c =
    let part : IsPart c.self.inside c.args.name.now.tenant c.in_ok-stored_tenant.stored_tenant.now = record {
      within = rw (← c.from.ensures, ← c.deref.ensures.value) (grind (arith, nat_tests));
      read = rw (← c.from.ensures, ← c.deref.ensures.value) (search rules);
    } in
    c.from_residual-in_err-block.ensures ∙ ap (option_map (count_at c.self.inside.pool)) (sym c.in_err-block.was ∙ c.block.ensures)
    ∙ sym (holders-entry c.self.inside c.args.self.now c.args.name.now.tenant c.args.name.now.id c.args.segment c.args.place c.in_ok-place.field-0 c.in_ok-stored_tenant.stored_tenant.now c.index-upload.result.now c.self.view_is part (sym c.place.ensures ∙ c.in_ok-place.was) c.index-upload.ensures)

pub count-requires : goal.count-requires
count-requires c =
    let part : IsPart c.self.inside c.args.name.now.tenant c.in_ok-stored_tenant.stored_tenant.now = record {
      within = rw (← c.from.ensures, ← c.deref.ensures.value) (grind (arith, nat_tests));
      read = rw (← c.from.ensures, ← c.deref.ensures.value) (search rules);
    } in
    let entry : IsEntry (stored_tenant_of c.in_ok-stored_tenant.stored_tenant.now) c.in_ok-place.field-0 c.index-upload.result.now = record { within = (search rules); read = c.index-upload.ensures } in
    block-within c.self.inside c.args.name.now.tenant c.in_ok-place.field-0 c.in_ok-stored_tenant.stored_tenant.now c.index-upload.result.now c.args.segment c.args.place c.in_ok-block.block c.self.invariant part entry (sym c.block.ensures ∙ c.in_ok-block.was)

pub returns-clause-value : goal.returns-clause-value
returns-clause-value c =
    let part : IsPart c.self.inside c.args.name.now.tenant c.in_ok-stored_tenant.stored_tenant.now = record {
      within = rw (← c.from.ensures, ← c.deref.ensures.value) (grind (arith, nat_tests));
      read = rw (← c.from.ensures, ← c.deref.ensures.value) (search rules);
    } in
    ap Some c.count.ensures ∙ ap (option_map (count_at c.self.inside.pool)) (sym c.in_ok-block.was ∙ c.block.ensures)
    ∙ sym (holders-entry c.self.inside c.args.self.now c.args.name.now.tenant c.args.name.now.id c.args.segment c.args.place c.in_ok-place.field-0 c.in_ok-stored_tenant.stored_tenant.now c.index-upload.result.now c.self.view_is part (sym c.place.ensures ∙ c.in_ok-place.was) c.index-upload.ensures)
