use Rattle.std.proofs.Common.{rules, arith}
use Rattle.std.proofs.lemmas.Bool.Decides.{nat_tests}
use Rattle.std.proofs.lemmas.Result.{IfOk-weaker, IfErr-weaker}
use Rattle.upload_book.proofs.Lawful.SeenLemmas.{IsVisibleIn-read, refused-read}
use Rattle.upload_book.proofs.Store.StoreLemmas.{IsPart, ids-read}
use Rattle.upload_book.proofs.block_store.BlockStore.place.Goals as goal

part : (c : goal.After-visible) → IsPart c.self.inside c.args.name.now.tenant c.in-Some.stored_tenant.now
part c = record {
  within = rw (← c.from.ensures, ← c.deref.ensures.value) (grind (arith, nat_tests));
  read = rw (← c.from.ensures, ← c.deref.ensures.value) (search rules);
}

pub visible-requires : goal.visible-requires
visible-requires c =
    ids-read c.self.inside c.args.name.now.tenant c.in-Some.stored_tenant.now c.self.invariant
    (rw (← c.from.ensures, ← c.deref.ensures.value) (grind (arith, nat_tests)))
    (rw (← c.from.ensures, ← c.deref.ensures.value) (search rules))

pub returns-in-Some-clause-visible : goal.returns-in-Some-clause-visible
returns-in-Some-clause-visible c =
    IfOk-weaker c.visible.result _ _ (λ i seen. IsVisibleIn-read c.self.inside c.args.self.now c.args.name.now.tenant c.args.name.now.id c.args.now i c.in-Some.stored_tenant.now c.self.view_is (part c) seen) c.visible.ensures.place

pub returns-in-Some-clause-refused : goal.returns-in-Some-clause-refused
returns-in-Some-clause-refused c =
    IfErr-weaker c.visible.result _ _ (λ e seen. refused-read c.self.inside c.args.self.now c.args.name.now.tenant c.args.name.now.id c.args.now c.in-Some.stored_tenant.now e c.self.view_is (part c) seen) c.visible.ensures.refused
