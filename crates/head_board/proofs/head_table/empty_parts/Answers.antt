use Rattle.std.proofs.Common.{◌≡◌, ◌∷◌, [], ◌++◌, length, take, ap, sym, subst, ◌∙◌, arith}
use Rattle.std.specs.List.{All}
use Rattle.std.proofs.lemmas.List.{take_all}
use Rattle.std.proofs.lemmas.List.Elements.{All-push}
use Rattle.upload_book.specs.declared.settings.Numbers.{Numbers}
use Rattle.head_board.specs.inside.Rows.{Rows}
use Rattle.head_board.specs.inside.HeadTable.{opening_parts}
use Rattle.head_board.proofs.TableLemmas.{parts-more}
use Rattle.head_board.proofs.head_table.empty_parts.Goals as goal

pub loop-tenant-preserved : goal.loop-tenant-preserved
loop-tenant-preserved c = record {
  room = omega (arith, c.loop-tenant.invariant.room, c.push_reserved.ensures.capacity);
  some = omega (arith, c.loop-tenant.invariant.some, c.push_reserved.ensures.len);
  opening = parts-more c.args.settings.now.tenants c.loop-tenant.parts.items _ c.loop-tenant.tenant c.quota.result _ (c.push_reserved.ensures.items ∙ ap (λ (r : Rows). c.loop-tenant.parts.items ++ r ∷ []) c.in_ok-new.ensures) c.quota.ensures c.loop-tenant.invariant.opening;
  roomy =
      let P : Rows → Type 0 = λ (r : Rows). r.room ≡ c.args.settings.now.numbers.uploads in
      subst (All P) (sym c.push_reserved.ensures.items) (All-push P c.loop-tenant.parts.items c.in_ok-new.field-0 c.loop-tenant.invariant.roomy (ap (λ (r : Rows). r.room) c.in_ok-new.ensures ∙ ap (λ (n : Numbers). n.uploads) c.numbers.ensures.value));
}

pub returns-clause-parts : goal.returns-clause-parts
returns-clause-parts c =
    let all : c.loop-tenant.tenant ≡ length c.args.settings.now.tenants = omega arith in
    c.loop-tenant.invariant.opening ∙ ap (λ n. opening_parts (take n c.args.settings.now.tenants)) all ∙ ap opening_parts (take_all (length c.args.settings.now.tenants) c.args.settings.now.tenants (omega arith))
