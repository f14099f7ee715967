use Rattle.std.proofs.Common.{below_more, sym, ap, ◌∙◌, arith}
use Rattle.std.proofs.lemmas.Bool.{false≢true}
use Rattle.tus_text.specs.Tenant.{is_tenant_name}
use Rattle.tus_text.specs.Path.{path_in_files, named_path}
use Rattle.tus_text_tests.proofs.PlainLemmas.{path_in_files-cut, path_in_files-other}
use Rattle.tus_text_tests.proofs.plain.path.plain_in_files.Goals as goal
use Rattle.tus_text_tests.proofs.plain.path.plain_in_files.Goals.{then-is_tenant_name+in_default, else-is_tenant_name}

pub returns-in-Some : goal.returns-in-Some
returns-in-Some c =
    let text = c.args.text.now in
    let end = c.loop-end.end in
    let named = c.in-Some.ensures.some in
    let is_name = ap is_tenant_name (sym c.split_at.ensures.front) ∙ sym c.is_tenant_name.ensures ∙ c.if-is_tenant_name.true in
    let cut = path_in_files-cut text end named.0 is_name named.1 (sym c.split_at.ensures.back ∙ named.2) in
    named.3 ∙ ap (λ tenant. named_path tenant named.0) c.split_at.ensures.front ∙ sym cut

pub loop-end-preserved : goal.loop-end-preserved
loop-end-preserved c =
    below_more _ _ c.loop-end.invariant (elim c.if-is_tenant_name.branch [
      | then-is_tenant_name+in_default w ↦
          λ cut. w.in_default.ensures.none cut.1 cut.2 (c.split_at.ensures.back ∙ cut.3)
      | else-is_tenant_name w ↦
          λ cut. false≢true (sym w.if-is_tenant_name.false ∙ c.is_tenant_name.ensures ∙ ap is_tenant_name c.split_at.ensures.front ∙ cut.0)
    ])

pub returns : goal.returns
returns c =
    path_in_files-other c.args.text.now (path_in_files c.args.text.now) (λ i. path_in_files c.args.text.now) (λ k within. c.loop-end.invariant k (omega arith))
