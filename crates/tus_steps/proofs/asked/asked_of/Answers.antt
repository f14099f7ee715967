use Rattle.std.proofs.Common.{sym, ap, ◌∙◌, refl}
use Rattle.tus_steps.specs.Method.{is_options}
use Rattle.tus_steps.specs.Operation.{operation_of}
use Rattle.tus_steps.specs.Request.{Request}
use Rattle.tus_steps.proofs.AskLemmas.{refused-for}
use Rattle.tus_steps.proofs.AskedLemmas.{found-asked, found-refused}
use Rattle.tus_steps.proofs.asked.asked_of.Goals as goal

pub returns-in-Ok : goal.returns-in-Ok
returns-in-Ok c =
    let s = c.args.settings.now in
    let r = c.args.request.now in
    let other = ap (λ (r : Request). is_options r.method) (sym c.request.view_is) ∙ sym c.is_options.ensures ∙ c.if-is_options.false in
    found-asked s r (operation_of s r) c.in-Ok.asked other refl (sym c.asked.ensures.value ∙ c.in-Ok.is) c.in-Ok.ensures.ready

pub returns-in-Err : goal.returns-in-Err
returns-in-Err c =
    let s = c.args.settings.now in
    let r = c.args.request.now in
    let other = ap (λ (r : Request). is_options r.method) (sym c.request.view_is) ∙ sym c.is_options.ensures ∙ c.if-is_options.false in
    found-refused s r c.in-Err.refusal other (refused-for (operation_of s r) c.in-Err.refusal (sym c.asked.ensures.value ∙ c.in-Err.is))
