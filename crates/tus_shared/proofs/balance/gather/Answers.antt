use Rattle.std.proofs.Common.{◌+◌, ap, refl, ◌∙◌}
use Rattle.std.proofs.lemmas.List.Elements.{All-cons}
use mathlib.Core.List.{IsPrefix}
use Rattle.tus_shared.specs.Desk.{Desk}
use Rattle.tus_shared.proofs.SharesLemmas.{IsLeft-next}
use Rattle.tus_shared.proofs.balance.gather.Goals as goal

pub loop-desk-init : goal.loop-desk-init
loop-desk-init g c = rw c.into_iter-desk-iterator.ensures.into_iter_gives.0 (λ more. more, record { parts = refl; amount = refl }, record { parts = refl; amount = refl }, record { parts = refl; amount = refl })

pub loop-desk-preserved : goal.loop-desk-preserved
loop-desk-preserved g c =
    let i = c.loop-desk.invariant in
    let step = c.in-Some.ensures.steps.0 in
    let begins : IsPrefix c.in-Some.desk.seen c.args.board.now.events = rw (← c.desk.view_is) c.show_to.ensures.begins in (
      λ more. i.0 (rw step (All-cons (λ (d : Desk). IsPrefix d.seen c.args.board.now.events) c.in-Some.desk c.next.new.self.rest.items begins more)),
      IsLeft-next (λ (d : Desk). d.charged) _ _ _ _ _ c.in-Some.desk c.loop-desk.charged.parts c.loop-desk.charged.amount _ _ step
          (c.merge.ensures.parts ∙ ap (λ n. c.loop-desk.charged.parts + n) c.desk.invariant.charged_part)
          (c.merge.ensures.amount ∙ ap (λ n. c.loop-desk.charged.amount + n) (ap (λ (d : Desk). d.charged) c.desk.view_is)) i.1,
      IsLeft-next (λ (d : Desk). d.released) _ _ _ _ _ c.in-Some.desk c.loop-desk.released.parts c.loop-desk.released.amount _ _ step
          (c.merge-in-loop-desk.ensures.parts ∙ ap (λ n. c.loop-desk.released.parts + n) c.desk.invariant.released_part)
          (c.merge-in-loop-desk.ensures.amount ∙ ap (λ n. c.loop-desk.released.amount + n) (ap (λ (d : Desk). d.released) c.desk.view_is)) i.2,
      IsLeft-next (λ (d : Desk). d.made) _ _ _ _ _ c.in-Some.desk c.loop-desk.made.parts c.loop-desk.made.amount _ _ step
          (c.merge-in-loop-desk-2.ensures.parts ∙ ap (λ n. c.loop-desk.made.parts + n) c.desk.invariant.made_part)
          (c.merge-in-loop-desk-2.ensures.amount ∙ ap (λ n. c.loop-desk.made.amount + n) (ap (λ (d : Desk). d.made) c.desk.view_is)) i.3,
    )
