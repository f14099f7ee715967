use Rattle.std.proofs.Common.{◌≡◌, inl, rules, refl, sym, subst, ◌∙◌}
use Rattle.upload_book.specs.Settings.{AreSound, Settings}
use Rattle.tus_steps.specs.Asked.{asked_in}
use Rattle.head_board.specs.Events.{HaveHappened}
use Rattle.tus_shared.proofs.HeadLemmas.{head-asks, is-refused-head, refused-answers, refused-asks}
use Rattle.tus_shared.proofs.desk.Desk.reply_to.Goals as goal

pub returns-in-Refused : goal.returns-in-Refused
returns-in-Refused g c =
    let s = g.C.Charges.settings in
    let r = c.args.request.now in
    let is = subst (λ (s : Settings). c.asked_of.result ≡ asked_in s r) c.self.invariant.settings_are c.asked_of.ensures.is in
    let sound : AreSound s = subst AreSound c.self.invariant.settings_are c.numbers-sound.ensures.sound in
    let happened : HaveHappened s c.args.self.now.seen = rw (← c.self.view_is) c.self.invariant.happened in
    rw c.refuse.ensures (record {
      answers = refused-answers s r c.args.now c.in-Refused.refusal c.args.self.now (sym c.in-Refused.is ∙ is) sound happened;
      unseen = λ head. refl;
      beside = λ head. inl refl;
      counted = λ other refused. absurd (refused (is-refused-head s r c.in-Refused.refusal (sym c.in-Refused.is ∙ is) (rw (← c.request.view_is) (sym c.is_head.ensures ∙ c.if-is_head.true))));
    })

pub returns-in_default : goal.returns-in_default
returns-in_default g c =
    let s = g.C.Charges.settings in
    let r = c.args.request.now in
    let is = subst (λ (s : Settings). c.asked_of.result ≡ asked_in s r) c.self.invariant.settings_are c.asked_of.ensures.is in
    record {
      answers = search rules;
      unseen = λ head.
          let asks = refused-asks s r c.asked_of.result is head in
          search rules;
      beside = λ head.
          let asks = head-asks s r c.asked_of.result is head in
          search rules;
      counted = λ other refused. c.answer_locked.ensures.counted;
    }
