use Rattle.std.proofs.Common.{inr, refl}
use Rattle.tus_workers.proofs.at_desk.AtDeskAnswer.answer.Goals as goal
use Rattle.tus_workers.proofs.at_desk.AtDeskAnswer.answer.Goals.{then-not-is_head, else-not-is_head}

pub returns : goal.returns
returns g c = record {
  ready = c.if-not-is_head.self.desk;
  sweeps = elim c.if-not-is_head.branch [
    | then-not-is_head w ↦ rw w.self-is w.sweep_once.ensures.sweeps
    | else-not-is_head w ↦ rw w.self-is (inr refl)
  ];
  head = λ head. elim c.if-not-is_head.branch [
    | then-not-is_head w ↦ absurd (cc (rw (← c.request.view_is) at head, c.is_head.ensures, w.if-not-is_head.true))
    | else-not-is_head w ↦ rw w.self-is refl
  ];
  answers = c.answer_in_place.ensures;
}
