-- The laws of tenants on one server.
use Rattle.std.proofs.Common.{ℕ, List, refl, sym, ◌∙◌}
use Rattle.upload_book.specs.PlainBook.{PlainBook, opening_book}
use Rattle.tus_steps.specs.declared.reply.Reply.{Reply}
use Rattle.tus_steps.specs.History.{own_events}
use Rattle.tus_steps.specs.Isolation.{AreAlike, IsUnhinderedAt, OtherNeighbours, OwnEvents, StepsSeeOneTenant}
use Rattle.tus_steps.specs.Request.{Request}
use Rattle.tus_steps.proofs.HistoryLemmas.{opening-alike, opening-part, own-replies, own-twice, same-replies}
use Rattle.tus_steps.proofs.NextLemmas.{opened-next, own-tells}
use Rattle.tus_steps.proofs.OwnLemmas.{others-step, own-step}
use Rattle.tus_steps.proofs.PlaceLemmas.{part_of-swept}

-- books that are alike to a tenant have the same numbers and the same next id of it
also-unhindered : (tenant : List ℕ) (b other : PlainBook) (exchange : Request × Reply) → AreAlike tenant b other → IsUnhinderedAt other tenant exchange → IsUnhinderedAt b tenant exchange
also-unhindered tenant b other exchange alike unhindered = rw (alike.numbers, alike.part) unhindered

pub steps_see_one_tenant : StepsSeeOneTenant
steps_see_one_tenant = record {
  own = λ tenant b other r now told also after left alike own step also_step unhindered also_unhindered.
      let go = own-step tenant b other r now told also after left alike own step also_step unhindered (also-unhindered tenant b other (r, also) alike also_unhindered) in
      (go.told, go.alike);
  next = λ tenant b r now told after each own step. (own-tells tenant b r now told after each own step).next;
  others = λ tenant b r now told after other step. (others-step tenant b r now told after other step).part;
  swept = part_of-swept;
}

pub other_neighbours : OtherNeighbours
other_neighbours s other tenant events others replies told after left numbers quota is also same unhindered also_unhindered =
    same-replies tenant (opening_book s) (opening_book other) events others replies told after left (opening-alike s other tenant numbers quota) is also same
    s.numbers 1 refl (opened-next s tenant (opening-part s tenant)) unhindered (rw numbers also_unhindered)

pub own_events_stay : OwnEvents
own_events_stay s tenant events replies alone after left is also unhindered also_unhindered =
    other_neighbours s s tenant events (own_events tenant events) replies alone after left refl refl is also (sym (own-twice tenant events)) unhindered also_unhindered
    ∙ own-replies tenant (opening_book s) events alone left also
