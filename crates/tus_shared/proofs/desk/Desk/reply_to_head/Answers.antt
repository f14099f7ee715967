use Rattle.std.proofs.Common.{Ok, Err, ap, inl, inr}
use Rattle.tus_steps.specs.PlacedReply.{reply_in}
use Rattle.tus_shared.specs.Desk.{Desk}
use Rattle.tus_shared.proofs.HeadLemmas.{head-answers, head-turn, missed-looks, sees-first}
use Rattle.tus_shared.proofs.desk.Desk.reply_to_head.Goals as goal

pub returns-in-Some-Ok : goal.returns-in-Some-Ok
returns-in-Some-Ok g c =
    let s = g.C.Charges.settings in
    let r = c.args.request.now in
    let name = c.args.name in
    let new = c.read_board.new.self in
    let reads = rw c.in-Some-Ok.field-0-is at c.in-Some-Ok.ensures.reads in
    head-turn s r c.args.now name _ c.args.self.now new c.requires.found.is
    (head-answers s r c.args.now name (Ok c.read_board.new.row) c.args.self.now new c.requires.found.is reads c.in-Some-Ok.ensures.sees)
    (inl (ap (λ (d : Desk). d.steps) c.in-Some-Ok.ensures.sees))

pub returns-in-Some-Err : goal.returns-in-Some-Err
returns-in-Some-Err g c =
    let s = g.C.Charges.settings in
    let r = c.args.request.now in
    let name = c.args.name in
    let new = c.read_board.new.self in
    let reads = rw c.in-Some-Err.field-0-is at c.in-Some-Err.ensures.reads in
    head-turn s r c.args.now name _ c.args.self.now new c.requires.found.is
    (rw (c.refuse_head.ensures, c.in-Some-Err.refusal-is) (head-answers s r c.args.now name (Err c.in-Some-Err.refusal) c.args.self.now new c.requires.found.is reads c.in-Some-Err.ensures.sees))
    (inl (ap (λ (d : Desk). d.steps) c.in-Some-Err.ensures.sees))

pub returns-in-None : goal.returns-in-None
returns-in-None g c =
    let s = g.C.Charges.settings in
    let r = c.args.request.now in
    let name = c.args.name in
    let looks = missed-looks c.args.self.now c.read_board.new.self c.in-None.ensures.misses in
    head-turn s r c.args.now name _ c.args.self.now c.answer_locked.new.self c.requires.found.is
    (sees-first s r c.args.now (reply_in c.answer_locked.new.reply) c.args.self.now c.read_board.new.self c.answer_locked.new.self looks c.answer_locked.ensures.answers)
    (inr (c.answer_locked.ensures.missed (ap (λ (d : Desk). d.missed) c.in-None.ensures.misses)))
