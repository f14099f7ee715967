use Rattle.std.proofs.Common.{◌≡◌, ◌<◌, ◌≤◌, [], ◌∷◌, length, length-append, vec_capacity, ap, refl, sym, ◌∙◌, rules, arith}
use Rattle.std.specs.List.{AllZip}
use Rattle.tus_shared.specs.Answers.{AllFour, AnswersBatch}
use Rattle.std.proofs.lemmas.Slice.Zip.{AllZip-long}
use Rattle.tus_shared.proofs.ZipLemmas.{AllFour-last, AllFour-long, AllFour-none, AllZip-init}
use Rattle.tus_shared.proofs.work.+fn-work-join+arg2+work.Goals as goal

pub unwrap-desk-requires : goal.unwrap-desk-requires
unwrap-desk-requires g t c = c.pop.ensures.variant.1 (omega (arith, c.requires.desks, c.in-Some.ensures.cases.1, c.args.desks.ok.0))

pub unwrap-room-requires : goal.unwrap-room-requires
unwrap-room-requires g t c =
    let same = AllZip-long _ c.args.batches.now c.args.rooms.items c.requires.rooms in
    c.pop-2.ensures.variant.1 (omega (arith, same, c.in-Some.ensures.cases.1, c.args.rooms.ok.0))

pub join-after-requires-after_bounds : goal.join-after-requires-after_bounds
join-after-requires-after_bounds g t c =
    let batches = c.in-Some.ensures.cases in
    let parted = AllZip-init c.args.batches.now c.in-Some.others.now c.in-Some.batch.now c.args.rooms.items c.pop-2.new.self.items c.unwrap-room.result
    (λ batch room. (room.items ≡ []) × (length batch.now ≤ vec_capacity room)) batches.0 (rw c.unwrap-room.ensures at c.pop-2.ensures.items) c.requires.rooms in
    let rooms_there : AllZip (λ batch room. (room.items ≡ []) × (length batch.now ≤ vec_capacity room)) c.in-Some.others.now c.pop-2.new.self.items = parted.0 in
    let empty : c.unwrap-room.result.items ≡ [] = parted.1.0 in
    let room : length c.in-Some.batch.now.now ≤ vec_capacity c.unwrap-room.result = parted.1.1 in
    let desks_there : length c.in-Some.others.now ≡ length c.pop.new.self.items = omega (arith, ap length (rw c.unwrap-desk.ensures at c.pop.ensures.items), length-append c.pop.new.self.items (c.unwrap-desk.result ∷ []), batches.1, c.requires.desks) in
    let fewer : length c.in-Some.others.now < length c.args.batches.now = omega (arith, batches.1) in
    search rules

pub push_reserved-requires : goal.push_reserved-requires
push_reserved-requires g t c =
    let batches = c.in-Some.ensures.cases in
    let all : AllFour (λ batch own before after. AnswersBatch g.C.Charges.settings batch.now own.items before after) c.in-Some.others.now c.join-after.result.0.1.items c.pop.new.self.items c.join-after.result.0.0.items = c.join-after.ensures.first.0 in
    let capacity : vec_capacity c.join-after.result.0.0 ≡ vec_capacity c.args.desks = c.join-after.ensures.first.1.0 ∙ c.pop.ensures.capacity in
    let long = AllFour-long _ c.in-Some.others.now c.join-after.result.0.1.items c.pop.new.self.items c.join-after.result.0.0.items all in
    omega (arith, long.1, capacity, c.join-after.result.0.0.ok.0, batches.1, c.requires.desks, c.args.desks.ok)

pub push_reserved-requires-2 : goal.push_reserved-requires-2
push_reserved-requires-2 g t c =
    let batches = c.in-Some.ensures.cases in
    let all : AllFour (λ batch own before after. AnswersBatch g.C.Charges.settings batch.now own.items before after) c.in-Some.others.now c.join-after.result.0.1.items c.pop.new.self.items c.join-after.result.0.0.items = c.join-after.ensures.first.0 in
    let capacity : vec_capacity c.join-after.result.0.1 ≡ vec_capacity c.args.rooms = c.join-after.ensures.first.1.1 ∙ c.pop-2.ensures.capacity in
    let long = AllFour-long _ c.in-Some.others.now c.join-after.result.0.1.items c.pop.new.self.items c.join-after.result.0.0.items all in
    let same = AllZip-long _ c.args.batches.now c.args.rooms.items c.requires.rooms in
    omega (arith, long.0, same, capacity, c.join-after.result.0.1.ok.0, batches.1, c.args.rooms.ok)

pub returns-clause-answers : goal.returns-clause-answers
returns-clause-answers g t c =
    let batches = c.in-Some.ensures.cases in
    let all : AllFour (λ batch own before after. AnswersBatch g.C.Charges.settings batch.now own.items before after) c.in-Some.others.now c.join-after.result.0.1.items c.pop.new.self.items c.join-after.result.0.0.items = c.join-after.ensures.first.0 in
    let here : AnswersBatch g.C.Charges.settings c.in-Some.batch.now.now c.join-after.result.1.1.items c.unwrap-desk.result c.join-after.result.1.0 = c.join-after.ensures.second in
    AllFour-last (λ batch own before after. AnswersBatch g.C.Charges.settings batch.now own.items before after) c.args.batches.now c.in-Some.others.now c.in-Some.batch.now
    c.push_reserved-2.new.self.items c.join-after.result.0.1.items c.join-after.result.1.1 c.args.desks.items c.pop.new.self.items c.unwrap-desk.result
    c.push_reserved.new.self.items c.join-after.result.0.0.items c.join-after.result.1.0
    batches.0 c.push_reserved-2.ensures.items (rw c.unwrap-desk.ensures at c.pop.ensures.items) c.push_reserved.ensures.items all here

pub returns-in_default-clause-desks : goal.returns-in_default-clause-desks
returns-in_default-clause-desks g t c = refl

pub returns-in_default-clause-replies : goal.returns-in_default-clause-replies
returns-in_default-clause-replies g t c = refl

pub returns-clause-desks : goal.returns-clause-desks
returns-clause-desks g t c = c.push_reserved.ensures.capacity ∙ c.join-after.ensures.first.1.0 ∙ c.pop.ensures.capacity

pub returns-clause-replies : goal.returns-clause-replies
returns-clause-replies g t c = c.push_reserved-2.ensures.capacity ∙ c.join-after.ensures.first.1.1 ∙ c.pop-2.ensures.capacity

pub join+arg2-returns : goal.join+arg2-returns
join+arg2-returns g t c = c.work.ensures

pub fn::work::join+arg2+FnOnce::call_once-returns : goal.fn::work::join+arg2+FnOnce::call_once-returns
fn::work::join+arg2+FnOnce::call_once-returns g t c = (c.join+arg2.ensures.answers, (c.join+arg2.ensures.desks, c.join+arg2.ensures.replies))

pub returns-in_default-clause-answers : goal.returns-in_default-clause-answers
returns-in_default-clause-answers g t c =
    let none : length c.args.batches.now ≡ 0 = c.in_default.ensures.cases in
    let desks : length c.args.desks.items ≡ 0 = sym c.requires.desks ∙ none in
    let rooms : length c.args.rooms.items ≡ 0 = AllZip-long _ c.args.batches.now c.args.rooms.items c.requires.rooms ∙ none in
    AllFour-none _ c.args.batches.now c.args.rooms.items c.args.desks.items c.args.desks.items none rooms desks desks

pub join+arg2-work-requires : goal.join+arg2-work-requires
join+arg2-work-requires g t c κs within = search rules

pub fn::work::join+arg2+FnOnce::call_once-join+arg2-requires : goal.fn::work::join+arg2+FnOnce::call_once-join+arg2-requires
fn::work::join+arg2+FnOnce::call_once-join+arg2-requires g t c κs within = search rules

pub pop-requires-2 : goal.pop-requires-2
pop-requires-2 g t c κs = search rules
