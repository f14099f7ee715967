use Rattle.std.proofs.Common.{arith, rules}
use Rattle.tus_shared.proofs.ZipLemmas.{AllFour-long}
use Rattle.tus_shared.proofs.work.work_all.Goals as goal

pub returns-clause-answers : goal.returns-clause-answers
returns-clause-answers g c = search rules

pub returns-clause-count : goal.returns-clause-count
returns-clause-count g c =
    let long = AllFour-long _ c.args.batches.now c.work-after.result.1.items c.replace-before.result.items c.work-after.result.0.items c.work-after.ensures.answers in
    omega (arith, long.1, c.requires, c.work-after.result.0.ok.0)
