use Rattle.std.proofs.Common.{ap, arith, length}
use Rattle.std.proofs.lemmas.Result.{IfOk-at_ok}
use Rattle.journal_folders.proofs.MappedLemmas.{mapped_ok}
use Rattle.tus_program.specs.ProgramFault.{fault_of_opening}
use Rattle.tus_program.proofs.DeskLemmas.{new_desks-length}
use Rattle.tus_program.proofs.serve.serve_with.Goals as goal

pub serve_desks-requires-clause-count : goal.serve_desks-requires-clause-count
serve_desks-requires-clause-count g c κs within =
    let opened = mapped_ok fault_of_opening _ _ _ c.map_err.ensures.cases c.in_ok-shared.was in
    omega (
      arith,
      c.in_ok-shared.desks.ok.0,
      ap length (IfOk-at_ok _ opened c.open.ensures.desks),
      new_desks-length g.C.Charges.journal c.args.options.now.workers,
      c.requires.desks,
    )
