use Rattle.std.proofs.Common.{◌∙◌}
use Rattle.std.proofs.lemmas.Result.{IfErr-at_err, IfOk-at_ok, err_from_is_err_and}
use Rattle.journal_folders.specs.ProgramFault.{fault_of_replay}
use Rattle.journal_folders.proofs.MappedLemmas.{mapped_err, mapped_ok}
use Rattle.journal_folders.proofs.RenewingLemmas.{error-from, replay-fault, replayed-frames}
use Rattle.journal_folders.proofs.renewing.renewed.Goals as goal

pub returns-in_err-map_err-clause-fault : goal.returns-in_err-map_err-clause-fault
returns-in_err-map_err-clause-fault c =
    let p = err_from_is_err_and c.from_residual-in_err-map_err.result c.from_residual-in_err-map_err.ensures.1 in
    let mapped = mapped_err fault_of_replay _ _ _ c.map_err.ensures.cases c.in_err-map_err.was in
    error-from _ c.from_residual-in_err-map_err.result p.0 _ p.1 (p.2 ∙ mapped.2)
    (replay-fault _ _ _ _ _ _ _ mapped.0 c.in_ok-bytes.ensures.snapshot c.copied.ensures c.new-records.ensures.key (c.new-records.ensures.rest ∙ c.deref.ensures.value) (IfErr-at_err _ mapped.1 c.replay.ensures.why))

pub returns-clause-renewed : goal.returns-clause-renewed
returns-clause-renewed c =
    let replayed = mapped_ok fault_of_replay _ _ _ c.map_err.ensures.cases c.in_ok-map_err.was in
    record {
      tenants = c.in_ok-bytes.ensures.tenants;
      snapshot = c.in_ok-bytes.ensures.snapshot;
      after = _;
      replays = replayed-frames _ _ _ _ _ _ _ c.copied.ensures c.new-records.ensures.key (c.new-records.ensures.rest ∙ c.deref.ensures.value) c.in_ok-bytes.ensures.snapshot.frames_are c.in_ok-bytes.ensures.snapshot.fit (IfOk-at_ok _ replayed c.replay.ensures.book);
    }
