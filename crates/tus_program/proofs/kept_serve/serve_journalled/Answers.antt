use Rattle.std.proofs.Common.{◌≡◌, ◌∙◌, true, Some, Result, Ok, Err, OnOk, inl, inr, ap, arith, length, sym}
use Rattle.std.proofs.lemmas.Result.{IfOk-at_ok, err_from_is_err_and}
use Rattle.journal_folders.proofs.MappedLemmas.{mapped_err, mapped_ok}
use Rattle.server_words.specs.Arguments.{serve_arguments_of}
use Rattle.server_words.specs.JournalFault.{IsOfSystem}
use Rattle.server_words.specs.SettingsFile.{settings_text}
use Rattle.journal_folders.specs.StreamUse.{used}
use Rattle.server_words.specs.declared.fault.RunFault.{RunFault}
use Rattle.tus_program.specs.ProgramFault.{fault_of_opening, fault_of_reopening}
use Rattle.tus_program.specs.Serve.{BreaksOff, is_of_kept_service}
use Rattle.tus_program.specs.Sockets.{sockets}
use Rattle.upload_book.specs.Settings.{Settings}
use Rattle.tus_program.proofs.DeskLemmas.{new_desks-last, new_desks-length}
use Rattle.tus_program.proofs.ServeLemmas.{reopening-by_cause, reopening-kept}
use Rattle.tus_program.proofs.kept_serve.serve_journalled.Goals as goal

pub reopen-reopened-requires-clause-seen : goal.reopen-reopened-requires-clause-seen
reopen-reopened-requires-clause-seen g c =
    let opened = mapped_ok fault_of_opening _ _ _ c.map_err.ensures.cases c.in_ok-store.was in
    (new_desks-last g.C.Charges.journal c.args.options.now.workers c.pop.new.self.items c.in-Some.desk (sym c.in-Some.ensures.items ∙ IfOk-at_ok _ opened c.open.ensures.desks)).0

pub reopen-reopened-requires-clause-kept : goal.reopen-reopened-requires-clause-kept
reopen-reopened-requires-clause-kept g c =
    let opened = mapped_ok fault_of_opening _ _ _ c.map_err.ensures.cases c.in_ok-store.was in
    (new_desks-last g.C.Charges.journal c.args.options.now.workers c.pop.new.self.items c.in-Some.desk (sym c.in-Some.ensures.items ∙ IfOk-at_ok _ opened c.open.ensures.desks)).1

pub returns-in_err-reopened-clause-fault : goal.returns-in_err-reopened-clause-fault
returns-in_err-reopened-clause-fault g c =
    let made = err_from_is_err_and c.from_residual-in_err-reopened.result c.from_residual-in_err-reopened.ensures.1 in
    let mapped = mapped_err fault_of_reopening _ _ _ c.map_err-2.ensures.cases c.in_err-reopened.was in
    rw (made.1, made.2 ∙ mapped.2) (reopening-kept _)

pub returns-in_err-reopened-clause-wire : goal.returns-in_err-reopened-clause-wire
returns-in_err-reopened-clause-wire g c =
    let made = err_from_is_err_and c.from_residual-in_err-reopened.result c.from_residual-in_err-reopened.ensures.1 in
    let mapped = mapped_err fault_of_reopening _ _ _ c.map_err-2.ensures.cases c.in_err-reopened.was in
    reopening-by_cause (BreaksOff (sockets g.L.Listener.asked g.L.Listener.place g.L.Acceptor.Accept.accepted g.L.Acceptor.Accept.has_failed g.L.Acceptor.Accept.is_stopped) (serve_arguments_of c.args.options.now) g.C.Charges.settings (used g.W.Sink.contents g.W.Sink.has_failed c.args.output.now c.args.output.now))
    _ _ (made.1 ∙ ap Err (made.2 ∙ mapped.2))

pub serve_desks-served-requires-clause-count : goal.serve_desks-served-requires-clause-count
serve_desks-served-requires-clause-count g c κs within =
    let opened = mapped_ok fault_of_opening _ _ _ c.map_err.ensures.cases c.in_ok-store.was in
    omega (
      arith,
      c.push_reserved.ensures.len,
      c.in-Some.ensures.len,
      c.in_ok-store.desks.ok.0,
      ap length (IfOk-at_ok _ opened c.open.ensures.desks),
      new_desks-length g.C.Charges.journal c.args.options.now.workers,
      c.requires.desks,
    )

-- a fault of putting settings comes with a journal
of_system : (fault : RunFault) → IsOfSystem fault → is_of_kept_service fault ≡ true
of_system fault (inl disk) = ap is_of_kept_service disk
of_system fault (inr memory) = ap is_of_kept_service memory

pub returns-in_err-renew_settings-clause-fault : goal.returns-in_err-renew_settings-clause-fault
returns-in_err-renew_settings-clause-fault g c =
    let made = err_from_is_err_and c.from_residual-in_err-renew_settings.result c.from_residual-in_err-renew_settings.ensures.1 in
    rw (made.1, made.2) (of_system _ c.in_err-renew_settings.ensures.fault)

whatever : {T E : Type 0} {P : Type 0} (r : Result T E) → P → OnOk r P
whatever (Ok x) p = p
whatever (Err e) p = tt

pub returns-clause-put : goal.returns-clause-put
returns-clause-put g c = whatever c.serve_desks-served.result (c.in_ok-renew_settings.ensures.put ∙ ap (λ (s : Settings). Some (settings_text s)) c.settings.ensures)
