use Rattle.std.proofs.Common.{Bool, false, Result, Err, inr, refl, ap, ◌∙◌, sym, subst}
use Rattle.std.specs.Prelude.{IfErr, IfSome, OnOk}
use Rattle.std.proofs.lemmas.Result.{IfErr-at_err, err_from_is_err_and}
use Rattle.server_words.specs.Arguments.{talk_arguments_of}
use Rattle.journal_folders.proofs.MappedLemmas.{mapped_err, mapped_ok, on_ok_at}
use Rattle.journal_folders.specs.StreamUse.{used}
use Rattle.http_wire.specs.declared.fault.WireFault.{WireFault}
use Rattle.server_words.specs.declared.fault.RunFault.{RunFault}
use Rattle.tus_program.specs.ProgramFault.{fault_of_wire}
use Rattle.tus_program.specs.KeptTalk.{HoldsKeptBy, KeptTalkEnds}
use Rattle.tus_program.specs.declared.at_journal.AtJournal.{AtJournal}
use Rattle.tus_program.proofs.KeptTalkLemmas.{KeptTalkEnds-broken, holds}
use Rattle.tus_program.proofs.TalkLemmas.{is_ok_by}
use Rattle.tus_program.proofs.kept_talk.talk_kept.Goals as goal

pub returns-in_err-map_err : goal.returns-in_err-map_err
returns-in_err-map_err g c =
    let made = err_from_is_err_and c.from_residual-in_err-map_err.result c.from_residual-in_err-map_err.ensures.1 in
    let mapped = mapped_err fault_of_wire _ _ _ c.map_err.ensures.cases c.in_err-map_err.was in
    let first : AtJournal g.row.D.Denot g.D.Disk = record { kept = c.in_ok-kept.kept; has_failed = false } in
    let arguments = talk_arguments_of c.args.options.now in
    let reader = used g.R.Source.remaining g.R.Source.has_failed c.args.reader.now c.hold_conversation.new.reader in
    let writer = used g.W.Sink.contents g.W.Sink.has_failed c.args.writer.now c.hold_conversation.new.writer in
    let held = c.hold_conversation.ensures in
    let given = rw c.bounds.ensures at c.in_ok-settings.ensures.settings in
    subst (λ (r : Result (Unit {0}) RunFault). KeptTalkEnds g.D.Disk.seen g.D.Disk.may_leave g.D.Disk.is_clean arguments reader writer r) (sym (made.1 ∙ ap Err (made.2 ∙ mapped.2)))
    (KeptTalkEnds-broken (λ (at : AtJournal g.row.D.Denot g.D.Disk). at.kept) (λ (at : AtJournal g.row.D.Denot g.D.Disk). at.has_failed) arguments reader writer c.in_ok-settings.settings c.in_ok-folder.folder.disk
    first c.hold_conversation.new.answerer refl given c.in_ok-kept.ensures.opened c.in_ok-kept.ensures.key (Unit {0}) mapped.0 (IfErr-at_err _ mapped.1 held.fault)
    (λ none. IfErr-at_err _ mapped.1 (held.breaks none)) (rw mapped.1 at held.broken) (λ e. held.memory (mapped.1 ∙ ap Err e)))

pub returns-then-at : goal.returns-then-at
returns-then-at g c =
    let arguments = talk_arguments_of c.args.options.now in
    let reader = used g.R.Source.remaining g.R.Source.has_failed c.args.reader.now c.hold_conversation.new.reader in
    let writer = used g.W.Sink.contents g.W.Sink.has_failed c.args.writer.now c.hold_conversation.new.writer in
    let first : AtJournal g.row.D.Denot g.D.Disk = record { kept = c.in_ok-kept.kept; has_failed = false } in
    let ended = mapped_ok fault_of_wire _ _ _ c.map_err.ensures.cases c.in_ok-map_err.was in
    let held = c.hold_conversation.ensures in
    let given = rw c.bounds.ensures at c.in_ok-settings.ensures.settings in
    let held_by = holds (λ (at : AtJournal g.row.D.Denot g.D.Disk). at.kept) (λ (at : AtJournal g.row.D.Denot g.D.Disk). at.has_failed) arguments reader writer c.in_ok-settings.settings c.in_ok-folder.folder.disk
    first c.hold_conversation.new.answerer refl given c.in_ok-kept.ensures.opened c.in_ok-kept.ensures.key
    (on_ok_at ended held.reader) (on_ok_at ended held.writer) (λ none input before left wrote. on_ok_at ended (held.known none input before left wrote)) (rw ended at held.pieces) in (
      is_ok_by _ c.in_ok-settings.settings given,
      inr (refl, subst (λ (failed : Bool). HoldsKeptBy g.D.Disk.seen g.D.Disk.may_leave g.D.Disk.is_clean arguments reader writer arguments.piece failed) c.if-at.true held_by),
    )

pub returns : goal.returns
returns g c =
    let arguments = talk_arguments_of c.args.options.now in
    let reader = used g.R.Source.remaining g.R.Source.has_failed c.args.reader.now c.hold_conversation.new.reader in
    let writer = used g.W.Sink.contents g.W.Sink.has_failed c.args.writer.now c.hold_conversation.new.writer in
    let first : AtJournal g.row.D.Denot g.D.Disk = record { kept = c.in_ok-kept.kept; has_failed = false } in
    let ended = mapped_ok fault_of_wire _ _ _ c.map_err.ensures.cases c.in_ok-map_err.was in
    let held = c.hold_conversation.ensures in
    let given = rw c.bounds.ensures at c.in_ok-settings.ensures.settings in
    let held_by = holds (λ (at : AtJournal g.row.D.Denot g.D.Disk). at.kept) (λ (at : AtJournal g.row.D.Denot g.D.Disk). at.has_failed) arguments reader writer c.in_ok-settings.settings c.in_ok-folder.folder.disk
    first c.hold_conversation.new.answerer refl given c.in_ok-kept.ensures.opened c.in_ok-kept.ensures.key
    (on_ok_at ended held.reader) (on_ok_at ended held.writer) (λ none input before left wrote. on_ok_at ended (held.known none input before left wrote)) (rw ended at held.pieces) in
    subst (λ (failed : Bool). HoldsKeptBy g.D.Disk.seen g.D.Disk.may_leave g.D.Disk.is_clean arguments reader writer arguments.piece failed) c.if-at.false held_by
