use Rattle.std.proofs.Common.{◌∙◌, Err, ap, arith, refl, sym}
use Rattle.std.proofs.lemmas.Result.{IfErr-at_err, err_from_is_err_and}
use Rattle.journal_folders.proofs.MappedLemmas.{mapped_err, mapped_ok}
use Rattle.journal_folders.specs.StreamUse.{used}
use Rattle.server_words.specs.Arguments.{serve_arguments_of}
use Rattle.server_words.specs.declared.cause.Cause.TheVariants.{Accept, Output}
use Rattle.tus_program.specs.ProgramFault.{fault_of_wire}
use Rattle.tus_program.specs.Serve.{BreaksOff}
use Rattle.tus_program.specs.Sockets.{sockets}
use Rattle.tus_program.proofs.ServeLemmas.{BreaksOff-refused, BreaksOff-second, ServesEach-ended, by_cause, err_is}
use Rattle.tus_program.proofs.serve.serve_desks.Goals as goal

pub put_settled-requires-clause-all : goal.put_settled-requires-clause-all
put_settled-requires-clause-all g c = omega (arith, c.in_ok-desks.desks.ok.0, c.in_ok-desks.ensures.ended.each_has_a_desk, c.requires.desks)

pub returns-in_err-desks-clause-wire : goal.returns-in_err-desks-clause-wire
returns-in_err-desks-clause-wire g c =
    let made = err_from_is_err_and c.from_residual.result c.from_residual.ensures.1 in
    λ cause told. c.in_err-desks.ensures.wire cause (ap Err (err_is _ _ (sym (made.1 ∙ ap Err made.2) ∙ told)))

pub returns-in_err-map_err-clause-wire : goal.returns-in_err-map_err-clause-wire
returns-in_err-map_err-clause-wire g c =
    let made = err_from_is_err_and c.from_residual-in_err-map_err.result c.from_residual-in_err-map_err.ensures.1 in
    let mapped = mapped_err fault_of_wire _ _ _ c.map_err.ensures.cases c.in_err-map_err.was in
    let settled = c.put_settled.ensures in
    let seen = sockets g.L.Listener.asked g.L.Listener.place g.L.Acceptor.Accept.accepted g.L.Acceptor.Accept.has_failed g.L.Acceptor.Accept.is_stopped in
    by_cause (BreaksOff seen (serve_arguments_of c.args.options.now) g.C.Charges.settings (used g.W.Sink.contents g.W.Sink.has_failed c.args.output.now c.put_settled.new.output))
    _ Output (made.1 ∙ ap Err (made.2 ∙ mapped.2 ∙ ap fault_of_wire (IfErr-at_err _ mapped.1 settled.2.fault)))
    (BreaksOff-second seen (serve_arguments_of c.args.options.now) g.C.Charges.settings g.W.Sink.contents g.W.Sink.has_failed c.args.output.now c.listen_and_serve.new.output c.put_settled.new.output _ _ _ c.in_ok-desks.ensures.ended settled.1 _ settled.2 mapped.0 mapped.1)

pub returns-then-has_failed-clause-wire : goal.returns-then-has_failed-clause-wire
returns-then-has_failed-clause-wire g c =
    let settled = c.put_settled.ensures in
    let seen = sockets g.L.Listener.asked g.L.Listener.place g.L.Acceptor.Accept.accepted g.L.Acceptor.Accept.has_failed g.L.Acceptor.Accept.is_stopped in
    by_cause (BreaksOff seen (serve_arguments_of c.args.options.now) g.C.Charges.settings (used g.W.Sink.contents g.W.Sink.has_failed c.args.output.now c.put_settled.new.output))
    _ Accept refl
    (BreaksOff-refused seen (serve_arguments_of c.args.options.now) g.C.Charges.settings g.W.Sink.contents g.W.Sink.has_failed c.args.output.now c.listen_and_serve.new.output c.put_settled.new.output _ _ _ c.in_ok-desks.ensures.ended settled.1 _ settled.2 _ (mapped_ok fault_of_wire _ _ _ c.map_err.ensures.cases c.in_ok-map_err.was) c.if-has_failed.true)

pub returns-clause-all : goal.returns-clause-all
returns-clause-all g c =
    let settled = c.put_settled.ensures in
    let seen = sockets g.L.Listener.asked g.L.Listener.place g.L.Acceptor.Accept.accepted g.L.Acceptor.Accept.has_failed g.L.Acceptor.Accept.is_stopped in
    ServesEach-ended seen (serve_arguments_of c.args.options.now) g.C.Charges.settings g.W.Sink.contents g.W.Sink.has_failed c.args.output.now c.listen_and_serve.new.output c.put_settled.new.output _ _ _ c.in_ok-desks.ensures.ended settled.1 _ settled.2 _ (mapped_ok fault_of_wire _ _ _ c.map_err.ensures.cases c.in_ok-map_err.was) c.if-has_failed.false
