use Rattle.std.proofs.Common.{◌≡◌, ◌∙◌, ℕ, ◌≤◌, All, Err, List, false, ap, arith, inl, length, map, refl, subst, take}
use Rattle.std.specs.Prelude.{is_err}
use Rattle.std.proofs.lemmas.List.{length-map, with_items_is}
use Rattle.std.proofs.lemmas.Result.{IfErr-at_err, err_from_is_err_and}
use Rattle.std.specs.Io.KnownBytes.{Appends}
use Rattle.std.specs.Vec.{with_items}
use Rattle.connection_turns.specs.declared.work_options.WorkOptions.{WorkOptions}
use Rattle.journal_folders.proofs.MappedLemmas.{mapped_err, mapped_ok, on_err_at, on_ok_at}
use Rattle.journal_folders.specs.StreamUse.{used}
use Rattle.server_words.specs.Arguments.{serve_arguments_of}
use Rattle.server_words.specs.declared.cause.Cause.TheVariants.{Output}
use Rattle.tus_program.specs.ProgramFault.{fault_of_wire}
use Rattle.tus_program.specs.Lines.{listening_text}
use Rattle.tus_program.specs.Serve.{BreaksOff}
use Rattle.tus_program.specs.Sockets.{sockets}
use Rattle.tus_program.proofs.ServeLemmas.{BreaksOff-before, HasFailed-some, HaveAccepted-whole, before-service, by_cause, unstopped-unasked}
use Rattle.tus_program.proofs.serve.listen_and_serve.Goals as goal

pub returns-in_err-server_state-clause-fault : goal.returns-in_err-server_state-clause-fault
returns-in_err-server_state-clause-fault g c =
    let made = err_from_is_err_and c.from_residual.result c.from_residual.ensures.1 in
    rw (made.1, made.2) (before-service _ c.in_err-server_state.ensures)

pub returns-in_err-server_state-clause-wire : goal.returns-in_err-server_state-clause-wire
returns-in_err-server_state-clause-wire g c =
    let made = err_from_is_err_and c.from_residual.result c.from_residual.ensures.1 in
    BreaksOff-before _ _ _ _ _ _ refl (made.1 ∙ ap Err made.2) c.in_err-server_state.ensures

pub returns-in_err-at-clause-fault : goal.returns-in_err-at-clause-fault
returns-in_err-at-clause-fault g c =
    let made = err_from_is_err_and c.from_residual-in_err-at.result c.from_residual-in_err-at.ensures.1 in
    rw (made.1, made.2) (before-service _ c.in_err-at.ensures.fault)

pub returns-in_err-at-clause-wire : goal.returns-in_err-at-clause-wire
returns-in_err-at-clause-wire g c =
    let made = err_from_is_err_and c.from_residual-in_err-at.result c.from_residual-in_err-at.ensures.1 in
    BreaksOff-before _ _ _ _ _ _ refl (made.1 ∙ ap Err made.2) c.in_err-at.ensures.fault

pub returns-in_err-map_err-clause-wire : goal.returns-in_err-map_err-clause-wire
returns-in_err-map_err-clause-wire g c =
    let made = err_from_is_err_and c.from_residual-in_err-map_err.result c.from_residual-in_err-map_err.ensures.1 in
    let mapped = mapped_err fault_of_wire _ _ _ c.map_err.ensures.cases c.in_err-map_err.was in
    let wrote = c.put_all.ensures in
    let prefix = on_err_at mapped.1 wrote.prefix in
    let is_line : c.as_bytes.result.now ≡ listening_text (g.L.Listener.place c.in_ok-at.at.listener) = c.as_bytes.ensures.value ∙ c.in_ok-at.ensures.line in
    let seen = sockets g.L.Listener.asked g.L.Listener.place g.L.Acceptor.Accept.accepted g.L.Acceptor.Accept.has_failed g.L.Acceptor.Accept.is_stopped in
    by_cause (BreaksOff seen (serve_arguments_of c.args.options.now) g.C.Charges.settings (used g.W.Sink.contents g.W.Sink.has_failed c.args.output.now c.put_all.new.writer))
    _ Output (made.1 ∙ ap Err (made.2 ∙ mapped.2 ∙ ap fault_of_wire (IfErr-at_err _ mapped.1 wrote.fault))) (inl (record {
      listener = c.in_ok-at.at.listener;
      asked = rw c.in_ok-at.ensures.asked c.requires.place;
      n = prefix.0;
      within = subst (λ (t : List ℕ). prefix.0 ≤ length t) is_line prefix.1;
      line = subst (λ (t : List ℕ). Appends (g.W.Sink.contents c.args.output.now) (g.W.Sink.contents c.put_all.new.writer) (take prefix.0 t)) is_line prefix.2;
      failed = wrote.failed ∙ ap is_err mapped.1;
    }))

pub returns-clause-ended : goal.returns-clause-ended
returns-clause-ended g c =
    let contents = g.W.Sink.contents in
    let listener = c.in_ok-at.at.listener in
    let seen = sockets g.L.Listener.asked g.L.Listener.place g.L.Acceptor.Accept.accepted g.L.Acceptor.Accept.has_failed g.L.Acceptor.Accept.is_stopped in
    let arguments = serve_arguments_of c.args.options.now in
    let wrote = mapped_ok fault_of_wire _ _ _ c.map_err.ensures.cases c.in_ok-map_err.was in
    let is_line : c.as_bytes.result.now ≡ listening_text (g.L.Listener.place listener) = c.as_bytes.ensures.value ∙ c.in_ok-at.ensures.line in
    let after = with_items c.in_ok-at.at.workers c.work_all.new.workers in
    let as_many = simp length-map at (ap length c.dismiss.ensures) in
    let at_desks : length c.dismiss.result.items ≡ c.args.options.now.workers = omega (arith, as_many, after.ok.0, c.in_ok-at.ensures.count, c.requires.count, c.requires.desks) in
    let at_acceptors : length c.as_slice.result.now ≡ c.args.options.now.workers = omega (arith, c.as_slice.ensures.len, after.ok.0, c.in_ok-at.ensures.count, c.requires.count, c.requires.desks) in
    let given : length c.work_all.new.workers ≡ c.in_ok-at.at.workers.len = omega (arith, c.as_mut_slice.ensures.len) in
    let seen_after : c.as_slice.result.now ≡ c.work_all.new.workers = c.as_slice.ensures.value ∙ with_items_is c.in_ok-at.at.workers c.work_all.new.workers given in
    let accepts : ℕ → Type 0 = λ n. All (λ w. g.L.Acceptor.Accept.has_failed w.acceptor ≡ false → g.L.Acceptor.Accept.is_stopped w.acceptor ≡ false → g.L.Acceptor.Accept.accepted w.acceptor ≡ n) c.work_all.new.workers in
    let bounded : ℕ → Type 0 = λ n. All (λ w. g.L.Acceptor.Accept.accepted w.acceptor ≤ n) c.work_all.new.workers in
    let asked_of = c.within_descriptors-work.ensures.other in
    let same = ap (λ (o : WorkOptions). o.connections) (asked_of) ∙ ap (λ (o : WorkOptions). o.connections) c.work_of.ensures in
    let grace = ap (λ (o : WorkOptions). o.grace) asked_of ∙ ap (λ (o : WorkOptions). o.grace) c.work_of.ensures in
    let each = subst accepts same c.work_all.ensures.all in
    let most = subst bounded same c.work_all.ensures.most in
    record {
      listener = listener;
      asked = rw c.in_ok-at.ensures.asked c.requires.place;
      line = subst (λ (t : List ℕ). Appends (contents c.args.output.now) (contents c.put_all.new.writer) t) is_line (on_ok_at wrote c.put_all.ensures.all);
      alive = c.put_all.ensures.failed ∙ ap is_err wrote;
      acceptors = map (λ w. w.acceptor) c.as_slice.result.now;
      each_has_a_desk = at_desks;
      each_accepts = length-map _ _ ∙ at_acceptors;
      unasked = unstopped-unasked seen arguments (λ w. w.acceptor) c.as_slice.result.now (λ none. grace ∙ c.args.options.now.grace_with_port none) (rw seen_after c.work_all.ensures.unasked);
      accepted = HaveAccepted-whole seen arguments (λ w. w.acceptor) c.as_slice.result.now c.any_failed-has_failed.ensures (rw seen_after each) (rw seen_after most);
      refused = HasFailed-some seen arguments (λ w. w.acceptor) c.as_slice.result.now c.any_failed-has_failed.ensures;
    }
