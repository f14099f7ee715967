use Rattle.std.proofs.Common.{arith, ℕ, ◌+◌, ◌∷◌, ◌++◌, [], true≢false, Some, Ok, Err, refl, ◌∙◌, ap, subst, subst₂, sym, append-nil, append_assoc}
use Rattle.std.proofs.lemmas.List.{length-append}
use Rattle.std.proofs.lemmas.Result.{err_from_is_err_and}
use Rattle.http_wire.specs.Asking.{BreaksAsked}
use Rattle.http_wire.specs.RequestLimits.{alike}
use Rattle.http_wire.specs.Exchange.{Exchange, last_part}
use Rattle.http_wire.specs.Turns.{Breaks, Converses, EndsByTurn, TakesTurn, Turns}
use Rattle.http_wire.proofs.AheadLemmas.{Appends-none, Appends-more, Consumes-none, Consumes-more}
use Rattle.http_wire.proofs.ConversationLemmas.{Reached, next_from, Reached-more, Converses-last, Converses-all, Breaks-after, IfErr-from, Tells-more, timed_asked, timed_weaker}
use Rattle.http_wire.proofs.connection_loop.serve.Goals as goal

pub loop-taken-init : goal.loop-taken-init
loop-taken-init g c =
    let held = c.args.wire.now.held in
    let b = c.args.answerer.now in
    let limits = alike c.args.wire.now.max_size in
    record {
      reads = c.requires;
      size = refl;
      reached = (
        [],
        refl,
        refl,
        [],
        [],
        Consumes-none (g.R.Source.remaining c.args.wire.now.reader),
        Appends-none (g.W.Sink.contents c.args.wire.now.writer),
        subst (λ l. Reached g.A.Answer.steps limits [] (record { input = l; text = []; before = b; after = b }) held) (sym (append-nil held)) (λ rest. (refl, refl, refl)),
      );
    }

pub returns-in_err-turn-clause-breaks : goal.returns-in_err-turn-clause-breaks
returns-in_err-turn-clause-breaks g c =
    let p = err_from_is_err_and c.from_residual.result c.from_residual.ensures.1 in
    let limits = alike c.args.wire.now.max_size in
    let reached = c.loop-taken.invariant.reached in
    let timed = (c.in_err-turn.ensures.turn.reading c.loop-taken.invariant.reads).turn in
    let ms = reached.0 in
    let fault = c.in_err-turn.field-0.0 in
    let b1 = c.loop-taken.answerer in
    let b2 = c.take_turn.new.answerer in
    let start = c.args.wire.now.held in
    let held = c.loop-taken.wire.held in
    let x : Exchange _ = record { input = start ++ reached.3; text = reached.4; before = c.args.answerer.now; after = b1 } in
    IfErr-from _ c.from_residual.result p.0 fault p.1 p.2 (
      ms,
      c.loop-taken.clock,
      omega (arith, reached.1, c.loop-taken-test.true),
      reached.2,
      timed_weaker (λ _. rw p.1 refl) (λ m turn.
          let last = subst (λ (k : ℕ). TakesTurn g.A.Answer.steps (alike k) m (next_from g.A.Answer.steps (alike k) x held turn.0 turn.1 b2) c.take_turn.new.self.held (Err fault)) c.loop-taken.invariant.size turn.4 in
          let breaks = Breaks-after g.A.Answer.steps limits ms [] m x held turn.0 turn.1 b2 fault reached.7 last in (
            reached.3 ++ turn.0,
            reached.4 ++ turn.1,
            Consumes-more _ _ _ reached.3 turn.0 reached.5 turn.2,
            Appends-more _ _ _ reached.4 turn.1 reached.6 turn.3,
            subst (λ i. Breaks g.A.Answer.steps limits (ms ++ m ∷ []) (record x { input = i; text = reached.4 ++ turn.1; after = b2 }) fault) (append_assoc start reached.3 turn.0) breaks,
          )) timed,
    )

pub returns-in_err-turn-clause-asked : goal.returns-in_err-turn-clause-asked
returns-in_err-turn-clause-asked g c =
    let p = err_from_is_err_and c.from_residual.result c.from_residual.ensures.1 in
    let limits = alike c.args.wire.now.max_size in
    let reached = c.loop-taken.invariant.reached in
    let asked = (c.in_err-turn.ensures.turn.reading c.loop-taken.invariant.reads).asked in
    let fault = c.in_err-turn.field-0.0 in
    let start = c.args.wire.now.held in
    let b1 = c.loop-taken.answerer in
    let x : Exchange _ = record { input = start ++ (reached.3 ++ asked.0); text = reached.4 ++ asked.1; before = c.args.answerer.now; after = c.take_turn.new.answerer } in
    IfErr-from _ c.from_residual.result p.0 fault p.1 p.2 (
      reached.3 ++ asked.0,
      reached.4 ++ asked.1,
      Consumes-more _ _ _ reached.3 asked.0 reached.5 asked.2,
      Appends-more _ _ _ reached.4 asked.1 reached.6 asked.3,
      record {
        moments = reached.0;
        last = c.loop-taken.clock;
        told = reached.2;
        text = reached.4;
        later = asked.1;
        rest = c.loop-taken.wire.held ++ asked.0;
        state = b1;
        turns = subst (λ i. Turns g.A.Answer.steps limits reached.0 (record x { input = i; text = reached.4; after = b1 }) (c.loop-taken.wire.held ++ asked.0)) (append_assoc start reached.3 asked.0) (reached.7 asked.0);
        breaks = subst (λ k. BreaksAsked g.A.Answer.steps g.C.Clock.tells (alike k) c.loop-taken.clock c.take_turn.new.clock (last_part x (c.loop-taken.wire.held ++ asked.0) b1 asked.1) fault) c.loop-taken.invariant.size asked.4;
        whole = refl;
      },
    )

pub returns-in_err-turn-clause-fault : goal.returns-in_err-turn-clause-fault
returns-in_err-turn-clause-fault g c =
    let p = err_from_is_err_and c.from_residual.result c.from_residual.ensures.1 in
    IfErr-from _ c.from_residual.result p.0 c.in_err-turn.field-0.0 p.1 p.2 (c.in_err-turn.ensures.turn.reading c.loop-taken.invariant.reads).fault

pub returns-in-Some-clause-converses : goal.returns-in-Some-clause-converses
returns-in-Some-clause-converses g c =
    let limits = alike c.args.wire.now.max_size in
    let reached = c.loop-taken.invariant.reached in
    let on = c.in_ok-turn.ensures.turn.reading c.loop-taken.invariant.reads in
    let timed = timed_asked (λ failed. absurd (true≢false (sym failed))) on.turn in
    let m = timed.0 in
    let turn = timed.2 in
    let ms = reached.0 in
    let b1 = c.loop-taken.answerer in
    let b2 = c.take_turn.new.answerer in
    let start = c.args.wire.now.held in
    let held = c.loop-taken.wire.held in
    let x : Exchange _ = record { input = start ++ reached.3; text = reached.4; before = c.args.answerer.now; after = b1 } in
    let last = subst₂ (λ k t. TakesTurn g.A.Answer.steps (alike k) m (next_from g.A.Answer.steps (alike k) x held turn.0 turn.1 b2) c.take_turn.new.self.held (Ok t)) c.loop-taken.invariant.size c.in-Some.is turn.4 in
    let converses = Converses-last g.A.Answer.steps limits ms [] m x held turn.0 turn.1 b2 c.in-Some.ended reached.7 last in
    let few = length-append ms (m ∷ []) in
    let ends = rw c.in-Some.is at on.ends in (
      ms ++ m ∷ [],
      record {
        told = Tells-more g.C.Clock.tells c.args.clock.now ms c.loop-taken.clock m c.take_turn.new.clock reached.2 timed.1;
        few = omega (arith, few, reached.1, c.loop-taken-test.true);
        all = λ is. absurd (subst (λ e. EndsByTurn (Some e)) is ends);
      },
      reached.3 ++ turn.0,
      reached.4 ++ turn.1,
      Consumes-more _ _ _ reached.3 turn.0 reached.5 turn.2,
      Appends-more _ _ _ reached.4 turn.1 reached.6 turn.3,
      subst (λ i. Converses g.A.Answer.steps limits (ms ++ m ∷ []) (record x { input = i; text = reached.4 ++ turn.1; after = b2 }) c.in-Some.ended) (append_assoc start reached.3 turn.0) converses,
    )

pub returns-in-Some-clause-read : goal.returns-in-Some-clause-read
returns-in-Some-clause-read g c =
    rw c.in-Some.is at (c.in_ok-turn.ensures.turn.reading c.loop-taken.invariant.reads).end

pub returns-in-Some-clause-reads : goal.returns-in-Some-clause-reads
returns-in-Some-clause-reads g c is =
    let ends = rw c.in-Some.is at (c.in_ok-turn.ensures.turn.reading c.loop-taken.invariant.reads).ends in
    absurd (subst (λ e. EndsByTurn (Some e)) is ends)

pub loop-taken-preserved : goal.loop-taken-preserved
loop-taken-preserved g c =
    let limits = alike c.args.wire.now.max_size in
    let reached = c.loop-taken.invariant.reached in
    let on = c.in_ok-turn.ensures.turn.reading c.loop-taken.invariant.reads in
    let timed = timed_asked (λ failed. absurd (true≢false (sym failed))) on.turn in
    let m = timed.0 in
    let turn = timed.2 in
    let ms = reached.0 in
    let b1 = c.loop-taken.answerer in
    let b2 = c.take_turn.new.answerer in
    let start = c.args.wire.now.held in
    let held = c.loop-taken.wire.held in
    let x : Exchange _ = record { input = start ++ reached.3; text = reached.4; before = c.args.answerer.now; after = b1 } in
    let left = c.take_turn.new.self.held in
    let last = subst₂ (λ k t. TakesTurn g.A.Answer.steps (alike k) m (next_from g.A.Answer.steps (alike k) x held turn.0 turn.1 b2) left (Ok t)) c.loop-taken.invariant.size c.in_default.is turn.4 in
    let next = Reached-more g.A.Answer.steps limits ms m x held turn.0 turn.1 b2 left reached.7 last in
    record {
      reads = rw c.in_default.is at on.reads;
      size = on.size ∙ c.loop-taken.invariant.size;
      reached = (
        ms ++ m ∷ [],
        length-append ms (m ∷ []) ∙ ap (λ n. n + 1) reached.1,
        Tells-more g.C.Clock.tells c.args.clock.now ms c.loop-taken.clock m c.take_turn.new.clock reached.2 timed.1,
        reached.3 ++ turn.0,
        reached.4 ++ turn.1,
        Consumes-more _ _ _ reached.3 turn.0 reached.5 turn.2,
        Appends-more _ _ _ reached.4 turn.1 reached.6 turn.3,
        subst (λ i. Reached g.A.Answer.steps limits (ms ++ m ∷ []) (record x { input = i; text = reached.4 ++ turn.1; after = b2 }) left) (append_assoc start reached.3 turn.0) next,
      );
    }

pub returns-clause-converses : goal.returns-clause-converses
returns-clause-converses g c =
    let limits = alike c.args.wire.now.max_size in
    let reached = c.loop-taken.invariant.reached in
    let held = c.loop-taken.wire.held in
    let b1 = c.loop-taken.answerer in
    let x : Exchange _ = record { input = c.args.wire.now.held ++ reached.3; text = reached.4; before = c.args.answerer.now; after = b1 } in (
      reached.0,
      record {
        told = reached.2;
        few = omega (arith, reached.1, c.loop-taken.auto.taken-end);
        all = λ _. omega (arith, reached.1, c.loop-taken.auto.taken-end, c.loop-taken-test.false);
      },
      reached.3,
      reached.4,
      reached.5,
      reached.6,
      Converses-all g.A.Answer.steps limits reached.0 x held reached.7,
    )

pub returns-clause-reads : goal.returns-clause-reads
returns-clause-reads g c _ = c.loop-taken.invariant.reads
