use Rattle.std.proofs.Common.{◌≡◌, Ok, Some, ◌+◌, ◌∷◌, ◌++◌, [], take, drop, refl, ap, ◌∙◌, subst, subst₂, sym, take_all, true≢false}
use Rattle.std.proofs.lemmas.List.{take_more}
use Rattle.std.proofs.lemmas.Result.{err_from_is_err_and}
use Rattle.http_wire.specs.RequestLimits.{alike}
use Rattle.http_wire.specs.Exchange.{Exchange}
use Rattle.http_wire.specs.OnConnection.{passed_over}
use Rattle.http_wire.specs.Turns.{Breaks, Converses, TakesTurn}
use Rattle.http_wire.specs.declared.request_limits.RequestLimits.{RequestLimits}
use Rattle.http_wire.specs.declared.conversation.Ended.TheVariants as ended
use Rattle.http_wire.proofs.AheadLemmas.{Appends-more, Appends-none, Consumes-more, Consumes-none}
use Rattle.http_wire.proofs.ConversationLemmas.{Reached, longer_by, Reached-more, Converses-last, Converses-all, Breaks-after, Converses-known, moments_split, IfErr-from, timed_at}
use Rattle.http_wire.proofs.conversation.take_turns.Goals as goal

pub loop-moment-init : goal.loop-moment-init
loop-moment-init g c =
    let b = c.args.answerer.now in
    record {
      reader = c.requires.reader;
      writer = c.requires.writer;
      reached = (
        [],
        [],
        Consumes-none (g.R.Source.remaining c.args.reader.now),
        Appends-none (g.W.Sink.contents c.args.writer.now),
        subst (Reached g.A.Answer.steps c.args.connection.now.limits [] (record { input = []; text = []; before = b; after = b })) (sym c.requires.fresh.held) (λ rest. (refl, refl, refl)),
      );
      end = λ seen. absurd (true≢false (sym seen ∙ c.requires.fresh.unended));
      between = record { phase = ap passed_over c.requires.fresh.phase; gathers = c.requires.gathers; write_buffer = c.requires.fresh.write_buffer };
      limits = refl;
    }

pub returns-in_err-turn-clause-breaks : goal.returns-in_err-turn-clause-breaks
returns-in_err-turn-clause-breaks g c =
    let limits = c.args.connection.now.limits in
    let p = err_from_is_err_and c.from_residual.result c.from_residual.ensures.1 in
    let ms = c.args.moments.now in
    let i = c.loop-moment.moment-index in
    let m = c.moment-item.result in
    let split : take i ms ++ m ∷ drop (i + 1) ms ≡ ms = ap (λ d. take i ms ++ d ∷ drop (i + 1) ms) c.moment-item.is ∙ moments_split ms i m c.loop-moment-test.true in
    let reached = c.loop-moment.invariant.reached in
    let turn = timed_at m (rw c.loop-moment.invariant.limits at c.in_err-turn.ensures.turn) in
    let fault = c.in_err-turn.field-0.0 in
    let x : Exchange _ = record { input = reached.0; text = reached.1; before = c.args.answerer.now; after = c.loop-moment.answerer } in
    let b = c.take_turn.new.answerer in
    let breaks = Breaks-after g.A.Answer.steps limits (take i ms) (drop (i + 1) ms) m x c.loop-moment.connection.read_buffer.held turn.0 turn.1 b fault reached.4 turn.4 in
    IfErr-from _ c.from_residual.result p.0 fault p.1 p.2 (
      reached.0 ++ turn.0,
      reached.1 ++ turn.1,
      Consumes-more _ _ _ reached.0 turn.0 reached.2 turn.2,
      Appends-more _ _ _ reached.1 turn.1 reached.3 turn.3,
      subst₂ (λ m l. Breaks g.A.Answer.steps m l (longer_by g.A.Answer.steps m x turn.0 turn.1 b) fault) c.requires.same split breaks,
    )

pub returns-in-Some-clause-converses : goal.returns-in-Some-clause-converses
returns-in-Some-clause-converses g c =
    let limits = c.args.connection.now.limits in
    let ms = c.args.moments.now in
    let i = c.loop-moment.moment-index in
    let m = c.moment-item.result in
    let split : take i ms ++ m ∷ drop (i + 1) ms ≡ ms = ap (λ d. take i ms ++ d ∷ drop (i + 1) ms) c.moment-item.is ∙ moments_split ms i m c.loop-moment-test.true in
    let reached = c.loop-moment.invariant.reached in
    let turn = timed_at m (rw c.in-Some.is at c.in_ok-turn.ensures.turn) in
    let x : Exchange _ = record { input = reached.0; text = reached.1; before = c.args.answerer.now; after = c.loop-moment.answerer } in
    let b = c.take_turn.new.answerer in
    let last = subst (λ (k : RequestLimits). TakesTurn g.A.Answer.steps k m (record { input = c.loop-moment.connection.read_buffer.held ++ turn.0; text = turn.1; before = c.loop-moment.answerer; after = b }) c.take_turn.new.connection.read_buffer.held (Ok (Some c.in-Some.ended))) c.loop-moment.invariant.limits turn.4 in
    let converses = Converses-last g.A.Answer.steps limits (take i ms) (drop (i + 1) ms) m x c.loop-moment.connection.read_buffer.held turn.0 turn.1 b c.in-Some.ended reached.4 last in (
      reached.0 ++ turn.0,
      reached.1 ++ turn.1,
      Consumes-more _ _ _ reached.0 turn.0 reached.2 turn.2,
      Appends-more _ _ _ reached.1 turn.1 reached.3 turn.3,
      subst₂ (λ m l. Converses g.A.Answer.steps m l (longer_by g.A.Answer.steps m x turn.0 turn.1 b) c.in-Some.ended) c.requires.same split converses,
    )

pub loop-moment-preserved : goal.loop-moment-preserved
loop-moment-preserved g c =
    let limits = c.args.connection.now.limits in
    let ms = c.args.moments.now in
    let i = c.loop-moment.moment-index in
    let m = c.moment-item.result in
    let more : take i ms ++ m ∷ [] ≡ take (i + 1) ms = ap (λ d. take i ms ++ d ∷ []) c.moment-item.is ∙ sym (take_more ms i m c.loop-moment-test.true) in
    let reached = c.loop-moment.invariant.reached in
    let turn = timed_at m (rw c.loop-moment.invariant.limits at (rw c.in_default.is at c.in_ok-turn.ensures.turn)) in
    let x : Exchange _ = record { input = reached.0; text = reached.1; before = c.args.answerer.now; after = c.loop-moment.answerer } in
    let b = c.take_turn.new.answerer in
    let held = c.take_turn.new.connection.read_buffer.held in
    let next = Reached-more g.A.Answer.steps limits (take i ms) m x c.loop-moment.connection.read_buffer.held turn.0 turn.1 b held reached.4 turn.4 in
    record {
      reader = c.in_ok-turn.ensures.reader;
      writer = c.in_ok-turn.ensures.writer;
      reached = (
        reached.0 ++ turn.0,
        reached.1 ++ turn.1,
        Consumes-more _ _ _ reached.0 turn.0 reached.2 turn.2,
        Appends-more _ _ _ reached.1 turn.1 reached.3 turn.3,
        subst (λ l. Reached g.A.Answer.steps limits l (longer_by g.A.Answer.steps limits x turn.0 turn.1 b) held) more next,
      );
      end = (rw c.in_default.is at c.in_ok-turn.ensures.end) c.loop-moment.invariant.end;
      between = record { phase = ap passed_over ((rw c.in_default.is at c.in_ok-turn.ensures.starts) refl); gathers = c.take_turn.ensures.piece ∙ c.loop-moment.invariant.between.gathers; write_buffer = c.take_turn.ensures.sent };
      limits = c.take_turn.ensures.limits ∙ c.loop-moment.invariant.limits;
    }

pub returns-clause-converses : goal.returns-clause-converses
returns-clause-converses g c =
    let limits = c.args.connection.now.limits in
    let ms = c.args.moments.now in
    let reached = c.loop-moment.invariant.reached in
    let held = c.loop-moment.connection.read_buffer.held in
    let x : Exchange _ = record { input = reached.0; text = reached.1; before = c.args.answerer.now; after = c.loop-moment.answerer } in
    let all = subst (λ l. Reached g.A.Answer.steps limits l x held) (take_all c.loop-moment.moment-index ms c.loop-moment-test.false) reached.4 in
    (reached.0, reached.1, reached.2, reached.3, subst (λ m. Converses g.A.Answer.steps m ms x ended.Moments) c.requires.same (Converses-all g.A.Answer.steps limits ms x held all))

pub returns-in-Some-clause-known : goal.returns-in-Some-clause-known
returns-in-Some-clause-known g c input before known kept =
    let limits = alike (g.A.Answer.max_size c.args.answerer.now) in
    let whole = returns-in-Some-clause-converses g c in
    let read = (rw c.in-Some.is at c.in_ok-turn.ensures.end) c.loop-moment.invariant.end in
    Converses-known g.A.Answer.steps limits _ _ _ _ c.args.moments.now (record { input = whole.0; text = whole.1; before = c.args.answerer.now; after = c.take_turn.new.answerer }) c.in-Some.ended whole.2 whole.3 whole.4 read input before known kept

pub returns-clause-known : goal.returns-clause-known
returns-clause-known g c input before known kept =
    let limits = alike (g.A.Answer.max_size c.args.answerer.now) in
    let whole = returns-clause-converses g c in
    Converses-known g.A.Answer.steps limits _ _ _ _ c.args.moments.now (record { input = whole.0; text = whole.1; before = c.args.answerer.now; after = c.loop-moment.answerer }) ended.Moments whole.2 whole.3 whole.4 tt input before known kept
