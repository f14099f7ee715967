use Rattle.std.proofs.Common.{◌++◌, refl, subst}
use Rattle.std.proofs.lemmas.Result.{err_from_is_err_and}
use Rattle.http_wire.specs.Asking as asking
use Rattle.http_wire.specs.Clock.{asked, unasked}
use Rattle.http_wire.specs.Exchange.{Exchange}
use Rattle.http_wire.specs.ReadOnWire.{ComesIn}
use Rattle.http_wire.proofs.AheadLemmas.{Appends-more, IfSome-known}
use Rattle.http_wire.proofs.FinishLemmas.{Finishes-asked, IfErr-more, IfOk-when}
use Rattle.http_wire.proofs.ConversationLemmas.{IfErr-from}
use Rattle.http_wire.proofs.TurnLemmas.{BreaksTurn-next_message, TakesTurn-broken, TakesTurn-finished}
use Rattle.http_wire.proofs.conversation.take_turn.Goals as goal

pub returns-in_err-await_incoming-clause-turn : goal.returns-in_err-await_incoming-clause-turn
returns-in_err-await_incoming-clause-turn g c =
    let p = err_from_is_err_and c.from_residual.result c.from_residual.ensures.1 in
    let fault = c.in_err-await_incoming.field-0.0 in
    let f = c.in_err-await_incoming.ensures.breaks in
    let limits = c.args.connection.now.limits in
    let x : Exchange _ = record { input = c.args.connection.now.read_buffer.held ++ f.0; text = f.1; before = c.args.answerer.now; after = c.args.answerer.now } in
    unasked (rw p.1 refl) refl (λ now. (
      f.0,
      f.1,
      f.2,
      f.3,
      TakesTurn-broken g.A.Answer.steps limits now x c.await_incoming.new.connection.read_buffer.held c.from_residual.result p.0 fault p.1 p.2 (BreaksTurn-next_message g.A.Answer.steps limits now x fault f.4 refl),
    ))

pub returns-in_err-await_incoming-clause-asked : goal.returns-in_err-await_incoming-clause-asked
returns-in_err-await_incoming-clause-asked g c =
    let p = err_from_is_err_and c.from_residual.result c.from_residual.ensures.1 in
    let f = c.in_err-await_incoming.ensures.breaks in
    IfErr-from _ c.from_residual.result p.0 c.in_err-await_incoming.field-0.0 p.1 p.2 (f.0, f.1, f.2, f.3, asking.unasked refl refl f.4)

pub returns-clause-asked : goal.returns-clause-asked
returns-clause-asked g c =
    let f = c.in_ok-await_incoming.ensures.comes in
    let came = f.4 in
    let here = c.await_incoming.new.connection in
    let input = c.args.connection.now.read_buffer.held ++ f.0 in
    let comes = subst (λ m. ComesIn m (record { input = input; text = f.1 }) here.read_buffer.held came.incoming) c.await_incoming.ensures.limits came.comes in
    let finishes = IfSome-known _ _ _ came.owed c.finish_turn.ensures.finishes in
    IfErr-more _ _ c.finish_turn.result (λ fault t. (f.0, f.1 ++ t.0, f.2, Appends-more _ _ _ f.1 t.0 f.3 t.1, t.2))
    (Finishes-asked g.A.Answer.steps g.C.Clock.tells _ _ c.args.connection.now.limits c.moment-now.result here.read_buffer _ input f.1 _ _ _ _ _ c.finish_turn.result c.moment-now.ensures comes finishes)

pub returns-clause-turn : goal.returns-clause-turn
returns-clause-turn g c =
    let f = c.in_ok-await_incoming.ensures.comes in
    let came = f.4 in
    let here = c.await_incoming.new.connection in
    let limits = c.args.connection.now.limits in
    let input = c.args.connection.now.read_buffer.held ++ f.0 in
    let comes = subst (λ m. ComesIn m (record { input = input; text = f.1 }) here.read_buffer.held came.incoming) c.await_incoming.ensures.limits came.comes in
    let finishes = IfSome-known _ _ _ came.owed c.finish_turn.ensures.finishes in
    let t = finishes.turn limits input f.1 comes in
    rw c.finish_turn.ensures.read_buffer (asked c.moment-now.result c.moment-now.ensures (f.0, f.1 ++ t.0, f.2, Appends-more _ _ _ f.1 t.0 f.3 t.1, TakesTurn-finished g.A.Answer.steps limits c.moment-now.result _ _ c.finish_turn.result t.2))

pub returns-clause-end : goal.returns-clause-end
returns-clause-end g c =
    let came = c.in_ok-await_incoming.ensures.comes.4 in
    let finishes = IfSome-known _ _ _ came.owed c.finish_turn.ensures.finishes in
    rw c.finish_turn.ensures.read_buffer (IfOk-when _ c.finish_turn.result (λ sees. finishes.end (g.R.Source.remaining c.await_incoming.new.reader) (c.in_ok-await_incoming.ensures.end sees) came.tells_end))

pub returns-clause-ends : goal.returns-clause-ends
returns-clause-ends g c = (IfSome-known _ _ _ c.in_ok-await_incoming.ensures.comes.4.owed c.finish_turn.ensures.finishes).ends

pub returns-clause-stops : goal.returns-clause-stops
returns-clause-stops g c = rw c.finish_turn.ensures.read_buffer c.await_incoming.ensures.stops

pub returns-clause-reader : goal.returns-clause-reader
returns-clause-reader g c =
    let came = c.in_ok-await_incoming.ensures.comes.4 in
    rw came.why (IfSome-known _ _ _ came.owed c.finish_turn.ensures.finishes).reader

pub returns-clause-writer : goal.returns-clause-writer
returns-clause-writer g c = (IfSome-known _ _ _ c.in_ok-await_incoming.ensures.comes.4.owed c.finish_turn.ensures.finishes).writer

pub returns-clause-fault : goal.returns-clause-fault
returns-clause-fault g c =
    let came = c.in_ok-await_incoming.ensures.comes.4 in
    rw came.why (IfSome-known _ _ _ came.owed c.finish_turn.ensures.finishes).fault
