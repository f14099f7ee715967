use Rattle.std.proofs.Common.{true, ◌++◌, [], sym, subst, append-nil}
use Rattle.http_wire.specs.Conversation.{continue_text}
use Rattle.http_wire.specs.PiecedBody.{IsTaken}
use Rattle.http_wire.specs.inside.Standing.{Comes, Standing}
use Rattle.http_wire.proofs.PhaseLemmas.{some-behind}
use Rattle.http_wire.proofs.connection.look_on.Goals as goal

pub returns-then-not-has_room-clause-stands : goal.returns-then-not-has_room-clause-stands
returns-then-not-has_room-clause-stands c bytes said h =
    ([], sym (append-nil _), subst (λ t. Standing c.args.limits bytes t c.args.buffers.now.read_buffer c.args.stage) (sym (append-nil said)) h)

pub returns-in-Piece-clause-stands : goal.returns-in-Piece-clause-stands
returns-in-Piece-clause-stands c bytes said h =
    let a = c.look.new.read_buffer in
    let looked = c.in-Piece.ensures.looks bytes said h in
    ([], sym (append-nil _), (looked.0, subst (λ t. IsTaken c.args.limits bytes t looked.0 c.in-Piece.body (a.lent ++ a.held)) (sym (append-nil said)) looked.1))

pub returns-in-More-clause-stands : goal.returns-in-More-clause-stands
returns-in-More-clause-stands c bytes said h =
    ([], sym (append-nil _), subst (λ t. Standing c.args.limits bytes t c.look.new.read_buffer c.look.new.self) (sym (append-nil said)) (c.in-More.ensures.looks bytes said h))

pub returns-in-Continue-clause-stands : goal.returns-in-Continue-clause-stands
returns-in-Continue-clause-stands c bytes said h =
    let looked = c.in-Continue.ensures.looks bytes said h in (
      continue_text true,
      c.put_continue.ensures,
      subst (λ t. Standing c.args.limits bytes (t ++ continue_text true) c.look.new.read_buffer c.look.new.self) (sym looked.0) looked.1,
    )

pub returns-in-Continue-clause-some : goal.returns-in-Continue-clause-some
returns-in-Continue-clause-some c _ = some-behind _ _ _ _ c.put_continue.ensures

pub returns-in-Came-clause-stands : goal.returns-in-Came-clause-stands
returns-in-Came-clause-stands c bytes said h =
    ([], sym (append-nil _), subst (λ t. Comes c.args.limits bytes t c.look.new.read_buffer c.in-Came.incoming) (sym (append-nil said)) (c.in-Came.ensures.looks bytes said h))
