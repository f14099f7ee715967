use Rattle.std.proofs.Common.{subst}
use Rattle.connection_turns.specs.Turn.{HasHistoryWithin}
use Rattle.connection_turns.proofs.client_connection.open.Goals as goal

pub returns-after-pop-clause-history : goal.returns-after-pop-clause-history
returns-after-pop-clause-history c p h =
    (subst (HasHistoryWithin c.args.limits c.args.piece p) c.in-None.is h c.by_pieces.result c.by_pieces.ensures.fresh c.by_pieces.ensures.limits c.by_pieces.ensures.piece, c.by_pieces.ensures.limits, c.by_pieces.ensures.piece)
