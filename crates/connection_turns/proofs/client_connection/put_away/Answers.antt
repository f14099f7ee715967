use Rattle.connection_turns.proofs.client_connection.put_away.Goals as goal

pub returns : goal.returns
returns c p h d fresh size piece = c.if-not-is_idle.ensures.renews p d h fresh size piece
