use Rattle.std.proofs.Common.{◌≤◌, rules}
use Rattle.upload_book.proofs.Lawful.IdLemmas.{AreBelow-next}
use Rattle.head_board.proofs.head_rows.HeadRows.set_next.Goals as goal

pub invariant_of-self : goal.invariant_of-self
invariant_of-self c =
    let more : c.self.inside.next ≤ c.args.next = search rules in
    AreBelow-next c.self.inside.next c.args.next c.self.inside.list.rows more c.self.invariant
