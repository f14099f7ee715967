use Rattle.std.proofs.Common.{◌≡◌, subst, sym}
use Rattle.std.specs.Vec.{vec_len}
use Rattle.turn_lists.specs.Lists.{Lists, list_of}
use Rattle.turn_lists.proofs.KeptLemmas.{told-read}
use Rattle.turn_lists.proofs.lists.TurnLists.list_of.Goals as goal

pub returns : goal.returns
returns c =
    subst (λ (lists : Lists). c.noted_at.result ≡ list_of lists c.args.key) c.self.view_is
    (sym (told-read c.self.inside.stands.items c.deref.result.now c.self.inside.queues (vec_len c.self.inside.stands) c.args.key c.noted_at.result
    c.self.invariant c.deref.ensures.value c.noted_at.ensures))
