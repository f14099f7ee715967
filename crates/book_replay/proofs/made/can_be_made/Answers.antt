use Rattle.std.proofs.Common.{◌≡◌, rules}
use Rattle.std.proofs.lemmas.Bool.Decides.{Decides-at}
use Rattle.book_replay.specs.Made.{can_be_made}
use Rattle.book_replay.proofs.MadeLemmas.{made-decides}
use Rattle.book_replay.proofs.made.can_be_made.Goals as goal

pub returns-then-from-tenants-2-clause-required : goal.returns-then-from-tenants-2-clause-required
returns-then-from-tenants-2-clause-required c =
    let value : c.is_final.result ≡ can_be_made c.args.tenants c.args.change.now = search rules in
    Decides-at _ _ value (made-decides c.args.tenants c.args.change.now)

pub returns-in-Restore-clause-required : goal.returns-in-Restore-clause-required
returns-in-Restore-clause-required c =
    let value : c.can_be_put_back.result ≡ can_be_made c.args.tenants c.args.change.now = search rules in
    Decides-at _ _ value (made-decides c.args.tenants c.args.change.now)
