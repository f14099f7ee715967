use Rattle.std.proofs.Common.{None, sym}
use Rattle.upload_book.specs.ExpiryList.{with_end}
use Rattle.upload_book.proofs.Expiries.EndsLemmas.{AreExpiring-same, with_end-same, with_end-twice}
use Rattle.upload_book.proofs.expiry_list.ExpiryList.set_end.Goals as goal

pub returns-then-ne-clause-ends : goal.returns-then-ne-clause-ends
returns-then-ne-clause-ends c =
    λ ends is told. AreExpiring-same (with_end (with_end ends c.args.name None) c.args.name c.args.after) (with_end ends c.args.name c.args.after) c.enter.new.self.list (λ other. sym (with_end-twice ends c.args.name None c.args.after other))
    (c.enter.ensures.ends (with_end ends c.args.name None) (c.leave.ensures.ends ends is told) (with_end-same ends c.args.name None))
