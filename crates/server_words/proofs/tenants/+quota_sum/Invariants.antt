use Rattle.std.proofs.Common.{length}
use Rattle.server_words.proofs.tenants.+quota_sum.Given as goal

abbrev pub decreases-quota_sum : goal.decreases-quota_sum
decreases-quota_sum l = length l.words.now
