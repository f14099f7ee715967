use Rattle.std.proofs.Common.{length}
use Rattle.server_words.proofs.tenants.+greatest_quota.Given as goal

abbrev pub decreases-greatest_quota : goal.decreases-greatest_quota
decreases-greatest_quota l = length l.words.now
