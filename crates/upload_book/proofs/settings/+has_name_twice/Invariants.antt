use Rattle.std.proofs.Common.{length}
use Rattle.upload_book.proofs.settings.+has_name_twice.Given as goal

abbrev pub decreases-has_name_twice : goal.decreases-has_name_twice
decreases-has_name_twice l = length l.tenants.now
