use Rattle.std.proofs.Common.{ℕ, ◌<◌}
use Rattle.upload_book.specs.Book.{plain_of}
use Rattle.journal_folders.specs.Shortage.{IsWithin}
use Rattle.journal_folders.proofs.shortage.shortage_in.Given as goal

-- the tenants before this one are within the settings
abbrev pub invariant-loop-tenant : goal.invariant-loop-tenant
invariant-loop-tenant l = (tenant : ℕ) → tenant < l.tenant → IsWithin (plain_of l.book) l.settings tenant
