-- The sweep, which ends all uploads that have expired (tus 1.0.0, Expiration).
use Rattle.std.specs.Prelude.{◌≡◌, ℕ, ◌+◌, ◌-◌, not, length, map}
use Rattle.std.specs.List.{filter, sum_by}
use Rattle.upload_book.specs.declared.sweep.Swept.{Swept}
use Rattle.upload_book.specs.Expiry.{has_expired}
use Rattle.upload_book.specs.PlainBook.{PlainBook}
use Rattle.upload_book.specs.TenantBook.{TenantBook}
use Rattle.upload_book.specs.Terminate.{given_back}

-- a part after a sweep at a moment: what is left are the uploads that have not expired
abbrev pub part_after_sweep : ℕ → TenantBook → TenantBook
part_after_sweep now part = record part { uploads = filter (λ e. not (has_expired now e.kept.expires)) part.uploads }

-- the blocks that a sweep gives back
abbrev pub swept_blocks : PlainBook → ℕ → ℕ
swept_blocks b now = sum_by (λ part. given_back b.settings.numbers part (part_after_sweep now part)) b.tenants

-- how many uploads a sweep ends, and what it gives back
abbrev pub sweep_answer : PlainBook → ℕ → Swept
sweep_answer b now = record {
  uploads = sum_by (λ (part : TenantBook). length part.uploads - length (part_after_sweep now part).uploads) b.tenants;
  blocks = swept_blocks b now;
  released = swept_blocks b now;
}

-- the book after a sweep
abbrev pub book_after_sweep : PlainBook → ℕ → PlainBook
book_after_sweep b now = record b {
  tenants = map {A = TenantBook} {B = TenantBook} (part_after_sweep now) b.tenants;
  released = b.released + swept_blocks b now;
}

-- a sweep ends nothing
pub record EndsNone (b : PlainBook) (now : ℕ) : Type 0 where
  pub uploads : (sweep_answer b now).uploads ≡ 0
  pub back : swept_blocks b now ≡ 0
  pub book : book_after_sweep b now ≡ b
