-- The numbers of a book by its tenants, without a row of any upload.
use Rattle.std.specs.Prelude.{ℕ, length, map}
use Rattle.std.specs.List.{range_with_len}
use Rattle.upload_book.specs.Heads.{Heads, head_part_at}
use Rattle.head_board.specs.declared.totals.Totals.{Totals}

-- how many uploads the tenant at a place has, expired ones included; none, where there is no tenant
abbrev pub upload_count : Heads → ℕ → ℕ
upload_count h tenant = length (head_part_at h tenant).uploads

-- what is charged, and how many uploads each of 16 tenants has
abbrev pub totals_of : Heads → Totals
totals_of h = record { accounts = h.accounts; uploads = map (upload_count h) (range_with_len 0 16) }
