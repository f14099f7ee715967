-- Under which ids the uploads of a tenant stand.
use Rattle.std.specs.Prelude.{ℕ, ◌<◌, List, map, All}
use Rattle.std.specs.List.Sorted.{IsStrictlyIncreasing}
use Rattle.upload_book.specs.TenantBook.{Entry}

-- entries stand under ids that ascend, below the next one
pub record AreBelow {K : Type 0} (next : ℕ) (entries : List (Entry K)) : Type 0 where
  pub ascending : IsStrictlyIncreasing (map {A = Entry K} {B = ℕ} (λ e. e.id) entries)
  pub below : All (λ (e : Entry K). e.id < next) entries
