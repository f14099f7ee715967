-- The numbers that are told at one moment.
use Rattle.std.specs.Prelude.{ℕ, List, Option}
use Rattle.service_watch.specs.declared.counts.Counts.{Counts}
use Rattle.service_watch.specs.declared.snapshot.JournalNumbers.{JournalNumbers}
use Rattle.service_watch.specs.declared.snapshot.TenantNumbers.{TenantNumbers}

pub record Snapshot : Type 0 where
  pub counts : Counts
  pub tenants : List TenantNumbers
  pub connections : ℕ
  pub blocks_free : ℕ
  pub blocks_charged : ℕ
  pub blocks_released : ℕ
  pub journal : Option JournalNumbers
  pub resident : Option ℕ
