-- What a keeper has synced. A number stays at 2^64 - 1 once it is there.
use Rattle.std.specs.Prelude.{ℕ, ◌+◌, ◌-◌, ◌^◌, min}
use Rattle.journal_keeper.specs.declared.numbers.SyncCounts.{SyncCounts}

-- so many more, up to the greatest number
abbrev pub more : ℕ → ℕ → ℕ
more n count = min (count + n) (2 ^ 64 - 1)

-- nothing yet
abbrev pub no_syncs : SyncCounts
no_syncs = record { syncs = 0; records = 0; micros = 0 }

-- one sync more, of so many records, that took so many microseconds
abbrev pub synced_with : ℕ → ℕ → SyncCounts → SyncCounts
synced_with records micros s = record { syncs = more 1 s.syncs; records = more records s.records; micros = more micros s.micros }
