-- How many bytes of a GET are copied at most while the lock is held, this server's choice.
use Rattle.std.specs.Prelude.{ℕ, ◌^◌}

-- 256 KiB
abbrev pub range : ℕ
range = 2 ^ 18
