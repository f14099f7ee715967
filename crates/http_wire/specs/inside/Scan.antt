-- How far a search for the end of a head has come.
use Rattle.std.specs.Prelude.{ℕ, List, [], ◌∷◌}
use Rattle.http_wire.specs.declared.read.head_text.Scan.{Scan}

-- the search after some more bytes
abbrev pub scanned : Scan → List ℕ → Scan
scanned s [] = s
scanned s (b ∷ bytes) = scanned (record { before = s.last; last = b }) bytes
