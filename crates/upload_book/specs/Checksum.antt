-- The checksum that came with some bytes, if one did (tus 1.0.0, Checksum).
use Rattle.std.specs.Prelude.{ℕ, Bool, true, false, not, List, Option, Some, None, bytes_eq}
use Rattle.sha1.specs.Sha1.{sha1}
use Rattle.tus_text.specs.declared.checksum.Checksum.{Checksum}
use Rattle.tus_text.specs.declared.checksum.Checksum.TheVariants.{Sha1, Other}

-- it is by an algorithm that this server does not have
abbrev pub is_of_other_algorithm : Option Checksum → Bool
is_of_other_algorithm None = false
is_of_other_algorithm (Some (Sha1 digest)) = false
is_of_other_algorithm (Some Other) = true

-- it is a digest by SHA-1 (FIPS 180-4), and not that of the bytes
abbrev pub is_mismatch : Option Checksum → List ℕ → Bool
is_mismatch None bytes = false
is_mismatch (Some (Sha1 digest)) bytes = not (bytes_eq digest (sha1 bytes))
is_mismatch (Some Other) bytes = false
