-- The value of Upload-Checksum (tus 1.0.0, checksum): the name of an algorithm, one space, and the checksum.
use Rattle.std.specs.Prelude.{ℕ, ◌||◌, ◌==◌, List, codes, length, bytes_eq, Option, Some, None, Result, Ok, Err, option_map, if◌then◌else◌}
use Rattle.std.specs.List.{before_first, after_first}
use Rattle.base64.specs.declared.decode.DecodeError.{DecodeError}
use Rattle.base64.specs.Engines.{standard}
use Rattle.base64.specs.GeneralPurpose.{decode_of}
use Rattle.tus_text.specs.declared.checksum.Checksum.{Checksum}
use Rattle.tus_text.specs.declared.checksum.Checksum.TheVariants.{Sha1, Other}
use Rattle.tus_text.specs.Cut.{is_space}

-- what was decoded, where it is as long as a digest of SHA-1 (FIPS 180-4)
abbrev pub twenty_bytes : Result (List ℕ) DecodeError → Option (List ℕ)
twenty_bytes (Ok bytes) = if length bytes == 20 then Some bytes else None
twenty_bytes (Err error) = None

-- the 20 bytes that the text is in Base64 (RFC 4648, section 4), with canonical padding and no bits left over
unfoldable pub digest_of : List ℕ → Option (List ℕ)
digest_of text = twenty_bytes (decode_of standard text)

-- what the text says: a digest after `sha1`, and no more than that it is there after another name
unfoldable pub checksum_of : List ℕ → Option Checksum
checksum_of text =
    let algorithm = before_first is_space text in
    let value = after_first is_space text in
    if length algorithm == 0 || length value == 0 then None
    else if bytes_eq algorithm (codes "sha1") then option_map Sha1 (digest_of value)
    else Some Other
