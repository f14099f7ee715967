-- Worked rows, computed by the definitions themselves.
use Rattle.std.proofs.Common.{◌≡◌, [], ◌∷◌, true, false, Some, None, codes, refl}
use Rattle.tus_text.specs.declared.concat.Concat.TheVariants.{Partial, Final}
use Rattle.tus_text.specs.declared.concat.PartPath.{PartPath}
use Rattle.tus_text.specs.Concat.{concat_of, final_of}
use Rattle.tus_text.specs.Number.{number_of}
use Rattle.tus_text.specs.declared.path.Path.TheVariants.{Create, Upload, Other}
use Rattle.tus_text.specs.Path.{path_of}
use Rattle.tus_text.specs.Range.{byte_range_of}
use Rattle.tus_text.specs.declared.range.ByteRange.TheVariants.{Between, From, Last}
use Rattle.tus_text.specs.Date.{span_of, date_parts, expires_text}
use Rattle.base64.specs.Decode.{groups_error, scan_steps}
use Rattle.tus_text.specs.Cut.{trim_spaces}
use Rattle.tus_text.specs.Metadata.{is_value, is_metadata}

pub numbers : (number_of (codes "10") ≡ Some 10) × (number_of (codes "00") ≡ Some 0) × (number_of (codes "") ≡ None)
    × (number_of (codes "+5") ≡ None) × (number_of (codes "5, 5") ≡ None)
    × (number_of (codes "18446744073709551615") ≡ Some 18446744073709551615) × (number_of (codes "18446744073709551616") ≡ None)
    × (number_of (codes "0000000000000000000000000000007") ≡ Some 7)
unfolding number_of
numbers = (refl, refl, refl, refl, refl, refl, refl, refl)

pub dates : (expires_text 1000 ≡ codes "Thu, 01 Jan 1970 00:16:40 GMT")
    × (expires_text 4600 ≡ codes "Thu, 01 Jan 1970 01:16:40 GMT")
    × (expires_text 253402300799 ≡ codes "Fri, 31 Dec 9999 23:59:59 GMT")
unfolding span_of date_parts expires_text
dates = (refl, refl, refl)

pub paths : (path_of (codes "/files/acme") ≡ Create (codes "acme")) × (path_of (codes "/files/acme/") ≡ Create (codes "acme"))
    × (path_of (codes "/files/acme/1") ≡ Upload (codes "acme") 1) × (path_of (codes "/files/acme/01") ≡ Other)
    × (path_of (codes "/files/acme/0") ≡ Other) × (path_of (codes "/files/acme/18446744073709551616") ≡ Other)
    × (path_of (codes "http://h:1/files/acme/2") ≡ Upload (codes "acme") 2) × (path_of (codes "HTTPS://h/files/acme") ≡ Create (codes "acme"))
    × (path_of (codes "http:///files/acme") ≡ Other) × (path_of (codes "http://h?x/files/acme") ≡ Other)
    × (path_of (codes "/files/acme/1?x") ≡ Other) × (path_of (codes "/files/Acme") ≡ Other) × (path_of (codes "*") ≡ Other)
unfolding number_of path_of
paths = (refl, refl, refl, refl, refl, refl, refl, refl, refl, refl, refl, refl, refl)

pub metadata : (is_metadata (codes "a ,b") ≡ true) × (is_metadata (codes "a YQ==,b") ≡ true)
    × (is_metadata (codes " a YQ== , b ") ≡ true) × (is_metadata (codes "") ≡ false) × (is_metadata (codes "a,,b") ≡ false)
    × (is_metadata (codes "a YQ==,a") ≡ false) × (is_metadata (codes "a YQ") ≡ false) × (is_metadata (codes "a YR==") ≡ false)
    × (is_metadata (codes "a  YQ==") ≡ false)
unfolding groups_error scan_steps trim_spaces is_value is_metadata
metadata = (refl, refl, refl, refl, refl, refl, refl, refl, refl)

abbrev first : PartPath
first = record { tenant = codes "acme"; id = 1 }

abbrev second : PartPath
second = record { tenant = codes "acme"; id = 2 }

pub concats : (concat_of (codes "partial") ≡ Some Partial)
    × (concat_of (codes "final;/files/acme/1 http://h:1/files/acme/2") ≡ Some (Final (first ∷ second ∷ [])))
    × (concat_of (codes "final;  /files/acme/1   /files/acme/2") ≡ Some (Final (first ∷ second ∷ [])))
    × (concat_of (codes "final;") ≡ None) × (concat_of (codes "final; ") ≡ None) × (concat_of (codes "Partial") ≡ None)
    × (concat_of (codes " partial") ≡ None) × (concat_of (codes "final;/files/acme/1 ") ≡ None)
    × (concat_of (codes "final;/files/acme/1 x") ≡ None)
unfolding number_of path_of final_of concat_of
concats = (refl, refl, refl, refl, refl, refl, refl, refl, refl)

-- the first five are of RFC 9110, section 14.1.2
pub ranges : (byte_range_of (codes "bytes=0-499") ≡ Some (Between 0 499)) × (byte_range_of (codes "bytes=500-999") ≡ Some (Between 500 999))
    × (byte_range_of (codes "bytes=-500") ≡ Some (Last 500)) × (byte_range_of (codes "bytes=9500-") ≡ Some (From 9500))
    × (byte_range_of (codes "bytes=0-0,-1") ≡ None) × (byte_range_of (codes "BYTES=00-0") ≡ Some (Between 0 0))
    × (byte_range_of (codes "bytes=-0") ≡ Some (Last 0)) × (byte_range_of (codes "bytes=1-0") ≡ None)
    × (byte_range_of (codes "bytes=-") ≡ None) × (byte_range_of (codes "bytes=5") ≡ None) × (byte_range_of (codes "bytes= 0-5") ≡ None)
    × (byte_range_of (codes "bytes=1-2-3") ≡ None) × (byte_range_of (codes "seconds=1-2") ≡ None)
unfolding number_of
ranges = (refl, refl, refl, refl, refl, refl, refl, refl, refl, refl, refl, refl, refl)
