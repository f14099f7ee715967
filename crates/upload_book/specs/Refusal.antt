-- The refusals of the steps: their words and statuses, and the first of several tests that applies.
use Rattle.std.specs.Prelude.{◌≡◌, ◌⊎◌, ℕ, Bool, List, [], ◌∷◌, Option, Some, None, Result, Ok, Err, codes, if◌then◌else◌}
use Rattle.upload_book.specs.declared.refusal.Refusal.{Refusal}
use Rattle.upload_book.specs.declared.refusal.Refusal.TheVariants.{Version, Path, Tenant, Method, Field, Unknown, Gone, IsFinal, Media, Offset, LengthFixed, TooLong, Algorithm, Mismatch, Part, PartOpen, Unfinished, Uploads, Spent, Quota, Pool, Memory, Board}

-- the word that names it, which is the body of its reply
abbrev pub word_of : Refusal → List ℕ
word_of Version = codes "version"
word_of Path = codes "path"
word_of Tenant = codes "tenant"
word_of Method = codes "method"
word_of Field = codes "field"
word_of Unknown = codes "unknown"
word_of Gone = codes "gone"
word_of IsFinal = codes "final"
word_of Media = codes "media"
word_of Offset = codes "offset"
word_of LengthFixed = codes "length-fixed"
word_of TooLong = codes "too-long"
word_of Algorithm = codes "algorithm"
word_of Mismatch = codes "mismatch"
word_of Part = codes "part"
word_of PartOpen = codes "part-open"
word_of Unfinished = codes "unfinished"
word_of Uploads = codes "uploads"
word_of Spent = codes "spent"
word_of Quota = codes "quota"
word_of Pool = codes "pool"
word_of Memory = codes "memory"
word_of Board = codes "board"

-- the status of its reply: those of RFC 9110, section 15, and 507 of RFC 4918, section 11.5; 412 for
-- another version, 409 for a wrong offset, 415 for another content type, 403 for a PATCH of a final
-- upload, 400 for an algorithm that this server does not have and 460 for bytes with another checksum
-- are those that tus 1.0.0 asks for
abbrev pub status_of : Refusal → ℕ
status_of Version = 412
status_of Path = 404
status_of Tenant = 404
status_of Method = 405
status_of Field = 400
status_of Unknown = 404
status_of Gone = 410
status_of IsFinal = 403
status_of Media = 415
status_of Offset = 409
status_of LengthFixed = 400
status_of TooLong = 413
status_of Algorithm = 400
status_of Mismatch = 460
status_of Part = 400
status_of PartOpen = 409
status_of Unfinished = 409
status_of Uploads = 507
status_of Spent = 507
status_of Quota = 507
status_of Pool = 507
status_of Memory = 503
status_of Board = 503

-- the reason of the first test that holds, if one does
abbrev pub first_that_holds : {R : Type 0} → List (Bool × R) → Option R
first_that_holds [] = None
first_that_holds (test ∷ tests) = if test.0 then Some test.1 else first_that_holds tests

-- the words of the refusals that are tested for, in their order
abbrev pub words_of : List (Bool × Refusal) → List (List ℕ)
words_of [] = []
words_of (test ∷ tests) = word_of test.1 ∷ words_of tests

-- the value, unless it is refused
abbrev pub unless : {A : Type 0} → Option Refusal → A → Result A Refusal
unless None value = Ok value
unless (Some refusal) value = Err refusal

-- the result is the answer; or memory may be lacking, and it is the answer that says so
abbrev pub IsAnswer : {A : Type 0} → A → Type 0 → A → A → Type 0
IsAnswer answer MayLack lack result = (result ≡ answer) ⊎ (MayLack × (result ≡ lack))
