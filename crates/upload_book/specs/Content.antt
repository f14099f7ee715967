-- The step of a GET (RFC 9110, section 9.3.1; tus 1.0.0 leaves it to the server).
use Rattle.std.specs.Prelude.{ℕ, ◌<◌, Bool, not, List, [], ◌∷◌, drop, length, take, Result, Ok, Err}
use Rattle.std.specs.Result.{IsOkAnd}
use Rattle.upload_book.specs.declared.content.ByteSpan.{ByteSpan}
use Rattle.upload_book.specs.declared.refusal.Refusal.{Refusal}
use Rattle.upload_book.specs.declared.refusal.Refusal.TheVariants.{Unfinished}
use Rattle.upload_book.specs.declared.settings.Numbers.{Numbers}
use Rattle.upload_book.specs.Refusal.{first_that_holds, unless}
use Rattle.upload_book.specs.TenantBook.{TenantBook, visible_upload}
use Rattle.upload_book.specs.Upload.{Upload, content_of, is_complete}

-- the test of a GET of a visible upload
abbrev pub content_tests : Upload → List (Bool × Refusal)
content_tests u = (not (is_complete u), Unfinished) ∷ []

-- the bytes of an upload, once it has all of them
abbrev pub content_told : Upload → Result (List ℕ) Refusal
content_told u = unless (first_that_holds (content_tests u)) (content_of u)

-- the bytes of an upload that is visible
abbrev pub bytes_of : Result Upload Refusal → Result (List ℕ) Refusal
bytes_of (Ok u) = content_told u
bytes_of (Err refusal) = Err refusal

-- the bytes of the upload of an id at a moment
abbrev pub content_answer : ℕ → ℕ → Numbers → TenantBook → Result (List ℕ) Refusal
content_answer id now n part = bytes_of (visible_upload part id now)

-- what f gives of the bytes
abbrev pub with_content : {A : Type 0} → (List ℕ → A) → Result (List ℕ) Refusal → Result A Refusal
with_content f (Ok bytes) = Ok (f bytes)
with_content f (Err refusal) = Err refusal

-- how many bytes the upload of an id has at a moment, once it has all of them
abbrev pub len_answer : ℕ → ℕ → Numbers → TenantBook → Result ℕ Refusal
len_answer id now n part = with_content (λ bytes. length bytes) (content_answer id now n part)

-- the bytes of a span
abbrev pub bytes_at : ByteSpan → List ℕ → List ℕ
bytes_at span bytes = take span.count (drop span.first bytes)

-- those of the upload of an id at a moment, once it has all of its bytes
abbrev pub span_answer : ByteSpan → ℕ → ℕ → Numbers → TenantBook → Result (List ℕ) Refusal
span_answer span id now n part = with_content (bytes_at span) (content_answer id now n part)

-- a GET that is answered so gives more bytes than there is room for
abbrev pub LacksRoom : ℕ → Result (List ℕ) Refusal → Type 0
LacksRoom room answer = IsOkAnd answer (λ bytes. room < length bytes)

-- The bytes that a visible upload has so far, whether these are all of them or not. No request asks for them.
abbrev pub bytes_had : Result Upload Refusal → Result (List ℕ) Refusal
bytes_had (Ok u) = Ok (content_of u)
bytes_had (Err refusal) = Err refusal

-- the bytes so far of the upload of an id at a moment
abbrev pub so_far_answer : ℕ → ℕ → Numbers → TenantBook → Result (List ℕ) Refusal
so_far_answer id now n part = bytes_had (visible_upload part id now)
