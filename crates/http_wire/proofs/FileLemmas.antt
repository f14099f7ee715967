-- The percent-encoding of what an extended value escapes gives the texts of `File`.
use Rattle.std.proofs.Common.{◌≡◌, ℕ, ◌+◌, ◌<◌, ◌≤◌, ◌++◌, Bool, true, false, not, List, [], All, Result, Ok, Err, is_ok, inl, inr, refl, sym, ap, length, arith}
use Rattle.std.proofs.lemmas.Bool.{agree_below, cases_Bool}
use Rattle.std.proofs.lemmas.List.{length-append}
use Rattle.std.proofs.lemmas.Str.{IsUtf8-from_is_utf8, is_utf8-from_IsUtf8}
use Rattle.std.specs.Prelude.{IsUtf8, MatchResult}
use Rattle.std.specs.Str.{is_utf8}
use Rattle.percent_encoding.specs.AsciiSet.{should_percent_encode}
use Rattle.percent_encoding.specs.Percent.{percent_encode}
use Rattle.tus_text.specs.Escape.{escaped_unless}
use Rattle.tus_text.proofs.EscapeLemmas.{escaped-length, texts_agree}
use Rattle.http_wire.specs.declared.write.file.TheConstants.{ESCAPED}
use Rattle.http_wire.specs.File.{disposition, is_shown, is_unreserved}
use Rattle.http_wire.specs.ReplyText.{disposition_in, line, tells_ranges, text_line}
use Rattle.tus_steps.specs.PlacedReply.{reply_with}
use Rattle.tus_steps.specs.declared.placed_reply.ReplyKind.{ReplyKind}
use Rattle.tus_steps.specs.declared.placed_reply.ReplyKind.TheVariants as kind
use Rattle.tus_steps.specs.declared.range.Extent.TheVariants.{Plain, Range, Whole}
use Rattle.upload_book.specs.declared.head_row.HeadRow.{HeadRow}

-- what is escaped are the bytes that aren't unreserved
sets_agree : agree_below (should_percent_encode ESCAPED) (λ b. not (is_unreserved b)) 256 ≡ true
unfolding should_percent_encode
sets_agree = refl

pub names_agree : (name : List ℕ) → All (λ b. b < 256) name → percent_encode ESCAPED name ≡ escaped_unless is_unreserved name
names_agree name small = texts_agree ESCAPED is_unreserved sets_agree name small

-- an escaped name of at most 255 bytes takes 765 at most
pub name-length : (name : List ℕ) → All (λ b. b < 256) name → length name ≤ 255 → length (percent_encode ESCAPED name) ≤ 765
name-length name small few = omega (arith, ap length (names_agree name small), escaped-length is_unreserved name)

-- and each piece of it fits behind those before it
pub piece-fits : (page piece rest before name : List ℕ) → page ++ (piece ++ rest) ≡ before ++ percent_encode ESCAPED name → All (λ b. b < 256) name → length name ≤ 255 → length page + length piece ≤ length before + 765
piece-fits page piece rest before name whole small few =
    omega (arith, ap length whole, length-append page (piece ++ rest), length-append piece rest, length-append before (percent_encode ESCAPED name), name-length name small few)

-- what was found of a text that may be UTF-8
pub valid-text : {S E : Type 0} (text : List ℕ) (now : S → List ℕ) (fault : E → Type 0) (result : Result S E) → MatchResult result (λ s. (now s ≡ text) × IsUtf8 text) (λ e. (IsUtf8 text → ⊥) × fault e) → is_ok result ≡ is_utf8 text
valid-text text now fault (Ok s) found = sym (is_utf8-from_IsUtf8 text found.1)
valid-text text now fault (Err e) found = elim (cases_Bool (is_utf8 text)) [
  | inl valid ↦ absurd (found.0 (IsUtf8-from_is_utf8 text valid))
  | inr other ↦ sym other
]

-- a disposition has a byte, so its line stands
pub disposition_line : (name media metadata : List ℕ) → text_line name (disposition media metadata) ≡ line name (disposition media metadata)
unfolding text_line
disposition_line name media metadata = by (is_shown media) refl
  where
    by : (shown : Bool) → is_shown media ≡ shown → text_line name (disposition media metadata) ≡ line name (disposition media metadata)
    by true is = rw is refl
    by false is = rw is refl

-- where ranges are told, a reply tells of the file by the metadata that lies beside it,
pub disposition-told : (media : List ℕ) (k : ReplyKind) (row : HeadRow) → tells_ranges (reply_with k row) ≡ true → disposition_in media (reply_with k row) ≡ disposition media row.metadata
disposition-told media (kind.Content bytes Plain) row told = absurd cc
disposition-told media (kind.Content bytes Whole) row told = refl
disposition-told media (kind.Content bytes (Range first last len)) row told = refl
disposition-told media (kind.Options max_size) row told = absurd cc
disposition-told media (kind.Created tenant id offset expires) row told = absurd cc
disposition-told media kind.Head row told = absurd cc
disposition-told media (kind.Unsatisfiable len) row told = absurd cc
disposition-told media (kind.Patched offset expires) row told = absurd cc
disposition-told media kind.Deleted row told = absurd cc
disposition-told media (kind.Refused why head place expires) row told = absurd cc

-- and else not
pub disposition-untold : (media : List ℕ) (k : ReplyKind) (row : HeadRow) → tells_ranges (reply_with k row) ≡ false → disposition_in media (reply_with k row) ≡ []
disposition-untold media (kind.Content bytes Plain) row told = refl
disposition-untold media (kind.Content bytes Whole) row told = absurd cc
disposition-untold media (kind.Content bytes (Range first last len)) row told = absurd cc
disposition-untold media (kind.Options max_size) row told = refl
disposition-untold media (kind.Created tenant id offset expires) row told = refl
disposition-untold media kind.Head row told = refl
disposition-untold media (kind.Unsatisfiable len) row told = refl
disposition-untold media (kind.Patched offset expires) row told = refl
disposition-untold media kind.Deleted row told = refl
disposition-untold media (kind.Refused why head place expires) row told = refl
