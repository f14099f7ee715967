-- Each field that was written is read again, whatever stands behind it; and so are changes.
use Rattle.std.proofs.Common.{◌≡◌, ℕ, suc, ◌≤◌, Bool, true, false, eqb, ltb, if◌then◌else◌, List, [], ◌∷◌, ◌++◌, length, Option, Some, None, refl, inl, inr, sym, ap, ◌∙◌, append_assoc, arith, length-append}
use Rattle.std.specs.Prelude.{IfSome}
use Rattle.std.specs.Int.{w64, from_be_bytes}
use Rattle.std.specs.List.{flat_map, AllByRecursion}
use Rattle.std.proofs.lemmas.Bool.{le-ltb}
use Rattle.std.proofs.lemmas.Bool.Decides.{eqb_tells}
use Rattle.std.proofs.lemmas.List.{append-nil, take_at, drop_at}
use Rattle.std.proofs.lemmas.List.Concat.{flat_map-cons}
use Rattle.std.proofs.lemmas.Nat.{from_be_bytes-to_be_bytes_8}
use Rattle.tus_text.specs.declared.checksum.Checksum.{Checksum}
use Rattle.tus_text.specs.declared.checksum.Checksum.TheVariants.{Sha1, Other}
use Rattle.upload_book.specs.Chunk.{Chunk}
use Rattle.upload_book.specs.FirstChunk.{FirstChunk}
use Rattle.upload_book.specs.NewFinal.{NewFinal}
use Rattle.upload_book.specs.NewUpload.{NewUpload}
use Rattle.upload_book.specs.declared.change.Change.{Change}
use Rattle.upload_book.specs.declared.change.Change.TheVariants.{Create, Append, Concat, Terminate, Sweep, Restore}
use Rattle.upload_book.specs.declared.head_row.Kind.{Kind}
use Rattle.upload_book.specs.declared.head_row.Kind.TheVariants.{Plain, Partial, Final}
use Rattle.upload_book.specs.declared.head_row.Name.{Name}
use Rattle.upload_book.specs.declared.restored.Restored.{Restored}
use Rattle.upload_book.specs.declared.restored.Restored.TheVariants as piece
use Rattle.upload_book.specs.snapshot.Restored.{RestoredSegment, RestoredUpload}
use Rattle.journal_records.specs.Laws.{RecordsAreReadAgain}
use Rattle.journal_records.specs.Reading.{number_at, bytes_at, flag_at, flag_more_at, nonzero_at, optional_at, text_at, check_at, name_at, many_at, parts_at, expires_at, kind_at, optional_text_at, segment_at, segments_at, upload_at, first_at, chunk_at, final_at, fields_at, back_at, create_at, append_at, concat_at, terminate_at, restore_at, next_at, totals_at, change_at, moment_at, record_at}
use Rattle.journal_records.specs.Records.{number, flag, flag_more, optional, text, check, name_bytes, parts, kind_byte, optional_text, segment_bytes, segments_bytes, upload_bytes, first_bytes, chunk_bytes, final_bytes, back_bytes, piece_bytes, change_bytes, IsNumber, FitsCheck, FitsUpload, FitsFirst, FitsChunk, FitsFinal, FitsSegment, FitsBack, FitsPiece, FitsChange}

-- ---- fields

number_word : (n : ℕ) (word rest : List ℕ) → IsNumber n → word ≡ number n → number_at (word ++ rest) ≡ Some (n, rest)
unfolding number_at
number_word n word rest fits is =
    let eight : length word ≡ 8 = ap length is in
    let long : ltb (length (word ++ rest)) 8 ≡ false = le-ltb _ _ (omega (arith, length-append word rest)) in
    let read : from_be_bytes w64 word ≡ n = ap (from_be_bytes w64) is ∙ from_be_bytes-to_be_bytes_8 n fits in
    rw (long, take_at word rest 8 eight, drop_at word rest 8 eight, read) refl

number_again : (n : ℕ) (rest : List ℕ) → IsNumber n → number_at (number n ++ rest) ≡ Some (n, rest)
number_again n rest fits = number_word n (number n) rest fits refl

bytes_again : (bytes rest : List ℕ) (n : ℕ) → length bytes ≡ n → bytes_at n (bytes ++ rest) ≡ Some (bytes, rest)
unfolding bytes_at
bytes_again bytes rest n is =
    let long : ltb (length (bytes ++ rest)) n ≡ false = le-ltb _ _ (omega (arith, length-append bytes rest)) in
    rw (long, take_at bytes rest n is, drop_at bytes rest n is) refl

flag_again : (b : Bool) (rest : List ℕ) → flag_at (flag b ++ rest) ≡ Some (b, rest)
unfolding flag_at
flag_again false rest = refl
flag_again true rest = refl

nonzero_again : (n : ℕ) (rest : List ℕ) → IsNumber n → eqb n 0 ≡ false → nonzero_at (number n ++ rest) ≡ Some (n, rest)
unfolding nonzero_at
nonzero_again n rest fits some = rw (number_again n rest fits) (rw some refl)

flag_more_again : (b : Bool) (more : ℕ) (rest : List ℕ) → IsNumber more → flag_more_at (flag_more b more ++ rest) ≡ Some ((b, more), rest)
unfolding flag_more_at
flag_more_again b more rest fits = elim (eqb_tells more 0) [
  | inl none ↦ rw none.1 (by_none b)
  | inr some ↦ rw some.0 (by_some b some.0)
]
  where
    by_none : (b : Bool) → flag_more_at (flag_more b 0 ++ rest) ≡ Some ((b, 0), rest)
    by_none false = refl
    by_none true = refl

    by_some : (b : Bool) → eqb more 0 ≡ false → flag_more_at ((if b then 3 else 2) ∷ (number more ++ rest)) ≡ Some ((b, more), rest)
    by_some false some = rw (nonzero_again more rest fits some) refl
    by_some true some = rw (nonzero_again more rest fits some) refl

optional_again : (o : Option ℕ) (rest : List ℕ) → IfSome o IsNumber → optional_at (optional o ++ rest) ≡ Some (o, rest)
unfolding optional_at
optional_again None rest fits = refl
optional_again (Some n) rest fits = rw (number_again n rest fits) refl

text_again : (bytes rest : List ℕ) → IsNumber (length bytes) → text_at (text bytes ++ rest) ≡ Some (bytes, rest)
unfolding text_at
text_again bytes rest fits = ap text_at (append_assoc (number (length bytes)) bytes rest) ∙ rw (number_again (length bytes) (bytes ++ rest) fits) (bytes_again bytes rest (length bytes) refl)

check_again : (told : Option Checksum) (rest : List ℕ) → FitsCheck told → check_at (check told ++ rest) ≡ Some (told, rest)
unfolding check_at
check_again None rest fits = refl
check_again (Some (Sha1 digest)) rest fits = rw (bytes_again digest rest 20 fits) refl
check_again (Some Other) rest fits = refl

name_again : (name : Name) (rest : List ℕ) → IsNumber name.id → name_at (name_bytes name ++ rest) ≡ Some (name, rest)
unfolding name_at
name_again name rest fits = rw (number_again name.id rest fits) refl

-- so are several of one form, one after another
module _ {A : Type 0} (read : List ℕ → Option (A × List ℕ)) (write : A → List ℕ) (Fits : A → Type 0) (again : (x : A) (rest : List ℕ) → Fits x → read (write x ++ rest) ≡ Some (x, rest)) where
  many_again : (xs : List A) (rest : List ℕ) → AllByRecursion Fits xs → many_at read (length xs) (flat_map write xs ++ rest) ≡ Some (xs, rest)
  unfolding many_at
  many_again [] rest fits = refl
  many_again (x ∷ xs) rest fits =
      let regrouped : flat_map write (x ∷ xs) ++ rest ≡ write x ++ (flat_map write xs ++ rest) = ap (λ (bytes : List ℕ). bytes ++ rest) (flat_map-cons write x xs) ∙ append_assoc (write x) (flat_map write xs) rest in
      ap (many_at read (suc (length xs))) regrouped ∙ rw (again x (flat_map write xs ++ rest) fits.0, many_again xs rest fits.1) refl

parts_again : (ids : List (Option ℕ)) (rest : List ℕ) → length ids ≤ 32 → AllByRecursion (λ id. IfSome id IsNumber) ids → parts_at (parts ids ++ rest) ≡ Some (ids, rest)
unfolding parts_at
parts_again ids rest few fits =
    let small : ltb 32 (length ids) ≡ false = le-ltb _ _ few in
    ap parts_at (append_assoc (number (length ids)) (flat_map optional ids) rest) ∙ rw (number_again (length ids) (flat_map optional ids ++ rest) (omega (arith, few)), small) (many_again optional_at optional (λ id. IfSome id IsNumber) optional_again ids rest fits)

moment_again : (now : ℕ) (rest : List ℕ) → now ≤ 253402300799 → moment_at (number now ++ rest) ≡ Some (now, rest)
unfolding moment_at
moment_again now rest within =
    let short : ltb 253402300799 now ≡ false = le-ltb _ _ within in
    rw (number_again now rest (omega (arith, within)), short) refl

expires_again : (expires : Option ℕ) (rest : List ℕ) → IfSome expires (λ secs. secs ≤ 253402300799) → expires_at (optional expires ++ rest) ≡ Some (expires, rest)
unfolding expires_at
expires_again None rest fits = refl
expires_again (Some secs) rest fits = rw (moment_again secs rest fits) refl

kind_again : (kind : Kind) (rest : List ℕ) → kind_at (kind_byte kind ∷ rest) ≡ Some (kind, rest)
unfolding kind_at
kind_again Plain rest = refl
kind_again Partial rest = refl
kind_again Final rest = refl

optional_text_again : (brought : Option (List ℕ)) (rest : List ℕ) → IfSome brought (λ bytes. IsNumber (length bytes)) → optional_text_at (optional_text brought ++ rest) ≡ Some (brought, rest)
unfolding optional_text_at
optional_text_again None rest fits = refl
optional_text_again (Some bytes) rest fits = rw (text_again bytes rest fits) refl

segment_again : (s : RestoredSegment) (rest : List ℕ) → FitsSegment s → segment_at (segment_bytes s ++ rest) ≡ Some (s, rest)
unfolding segment_at
segment_again s rest fits =
    ap segment_at (append_assoc (number s.origin) (optional_text s.bytes) rest) ∙ rw (number_again s.origin (optional_text s.bytes ++ rest) fits.origin, optional_text_again s.bytes rest fits.bytes) refl

segments_again : (segments : List RestoredSegment) (rest : List ℕ) → length segments ≤ 32 → AllByRecursion FitsSegment segments → segments_at (segments_bytes segments ++ rest) ≡ Some (segments, rest)
unfolding segments_at
segments_again segments rest few fits =
    let small : ltb 32 (length segments) ≡ false = le-ltb _ _ few in
    ap segments_at (append_assoc (number (length segments)) (flat_map segment_bytes segments) rest)
    ∙ rw (number_again (length segments) (flat_map segment_bytes segments ++ rest) (omega (arith, few)), small) (many_again segment_at segment_bytes FitsSegment segment_again segments rest fits)

-- ---- changes

upload_again : (new : NewUpload) (rest : List ℕ) → FitsUpload new → upload_at (upload_bytes new ++ rest) ≡ Some (new, rest)
unfolding upload_at upload_bytes
upload_again new rest fits =
    let a = flag new.partial in
    let b = optional new.length in
    let d = text new.metadata in
    let e = text new.concat in
    let regrouped : (a ++ b ++ d ++ e) ++ rest ≡ a ++ (b ++ (d ++ (e ++ rest))) = append_assoc (a ++ b ++ d) e rest ∙ append_assoc (a ++ b) d (e ++ rest) ∙ append_assoc a b (d ++ (e ++ rest)) in
    ap upload_at regrouped
    ∙ rw (flag_again new.partial (b ++ (d ++ (e ++ rest))), optional_again new.length (d ++ (e ++ rest)) fits.told, text_again new.metadata (e ++ rest) fits.metadata, text_again new.concat rest fits.concat) refl

first_again : (first : FirstChunk) → FitsFirst first → first_at (first_bytes first) ≡ Some first
unfolding first_at first_bytes
first_again first fits =
    ap first_at (append_assoc (flag_more first.typed first.more) (check first.check) first.bytes)
    ∙ rw (flag_more_again first.typed first.more (check first.check ++ first.bytes) fits.more, check_again first.check first.bytes fits.check) refl

chunk_again : (chunk : Chunk) → FitsChunk chunk → chunk_at (chunk_bytes chunk) ≡ Some chunk
unfolding chunk_at chunk_bytes
chunk_again chunk fits =
    let a = number chunk.offset in
    let b = optional chunk.length in
    let d = flag_more chunk.typed chunk.more in
    let e = check chunk.check in
    let regrouped : a ++ b ++ d ++ e ++ chunk.bytes ≡ a ++ (b ++ (d ++ (e ++ chunk.bytes))) = append_assoc (a ++ b ++ d) e chunk.bytes ∙ append_assoc (a ++ b) d (e ++ chunk.bytes) ∙ append_assoc a b (d ++ (e ++ chunk.bytes)) in
    ap chunk_at regrouped
    ∙ rw (number_again chunk.offset (b ++ (d ++ (e ++ chunk.bytes))) fits.offset, optional_again chunk.length (d ++ (e ++ chunk.bytes)) fits.told, flag_more_again chunk.typed chunk.more (e ++ chunk.bytes) fits.more, check_again chunk.check chunk.bytes fits.check) refl

final_again : (new : NewFinal) → FitsFinal new → final_at (final_bytes new) ≡ Some new
unfolding final_at final_bytes
final_again new fits =
    ap final_at (append_assoc (parts new.parts) (text new.metadata) new.concat) ∙ rw (parts_again new.parts (text new.metadata ++ new.concat) fits.few fits.parts, text_again new.metadata new.concat fits.metadata) refl

back_again : (r : RestoredUpload) → FitsBack r → back_at (back_bytes r) ≡ Some r
unfolding back_at back_bytes fields_at
back_again r fits =
    let a = segments_bytes r.segments in
    let b = number r.id in
    let d : List ℕ = kind_byte r.kind ∷ [] in
    let e = optional r.declared in
    let f = optional r.expires in
    let g = text r.metadata in
    let h = r.concat in
    let regrouped : a ++ b ++ d ++ e ++ f ++ g ++ h ≡ a ++ (b ++ (d ++ (e ++ (f ++ (g ++ h))))) =
    append_assoc (a ++ b ++ d ++ e ++ f) g h ∙ append_assoc (a ++ b ++ d ++ e) f (g ++ h) ∙ append_assoc (a ++ b ++ d) e (f ++ (g ++ h)) ∙ append_assoc (a ++ b) d (e ++ (f ++ (g ++ h))) ∙ append_assoc a b (d ++ (e ++ (f ++ (g ++ h)))) in
    ap back_at regrouped
    ∙ rw (segments_again r.segments (b ++ (d ++ (e ++ (f ++ (g ++ h))))) fits.few fits.segments, number_again r.id (d ++ (e ++ (f ++ (g ++ h)))) fits.id, kind_again r.kind (e ++ (f ++ (g ++ h))), optional_again r.declared (f ++ (g ++ h)) fits.declared, expires_again r.expires (g ++ h) fits.expires, text_again r.metadata h fits.metadata) refl

piece_again : (restored : Restored) → FitsPiece restored → change_at (piece_bytes restored) ≡ Some (Restore restored)
unfolding change_at restore_at next_at totals_at
piece_again (piece.Upload tenant r) fits = rw (back_again r fits) refl
piece_again (piece.Next tenant next) fits =
    let name : Name = record { tenant = tenant; id = next } in
    let read : name_at (name_bytes name) ≡ Some (name, []) = ap name_at (sym (append-nil (name_bytes name))) ∙ name_again name [] fits in
    rw read refl
piece_again (piece.Totals released) fits =
    let read : number_at (number released) ≡ Some (released, []) = ap number_at (sym (append-nil (number released))) ∙ number_again released [] fits in
    rw read refl

change_again : (change : Change) → FitsChange change → change_at (change_bytes change) ≡ Some change
unfolding change_at create_at append_at concat_at terminate_at
change_again (Create tenant new first) fits = rw (upload_again new (first_bytes first) fits.0, first_again first fits.1) refl
change_again (Append name chunk) fits = rw (name_again name (chunk_bytes chunk) fits.0, chunk_again chunk fits.1) refl
change_again (Concat tenant new) fits = rw (final_again new fits) refl
change_again (Terminate name) fits =
    let read : name_at (name_bytes name) ≡ Some (name, []) = ap name_at (sym (append-nil (name_bytes name))) ∙ name_again name [] fits in
    rw read refl
change_again Sweep fits = refl
change_again (Restore restored) fits = piece_again restored fits

pub record_again : RecordsAreReadAgain
unfolding record_at moment_at
record_again now change within fits =
    let short : ltb 253402300799 now ≡ false = le-ltb _ _ within in
    rw (number_again now (change_bytes change) (omega (arith, within)), short, change_again change fits) refl
