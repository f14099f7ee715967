-- The segments of an upload that are put one after another, and the bytes of one, block by block.
use Rattle.std.proofs.Common.{◌≡◌, ℕ, ◌+◌, ◌<◌, ◌≤◌, List, [], ◌∷◌, ◌++◌, length, get_or, take, drop, min, Option, Some, None, option_map, unwrap_or, refl, sym, ap, ap₂, ◌∙◌, append_assoc, append-nil, arith}
use Rattle.std.specs.List.{flat_map}
use Rattle.std.proofs.lemmas.List.{drop-take, length-drop, length-take, take-append-drop, take-take, take_all, take_more}
use Rattle.std.proofs.lemmas.List.Concat.{flat_map-append, flat_map-cons}
use Rattle.upload_book.specs.snapshot.Restored.{RestoredSegment}
use Rattle.journal_records.specs.Records.{segment_bytes}

-- bytes of which so many are told
some-bytes : (told : Option (List ℕ)) (len : ℕ) → option_map length told ≡ Some len → (bytes : List ℕ) × (told ≡ Some bytes) × (length bytes ≡ len)
some-bytes None len is = absurd cc
some-bytes (Some bytes) len is = (bytes, refl, cc)

take-further : (bytes : List ℕ) (n m : ℕ) → take (n + m) bytes ≡ take n bytes ++ take m (drop n bytes)
take-further bytes n m =
    sym (take-append-drop n (take (n + m) bytes)) ∙ ap₂ (λ (a b : List ℕ). a ++ b) (take-take n (n + m) bytes (omega arith)) (drop-take n m bytes)

-- how far they are put
pub record ArePut (told : Option (List ℕ)) (len offset : ℕ) (before now : List ℕ) : Type 0 where
  pub within : offset ≤ len
  pub put : now ≡ before ++ take offset (unwrap_or told [])

pub none-put : (told : Option (List ℕ)) (len : ℕ) (before : List ℕ) → ArePut told len 0 before before
none-put told len before = record { within = omega arith; put = sym (append-nil before) }

pub more-put : (told : Option (List ℕ)) (len offset : ℕ) (before now piece : List ℕ) → option_map length told ≡ Some len → ((bytes : List ℕ) → told ≡ Some bytes → piece ≡ take (length piece) (drop offset bytes))
    → ArePut told len offset before now → ArePut told len (offset + length piece) before (now ++ piece)
more-put told len offset before now piece is lent so_far =
    let b = some-bytes told len is in
    let from : piece ≡ take (length piece) (drop offset b.0) = lent b.0 b.1 in
    let few : length piece ≡ min (length piece) (length (drop offset b.0)) = ap length from ∙ length-take (length piece) (drop offset b.0) in
    let all : unwrap_or told [] ≡ b.0 = ap (λ (o : Option (List ℕ)). unwrap_or o []) b.1 in
    record {
      within = omega (arith, few, length-drop offset b.0, b.2, so_far.within);
      put = ap (λ (l : List ℕ). l ++ piece) so_far.put
          ∙ append_assoc before (take offset (unwrap_or told [])) piece
          ∙ ap (λ (l : List ℕ). before ++ l) (ap (λ (l : List ℕ). take offset l ++ piece) all ∙ ap (λ (l : List ℕ). take offset b.0 ++ l) from ∙ sym (take-further b.0 offset (length piece)) ∙ ap (take (offset + length piece)) (sym all));
    }

pub all-put : (told : Option (List ℕ)) (len offset : ℕ) (before now : List ℕ) → option_map length told ≡ Some len → len ≤ offset → ArePut told len offset before now → now ≡ before ++ unwrap_or told []
all-put told len offset before now is past so_far =
    let b = some-bytes told len is in
    let all : unwrap_or told [] ≡ b.0 = ap (λ (o : Option (List ℕ)). unwrap_or o []) b.1 in
    so_far.put ∙ ap (λ (l : List ℕ). before ++ l) (ap (take offset) all ∙ take_all offset b.0 (omega (arith, past, b.2)) ∙ sym all)

-- one segment more
pub more-segments : (segments : List RestoredSegment) (k : ℕ) (s : RestoredSegment) (before now : List ℕ) → k < length segments → ((d : RestoredSegment) → s ≡ get_or segments k d)
    → now ≡ before ++ flat_map segment_bytes (take k segments) → now ++ segment_bytes s ≡ before ++ flat_map segment_bytes (take (k + 1) segments)
more-segments segments k s before now within read so_far =
    let further : take (k + 1) segments ≡ take k segments ++ s ∷ [] = take_more segments k s within ∙ ap (λ (x : RestoredSegment). take k segments ++ x ∷ []) (sym (read s)) in
    let one : flat_map segment_bytes (s ∷ []) ≡ segment_bytes s = flat_map-cons segment_bytes s [] ∙ append-nil (segment_bytes s) in
    let all : flat_map segment_bytes (take (k + 1) segments) ≡ flat_map segment_bytes (take k segments) ++ segment_bytes s =
    ap (flat_map segment_bytes) further ∙ flat_map-append segment_bytes (take k segments) (s ∷ []) ∙ ap (λ (l : List ℕ). flat_map segment_bytes (take k segments) ++ l) one in
    ap (λ (l : List ℕ). l ++ segment_bytes s) so_far ∙ append_assoc before (flat_map segment_bytes (take k segments)) (segment_bytes s) ∙ ap (λ (l : List ℕ). before ++ l) (sym all)
