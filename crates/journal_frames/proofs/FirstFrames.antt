-- What stands first in a file, by its parts.
use Rattle.std.proofs.Common.{◌≡◌, ℕ, ◌+◌, ◌^◌, ◌<◌, ◌≤◌, min, Bool, true, false, cond, ltb, eqb, List, ◌++◌, length, take, drop, Result, Ok, Err, Bor, refl, sym, ap, subst, ◌∙◌, append_assoc, arith, length-append, rules}
use Rattle.std.specs.Int.{w64, from_be_bytes}
use Rattle.std.specs.Prelude.{bytes_eq, IfOk, MatchResult}
use Rattle.std.proofs.lemmas.Bool.{ltb-false, le-ltb, lt-ltb, eqb-true}
use Rattle.std.proofs.lemmas.List.{take_at, drop_at, take-append-drop, length-take, length-drop, drop-drop}
use Rattle.std.proofs.lemmas.Nat.{be_bytes_8}
use Rattle.std.proofs.lemmas.Slice.Eq.{bytes_eq-Decides}
use Rattle.sqlite_disk.specs.Digest.{digest}
use Rattle.journal_frames.specs.declared.tail.Tail.{Tail}
use Rattle.journal_frames.specs.declared.tail.Tail.TheVariants.{Torn, Cut, Damaged}
use Rattle.journal_frames.specs.Frames.{AreBytes, Stands, balance, body, frame, framed, first_frame, judged, number, number_at, opened, weighed}
use Rattle.journal_frames.proofs.Sums.{AreBytes-drop, AreBytes-take, IsBody}

pub first_frame-judged : (key : ℕ) (file : List ℕ) (len told : ℕ) (rest behind : List ℕ) → 16 ≤ length file → len ≡ number_at file → rest ≡ drop 8 file → told ≡ number_at rest → behind ≡ drop 8 rest
    → first_frame key file ≡ judged key len told behind
unfolding first_frame
first_frame-judged key file len told rest behind long len_is rest_is told_is behind_is =
    let there : ltb (length file) 16 ≡ false = le-ltb _ _ long in
    rw (there, len_is, behind_is, told_is, rest_is) refl

pub first_frame_short : (key : ℕ) (file : List ℕ) → length file < 16 → first_frame key file ≡ Err Cut
unfolding first_frame
first_frame_short key file short = let cut : ltb (length file) 16 ≡ true = lt-ltb _ _ short in rw cut refl

-- what a call told of one result, of another that is the same
pub told_alike : (r : Result (Bor (List ℕ)) Tail) (x y : Result (List ℕ) Tail) → y ≡ x
    → MatchResult r (λ payload. x ≡ Ok payload.now) (λ tail. x ≡ Err tail)
    → MatchResult r (λ payload. y ≡ Ok payload.now) (λ tail. y ≡ Err tail)
told_alike (Ok payload) x y same told = same ∙ told
told_alike (Err tail) x y same told = same ∙ told

-- what stands first, where the two numbers of its header are told apart
pub first_frame-parts : (key : ℕ) (len told behind : List ℕ) → length len ≡ 8 → length told ≡ 8
    → first_frame key (len ++ (told ++ behind)) ≡ judged key (from_be_bytes w64 len) (from_be_bytes w64 told) behind
unfolding first_frame
first_frame-parts key len told behind eight also =
    let long : ltb (length (len ++ (told ++ behind))) 16 ≡ false = le-ltb _ _ (omega (arith, length-append len (told ++ behind), length-append told behind)) in
    rw (long, take_at len (told ++ behind) 8 eight, drop_at len (told ++ behind) 8 eight, take_at told behind 8 also, drop_at told behind 8 also) refl

-- a body that balances, with the digest of its payload
pub judged-whole : (key : ℕ) (bytes rest : List ℕ) → IsBody bytes → take 8 bytes ≡ number (digest key (drop 8 bytes))
    → judged key (length bytes) (balance bytes) (bytes ++ rest) ≡ Ok (drop 8 bytes)
judged-whole key bytes rest is_body digested =
    let short : ltb (2 ^ 32 + 8) (length bytes) ≡ false = le-ltb _ _ is_body.short in
    let there : ltb (length (bytes ++ rest)) (length bytes) ≡ false = le-ltb _ _ (omega (arith, length-append bytes rest)) in
    let even : ltb (balance bytes) (balance bytes) ≡ false = le-ltb _ _ (omega arith) in
    let same : eqb (balance bytes) (balance bytes) ≡ true = search rules in
    let right : bytes_eq (take 8 bytes) (number (digest key (drop 8 bytes))) ≡ true = (bytes_eq-Decides (take 8 bytes) (number (digest key (drop 8 bytes)))).1 digested in
    rw (short, there, take_at bytes rest (length bytes) refl, even, same, right) refl

not_first : (b : Bool) (e : Tail) (r : Result (List ℕ) Tail) (p : List ℕ) → cond b (Err e) r ≡ Ok p → (b ≡ false) × (r ≡ Ok p)
not_first true e r p is = absurd cc
not_first false e r p is = (refl, is)

only_first : (b : Bool) (e : Tail) (r : Result (List ℕ) Tail) (p : List ℕ) → cond b r (Err e) ≡ Ok p → (b ≡ true) × (r ≡ Ok p)
only_first true e r p is = (refl, is)
only_first false e r p is = absurd cc

abbrev done : List ℕ → Result (List ℕ) Tail
done x = Ok x

ok_is : (x y : List ℕ) → done x ≡ done y → x ≡ y
ok_is x y is = cc

-- what a header tells of a frame that is whole
record IsWhole (key len told : ℕ) (behind payload : List ℕ) : Type 0 where
  short : len ≤ 2 ^ 32 + 8
  there : len ≤ length behind
  even : told ≡ balance (take len behind)
  digested : take 8 (take len behind) ≡ number (digest key (drop 8 (take len behind)))
  payload_is : drop 8 (take len behind) ≡ payload

judged_whole : (key len told : ℕ) (behind payload : List ℕ) → judged key len told behind ≡ Ok payload → IsWhole key len told behind payload
judged_whole key len told behind payload whole =
    let bytes = take len behind in
    let a = not_first (ltb (2 ^ 32 + 8) len) Damaged (cond (ltb (length behind) len) (Err Cut) (weighed key told bytes)) payload whole in
    let b = not_first (ltb (length behind) len) Cut (weighed key told bytes) payload a.1 in
    let d = not_first (ltb told (balance bytes)) Torn (cond (eqb told (balance bytes)) (opened key bytes) (Err Damaged)) payload b.1 in
    let e = only_first (eqb told (balance bytes)) Damaged (opened key bytes) payload d.1 in
    let f = only_first (bytes_eq (take 8 bytes) (number (digest key (drop 8 bytes)))) Damaged (Ok (drop 8 bytes)) payload e.1 in
    record {
      short = ltb-false _ _ a.0;
      there = ltb-false _ _ b.0;
      even = eqb-true _ _ e.0;
      digested = (bytes_eq-Decides (take 8 bytes) (number (digest key (drop 8 bytes)))).0 f.0;
      payload_is = ok_is _ _ f.1;
    }

pub first_frame_stands : (key : ℕ) (file payload : List ℕ) → AreBytes file → first_frame key file ≡ Ok payload → Stands key file payload
unfolding first_frame framed body
first_frame_stands key file payload are read =
    let behind = drop 8 (drop 8 file) in
    let len = number_at file in
    let told = number_at (drop 8 file) in
    let bytes = take len behind in
    let a = not_first (ltb (length file) 16) Cut (judged key len told behind) payload read in
    let long : 16 ≤ length file = ltb-false _ _ a.0 in
    let w = judged_whole key len told behind payload a.1 in
    let len_bytes : length bytes ≡ len = omega (arith, length-take len behind, w.there) in
    let len_behind : length behind + 16 ≡ length file = omega (arith, length-drop 8 (drop 8 file), length-drop 8 file) in
    let first : number (length bytes) ≡ take 8 file = ap number len_bytes ∙ be_bytes_8 (take 8 file) len (omega (arith, length-take 8 file)) (AreBytes-take 8 file are) refl in
    let second : number (balance bytes) ≡ take 8 (drop 8 file) =
    ap number (sym w.even) ∙ be_bytes_8 (take 8 (drop 8 file)) told (omega (arith, length-take 8 (drop 8 file), length-drop 8 file)) (AreBytes-take 8 (drop 8 file) (AreBytes-drop 8 file are)) refl in
    let digit : 8 ≡ min 8 (length bytes) = ap length (sym w.digested) ∙ length-take 8 bytes in
    let payload_len : length payload + 8 ≡ len = omega (arith, ap length w.payload_is, length-drop 8 bytes) in
    let body_is : body key payload ≡ bytes =
    subst (λ (p : List ℕ). number (digest key p) ++ p ≡ bytes) w.payload_is (ap (λ (t : List ℕ). t ++ drop 8 bytes) (sym w.digested) ∙ take-append-drop 8 bytes) in
    let frame_is : frame key payload ≡ take 8 file ++ (take 8 (drop 8 file) ++ bytes) =
    ap framed body_is ∙ ap (λ (t : List ℕ). t ++ (number (balance bytes) ++ bytes)) first ∙ ap (λ (t : List ℕ). take 8 file ++ (t ++ bytes)) second in
    let rest_is : drop (24 + length payload) file ≡ drop len behind =
    ap (λ (n : ℕ). drop n file) (omega arith) ∙ sym (drop-drop len 16 file) ∙ ap (drop len) (sym (drop-drop 8 8 file)) in
    let split : file ≡ take 8 file ++ (take 8 (drop 8 file) ++ (bytes ++ drop len behind)) =
    sym (take-append-drop 8 file)
    ∙ ap (λ (t : List ℕ). take 8 file ++ t) (sym (take-append-drop 8 (drop 8 file)))
    ∙ ap (λ (t : List ℕ). take 8 file ++ (take 8 (drop 8 file) ++ t)) (sym (take-append-drop len behind)) in
    let regroup : (take 8 file ++ (take 8 (drop 8 file) ++ bytes)) ++ drop len behind ≡ take 8 file ++ (take 8 (drop 8 file) ++ (bytes ++ drop len behind)) =
    append_assoc (take 8 file) (take 8 (drop 8 file) ++ bytes) (drop len behind) ∙ ap (λ (t : List ℕ). take 8 file ++ t) (append_assoc (take 8 (drop 8 file)) bytes (drop len behind)) in
    record {
      whole = split ∙ sym regroup ∙ ap (λ (t : List ℕ). t ++ drop len behind) (sym frame_is) ∙ ap (λ (t : List ℕ). frame key payload ++ t) (sym rest_is);
      fits = record {
        short = omega (arith, w.short);
        bytes = subst AreBytes w.payload_is (AreBytes-drop 8 bytes (AreBytes-take len behind (AreBytes-drop 8 (drop 8 file) (AreBytes-drop 8 file are))));
      };
      there = omega (arith, w.there);
    }

-- the same of what a call told
pub told_stands : (key : ℕ) (file : List ℕ) (r : Result (Bor (List ℕ)) Tail) → AreBytes file
    → MatchResult r (λ payload. first_frame key file ≡ Ok payload.now) (λ tail. first_frame key file ≡ Err tail)
    → IfOk r (λ payload. Stands key file payload.now)
told_stands key file (Ok payload) are told = first_frame_stands key file payload.now are told
told_stands key file (Err tail) are told = tt
