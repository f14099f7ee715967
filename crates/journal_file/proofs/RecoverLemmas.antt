-- A file that is read frame by frame, and its tail that is cleared.
use Rattle.std.proofs.Common.{◌≡◌, ◌≢◌, ◌⊎◌, ℕ, ◌+◌, ◌-◌, ◌<◌, ◌≤◌, List, [], ◌∷◌, ◌++◌, length, get_or, take, drop, refl, sym, ap, subst, ◌∙◌, append_assoc, arith, length-append, inl, inr}
use Rattle.std.specs.List.{AllByRecursion}
use Rattle.std.proofs.lemmas.Bool.{cases_lt}
use Rattle.std.proofs.lemmas.List.{append-nil, drop_at, ext_get_or, get_or_append_left, get_or-drop, get_or-take, length-drop, length-replicate, length-take, take_at, take-append-drop}
use Rattle.sqlite_disk.specs.Disk.{Holds, Mixed, Only, Torn as WasTorn}
use Rattle.journal_frames.specs.Crash.{IsTornTail, Loses, zeros}
use Rattle.journal_frames.specs.Frames.{frame, frames, recovered, tail_of, Fits}
use Rattle.journal_frames.specs.declared.tail.Tail.TheVariants.{Torn}
use Rattle.journal_frames.proofs.TornTails.{stays_torn}
use Rattle.journal_frames.proofs.WholeFrames.{frames_again}
use Rattle.journal_file.specs.Journal.{BeginsWith, LeavesOldOr}
use Rattle.journal_file.specs.JournalError.{IsDamagedAt}
use Rattle.journal_file.specs.Recovered.{EndsAt}
use Rattle.journal_file.specs.declared.error.Damage.{Damage}
use Rattle.journal_file.proofs.Bytes.{zeros-at, zeros-grown}
use Rattle.journal_file.proofs.Losses.{AllByRecursion-append, frames-append, loses_by_index}

-- ---- reading

-- the payloads that were read so far, how many they are, and what is left
pub record ReadSoFar (key : ℕ) (file rest : List ℕ) (count : ℕ) : Type 0 where
  pub read : List (List ℕ)
  pub whole : file ≡ frames key read ++ rest
  pub payloads : recovered key file ≡ read ++ recovered key rest
  pub tail : tail_of key file ≡ tail_of key rest
  pub fits : AllByRecursion Fits read
  pub counted : length read ≡ count
  pub few : count + length rest ≤ length file

pub read_none : (key : ℕ) (file rest : List ℕ) → rest ≡ file → ReadSoFar key file rest 0
read_none key file rest is = record {
  read = [];
  whole = sym is;
  payloads = ap (recovered key) (sym is);
  tail = ap (tail_of key) (sym is);
  fits = tt;
  counted = refl;
  few = omega (arith, ap length is);
}

pub read_more : (key : ℕ) (file rest payload behind : List ℕ) (count : ℕ) → ReadSoFar key file rest count → recovered key rest ≡ payload ∷ recovered key behind → tail_of key rest ≡ tail_of key behind → rest ≡ frame key payload ++ behind → Fits payload → length behind < length rest → ReadSoFar key file behind (count + 1)
read_more key file rest payload behind count so_far payloads tail stands fits shorter = record {
  read = so_far.read ++ payload ∷ [];
  whole =
      so_far.whole
      ∙ ap (λ (t : List ℕ). frames key so_far.read ++ t) (stands ∙ ap (λ (t : List ℕ). t ++ behind) (sym (append-nil (frame key payload))))
      ∙ sym (append_assoc (frames key so_far.read) (frame key payload ++ []) behind)
      ∙ ap (λ (t : List ℕ). t ++ behind) (sym (frames-append key so_far.read (payload ∷ [])));
  payloads = so_far.payloads ∙ ap (λ (ps : List (List ℕ)). so_far.read ++ ps) payloads ∙ sym (append_assoc so_far.read (payload ∷ []) (recovered key behind));
  tail = so_far.tail ∙ tail;
  fits = AllByRecursion-append so_far.read (payload ∷ []) so_far.fits (fits, tt);
  counted = omega (arith, length-append so_far.read (payload ∷ []), so_far.counted);
  few = omega (arith, so_far.few, shorter);
}

-- nothing more is read: these are all payloads, and their frames end there
pub all_read : (key : ℕ) (file rest : List ℕ) (count : ℕ) → (so_far : ReadSoFar key file rest count) → recovered key rest ≡ [] → recovered key file ≡ so_far.read
all_read key file rest count so_far none = so_far.payloads ∙ ap (λ (ps : List (List ℕ)). so_far.read ++ ps) none ∙ append-nil so_far.read

pub all_counted : (key : ℕ) (file rest : List ℕ) (count : ℕ) → ReadSoFar key file rest count → recovered key rest ≡ [] → count ≡ length (recovered key file)
all_counted key file rest count so_far none = sym so_far.counted ∙ ap length (sym (all_read key file rest count so_far none))

pub ends_there : (key : ℕ) (file rest : List ℕ) (count : ℕ) → ReadSoFar key file rest count → recovered key rest ≡ [] → length (frames key (recovered key file)) ≡ length file - length rest
ends_there key file rest count so_far none =
    let end : length (frames key so_far.read) ≡ length file - length rest = omega (arith, ap length so_far.whole, length-append (frames key so_far.read) rest) in
    ap (λ (ps : List (List ℕ)). length (frames key ps)) (all_read key file rest count so_far none) ∙ end

pub damaged_at : (key : ℕ) (file rest : List ℕ) (count : ℕ) (damage : Damage) → ReadSoFar key file rest count → recovered key rest ≡ [] → tail_of key rest ≢ Torn → damage.at ≡ length file - length rest → damage.len ≡ length file → IsDamagedAt key file damage
damaged_at key file rest count damage so_far none other at len = record {
  tail = λ torn. other (sym so_far.tail ∙ torn);
  place = at ∙ sym (ends_there key file rest count so_far none);
  len = len;
}

pub ends_at : (key : ℕ) (file rest : List ℕ) (count : ℕ) → ReadSoFar key file rest count → recovered key rest ≡ [] → tail_of key rest ≡ Torn → EndsAt key file (length file - length rest)
ends_at key file rest count so_far none torn =
    let all : recovered key file ≡ so_far.read = all_read key file rest count so_far none in
    let end : length (frames key so_far.read) ≡ length file - length rest = omega (arith, ap length so_far.whole, length-append (frames key so_far.read) rest) in
    let behind : drop (length file - length rest) file ≡ rest = ap (drop (length file - length rest)) so_far.whole ∙ drop_at (frames key so_far.read) rest (length file - length rest) end in
    record {
      whole = so_far.whole ∙ ap (λ (ps : List (List ℕ)). frames key ps ++ rest) (sym all) ∙ ap (λ (t : List ℕ). frames key (recovered key file) ++ t) (sym behind);
      place = ap (λ (ps : List (List ℕ)). length (frames key ps)) all ∙ end;
      fits = subst (AllByRecursion Fits) (sym all) so_far.fits;
      tail = subst (IsTornTail key) (sym behind) (record { none = none; torn = torn });
    }

pub tail_is_long : (key : ℕ) (rest : List ℕ) → recovered key rest ≡ [] → tail_of key rest ≡ Torn → 16 ≤ length rest
tail_is_long key rest none torn = (stays_torn key rest rest (record { none = none; torn = torn }) (nothing_lost rest)).0
  where
    nothing_lost : (xs : List ℕ) → Loses xs xs
    nothing_lost [] = tt
    nothing_lost (x ∷ xs) = (inl refl, nothing_lost xs)

-- all of a file
pub read_whole : (bytes file : List ℕ) → length bytes ≡ length file → (0 < length bytes → Holds file 0 bytes) → bytes ≡ file
read_whole bytes file len holds = ext_get_or 0 bytes file len each
  where
    each : (i : ℕ) → i < length bytes → get_or bytes i 0 ≡ get_or file i 0
    each i within = let here : get_or file (0 + i) 0 ≡ get_or bytes i 0 = (holds (omega arith)).each i within in sym here ∙ ap (λ (n : ℕ). get_or file n 0) (omega arith)

pub room_behind : (key : ℕ) (file rest : List ℕ) (count : ℕ) → ReadSoFar key file rest count → recovered key rest ≡ [] → tail_of key rest ≡ Torn → length file - length rest + 16 ≤ length file
room_behind key file rest count so_far none torn = omega (arith, tail_is_long key rest none torn, ap length so_far.whole, length-append (frames key so_far.read) rest)

-- ---- clearing

module _ (key : ℕ) (file : List ℕ) (end : ℕ) (ends : EndsAt key file end) where
  pub cleared : (seen : List ℕ) (n : ℕ) → WasTorn end n file seen → (0 < n → Holds seen end (zeros n)) → BeginsWith (frames key (recovered key file) ++ zeros n) seen
  cleared seen n torn holds =
      let front = frames key (recovered key file) in
      let torn_here = subst (λ (at : ℕ). WasTorn at n (front ++ drop end file) seen) (sym ends.place) (subst (λ (t : List ℕ). WasTorn end n t seen) ends.whole torn) in
      record {
        rest = drop (length front + n) seen;
        is = zeros-grown front (drop end file) seen n torn_here (subst (λ (at : ℕ). 0 < n → Holds seen at (zeros n)) (sym ends.place) holds);
      }

  -- what a crash leaves meanwhile
  cleared_torn : (n : ℕ) (c : List ℕ) → n ≤ length file - end → Mixed end (zeros n) file c → recovered key c ≡ recovered key file
  cleared_torn n c is mixed = ap (recovered key) c_is ∙ (frames_again key (recovered key file) (drop end c) ends.fits).0 ∙ ap (λ (ps : List (List ℕ)). recovered key file ++ ps) still.none ∙ append-nil (recovered key file)
    where
      long : length file ≡ end + length (drop end file)
      long = omega (arith, ap length ends.whole, length-append (frames key (recovered key file)) (drop end file), ends.place)

      all : n ≤ length (drop end file)
      all = omega (arith, is, long)

      len : length c ≡ length file
      len = omega (arith, mixed.torn.no_shorter, mixed.torn.no_longer, length-replicate {A = ℕ} n 0, all, long)

      front_at : (i : ℕ) → i < length (take end c) → get_or (take end c) i 0 ≡ get_or (frames key (recovered key file)) i 0
      front_at i lt =
          let below : i < end = omega (arith, length-take end c) in
          get_or-take end c i 0 below
          ∙ mixed.torn.below i (omega (arith, long)) below
          ∙ ap (λ (t : List ℕ). get_or t i 0) ends.whole
          ∙ get_or_append_left (frames key (recovered key file)) (drop end file) 0 i (omega (arith, ends.place))

      front : take end c ≡ frames key (recovered key file)
      front = ext_get_or 0 (take end c) (frames key (recovered key file)) (omega (arith, length-take end c, len, long, ends.place)) front_at

      c_is : c ≡ frames key (recovered key file) ++ drop end c
      c_is = sym (take-append-drop end c) ∙ ap (λ (t : List ℕ). t ++ drop end c) front

      each : (i : ℕ) → i < length (drop end file) → (get_or (drop end c) i 0 ≡ get_or (drop end file) i 0) ⊎ (get_or (drop end c) i 0 ≡ 0)
      each i lt =
          elim (cases_lt i n) [
            | inl written ↦
                elim (mixed.each i (omega (arith, length-replicate {A = ℕ} n 0)) (omega (arith, long))) [
                  | inl same ↦ inl (get_or-drop end c i 0 ∙ same ∙ sym (get_or-drop end file i 0))
                  | inr cleared_it ↦ inr (get_or-drop end c i 0 ∙ cleared_it ∙ zeros-at n i)
                ]
            | inr behind ↦ inl (get_or-drop end c i 0 ∙ mixed.torn.above (end + i) (omega (arith, long)) (omega (arith, length-replicate {A = ℕ} n 0)) ∙ sym (get_or-drop end file i 0))
          ]

      still : IsTornTail key (drop end c)
      still = (stays_torn key (drop end file) (drop end c) ends.tail (loses_by_index (drop end file) (drop end c) (omega (arith, length-drop end c, length-drop end file, len)) each)).1

  pub cleared_crash : (seen : List ℕ) (n : ℕ) (old new : List ℕ → Type 0) → file ≡ seen → n ≤ length file - end → Only seen old → LeavesOldOr (Mixed end (zeros n)) old new → (c : List ℕ) → new c → recovered key c ≡ recovered key seen
  cleared_crash seen n old new is len only leaves_or c left = elim (leaves_or c left) [
    | inl before ↦ ap (recovered key) (only c before)
    | inr from ↦ cleared_torn n c len (subst (λ (t : List ℕ). Mixed end (zeros n) t c) (only from.0 from.1 ∙ sym is) from.2) ∙ ap (recovered key) is
  ]

  pub front_of_file : take end file ≡ frames key (recovered key file)
  front_of_file = ap (take end) ends.whole ∙ take_at (frames key (recovered key file)) (drop end file) end ends.place
