-- What a crash leaves of a journal's file, frame by frame.
use Rattle.std.proofs.Common.{◌≡◌, ◌⊎◌, ℕ, suc, ◌+◌, ◌-◌, ◌<◌, ◌≤◌, List, [], ◌∷◌, ◌++◌, length, get_or, take, drop, refl, sym, ap, subst, ◌∙◌, append_assoc, arith, length-append, inl, inr}
use Rattle.std.specs.List.{AllByRecursion}
use Rattle.std.proofs.lemmas.List.{append-nil, ext_get_or, get_or_append_left, get_or-append-add, get_or-take, get_or-drop, length-take, length-drop, replicate-append-replicate, take-append-drop}
use Rattle.std.proofs.lemmas.List.Concat.{flat_map-append}
use Rattle.journal_frames.specs.Crash.{Leaves, Loses, zeros}
use Rattle.journal_frames.specs.Frames.{frame, frames, Fits}
use Rattle.journal_frames.proofs.CrashLemmas.{loses_whole_frames}
use Rattle.journal_frames.proofs.Losses.{loses-append}
use Rattle.journal_file.specs.Journal.{MayLose}

pub lost-refl : (synced : ℕ) (file : List ℕ) → MayLose synced file file
lost-refl synced file = record { len = refl; same = λ i lt. refl; each = λ i lt. inl refl }

pub loses_by_index : (xs zs : List ℕ) → length zs ≡ length xs → ((i : ℕ) → i < length xs → (get_or zs i 0 ≡ get_or xs i 0) ⊎ (get_or zs i 0 ≡ 0)) → Loses xs zs
loses_by_index [] [] len each = tt
loses_by_index [] (z ∷ zs) len each = absurd (omega (arith, len))
loses_by_index (x ∷ xs) [] len each = absurd (omega (arith, len))
loses_by_index (x ∷ xs) (z ∷ zs) len each = (each 0 (omega arith), loses_by_index xs zs (omega (arith, len)) (λ i lt. each (suc i) (omega arith)))

pub frames-append : (key : ℕ) (xs ys : List (List ℕ)) → frames key (xs ++ ys) ≡ frames key xs ++ frames key ys
frames-append key xs ys = flat_map-append (frame key) xs ys

pub AllByRecursion-append : (xs ys : List (List ℕ)) → AllByRecursion Fits xs → AllByRecursion Fits ys → AllByRecursion Fits (xs ++ ys)
AllByRecursion-append [] ys a b = b
AllByRecursion-append (x ∷ xs) ys a b = (a.0, AllByRecursion-append xs ys a.1 b)

-- the front of a file that was synced, and the loss behind it
record Parted (front behind left : List ℕ) : Type 0 where
  rest : List ℕ
  whole : left ≡ front ++ rest
  lost : Loses behind rest

parted : (front behind left : List ℕ) → MayLose (length front) (front ++ behind) left → Parted front behind left
parted front behind left loss = record {
  rest = drop (length front) left;
  whole = sym (take-append-drop (length front) left) ∙ ap (λ (t : List ℕ). t ++ drop (length front) left) front_is;
  lost = loses_by_index behind (drop (length front) left) (omega (arith, length-drop (length front) left, loss.len, length-append front behind)) each;
}
  where
    front_at : (i : ℕ) → i < length (take (length front) left) → get_or (take (length front) left) i 0 ≡ get_or front i 0
    front_at i lt =
        let below : i < length front = omega (arith, length-take (length front) left) in
        get_or-take (length front) left i 0 below ∙ loss.same i below ∙ get_or_append_left front behind 0 i below

    front_is : take (length front) left ≡ front
    front_is = ext_get_or 0 (take (length front) left) front (omega (arith, length-take (length front) left, loss.len, length-append front behind)) front_at

    each : (i : ℕ) → i < length behind → (get_or (drop (length front) left) i 0 ≡ get_or behind i 0) ⊎ (get_or (drop (length front) left) i 0 ≡ 0)
    each i lt =
        let at : get_or (drop (length front) left) i 0 ≡ get_or left (length front + i) 0 = get_or-drop (length front) left i 0 in
        elim (loss.each (length front + i) (omega (arith, length-append front behind))) [
          | inl same ↦ inl (at ∙ same ∙ get_or-append-add front behind i 0)
          | inr none ↦ inr (at ∙ none)
        ]

-- whatever stands behind the file
pub leaves_with : (key : ℕ) (synced unsynced : List (List ℕ)) (n : ℕ) (left more : List ℕ) → AllByRecursion Fits synced → AllByRecursion Fits unsynced → 16 ≤ n
    → MayLose (length (frames key synced)) (frames key (synced ++ unsynced) ++ zeros n) left → Leaves key synced unsynced (left ++ more)
leaves_with key synced unsynced n left more fits more_fits room loss =
    let front = frames key synced in
    let others = frames key unsynced in
    let file : frames key (synced ++ unsynced) ++ zeros n ≡ front ++ (others ++ zeros n) = ap (λ (t : List ℕ). t ++ zeros n) (frames-append key synced unsynced) ∙ append_assoc front others (zeros n) in
    let p = parted front (others ++ zeros n) left (subst (λ (t : List ℕ). MayLose (length front) t left) file loss) in
    let split : others ++ zeros n ≡ (others ++ zeros 16) ++ zeros (n - 16) =
    ap (λ (k : ℕ). others ++ zeros k) (omega arith) ∙ ap (λ (t : List ℕ). others ++ t) (sym (replicate-append-replicate 16 (n - 16) 0)) ∙ sym (append_assoc others (zeros 16) (zeros (n - 16))) in
    let a = loses-append (others ++ zeros 16) (zeros (n - 16)) p.rest (subst (λ (t : List ℕ). Loses t p.rest) split p.lost) in
    let here = take (length (others ++ zeros 16)) p.rest in
    let rest = drop (length (others ++ zeros 16)) p.rest in
    let whole : left ++ more ≡ front ++ (here ++ (rest ++ more)) =
    ap (λ (t : List ℕ). t ++ more) (p.whole ∙ ap (λ (t : List ℕ). front ++ t) (sym (take-append-drop (length (others ++ zeros 16)) p.rest)))
    ∙ append_assoc front (here ++ rest) more
    ∙ ap (λ (t : List ℕ). front ++ t) (append_assoc here rest more) in
    subst (Leaves key synced unsynced) (sym whole) (loses_whole_frames key synced unsynced here (rest ++ more) fits more_fits a.0)

pub leaves : (key : ℕ) (synced unsynced : List (List ℕ)) (n : ℕ) (left : List ℕ) → AllByRecursion Fits synced → AllByRecursion Fits unsynced → 16 ≤ n
    → MayLose (length (frames key synced)) (frames key (synced ++ unsynced) ++ zeros n) left → Leaves key synced unsynced left
leaves key synced unsynced n left fits more_fits room loss = subst (Leaves key synced unsynced) (append-nil left) (leaves_with key synced unsynced n left [] fits more_fits room loss)
