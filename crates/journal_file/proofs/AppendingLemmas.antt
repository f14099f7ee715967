-- Frames that are appended one after another.
use Rattle.std.proofs.Common.{◌≡◌, ℕ, zero, suc, ◌+◌, ◌<◌, List, [], ◌∷◌, ◌++◌, length, get_or, take, drop, map, sym, ap, subst, ◌∙◌, append_assoc, arith}
use Rattle.std.proofs.lemmas.List.{get_or-map, length-map, take-append-drop, take_more}
use Rattle.std.specs.List.{AllByRecursion}
use Rattle.journal_file.proofs.JournalLemmas.{leaves_more}
use Rattle.journal_file.specs.Appending.{frames_each}
use Rattle.journal_frames.specs.Crash.{Leaves}
use Rattle.journal_frames.specs.Frames.{Fits, frames}

-- ---- the frames of payloads, one each

module _ {V : Type 0} (items : V → List ℕ) (waiting : List V) (key : ℕ) (more : List (List ℕ)) (are : map {A = V} {B = List ℕ} items waiting ≡ frames_each key more) where
  -- there are as many payloads
  pub each-length : length waiting ≡ length more
  each-length = sym (length-map waiting items) ∙ ap (length {A = List ℕ}) are ∙ length-map more (λ (payload : List ℕ). frames key (payload ∷ []))

  -- each frame is that of the payload at its place
  pub each-at : (i : ℕ) (frame : V) → i < length waiting → frame ≡ get_or waiting i frame → items frame ≡ frames key (get_or more i [] ∷ [])
  each-at i frame within is =
      let there : i < length more = omega (arith, each-length, within) in
      ap items is
      ∙ sym (get_or-map items waiting i frame [] within)
      ∙ ap (λ (l : List (List ℕ)). get_or l i []) are
      ∙ get_or-map {X = List ℕ} {Y = List ℕ} (λ (payload : List ℕ). frames key (payload ∷ [])) more i [] [] there

-- the first payloads and the next, and then the others
more-split : (more : List (List ℕ)) (i : ℕ) → i < length more → (take i more ++ get_or more i [] ∷ []) ++ drop (i + 1) more ≡ more
more-split more i within = ap (λ (l : List (List ℕ)). l ++ drop (i + 1) more) (sym (take_more more i [] within)) ∙ take-append-drop (i + 1) more

-- the same behind others
pub more-behind : (unsynced more : List (List ℕ)) (i : ℕ) → i < length more → ((unsynced ++ take i more) ++ get_or more i [] ∷ []) ++ drop (i + 1) more ≡ unsynced ++ more
more-behind unsynced more i within =
    ap (λ (l : List (List ℕ)). l ++ drop (i + 1) more) (append_assoc unsynced (take i more) (get_or more i [] ∷ []))
    ∙ append_assoc unsynced (take i more ++ get_or more i [] ∷ []) (drop (i + 1) more)
    ∙ ap (λ (l : List (List ℕ)). unsynced ++ l) (more-split more i within)

-- the first payloads and the next, behind others, are one more
pub one-more : (unsynced more : List (List ℕ)) (i : ℕ) → i < length more → (unsynced ++ take i more) ++ get_or more i [] ∷ [] ≡ unsynced ++ take (i + 1) more
one-more unsynced more i within = append_assoc unsynced (take i more) (get_or more i [] ∷ []) ∙ ap (λ (l : List (List ℕ)). unsynced ++ l) (sym (take_more more i [] within))

-- what holds of each holds of the one at a place
pub fits-at : (more : List (List ℕ)) (i : ℕ) → AllByRecursion Fits more → i < length more → Fits (get_or more i [])
fits-at [] i fit within = absurd (omega (arith, within))
fits-at (payload ∷ more) zero fit within = fit.0
fits-at (payload ∷ more) (suc i) fit within = fits-at more i fit.1 (omega (arith, within))

-- a crash that leaves all that was synced and the first so many of the first payloads leaves the first so many of all
pub leaves-durable : (key : ℕ) (payloads durable behind all : List (List ℕ)) (c : List ℕ) → durable ++ behind ≡ all → Leaves key payloads durable c → Leaves key payloads all c
leaves-durable key payloads durable behind all c is left = subst (λ (l : List (List ℕ)). Leaves key payloads l c) is (leaves_more key payloads durable behind c left)
