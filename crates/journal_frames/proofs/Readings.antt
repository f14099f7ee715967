-- Files that are read frame by frame.
use Rattle.std.proofs.Common.{◌≡◌, ℕ, zero, suc, ◌+◌, List, [], ◌∷◌, length, drop, Ok, Err, refl, arith}
use Rattle.journal_frames.specs.declared.tail.Tail.{Tail}
use Rattle.journal_frames.specs.declared.tail.Tail.TheVariants.{Cut}
use Rattle.journal_frames.specs.Frames.{first_frame, read_past}

-- bytes of a frame that was read are passed over
read_past-drop : (key passed : ℕ) (file : List ℕ) → read_past key passed file ≡ read_past key 0 (drop passed file)
unfolding read_past
read_past-drop key zero file = refl
read_past-drop key (suc passed) [] = refl
read_past-drop key (suc passed) (b ∷ file) = read_past-drop key passed file

pub first_frame_none : (key : ℕ) → first_frame key [] ≡ Err Cut
unfolding first_frame
first_frame_none key = refl

-- a whole frame, and what is read behind it
pub reads_on : (key : ℕ) (file payload : List ℕ) → first_frame key file ≡ Ok payload
    → read_past key 0 file ≡ record { payloads = payload ∷ (read_past key 0 (drop (24 + length payload) file)).payloads; tail = (read_past key 0 (drop (24 + length payload) file)).tail }
unfolding read_past
reads_on key [] payload whole = absurd (cc (first_frame_none key, whole))
reads_on key (b ∷ file) payload whole =
    let more : 24 + length payload ≡ suc (23 + length payload) = omega arith in
    rw (whole, more, read_past-drop key (23 + length payload) file) refl

-- no whole frame
pub reads_no_more : (key : ℕ) (file : List ℕ) (tail : Tail) → first_frame key file ≡ Err tail → read_past key 0 file ≡ record { payloads = []; tail = tail }
unfolding read_past
reads_no_more key [] tail ends = let same : Cut ≡ tail = cc (first_frame_none key, ends) in rw same refl
reads_no_more key (b ∷ file) tail ends = rw ends refl
