-- Journals that are put back: the frames of records that stand behind room for their headers, and what these make.
use Rattle.std.proofs.Common.{◌≡◌, ℕ, zero, suc, ◌+◌, ◌<◌, List, [], ◌∷◌, ◌++◌, Vec, Global, length, get_or, map, take, Result, Err, IfErr, inl, inr, refl, sym, ap, ap₂, subst, ◌∙◌, arith}
use Rattle.std.proofs.lemmas.List.{append-nil, get_or-map, length-map, take_more}
use Rattle.std.specs.List.{AllByRecursion}
use Rattle.book_replay.specs.Fault.{IsReplayFault}
use Rattle.book_replay.specs.Replay.{replayed}
use Rattle.book_replay.specs.Snapshot.{behind_room, snapshot_records}
use Rattle.book_replay.specs.declared.fault.ReplayFault.{ReplayFault}
use Rattle.book_replay.specs.declared.fault.ReplayFault.TheVariants.{Record, Memory}
use Rattle.journal_file.proofs.Losses.{frames-append}
use Rattle.journal_frames.specs.Frames.{frame, frames, Fits, recovered}
use Rattle.journal_file.proofs.ReadAgain.{recovered-frames}
use Rattle.upload_book.specs.PlainBook.{PlainBook, opening_book}
use Rattle.upload_book.specs.Settings.{Settings}
use Rattle.journal_folders.specs.ProgramFault.{fault_of_replay}
use Rattle.server_words.specs.declared.fault.RunFault.{RunFault}
use Rattle.journal_folders.specs.ReadJournal.{journal_key}
use Rattle.journal_folders.specs.Renewed.{IsNotRenewed, IsSnapshotOf}

-- each of the records at a place fits a frame, where all do
pub fits-at : (records : List (List ℕ)) (i : ℕ) → i < length records → AllByRecursion Fits records → Fits (get_or records i [])
fits-at [] i within fit = absurd (omega (arith, within))
fits-at (first ∷ records) zero within fit = fit.0
fits-at (first ∷ records) (suc i) within fit = fits-at records i (omega (arith, within)) fit.1

module _ (rooms : List (Vec ℕ Global)) (records : List (List ℕ)) (are : map {A = Vec ℕ Global} {B = List ℕ} (λ room. room.items) rooms ≡ map behind_room records) where
  -- there are as many records
  pub rooms-length : length rooms ≡ length records
  rooms-length = sym (length-map rooms (λ (room : Vec ℕ Global). room.items)) ∙ ap (length {A = List ℕ}) are ∙ length-map records behind_room

  -- each room has the record at its place
  pub room-at : (i : ℕ) (room : Vec ℕ Global) → i < length rooms → room ≡ get_or rooms i room → room.items ≡ behind_room (get_or records i [])
  room-at i room within is =
      let there : i < length records = omega (arith, rooms-length, within) in
      ap (λ (v : Vec ℕ Global). v.items) is
      ∙ sym (get_or-map {X = Vec ℕ Global} {Y = List ℕ} (λ room. room.items) rooms i room [] within)
      ∙ ap (λ (l : List (List ℕ)). get_or l i []) are
      ∙ get_or-map {X = List ℕ} {Y = List ℕ} behind_room records i [] [] there

-- the frames of the first records, and that of the next one
pub frames-more : (key : ℕ) (records : List (List ℕ)) (i : ℕ) → i < length records → frames key (take i records) ++ frame key (get_or records i []) ≡ frames key (take (i + 1) records)
frames-more key records i within =
    ap (λ (t : List ℕ). frames key (take i records) ++ t) (sym (append-nil (frame key (get_or records i []))))
    ∙ sym (frames-append key (take i records) (get_or records i [] ∷ []))
    ∙ ap (frames key) (sym (take_more records i [] within))

-- what is made of the frames of records is made of the records
pub replayed-frames : (s new : Settings) (key : ℕ) (file bytes : List ℕ) (records : List (List ℕ)) (made : Result PlainBook ℕ) → s ≡ new → key ≡ journal_key → file ≡ bytes → bytes ≡ frames journal_key records → AllByRecursion Fits records
    → replayed 1 (opening_book s) (recovered key file) ≡ made → replayed 1 (opening_book new) records ≡ made
replayed-frames s new key file bytes records made s_is key_is file_is bytes_are fit is =
    let read : recovered key file ≡ records = ap₂ recovered key_is (file_is ∙ bytes_are) ∙ recovered-frames journal_key records fit in
    ap₂ (λ (of : Settings) (read : List (List ℕ)). replayed 1 (opening_book of) read) (sym s_is) (sym read) ∙ is

-- why no book of other settings was made of a snapshot is why the journal does not get these
pub replay-fault : (journal settings : List ℕ) (s new : Settings) (key : ℕ) (file bytes : List ℕ) (why : ReplayFault) (snapshot : IsSnapshotOf journal settings bytes) → s ≡ new → key ≡ journal_key → file ≡ bytes
    → IsReplayFault (replayed 1 (opening_book s) (recovered key file)) why → IsNotRenewed journal settings new (fault_of_replay why)
replay-fault journal settings s new key file bytes (Record number) snapshot s_is key_is file_is told =
    inr (inr (inr (
      number,
      refl,
      record {
        book = snapshot.book;
        makes = snapshot.makes;
        replays = replayed-frames s new key file bytes (snapshot_records 0 snapshot.book) _ s_is key_is file_is snapshot.frames_are snapshot.fit told;
      },
    )))
replay-fault journal settings s new key file bytes Memory snapshot s_is key_is file_is told = inl tt

-- what is so of the fault from which an error is made is so of the error
pub error-from : {T : Type 0} (P : RunFault → Type 0) (r : Result T RunFault) (error fault : RunFault) → r ≡ Err error → error ≡ fault → P fault → IfErr r P
error-from P r error fault is from holds = subst (λ (result : Result _ RunFault). IfErr result P) (sym is) (subst P (sym from) holds)
