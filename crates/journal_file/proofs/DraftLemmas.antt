-- What each call of a draft makes of its file.
use Rattle.std.proofs.Common.{◌≡◌, ℕ, ◌+◌, ◌<◌, List, [], ◌++◌, length, drop, refl, sym, ap, subst, ◌∙◌, arith, length-append}
use Rattle.std.specs.List.{AllByRecursion}
use Rattle.std.proofs.lemmas.List.{length-replicate}
use Rattle.sqlite_disk.specs.Disk.{Holds, Only, Torn}
use Rattle.sqlite_disk.specs.declared.Disk.{Ghosts}
use Rattle.journal_frames.specs.Crash.{zeros}
use Rattle.journal_frames.specs.Frames.{frames, Fits}
use Rattle.journal_file.specs.declared.draft.Draft.{Draft}
use Rattle.journal_file.specs.declared.journal.Journal.{Journal}
use Rattle.journal_file.specs.Draft.{IsDraft}
use Rattle.journal_file.specs.Journal.{BeginsWith, IsJournal}
use Rattle.journal_file.proofs.Bytes.{grown}
use Rattle.journal_file.proofs.JournalLemmas.{journal_opened}
use Rattle.journal_file.proofs.Losses.{AllByRecursion-append, frames-append}

module _ {D : Type 0} {g : Ghosts D} where
  -- what the file begins with once these bytes were written behind its frames
  written_behind : (draft : Draft D g) (payloads : List (List ℕ)) (bytes seen : List ℕ) → IsDraft draft payloads → Torn draft.end (length bytes) (g.seen draft.disk) seen → (0 < length bytes → Holds seen draft.end bytes)
      → BeginsWith (frames draft.key payloads ++ bytes) seen
  written_behind draft payloads bytes seen is torn holds =
      let front = frames draft.key payloads in
      let torn_here = subst (λ (n : ℕ). Torn n (length bytes) (front ++ is.file.rest) seen) (sym is.place) (subst (λ (t : List ℕ). Torn draft.end (length bytes) t seen) is.file.is torn) in
      record {
        rest = drop (length front + length bytes) seen;
        is = grown front is.file.rest bytes seen torn_here (subst (λ (n : ℕ). 0 < length bytes → Holds seen n bytes) (sym is.place) holds);
      }

  pub draft_begun : (draft : Draft D g) → draft.end ≡ 0 → IsDraft draft []
  draft_begun draft end = record { file = record { rest = g.seen draft.disk; is = refl }; place = sym end; fits = tt }

  pub draft_appended : (old new : Draft D g) (payloads more : List (List ℕ)) (bytes : List ℕ) → IsDraft old payloads → AllByRecursion Fits more → bytes ≡ frames old.key more → new.key ≡ old.key → new.end ≡ old.end + length bytes
      → Torn old.end (length bytes) (g.seen old.disk) (g.seen new.disk) → (0 < length bytes → Holds (g.seen new.disk) old.end bytes)
      → IsDraft new (payloads ++ more)
  draft_appended old new payloads more bytes is fit are key end torn holds =
      let front = frames old.key payloads in
      let all : front ++ bytes ≡ frames new.key (payloads ++ more) =
      ap (λ (t : List ℕ). front ++ t) are ∙ sym (frames-append old.key payloads more) ∙ ap (λ (k : ℕ). frames k (payloads ++ more)) (sym key) in
      record {
        file = subst (λ (t : List ℕ). BeginsWith t (g.seen new.disk)) all (written_behind old payloads bytes (g.seen new.disk) is torn holds);
        place = omega (arith, ap length all, length-append front bytes, is.place, end);
        fits = AllByRecursion-append payloads more is.fits fit;
      }

  pub draft_finished : (draft : Draft D g) (journal : Journal D g) (payloads : List (List ℕ)) → IsDraft draft payloads → journal.key ≡ draft.key → journal.end ≡ draft.end
      → Torn draft.end journal.blank (g.seen draft.disk) (g.seen journal.disk) → (0 < journal.blank → Holds (g.seen journal.disk) draft.end (zeros journal.blank)) → Only (g.seen journal.disk) (g.may_leave journal.disk)
      → IsJournal journal payloads []
  draft_finished draft journal payloads is key end torn holds only =
      let seen = g.seen journal.disk in
      let n : length (zeros journal.blank) ≡ journal.blank = length-replicate {A = ℕ} journal.blank 0 in
      let torn_here = subst (λ (k : ℕ). Torn draft.end k (g.seen draft.disk) seen) (sym n) torn in
      let file = written_behind draft payloads (zeros journal.blank) seen is torn_here (λ some. holds (omega (arith, n))) in
      journal_opened journal payloads
      (subst (λ (k : ℕ). BeginsWith (frames k payloads ++ zeros journal.blank) seen) (sym key) file)
      (ap (λ (k : ℕ). length (frames k payloads)) key ∙ is.place ∙ sym end)
      is.fits only
