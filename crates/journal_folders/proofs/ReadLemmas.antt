-- How commands end that look into a journal, and what is wrong with its files.
use Rattle.std.proofs.Common.{◌≡◌, ◌≢◌, IfOk, ℕ, ◌+◌, ◌≤◌, Bool, true, false, eqb, List, [], ◌∷◌, length, Result, Ok, Err, OnOk, refl, sym, ap, subst, ◌∙◌, inl, inr, true≢false, arith}
use Rattle.std.specs.Prelude.{IfErr, OnErr}
use Rattle.std.proofs.lemmas.Bool.Decides.{nat_tests}
use Rattle.std.proofs.lemmas.List.{nil_from_length}
use Rattle.journal_file.specs.declared.error.Damage.{Damage}
use Rattle.journal_file.specs.Recovered.{EndsAt}
use Rattle.journal_file.specs.declared.recovered.WholeFrames.{WholeFrames}
use Rattle.journal_frames.specs.Frames.{frames, recovered}
use Rattle.journal_file.proofs.ReadAgain.{nothing-recovered}
use Rattle.journal_folders.specs.StreamUse.{WritesOrFails}
use Rattle.server_words.specs.JournalFault.{IsUnread}
use Rattle.journal_folders.specs.ReadJournal.{IsReadTo, LookEnds, journal_key}
use Rattle.journal_folders.specs.StreamUse.{StreamUse, IsUntouched}
use Rattle.server_words.specs.declared.cause.Cause.{Cause}
use Rattle.server_words.specs.declared.cause.Cause.TheVariants.{Output}
use Rattle.server_words.specs.declared.fault.RunFault.{RunFault}
use Rattle.server_words.specs.declared.fault.RunFault.TheVariants as run

-- ---- how a command ends

module _ {W : Type 0} (T : Type 0) (Finds : Result (List ℕ × List ℕ) RunFault → Type 0) (Tells : List ℕ → List ℕ → List ℕ → Type 0) (Lacks : List ℕ → List ℕ → RunFault → Type 0) (writer : StreamUse W) where
  -- the files were not read
  pub ends-unread : (fault : RunFault) → IsUnread fault → Finds (Err fault) → IsUntouched writer → LookEnds Finds Tells Lacks writer {T = T} (Err fault)
  ends-unread run.Words unread found same = absurd unread
  ends-unread run.Address unread found same = absurd unread
  ends-unread run.Ports unread found same = absurd unread
  ends-unread (run.Settings what) unread found same = absurd unread
  ends-unread (run.Wire cause) unread found same = absurd unread
  ends-unread (run.Journal what) unread found same = (same, inl (unread, found))
  ends-unread run.Memory unread found same = (same, inl (unread, found))

  -- something is wrong with them
  pub ends-wrong : (journal settings : List ℕ) → Finds (Ok (journal, settings)) → (fault : RunFault) → Lacks journal settings fault → ((cause : Cause) → ¬ (Lacks journal settings (run.Wire cause)))
      → IsUntouched writer → LookEnds Finds Tells Lacks writer {T = T} (Err fault)
  ends-wrong journal settings finds run.Words lacks other same = (same, inr (record { journal = journal; settings = settings; finds = finds; lacks = lacks }))
  ends-wrong journal settings finds run.Address lacks other same = (same, inr (record { journal = journal; settings = settings; finds = finds; lacks = lacks }))
  ends-wrong journal settings finds run.Ports lacks other same = (same, inr (record { journal = journal; settings = settings; finds = finds; lacks = lacks }))
  ends-wrong journal settings finds (run.Settings what) lacks other same = (same, inr (record { journal = journal; settings = settings; finds = finds; lacks = lacks }))
  ends-wrong journal settings finds (run.Wire cause) lacks other same = absurd (other cause lacks)
  ends-wrong journal settings finds (run.Journal what) lacks other same = (same, inr (record { journal = journal; settings = settings; finds = finds; lacks = lacks }))
  ends-wrong journal settings finds run.Memory lacks other same = (same, inr (record { journal = journal; settings = settings; finds = finds; lacks = lacks }))

  -- a text of them was written, or a prefix of it
  pub ends-printed : (journal settings text : List ℕ) → Finds (Ok (journal, settings)) → Tells journal settings text → WritesOrFails writer.before writer.after writer.has_failed text → (r : Result T RunFault)
      → OnOk r (writer.has_failed ≡ false) → OnErr r (writer.has_failed ≡ true) → IfErr r (λ fault. fault ≡ run.Wire Output) → LookEnds Finds Tells Lacks writer r
  ends-printed journal settings text finds tells written (Ok v) alive failed is =
      (record { journal = journal; settings = settings; finds = finds; text = text; tells = tells; written = written }, alive)
  ends-printed journal settings text finds tells written (Err fault) alive failed is =
      subst (λ (f : RunFault). LookEnds Finds Tells Lacks writer {T = T} (Err f)) (sym is)
      (record { journal = journal; settings = settings; finds = finds; text = text; tells = tells; written = written }, failed, refl)

-- ---- what stands in a file

-- the test of a file's bytes tells that there are none, or some
pub no-bytes : (file : List ℕ) (empty : Bool) → empty ≡ eqb (length file) 0 → empty ≡ true → file ≡ []
no-bytes file empty is holds = nil_from_length file (grind (arith, nat_tests))

pub some-bytes : {T E : Type 0} (file : List ℕ) (empty : Bool) → empty ≡ eqb (length file) 0 → empty ≡ false → (r : Result T E) → IfErr r (λ _. file ≢ [])
some-bytes file empty is fails (Ok v) = tt
some-bytes [] empty is fails (Err e) = λ _. true≢false (sym is ∙ fails)
some-bytes (b ∷ rest) empty is fails (Err e) = λ none. cc

-- a file without a byte has no frame
pub read-nothing : (journal : List ℕ) → journal ≡ [] → IsReadTo journal (record { count = 0; end = 0 })
read-nothing journal is = record {
  count = sym (ap (λ file. length (recovered journal_key file)) is ∙ ap length (nothing-recovered journal_key));
  end = sym (ap (λ file. length (frames journal_key (recovered journal_key file))) is ∙ ap (λ payloads. length (frames journal_key payloads)) (nothing-recovered journal_key));
  tail = inl is;
}

-- one that was read up to its whole frames has these
pub read-whole : (journal : List ℕ) (r : Result WholeFrames Damage) → IfOk r (λ found. EndsAt journal_key journal found.end) → IfOk r (λ found. found.count ≡ length (recovered journal_key journal)) → IfOk r (IsReadTo journal)
read-whole journal (Ok found) ends count = record { count = count; end = sym ends.place; tail = inr ends.tail }
read-whole journal (Err damage) ends count = tt

-- and these end within it
pub ends-within : (journal : List ℕ) (r : Result WholeFrames Damage) → IfOk r (λ found. found.end + 16 ≤ length journal) → IfOk r (λ found. found.end ≤ length journal)
ends-within journal (Ok found) room = omega arith
ends-within journal (Err damage) room = tt
