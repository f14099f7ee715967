-- What is kept as changes happen, and what a crash leaves of it.
use Rattle.std.proofs.Common.{◌≡◌, ℕ, zero, suc, ◌≤◌, List, [], ◌∷◌, ◌++◌, take, Result, Ok, refl, sym, ap, subst, ◌∙◌, arith}
use Rattle.std.proofs.lemmas.List.{append-nil, map-append}
use Rattle.sqlite_disk.specs.declared.Disk.{Ghosts}
use Rattle.book_replay.specs.Replay.{AllHappen, Happens, record_of, records_of, replayed}
use Rattle.book_replay.proofs.ReplayLemmas.{all-replayed}
use Rattle.journal_file.specs.declared.journal.Journal.{Journal}
use Rattle.journal_file.specs.Journal.{key_of, IsJournal}
use Rattle.journal_file.proofs.JournalLemmas.{journal_leaves}
use Rattle.journal_frames.specs.Crash.{Leaves}
use Rattle.journal_frames.specs.Frames.{recovered, tail_of}
use Rattle.journal_frames.specs.declared.tail.Tail.TheVariants.{Torn}
use Rattle.upload_book.specs.declared.change.Change.{Change}
use Rattle.upload_book.specs.Change.{book_after_change}
use Rattle.upload_book.specs.Events.{ChangeEvent, book_after_all, book_after_event}
use Rattle.upload_book.specs.PlainBook.{PlainBook, opening_book}
use Rattle.upload_book.specs.Settings.{Settings}
use Rattle.kept_book.specs.declared.kept.KeptBook.{KeptBook}
use Rattle.kept_book.specs.declared.log.RecordLog.{RecordLog}
use Rattle.kept_book.specs.Kept.{book_in, disk_in, key_in, IsKept, IsLeftWithOneMore, IsRecordLog}

-- ---- one event more

pub happen-one : (b : PlainBook) (events : List ChangeEvent) (e : ChangeEvent) → AllHappen b events → Happens (book_after_all b events) e → AllHappen b (events ++ e ∷ [])
happen-one b [] e happened one = (one, tt)
happen-one b (first ∷ events) e happened one = (happened.0, happen-one (book_after_event b first) events e happened.1 one)

pub after-one : (b : PlainBook) (events : List ChangeEvent) (e : ChangeEvent) → book_after_all b (events ++ e ∷ []) ≡ book_after_event (book_after_all b events) e
after-one b [] e = refl
after-one b (first ∷ events) e = after-one (book_after_event b first) events e

pub records-one : (events : List ChangeEvent) (e : ChangeEvent) → records_of (events ++ e ∷ []) ≡ records_of events ++ record_of e ∷ []
records-one events e = map-append {A = ChangeEvent} {B = List ℕ} record_of events (e ∷ [])

-- ---- a crash

left-none : (key : ℕ) (s : Settings) (events : List ChangeEvent) (c : List ℕ) → AllHappen (opening_book s) events → recovered key c ≡ records_of events ++ [] → tail_of key c ≡ Torn → IsLeftWithOneMore key s events c
left-none key s events c happened is torn = record {
  more = [];
  few = omega arith;
  happened = subst (AllHappen (opening_book s)) (sym (append-nil events)) happened;
  records = is ∙ append-nil (records_of events) ∙ ap records_of (sym (append-nil events));
  torn = torn;
}

left-by : (key : ℕ) (s : Settings) (events : List ChangeEvent) (e : ChangeEvent) (c : List ℕ) (kept : ℕ) → AllHappen (opening_book s) events → Happens (book_after_all (opening_book s) events) e → kept ≤ 1 → recovered key c ≡ records_of events ++ take kept (record_of e ∷ []) → tail_of key c ≡ Torn
    → IsLeftWithOneMore key s events c
left-by key s events e c zero happened one within is torn = left-none key s events c happened is torn
left-by key s events e c (suc zero) happened one within is torn = record {
  more = e ∷ [];
  few = omega arith;
  happened = happen-one (opening_book s) events e happened one;
  records = is ∙ sym (records-one events e);
  torn = torn;
}
left-by key s events e c (suc (suc kept)) happened one within is torn = absurd (omega (arith, within))

-- all, and the change under way or not
pub left-of : (key : ℕ) (s : Settings) (events : List ChangeEvent) (e : ChangeEvent) (c : List ℕ) → AllHappen (opening_book s) events → Happens (book_after_all (opening_book s) events) e → Leaves key (records_of events) (record_of e ∷ []) c → IsLeftWithOneMore key s events c
left-of key s events e c happened one left = left-by key s events e c left.kept happened one left.within left.payloads left.behind

none-taken : (kept : ℕ) → kept ≤ 0 → take kept (let none : List (List ℕ) = [] in none) ≡ []
none-taken zero within = refl
none-taken (suc kept) within = absurd (omega (arith, within))

-- all
pub left-all : (key : ℕ) (s : Settings) (events : List ChangeEvent) (c : List ℕ) → AllHappen (opening_book s) events → Leaves key (records_of events) [] c → IsLeftWithOneMore key s events c
left-all key s events c happened left = left-none key s events c happened (left.payloads ∙ ap (λ (rs : List (List ℕ)). records_of events ++ rs) (none-taken left.kept left.within)) left.behind

ok_is : (x y : PlainBook) → (let left : Result PlainBook ℕ = Ok x in let right : Result PlainBook ℕ = Ok y in left ≡ right) → x ≡ y
ok_is x y is = cc

-- what is read of the frames that an opening gives
pub read-again : (events : List ChangeEvent) (key read_key : ℕ) (bytes rest : List ℕ) → recovered key bytes ≡ records_of events → read_key ≡ key → rest ≡ bytes → recovered read_key rest ≡ records_of events
read-again events key read_key bytes rest all read_is rest_is = ap (λ (k : ℕ). recovered k rest) read_is ∙ ap (recovered key) rest_is ∙ all

-- ---- a change

module _ {D : Type 0} {g : Ghosts D} where
  -- a frame that is made changes no journal
  pub same-log : (old new : RecordLog D g) (payloads : List (List ℕ)) → new.journal ≡ old.journal → new.key ≡ old.key → IsRecordLog old payloads → IsRecordLog new payloads
  same-log old new payloads journal key is = record {
    journal = subst (λ (j : Journal D g). IsJournal j payloads []) (sym journal) is.journal;
    key = key ∙ is.key ∙ ap key_of (sym journal);
  }

  -- a change that was made and whose record is kept
  pub kept-made : (old new : KeptBook D g) (s : Settings) (events : List ChangeEvent) (change : Change) (now : ℕ) → IsKept old s events → Happens (book_in old) (record { change = change; now = now }) → IsRecordLog new.log (records_of events ++ record_of (record { change = change; now = now }) ∷ [])
      → book_in new ≡ book_after_change (book_in old) change now → IsKept new s (events ++ record { change = change; now = now } ∷ [])
  kept-made old new s events change now is happens log after =
      let e : ChangeEvent = record { change = change; now = now } in
      record {
        log = subst (IsRecordLog new.log) (sym (records-one events e)) log;
        happened = happen-one (opening_book s) events e is.happened (subst (λ (b : PlainBook). Happens b e) is.book happens);
        book = after ∙ ap (λ (b : PlainBook). book_after_event b e) is.book ∙ sym (after-one (opening_book s) events e);
      }

  -- a change that is refused
  pub kept-stays : (old new : KeptBook D g) (s : Settings) (events : List ChangeEvent) → IsKept old s events → IsRecordLog new.log (records_of events) → book_in new ≡ book_in old → IsKept new s (events ++ [])
  kept-stays old new s events is log same = subst (IsKept new s) (sym (append-nil events)) (record { log = log; happened = is.happened; book = same ∙ is.book })

  pub left-kept : (kept : KeptBook D g) (key : ℕ) (s : Settings) (events : List ChangeEvent) (e : ChangeEvent) (c : List ℕ) → IsKept kept s events → Happens (book_in kept) e → Leaves key (records_of events) (record_of e ∷ []) c → IsLeftWithOneMore key s events c
  left-kept kept key s events e c is happens left = left-of key s events e c is.happened (subst (λ (b : PlainBook). Happens b e) is.book happens) left

  -- what a crash leaves of a kept book
  pub kept-leaves : (kept : KeptBook D g) (s : Settings) (events : List ChangeEvent) → IsKept kept s events → (c : List ℕ) → g.may_leave (disk_in kept) c → IsLeftWithOneMore (key_in kept) s events c
  kept-leaves kept s events is c left = left-all _ s events c is.happened (journal_leaves kept.log.journal (records_of events) [] is.log.journal c left)

  -- a book that was opened
  pub kept-opened : (kept : KeptBook D g) (journal : Journal D g) (s : Settings) (events : List ChangeEvent) (key read_key : ℕ) (bytes rest : List ℕ) → kept.log.journal ≡ journal → kept.log.key ≡ key → key_of journal ≡ key → IsJournal journal (records_of events) []
      → recovered key bytes ≡ records_of events → read_key ≡ key → rest ≡ bytes → replayed 1 (opening_book s) (recovered read_key rest) ≡ Ok (book_in kept) → AllHappen (opening_book s) events
      → IsKept kept s events
  kept-opened kept journal s events key read_key bytes rest journal_is log_key key_is is all read_is rest_is made happened =
      let read = read-again events key read_key bytes rest all read_is rest_is in
      let again = all-replayed 1 (opening_book s) events happened in
      record {
        log = record {
          journal = subst (λ (j : Journal D g). IsJournal j (records_of events) []) (sym journal_is) is;
          key = log_key ∙ sym (ap key_of journal_is ∙ key_is);
        };
        happened = happened;
        book = ok_is _ _ (sym made ∙ ap (replayed 1 (opening_book s)) read ∙ again);
      }
