-- What each call of a journal keeps of it.
use Rattle.std.proofs.Common.{◌≡◌, ℕ, ◌+◌, ◌-◌, ◌<◌, ◌≤◌, List, [], ◌++◌, length, take, drop, Result, Ok, Err, OnErr, inl, inr, sym, ap, subst, ◌∙◌, append_assoc, arith, length-append}
use Rattle.std.specs.List.{AllByRecursion}
use Rattle.std.proofs.lemmas.List.{append-nil, length-replicate, replicate-append-replicate, take-append-drop, take-append-le}
use Rattle.sqlite_disk.specs.Disk.{Cut, Follows, Holds, Mixed, Only, Torn}
use Rattle.journal_frames.specs.Crash.{Leaves, zeros}
use Rattle.journal_frames.specs.Frames.{frames, Fits}
use Rattle.sqlite_disk.specs.declared.Disk.{Ghosts}
use Rattle.journal_file.specs.declared.journal.Journal.{Journal}
use Rattle.journal_file.specs.Journal.{BeginsWith, IsJournal, LeavesOldOr, LosesOf, MayLose}
use Rattle.journal_file.proofs.Bytes.{front-cut, front-torn, lost_after, mixed-front, overwritten, zeros-grown, zeros-split}
use Rattle.journal_file.proofs.Losses.{AllByRecursion-append, frames-append, leaves_with, lost-refl}

more_frames : (key : ℕ) (synced unsynced more : List (List ℕ)) (bytes rest : List ℕ) → bytes ≡ frames key more → frames key (synced ++ unsynced) ++ (bytes ++ rest) ≡ frames key (synced ++ (unsynced ++ more)) ++ rest
more_frames key synced unsynced more bytes rest is =
    ap (λ (t : List ℕ). frames key (synced ++ unsynced) ++ (t ++ rest)) is
    ∙ sym (append_assoc (frames key (synced ++ unsynced)) (frames key more) rest)
    ∙ ap (λ (t : List ℕ). t ++ rest) (sym (frames-append key (synced ++ unsynced) more))
    ∙ ap (λ (t : List (List ℕ)). frames key t ++ rest) (append_assoc synced unsynced more)

less_synced : (key : ℕ) (synced unsynced : List (List ℕ)) → length (frames key synced) ≤ length (frames key (synced ++ unsynced))
less_synced key synced unsynced = omega (arith, ap length (frames-append key synced unsynced), length-append (frames key synced) (frames key unsynced))

-- a crash that leaves the first so many leaves the first so many of more
pub leaves_more : (key : ℕ) (synced unsynced more : List (List ℕ)) (c : List ℕ) → Leaves key synced unsynced c → Leaves key synced (unsynced ++ more) c
leaves_more key synced unsynced more c left = record {
  kept = left.kept;
  within = omega (arith, left.within, length-append unsynced more);
  payloads = left.payloads ∙ ap (λ (ps : List (List ℕ)). synced ++ ps) (sym (take-append-le left.kept unsynced more left.within));
  behind = left.behind;
}

-- what holds whatever a call answered
pub on_err : {A E : Type 0} (r : Result A E) (P : Type 0) → P → OnErr r P
on_err (Ok x) P p = tt
on_err (Err why) P p = p

-- a crash that leaves the front of a file leaves its payloads
pub leaves_of : (key : ℕ) (synced unsynced : List (List ℕ)) (n : ℕ) (c : List ℕ) → AllByRecursion Fits synced → AllByRecursion Fits unsynced → 16 ≤ n → LosesOf (length (frames key synced)) (frames key (synced ++ unsynced) ++ zeros n) c
    → Leaves key synced unsynced c
leaves_of key synced unsynced n c fits more_fits room loss = subst (Leaves key synced unsynced) (sym loss.begins.is) (leaves_with key synced unsynced n loss.kept loss.begins.rest fits more_fits room loss.lost)

-- a file that is synced stays
pub lost_none : (synced : ℕ) (front file c : List ℕ) → BeginsWith front file → c ≡ file → LosesOf synced front c
lost_none synced front file c begins is = record { kept = front; lost = lost-refl synced front; begins = record { rest = begins.rest; is = is ∙ begins.is } }

module _ {D : Type 0} {g : Ghosts D} where
  -- what a crash leaves of a journal
  pub journal_leaves : (journal : Journal D g) (synced unsynced : List (List ℕ)) → IsJournal journal synced unsynced → (c : List ℕ) → g.may_leave journal.disk c → Leaves journal.key synced unsynced c
  journal_leaves journal synced unsynced is c left = leaves_of journal.key synced unsynced journal.blank c is.fits is.more_fits journal.margin (is.loss c left)

  -- a journal all of which is synced
  pub journal_synced : (journal : Journal D g) (payloads : List (List ℕ)) → BeginsWith (frames journal.key (payloads ++ []) ++ zeros journal.blank) (g.seen journal.disk) → length (frames journal.key (payloads ++ [])) ≡ journal.end → AllByRecursion Fits payloads
      → Only (g.seen journal.disk) (g.may_leave journal.disk) → IsJournal journal payloads []
  journal_synced journal payloads file place fits only = record {
    file = file;
    place = place;
    fits = fits;
    more_fits = tt;
    loss = λ c left. lost_none (length (frames journal.key payloads)) _ (g.seen journal.disk) c file (only c left);
  }

  -- one that was recovered, or written beside another
  pub journal_opened : (journal : Journal D g) (payloads : List (List ℕ)) → BeginsWith (frames journal.key payloads ++ zeros journal.blank) (g.seen journal.disk) → length (frames journal.key payloads) ≡ journal.end → AllByRecursion Fits payloads
      → Only (g.seen journal.disk) (g.may_leave journal.disk) → IsJournal journal payloads []
  journal_opened journal payloads file place fits only =
      let all : frames journal.key (payloads ++ []) ≡ frames journal.key payloads = ap (frames journal.key) (append-nil payloads) in
      journal_synced journal payloads
      (record { rest = file.rest; is = file.is ∙ ap (λ (t : List ℕ). (t ++ zeros journal.blank) ++ file.rest) (sym all) })
      (ap length all ∙ place) fits only

  -- ---- an append

  -- a crash after the write, whatever it answered
  pub append_loss : (journal : Journal D g) (after : List ℕ → Type 0) (synced unsynced more : List (List ℕ)) (bytes : List ℕ) → IsJournal journal synced unsynced → bytes ≡ frames journal.key more → length bytes + 16 ≤ journal.blank
      → Follows (Mixed journal.end bytes) (g.may_leave journal.disk) after
      → (c : List ℕ) → after c → LosesOf (length (frames journal.key synced)) (frames journal.key (synced ++ (unsynced ++ more)) ++ zeros (journal.blank - length bytes)) c
  append_loss journal after synced unsynced more bytes is are room follows c left =
      let from = follows c left in
      let front = frames journal.key (synced ++ unsynced) in
      let before = is.loss from.0 from.1 in
      let kept = before.kept in
      let mixed = subst (λ (n : ℕ). Mixed n bytes from.0 c) (sym is.place) from.2 in
      let within : length front + length bytes ≤ length kept = omega (arith, before.lost.len, length-append front (zeros journal.blank), length-replicate {A = ℕ} journal.blank 0, room) in
      let here = mixed-front (length front) bytes kept before.begins.rest c within (subst (λ (t : List ℕ). Mixed (length front) bytes t c) before.begins.is mixed) in
      let after_it = lost_after front bytes journal.blank (omega (arith, room)) (length (frames journal.key synced)) kept (take (length kept) c) (less_synced journal.key synced unsynced) before.lost here in
      record {
        kept = take (length kept) c;
        lost = subst (λ (t : List ℕ). MayLose (length (frames journal.key synced)) t (take (length kept) c)) (more_frames journal.key synced unsynced more bytes (zeros (journal.blank - length bytes)) are) after_it;
        begins = record { rest = drop (length kept) c; is = sym (take-append-drop (length kept) c) };
      }

  pub append_crash : (journal : Journal D g) (after : List ℕ → Type 0) (synced unsynced more : List (List ℕ)) (bytes : List ℕ) → IsJournal journal synced unsynced → AllByRecursion Fits more → bytes ≡ frames journal.key more → length bytes + 16 ≤ journal.blank
      → Follows (Mixed journal.end bytes) (g.may_leave journal.disk) after
      → (c : List ℕ) → after c → Leaves journal.key synced (unsynced ++ more) c
  append_crash journal after synced unsynced more bytes is fit are room follows c left =
      leaves_of journal.key synced (unsynced ++ more) (journal.blank - length bytes) c is.fits (AllByRecursion-append unsynced more is.more_fits fit) (omega (arith, room)) (append_loss journal after synced unsynced more bytes is are room follows c left)

  pub append_keeps : (old new : Journal D g) (synced unsynced more : List (List ℕ)) (bytes : List ℕ) → IsJournal old synced unsynced → AllByRecursion Fits more → bytes ≡ frames old.key more → length bytes + 16 ≤ old.blank
      → new.key ≡ old.key → new.end ≡ old.end + length bytes → new.blank ≡ old.blank - length bytes
      → Torn old.end (length bytes) (g.seen old.disk) (g.seen new.disk) → (0 < length bytes → Holds (g.seen new.disk) old.end bytes) → Follows (Mixed old.end bytes) (g.may_leave old.disk) (g.may_leave new.disk)
      → IsJournal new synced (unsynced ++ more)
  append_keeps old new synced unsynced more bytes is fit are room key end blank torn holds follows =
      let front = frames old.key (synced ++ unsynced) in
      let rest = is.file.rest in
      let zeros_left = zeros (old.blank - length bytes) in
      let torn_here = subst (λ (n : ℕ). Torn n (length bytes) (g.seen old.disk) (g.seen new.disk)) (sym is.place) torn in
      let split : (front ++ zeros old.blank) ++ rest ≡ front ++ (zeros (length bytes) ++ (zeros_left ++ rest)) =
      append_assoc front (zeros old.blank) rest
      ∙ ap (λ (t : List ℕ). front ++ (t ++ rest)) (zeros-split old.blank (length bytes) (omega (arith, room)))
      ∙ ap (λ (t : List ℕ). front ++ t) (append_assoc (zeros (length bytes)) zeros_left rest) in
      let torn_file = subst (λ (t : List ℕ). Torn (length front) (length bytes) t (g.seen new.disk)) (is.file.is ∙ split) torn_here in
      let holds_here = subst (λ (n : ℕ). 0 < length bytes → Holds (g.seen new.disk) n bytes) (sym is.place) holds in
      let written = overwritten front (zeros (length bytes)) bytes (zeros_left ++ rest) (g.seen new.disk) (length-replicate (length bytes) 0) torn_file holds_here in
      let file : g.seen new.disk ≡ (frames old.key (synced ++ (unsynced ++ more)) ++ zeros_left) ++ rest =
      written
      ∙ ap (λ (t : List ℕ). front ++ t) (sym (append_assoc bytes zeros_left rest))
      ∙ sym (append_assoc front (bytes ++ zeros_left) rest)
      ∙ ap (λ (t : List ℕ). t ++ rest) (more_frames old.key synced unsynced more bytes zeros_left are) in
      let grown = more_frames old.key synced unsynced more bytes [] are in
      let lens : length front + length bytes ≡ length (frames old.key (synced ++ (unsynced ++ more))) =
      omega (arith, length-append front (bytes ++ []), ap length (append-nil bytes), ap length grown, ap length (append-nil (frames old.key (synced ++ (unsynced ++ more))))) in
      let now_is : frames old.key (synced ++ (unsynced ++ more)) ++ zeros_left ≡ frames new.key (synced ++ (unsynced ++ more)) ++ zeros new.blank =
      ap (λ (k : ℕ). frames k (synced ++ (unsynced ++ more)) ++ zeros_left) (sym key) ∙ ap (λ (n : ℕ). frames new.key (synced ++ (unsynced ++ more)) ++ zeros n) (sym blank) in
      record {
        file = record { rest = rest; is = file ∙ ap (λ (t : List ℕ). t ++ rest) now_is };
        place = ap (λ (k : ℕ). length (frames k (synced ++ (unsynced ++ more)))) key ∙ omega (arith, lens, is.place, end);
        fits = is.fits;
        more_fits = AllByRecursion-append unsynced more is.more_fits fit;
        loss = λ c left.
            subst (λ (t : List ℕ). LosesOf (length (frames new.key synced)) t c) now_is
            (subst (λ (k : ℕ). LosesOf (length (frames k synced)) (frames old.key (synced ++ (unsynced ++ more)) ++ zeros_left) c) (sym key) (append_loss old (g.may_leave new.disk) synced unsynced more bytes is are room follows c left));
      }

  -- ---- more room

  front_len : (journal : Journal D g) (synced unsynced : List (List ℕ)) → IsJournal journal synced unsynced → length (frames journal.key (synced ++ unsynced) ++ zeros journal.blank) ≡ journal.end + journal.blank
  front_len journal synced unsynced is = omega (arith, length-append (frames journal.key (synced ++ unsynced)) (zeros journal.blank), length-replicate {A = ℕ} journal.blank 0, is.place)

  -- a crash while zeros are written behind the others, whatever it answered
  pub extend_loss : (journal : Journal D g) (after : List ℕ → Type 0) (synced unsynced : List (List ℕ)) (n : ℕ) → IsJournal journal synced unsynced
      → LeavesOldOr (Mixed (journal.end + journal.blank) (zeros n)) (g.may_leave journal.disk) after
      → (c : List ℕ) → after c → LosesOf (length (frames journal.key synced)) (frames journal.key (synced ++ unsynced) ++ zeros journal.blank) c
  extend_loss journal after synced unsynced n is leaves_or c left = elim (leaves_or c left) [
    | inl old ↦ is.loss c old
    | inr from ↦
        let loss = is.loss from.0 from.1 in
        let at : length loss.kept ≡ journal.end + journal.blank = loss.lost.len ∙ front_len journal synced unsynced is in
        let torn = subst (λ (t : List ℕ). Torn (journal.end + journal.blank) (length (zeros n)) t c) loss.begins.is from.2.torn in
        record {
          kept = loss.kept;
          lost = loss.lost;
          begins = record { rest = drop (length loss.kept) c; is = front-torn (journal.end + journal.blank) (length (zeros n)) loss.kept loss.begins.rest c at torn };
        }
  ]

  pub extend_crash : (journal : Journal D g) (after : List ℕ → Type 0) (synced unsynced : List (List ℕ)) (n : ℕ) → IsJournal journal synced unsynced
      → LeavesOldOr (Mixed (journal.end + journal.blank) (zeros n)) (g.may_leave journal.disk) after
      → (c : List ℕ) → after c → Leaves journal.key synced unsynced c
  extend_crash journal after synced unsynced n is leaves_or c left =
      leaves_of journal.key synced unsynced journal.blank c is.fits is.more_fits journal.margin (extend_loss journal after synced unsynced n is leaves_or c left)

  -- a journal stays one where more room could not be had
  pub extend_stays : (old new : Journal D g) (synced unsynced : List (List ℕ)) (n : ℕ) → IsJournal old synced unsynced → new.key ≡ old.key → new.end ≡ old.end → new.blank ≡ old.blank
      → Torn (old.end + old.blank) n (g.seen old.disk) (g.seen new.disk) → LeavesOldOr (Mixed (old.end + old.blank) (zeros n)) (g.may_leave old.disk) (g.may_leave new.disk)
      → IsJournal new synced unsynced
  extend_stays old new synced unsynced n is key end blank torn leaves_or =
      let front = frames old.key (synced ++ unsynced) ++ zeros old.blank in
      let same : front ≡ frames new.key (synced ++ unsynced) ++ zeros new.blank =
      ap (λ (k : ℕ). frames k (synced ++ unsynced) ++ zeros old.blank) (sym key) ∙ ap (λ (m : ℕ). frames new.key (synced ++ unsynced) ++ zeros m) (sym blank) in
      let torn_here = subst (λ (t : List ℕ). Torn (old.end + old.blank) n t (g.seen new.disk)) is.file.is torn in
      let file = front-torn (old.end + old.blank) n front is.file.rest (g.seen new.disk) (front_len old synced unsynced is) torn_here in
      record {
        file = record { rest = drop (length front) (g.seen new.disk); is = file ∙ ap (λ (t : List ℕ). t ++ drop (length front) (g.seen new.disk)) same };
        place = ap (λ (k : ℕ). length (frames k (synced ++ unsynced))) key ∙ is.place ∙ sym end;
        fits = is.fits;
        more_fits = is.more_fits;
        loss = λ c left.
            subst (λ (t : List ℕ). LosesOf (length (frames new.key synced)) t c) same
            (subst (λ (k : ℕ). LosesOf (length (frames k synced)) front c) (sym key) (extend_loss old (g.may_leave new.disk) synced unsynced n is leaves_or c left));
      }

  pub extend_keeps : (old new : Journal D g) (synced unsynced : List (List ℕ)) (n : ℕ) → IsJournal old synced unsynced → new.key ≡ old.key → new.end ≡ old.end → new.blank ≡ old.blank + n
      → Torn (old.end + old.blank) n (g.seen old.disk) (g.seen new.disk) → (0 < n → Holds (g.seen new.disk) (old.end + old.blank) (zeros n)) → Only (g.seen new.disk) (g.may_leave new.disk)
      → IsJournal new (synced ++ unsynced) []
  extend_keeps old new synced unsynced n is key end blank torn holds only =
      let all = synced ++ unsynced in
      let front = frames old.key all ++ zeros old.blank in
      let len = front_len old synced unsynced is in
      let torn_here = subst (λ (at : ℕ). Torn at n (front ++ is.file.rest) (g.seen new.disk)) (sym len) (subst (λ (t : List ℕ). Torn (old.end + old.blank) n t (g.seen new.disk)) is.file.is torn) in
      let bigger = zeros-grown front is.file.rest (g.seen new.disk) n torn_here (subst (λ (at : ℕ). 0 < n → Holds (g.seen new.disk) at (zeros n)) (sym len) holds) in
      let rest = drop (length front + n) (g.seen new.disk) in
      let same : front ++ zeros n ≡ frames new.key (all ++ []) ++ zeros new.blank =
      append_assoc (frames old.key all) (zeros old.blank) (zeros n)
      ∙ ap (λ (t : List ℕ). frames old.key all ++ t) (replicate-append-replicate old.blank n 0)
      ∙ ap (λ (ps : List (List ℕ)). frames old.key ps ++ zeros (old.blank + n)) (sym (append-nil all))
      ∙ ap (λ (k : ℕ). frames k (all ++ []) ++ zeros (old.blank + n)) (sym key)
      ∙ ap (λ (m : ℕ). frames new.key (all ++ []) ++ zeros m) (sym blank) in
      journal_synced new all
      (record { rest = rest; is = bigger ∙ ap (λ (t : List ℕ). t ++ rest) same })
      (ap (λ (k : ℕ). length (frames k (all ++ []))) key ∙ ap (λ (ps : List (List ℕ)). length (frames old.key ps)) (append-nil all) ∙ is.place ∙ sym end)
      (AllByRecursion-append synced unsynced is.fits is.more_fits) only

  -- ---- a cut behind the zeros

  pub shorten_keeps : (old new : Journal D g) (synced unsynced : List (List ℕ)) → IsJournal old synced unsynced → new.key ≡ old.key → new.end ≡ old.end → new.blank ≡ old.blank
      → Cut (old.end + old.blank) (g.seen old.disk) (g.seen new.disk) → Follows (Cut (old.end + old.blank)) (g.may_leave old.disk) (g.may_leave new.disk)
      → IsJournal new synced unsynced
  shorten_keeps old new synced unsynced is key end blank cut follows = record {
    file = subst (λ (t : List ℕ). BeginsWith t (g.seen new.disk)) same (record { rest = drop (length front) (g.seen new.disk); is = front-cut n front is.file.rest (g.seen new.disk) len (subst (λ (t : List ℕ). Cut n t (g.seen new.disk)) is.file.is cut) });
    place = ap (λ (k : ℕ). length (frames k (synced ++ unsynced))) key ∙ is.place ∙ sym end;
    fits = is.fits;
    more_fits = is.more_fits;
    loss = λ c left.
        subst (λ (t : List ℕ). LosesOf (length (frames new.key synced)) t c) same
        (subst (λ (k : ℕ). LosesOf (length (frames k synced)) front c) (sym key) (cut_loss c left));
  }
    where
      n : ℕ
      n = old.end + old.blank

      front : List ℕ
      front = frames old.key (synced ++ unsynced) ++ zeros old.blank

      len : length front ≡ n
      len = front_len old synced unsynced is

      same : front ≡ frames new.key (synced ++ unsynced) ++ zeros new.blank
      same = ap (λ (k : ℕ). frames k (synced ++ unsynced) ++ zeros old.blank) (sym key) ∙ ap (λ (m : ℕ). frames new.key (synced ++ unsynced) ++ zeros m) (sym blank)

      cut_loss : (c : List ℕ) → g.may_leave new.disk c → LosesOf (length (frames old.key synced)) front c
      cut_loss c left =
          let from = follows c left in
          let loss = is.loss from.0 from.1 in
          let kept_len : length loss.kept ≡ n = loss.lost.len ∙ len in
          record {
            kept = loss.kept;
            lost = loss.lost;
            begins = record { rest = drop (length loss.kept) c; is = front-cut n loss.kept loss.begins.rest c kept_len (subst (λ (t : List ℕ). Cut n t c) loss.begins.is from.2) };
          }

  -- ---- a sync

  pub sync_keeps : (old new : Journal D g) (synced unsynced : List (List ℕ)) → IsJournal old synced unsynced → new.key ≡ old.key → new.end ≡ old.end → new.blank ≡ old.blank → g.seen new.disk ≡ g.seen old.disk → Only (g.seen old.disk) (g.may_leave new.disk)
      → IsJournal new (synced ++ unsynced) []
  sync_keeps old new synced unsynced is key end blank seen only =
      let all = synced ++ unsynced in
      let same : frames old.key all ++ zeros old.blank ≡ frames new.key (all ++ []) ++ zeros new.blank =
      ap (λ (ps : List (List ℕ)). frames old.key ps ++ zeros old.blank) (sym (append-nil all)) ∙ ap (λ (k : ℕ). frames k (all ++ []) ++ zeros old.blank) (sym key) ∙ ap (λ (m : ℕ). frames new.key (all ++ []) ++ zeros m) (sym blank) in
      journal_synced new all
      (record { rest = is.file.rest; is = seen ∙ is.file.is ∙ ap (λ (t : List ℕ). t ++ is.file.rest) same })
      (ap (λ (k : ℕ). length (frames k (all ++ []))) key ∙ ap (λ (ps : List (List ℕ)). length (frames old.key ps)) (append-nil all) ∙ is.place ∙ sym end)
      (AllByRecursion-append synced unsynced is.fits is.more_fits) (λ c left. only c left ∙ sym seen)
