-- A HEAD as a turn of a desk: it changes nothing.
use Rattle.std.proofs.Common.{◌≡◌, ℕ, ◌+◌, Bool, true, false, List, map, Option, Some, None, IfSome, IfNone, Result, Ok, Err, IsErr, inl, length, refl, sym, ap, ap₂, subst, ◌∙◌}
use Rattle.std.specs.Prelude.{◌⊎◌}
use mathlib.Core.List.{IsPrefix}
use Rattle.upload_book.specs.Begun.{IsBegun}
use Rattle.upload_book.specs.declared.head_row.HeadRow.{HeadRow}
use Rattle.upload_book.specs.declared.head_row.Name.{Name}
use Rattle.upload_book.specs.Events.{ChangeEvent, book_after_all}
use Rattle.upload_book.specs.Operation.{Operation}
use Rattle.upload_book.specs.PlainBook.{PlainBook, opening_book}
use Rattle.upload_book.specs.declared.progress.Progress.{Progress}
use Rattle.upload_book.specs.declared.refusal.Refusal.{Refusal}
use Rattle.upload_book.specs.Settings.{AreSound, Settings}
use Rattle.tus_steps.specs.Asked.{asked_in, change_in}
use Rattle.tus_steps.specs.Changing.{change_found}
use Rattle.tus_steps.specs.declared.asked.Asked.{Asked}
use Rattle.tus_steps.specs.declared.asked.Asked.TheVariants as asked
use Rattle.tus_steps.specs.declared.method.Method.{Method}
use Rattle.tus_steps.specs.declared.method.Method.TheVariants as method
use Rattle.tus_steps.specs.declared.requested_change.ChangeOf.{ChangeOf}
use Rattle.tus_steps.specs.declared.reply.Reply.{Reply}
use Rattle.tus_steps.specs.Method.{is_head, is_options}
use Rattle.tus_steps.specs.Operation.{operation_of}
use Rattle.tus_steps.specs.Reply.{head_reply, refusing}
use Rattle.tus_steps.specs.Request.{Request}
use Rattle.tus_steps.specs.Step.{IsStep}
use Rattle.head_board.specs.Board.{ReadsHead, ReadsProgress}
use Rattle.head_board.specs.Event.{Event}
use Rattle.head_board.specs.Events.{HaveHappened, book_at, change_event}
use Rattle.tus_shared.specs.Answers.{Answers, AnswersTurn, IsRefusedHead, IsUploadHead, MissesBoard, OnlyLooks, OnlySeesMore}
use Rattle.tus_shared.specs.Desk.{Desk, Moves, queueing}
use Rattle.tus_shared.specs.Journal.{Queueing, journal_len}
use Rattle.tus_shared.specs.Steps.{AddsBy, AddsChange}
use Rattle.head_board.proofs.LawfulLemmas.{books_stay_lawful}
use Rattle.tus_steps.proofs.AskedLemmas.{asks-in, look-step, refused-step}
use Rattle.head_board.proofs.SettingsLemmas.{at-settings}
use Rattle.tus_shared.proofs.LogLaws.{prefix-on, prefix-self}
use Rattle.tus_shared.proofs.QueueLemmas.{after-more}
use Rattle.upload_book.proofs.BegunLemmas.{begun-stay}

-- a request that asks for no change adds nothing to what happened
adds-nothing : (q : Queueing) (s : Settings) (events : List Event) (desk : ℕ) (r : Request) (now : ℕ) (reply : Reply) → change_found s r ≡ None → AddsChange q s events desk r now reply events
adds-nothing q s events desk r now reply none = subst (λ (o : Option ChangeOf). AddsBy q o (book_at s events) events desk r now reply events) (sym none) refl

-- what a request asks for under the settings of a book after events
asked-at : (s : Settings) (events : List Event) (r : Request) (asks : Asked) → asks ≡ asked_in s r → asks ≡ asked_in (book_at s events).settings r
asked-at s events r asks is = subst (λ (s : Settings). asks ≡ asked_in s r) (sym (at-settings s events)) is

-- a desk that sees more, and makes nothing
sees-more : (s : Settings) (old new : Desk) → OnlySeesMore old new → Moves s new.seen new.seen old new
sees-more s old new same = record {
  number = ap (λ (d : Desk). d.number) same;
  journal = ap (λ (d : Desk). d.journal) same;
  kept = ap (λ (d : Desk). d.kept) same;
  charged = ap (λ (d : Desk). d.charged + (book_at s new.seen).charged) same;
  released = ap (λ (d : Desk). d.released + (book_at s new.seen).released) same;
  made = ap (λ (d : Desk). d.made + length new.seen) same;
}

-- a desk that missed the board only looked at it,
pub missed-looks : (old new : Desk) → MissesBoard old new → OnlyLooks old new
missed-looks old new misses = record {
  alone =
      misses
      ∙ ap₂ (λ (seen : List Event) (missed : Bool). let desk : Desk = record old { seen = seen; missed = missed } in desk)
      (sym (ap (λ (d : Desk). d.seen) misses)) (sym (ap (λ (d : Desk). d.missed) misses));
  begins = subst (IsPrefix old.seen) (sym (ap (λ (d : Desk). d.seen) misses)) (prefix-self old.seen);
  missed = λ before. ap (λ (d : Desk). d.missed) misses;
}

-- a desk that only sees more looks
pub sees-looks : (old new : Desk) → OnlySeesMore old new → IsPrefix old.seen new.seen → OnlyLooks old new
sees-looks old new sees begins = record {
  alone = sees ∙ ap (λ (missed : Bool). let desk : Desk = record old { seen = new.seen; missed = missed } in desk) (sym (ap (λ (d : Desk). d.missed) sees));
  begins = begins;
  missed = λ before. ap (λ (d : Desk). d.missed) sees ∙ before;
}

-- as did one that read how far an upload is there, or missed it
pub looks-at : (s : Settings) (name : Name) (now : ℕ) (progress : Option (Result Progress Refusal)) (old new : Desk)
    → IfSome progress (λ (p : Result Progress Refusal). ReadsProgress s old.seen new.seen name now p)
    → IfSome progress (λ (p : Result Progress Refusal). OnlySeesMore old new) → IfNone progress (MissesBoard old new) → OnlyLooks old new
looks-at s name now (Some progress) old new reads sees misses = sees-looks old new sees reads.begins
looks-at s name now None old new reads sees misses = missed-looks old new misses

-- what the board tells of an upload is the answer to a HEAD of it
pub head-answers : (s : Settings) (r : Request) (now : ℕ) (name : Name) (row : Result HeadRow Refusal) (old new : Desk) → asked.Look name ≡ asked_in s r
    → ReadsHead s old.seen new.seen name now row → OnlySeesMore old new → Answers s r now (head_reply row) old new
head-answers s r now name row old new is reads alone = record {
  before = new.seen;
  begins = reads.begins;
  lawful = reads.lawful;
  happened = reads.happened;
  step = inl (subst (λ (row : Result HeadRow Refusal). IsStep (book_at s new.seen) r now (head_reply row) (book_at s new.seen)) (sym reads.tells)
      (look-step (book_at s new.seen) r now name (asked-at s new.seen r (asked.Look name) is)));
  frame = None;
  adds = adds-nothing (queueing old None) s new.seen old.number r now (head_reply row) (ap change_in (sym is));
  moves = sees-more s old new alone;
  spends = ap (λ (d : Desk). d.room + journal_len old.journal new.seen) alone;
}

-- a desk that answers a HEAD of an upload, without the lock or after it has missed the board
pub head-turn : (s : Settings) (r : Request) (now : ℕ) (name : Name) (reply : Reply) (old new : Desk) → asked.Look name ≡ asked_in s r
    → Answers s r now reply old new → (new.steps ≡ old.steps) ⊎ (new.missed ≡ true) → AnswersTurn s r now reply old new
head-turn s r now name reply old new is answers beside =
    let looks = (asks-in s r (asked.Look name) is).1 in
    record {
      answers = answers;
      unseen = λ refused. absurd (cc (subst IsErr looks refused.refused));
      beside = λ head. beside;
      counted = λ other refused. absurd (other (name, looks));
    }

-- a desk that looks first, and then answers
pub sees-first : (s : Settings) (r : Request) (now : ℕ) (reply : Reply) (old ready new : Desk) → OnlyLooks old ready → Answers s r now reply ready new → Answers s r now reply old new
sees-first s r now reply old ready new looks answers =
    let seen : Answers s r now reply (record old { seen = ready.seen; missed = ready.missed }) new = subst (λ (d : Desk). Answers s r now reply d new) looks.alone answers in
    record {
      before = seen.before;
      begins = prefix-on old.seen ready.seen seen.before looks.begins seen.begins;
      lawful = seen.lawful;
      happened = seen.happened;
      frame = seen.frame;
      step = seen.step;
      adds = seen.adds;
      moves = record {
        number = seen.moves.number;
        journal = seen.moves.journal;
        kept = seen.moves.kept;
        charged = seen.moves.charged;
        released = seen.moves.released;
        made = seen.moves.made;
      };
      spends = seen.spends;
    }

-- a request that is refused before the book is asked changes nothing, at a desk that has seen what happened
pub refused-answers : (s : Settings) (r : Request) (now : ℕ) (why : Refusal) (desk : Desk) → asked.Refused why ≡ asked_in s r → AreSound s → HaveHappened s desk.seen → Answers s r now (refusing r why None) desk desk
refused-answers s r now why desk is sound happened = record {
  before = desk.seen;
  begins = prefix-self desk.seen;
  lawful = books_stay_lawful.opened s desk.seen sound happened;
  happened = happened;
  step = inl (refused-step (book_at s desk.seen) r now why (asked-at s desk.seen r (asked.Refused why) is));
  frame = None;
  adds = adds-nothing (queueing desk None) s desk.seen desk.number r now (refusing r why None) (ap change_in (sym is));
  moves = record { number = refl; journal = refl; kept = refl; charged = refl; released = refl; made = refl };
  spends = refl;
}

-- a method that asks for HEADs asks for no OPTIONS
no-options : (m : Method) → is_head m ≡ true → is_options m ≡ false
no-options method.Post head = refl
no-options method.Head head = refl
no-options method.Patch head = refl
no-options method.Get head = refl
no-options method.Delete head = refl
no-options method.Options head = absurd (cc head)
no-options method.Other head = refl

-- a HEAD that is refused before any upload is looked at asks for nothing else
pub refused-asks : (s : Settings) (r : Request) (asks : Asked) → asks ≡ asked_in s r → IsRefusedHead s r → (why : Refusal) × (asks ≡ asked.Refused why)
refused-asks s r asks is head = by_answer (operation_of s r) refl head.refused
  where
    by_answer : (op : Result Operation Refusal) → operation_of s r ≡ op → IsErr op → (why : Refusal) × (asks ≡ asked.Refused why)
    by_answer (Ok op) found refused = absurd (cc refused)
    by_answer (Err why) found refused = (why, is ∙ rw (no-options r.method head.head, found) refl)

-- a HEAD that is found to be refused
pub is-refused-head : (s : Settings) (r : Request) (why : Refusal) → asked.Refused why ≡ asked_in s r → is_head r.method ≡ true → IsRefusedHead s r
is-refused-head s r why is head = record { head = head; refused = subst IsErr (sym (asks-in s r (asked.Refused why) is).1) refl }

-- a HEAD of an upload asks for what stands of it
pub head-asks : (s : Settings) (r : Request) (asks : Asked) → asks ≡ asked_in s r → (head : IsUploadHead s r) → asks ≡ asked.Look head.name
head-asks s r asks is head = is ∙ rw (no-options r.method head.head, head.looks) refl

-- bytes of a GET that were begun stay so as more is seen
pub begun-later : (s : Settings) (name : Name) (first : ℕ) (bytes : List ℕ) (events later : List Event) → IsPrefix events later → IsBegun (book_at s events) name first bytes → IsBegun (book_at s later) name first bytes
begun-later s name first bytes events later prefix begun =
    let after : book_at s later ≡ book_after_all (book_at s events) (map {A = Event} {B = ChangeEvent} change_event prefix.0) =
    ap (book_at s) (sym prefix.1) ∙ after-more (opening_book s) events prefix.0 in
    subst (λ (b : PlainBook). IsBegun b name first bytes) (sym after) (begun-stay (book_at s events) (map {A = Event} {B = ChangeEvent} change_event prefix.0) name first bytes begun)

-- and so does one that looks again
pub looks-again : (old between new : Desk) → OnlyLooks old between → OnlyLooks between new → OnlyLooks old new
looks-again old between new first then = record {
  alone = then.alone ∙ ap (λ (d : Desk). let desk : Desk = record d { seen = new.seen; missed = new.missed } in desk) first.alone;
  begins = prefix-on old.seen between.seen new.seen first.begins then.begins;
  missed = λ was. then.missed (first.missed was);
}
