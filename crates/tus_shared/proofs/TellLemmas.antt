-- What a reply tells of an upload, the book has after the step; and what it has later.
use Rattle.std.proofs.Common.{◌≡◌, ℕ, ◌≤◌, Bool, true, false, List, [], ◌∷◌, Option, Some, None, Result, Ok, Err, option_map, inl, inr, refl, sym, ap, ap₂, subst, ◌∙◌, arith}
use Rattle.std.specs.Bool.{MatchBool}
use Rattle.std.proofs.lemmas.List.{get_or-set_same}
use mathlib.Core.List.{IsPrefix}
use Rattle.upload_book.specs.Account.{account_in}
use Rattle.upload_book.specs.Append.{append_answer, append_lacking, append_refusal, part_after_append, upload_with}
use Rattle.upload_book.specs.Change.{change_lacking}
use Rattle.upload_book.specs.Chunk.{Chunk}
use Rattle.upload_book.specs.declared.append.Appended.{Appended}
use Rattle.upload_book.specs.declared.append.Refused.{Refused}
use Rattle.upload_book.specs.declared.change.Change.{Change}
use Rattle.upload_book.specs.declared.change.Change.TheVariants as change
use Rattle.upload_book.specs.declared.head_row.HeadRow.{HeadRow}
use Rattle.upload_book.specs.declared.head_row.Name.{Name}
use Rattle.upload_book.specs.Operation.{Operation}
use Rattle.upload_book.specs.Operation as operation
use Rattle.upload_book.specs.declared.refusal.Refusal.{Refusal}
use Rattle.upload_book.specs.declared.sweep.Swept.{Swept}
use Rattle.upload_book.specs.Heads.{HeadPart, head_part, head_part_at, heads_of}
use Rattle.upload_book.specs.HeadSteps.{MayBecome}
use Rattle.upload_book.specs.Look.{look_answer, row_of}
use Rattle.upload_book.specs.PlainBook.{PlainBook, answer_of, book_after, tenant_book}
use Rattle.upload_book.specs.Settings.{Settings}
use Rattle.upload_book.specs.TenantBook.{TenantBook, kept_in, opening_part, visible_upload, with_changed}
use Rattle.upload_book.specs.Upload.{Upload, head_row_of}
use Rattle.upload_book.proofs.Heads.HeadParts.{head_part-tenant, row-kept, visible-within}
use Rattle.upload_book.proofs.Heads.HeadsAppend.{row-stands}
use Rattle.upload_book.proofs.Lawful.AppendLemmas.{part_after_append-none}
use Rattle.upload_book.proofs.Lawful.Entries.{kept_in-with_same, visible_in-Ok}
use Rattle.tus_steps.specs.Changing.{change_reply}
use Rattle.tus_steps.specs.declared.reply.Reply.{Reply}
use Rattle.tus_steps.specs.declared.reply.Reply.TheVariants as reply
use Rattle.tus_steps.specs.Method.{is_options}
use Rattle.tus_steps.specs.Operation.{operation_of}
use Rattle.tus_steps.specs.Reply.{IsRefusing, append_reply, head_reply}
use Rattle.tus_steps.specs.Request.{Request}
use Rattle.tus_steps.specs.Step.{IsStep, IsStepBy}
use Rattle.head_board.specs.Event.{Event}
use Rattle.head_board.specs.Events.{HaveHappened, book_at}
use Rattle.head_board.specs.Laws.{IsLaterBook}
use Rattle.head_board.proofs.LineLemmas.{later_events}
use Rattle.tus_shared.specs.Answers.{Answers, SeesHead, Sweeps}
use Rattle.tus_shared.specs.Desk.{Desk, queueing}
use Rattle.tus_shared.specs.Journal.{Queueing}
use Rattle.tus_shared.specs.Laws.{LaterAnswers, TellsOffset}
use Rattle.tus_shared.specs.Steps.{IsStepAt, IsSweepAt}
use Rattle.tus_shared.specs.Turn.{Turn}
use Rattle.head_board.proofs.SettingsLemmas.{at-settings}
use Rattle.tus_shared.proofs.LogLaws.{prefix-on, prefix-self, sees-on}

-- the book has so many bytes of the upload of the name
record HasOffset (b : PlainBook) (name : Name) (offset : ℕ) : Type 0 where
  pub row : HeadRow
  pub stands : kept_in (head_part_at (heads_of b) name.tenant).uploads name.id ≡ Some row
  pub has : row.offset ≡ offset

-- so it is after a HEAD that told them,
look-has : (b : PlainBook) (name : Name) (now : ℕ) (row : HeadRow) → answer_of b name.tenant (look_answer name.id now) ≡ Ok row → HasOffset b name row.offset
look-has b name now row is = by_seen (visible_upload (tenant_book b name.tenant) name.id now) refl is
  where
    by_seen : (seen : Result Upload Refusal) → visible_upload (tenant_book b name.tenant) name.id now ≡ seen → row_of seen ≡ Ok row → HasOffset b name row.offset
    by_seen (Err why) seen told = absurd (cc (told))
    by_seen (Ok u) seen told =
        let same : head_row_of u ≡ row = cc (told) in
        record {
          row = row;
          stands = row-stands b name.tenant name.id now u seen ∙ ap (λ (r : HeadRow). let some : Option HeadRow = Some r in some) same;
          has = refl;
        }

-- and after a PATCH that told them
module _ (b : PlainBook) (name : Name) (chunk : Chunk) (now : ℕ) where
  abbrev part : TenantBook
  part = tenant_book b name.tenant

  abbrev patched : PlainBook
  patched = book_after b name.tenant (part_after_append name.id chunk now b.charged)

  changed-has : (u : Upload) → visible_upload part name.id now ≡ Ok u → append_refusal b.settings.numbers (account_in b.settings.numbers part b.charged) (head_row_of u) chunk ≡ None
      → HasOffset patched name (head_row_of (upload_with b.settings.numbers u chunk now)).offset
  changed-has u seen none =
      let later : Upload = upload_with b.settings.numbers u chunk now in
      let after : part_after_append name.id chunk now b.charged b.settings.numbers part ≡ with_changed part name.id later = part_after_append-none b.settings.numbers part name.id now b.charged u chunk seen none in
      let kept : kept_in (with_changed part name.id later).uploads name.id ≡ Some later = kept_in-with_same part.uploads name.id later u (visible_in-Ok (λ (u : Upload). u.expires) part name.id now u seen) in
      let there : tenant_book patched name.tenant ≡ with_changed part name.id later = get_or-set_same b.tenants name.tenant _ (opening_part 0) (visible-within b name.tenant name.id now u seen) ∙ after in
      record {
        row = head_row_of later;
        stands =
            ap (λ (p : HeadPart). kept_in p.uploads name.id) (head_part-tenant patched name.tenant ∙ ap head_part there)
            ∙ row-kept (with_changed part name.id later).uploads name.id ∙ ap (option_map head_row_of) kept;
        has = refl;
      }

  patch-has : (a : Appended) → append_answer name.id chunk now b.charged b.settings.numbers part ≡ Ok a → HasOffset patched name a.offset
  patch-has a is = by_seen (visible_upload part name.id now) refl
    where
      by_refusal : (u : Upload) → visible_upload part name.id now ≡ Ok u
          → (found : Option Refusal) → append_refusal b.settings.numbers (account_in b.settings.numbers part b.charged) (head_row_of u) chunk ≡ found → HasOffset patched name a.offset
      by_refusal u seen (Some why) refused =
          let told : append_answer name.id chunk now b.charged b.settings.numbers part ≡ Err (record { refusal = why; expires = u.expires }) = rw (seen, refused) refl in
          absurd (cc (told, is))
      by_refusal u seen None none =
          let later : Upload = upload_with b.settings.numbers u chunk now in
          let told : append_answer name.id chunk now b.charged b.settings.numbers part ≡ Ok (record { offset = (head_row_of later).offset; expires = later.expires }) = rw (seen, none) refl in
          let same : record { offset = (head_row_of later).offset; expires = later.expires } ≡ a = cc (told, is) in
          subst (HasOffset patched name) (ap (λ (a : Appended). a.offset) same) (changed-has u seen none)

      by_seen : (seen : Result Upload Refusal) → visible_upload part name.id now ≡ seen → HasOffset patched name a.offset
      by_seen (Err why) unseen =
          let told : append_answer name.id chunk now b.charged b.settings.numbers part ≡ Err (record { refusal = why; expires = None }) = rw unseen refl in
          absurd (cc (told, is))
      by_seen (Ok u) seen = by_refusal u seen (append_refusal b.settings.numbers (account_in b.settings.numbers part b.charged) (head_row_of u) chunk) refl

head-told : (row : HeadRow) (r : Result HeadRow Refusal) → reply.Head row ≡ head_reply r → r ≡ Ok row
head-told row (Ok found) is = cc (is)
head-told row (Err why) is = absurd (cc (is))

patch-told : (r : Request) (offset : ℕ) (expires : Option ℕ) (a : Result Appended Refused) → reply.Patched offset expires ≡ append_reply r a → a ≡ Ok (record { offset = offset; expires = expires })
patch-told r offset expires (Ok found) is =
    let same_offset : found.offset ≡ offset = cc (is) in
    let same_expires : found.expires ≡ expires = cc (is) in
    ap₂ (λ (o : ℕ) (e : Option ℕ). let told : Result Appended Refused = Ok (record { offset = o; expires = e }) in told) same_offset same_expires
patch-told r offset expires (Err why) is = absurd (cc (is))

-- so after each step of a HEAD
look-step : (b after : PlainBook) (r : Request) (now : ℕ) (told : Reply) (name : Name) (row : HeadRow) → IsStepBy b r now (Ok (operation.Look name)) told after → told ≡ reply.Head row → HasOffset after name row.offset
look-step b after r now told name row step is = elim step [
  | inl answered ↦ subst (λ (b : PlainBook). HasOffset b name row.offset) (sym answered.1) (look-has b name now row (head-told row _ (sym is ∙ answered.0)))
  | inr lacks ↦ absurd (lacks.0)
]

-- and of a PATCH that told them
patch-step : (b after : PlainBook) (r : Request) (now : ℕ) (told : Reply) (name : Name) (chunk : Chunk) (offset : ℕ) (expires : Option ℕ) → IsStepBy b r now (Ok (operation.Append name chunk)) told after
    → told ≡ reply.Patched offset expires → HasOffset after name offset
patch-step b after r now told name chunk offset expires step is = elim step [
  | inl answered ↦ subst (λ (b : PlainBook). HasOffset b name offset) (sym answered.1) (patch-has b name chunk now (record { offset = offset; expires = expires }) (patch-told r offset expires _ (sym is ∙ answered.0)))
  | inr lacks ↦ absurd (let no = patch-told r offset expires (answer_of b name.tenant (append_lacking name.id now)) (sym is ∙ lacks.1) in cc)
]

-- a request that is no OPTIONS makes the step of its operation
step-by : (options : Bool) (b after : PlainBook) (r : Request) (now most : ℕ) (told : Reply) (op : Result Operation Refusal) → (told ≡ reply.Options most → ⊥)
    → MatchBool options ((told ≡ reply.Options b.settings.numbers.max_size) × (after ≡ b)) (IsStepBy b r now op told after) → b.settings.numbers.max_size ≡ most → IsStepBy b r now op told after
step-by true b after r now most told op not step is = absurd (not (step.0 ∙ ap reply.Options is))
step-by false b after r now most told op not step is = step

-- where memory lacks for a change, the reply is one of a refusal
lacking-refuses : (b : PlainBook) (r : Request) (offset : Option ℕ) (change : Change) (now : ℕ) → IsRefusing (change_reply r offset (change_lacking b change now))
lacking-refuses b r offset (change.Create tenant new first) now = tt
lacking-refuses b r offset (change.Append name chunk) now = tt
lacking-refuses b r offset (change.Concat tenant new) now = tt
lacking-refuses b r offset (change.Terminate name) now = tt
lacking-refuses b r offset change.Sweep now = tt
lacking-refuses b r offset (change.Restore restored) now = tt

-- a reply that tells of an upload is none of a refusal, so it is that of the plain book's step
told-step : (q : Queueing) (b after : PlainBook) (r : Request) (now : ℕ) (told : Reply) → (IsRefusing told → ⊥) → IsStepAt q b r now told after → IsStep b r now told after
told-step q b after r now told tells (inl step) = step
told-step q b after r now told tells (inr unkept) = absurd (tells (subst IsRefusing (sym unkept.told) (lacking-refuses b r unkept.asked.offset unkept.asked.change now)))

-- the book has, after a turn of a desk, what its reply tells
turn-has : (s : Settings) (turn : Turn) (told : Reply) (old new : Desk) (name : Name) (offset : ℕ) → Answers s turn.request turn.now told old new → TellsOffset s turn told name offset → HasOffset (book_at s new.seen) name offset
turn-has s turn told old new name offset answers tells =
    let before : PlainBook = book_at s answers.before in
    let after : PlainBook = book_at s new.seen in
    let settings : before.settings ≡ s = at-settings s answers.before in
    elim tells [
      | inl head ↦
          let other : told ≡ reply.Options before.settings.numbers.max_size → ⊥ = λ options. absurd (let is = head.is in cc) in
          let by = step-by (is_options turn.request.method) before after turn.request turn.now _ told (operation_of before.settings turn.request) other (told-step (queueing old answers.frame) before after turn.request turn.now told (λ refuses. subst IsRefusing head.is refuses) answers.step) refl in
          let asks : operation_of before.settings turn.request ≡ Ok (operation.Look name) = ap (λ (s : Settings). operation_of s turn.request) settings ∙ head.asks in
          subst (HasOffset after name) head.tells (look-step before after turn.request turn.now told name head.row (subst (λ (op : Result Operation Refusal). IsStepBy before turn.request turn.now op told after) asks by) head.is)
      | inr patch ↦
          let other : told ≡ reply.Options before.settings.numbers.max_size → ⊥ = λ options. absurd (let is = patch.is in cc) in
          let by = step-by (is_options turn.request.method) before after turn.request turn.now _ told (operation_of before.settings turn.request) other (told-step (queueing old answers.frame) before after turn.request turn.now told (λ refuses. subst IsRefusing patch.is refuses) answers.step) refl in
          let asks : operation_of before.settings turn.request ≡ Ok (operation.Append name patch.chunk) = ap (λ (s : Settings). operation_of s turn.request) settings ∙ patch.asks in
          patch-step before after turn.request turn.now told name patch.chunk offset patch.expires (subst (λ (op : Result Operation Refusal). IsStepBy before turn.request turn.now op told after) asks by) patch.is
    ]

-- what a book has of an upload, a later one does not have less of
has-more : (s : Settings) (events later : List Event) (name : Name) (less more : ℕ) → IsPrefix events later → HaveHappened s later → HasOffset (book_at s events) name less → HasOffset (book_at s later) name more → less ≤ more
has-more s events later name less more begins happened first last =
    let grows : IsLaterBook name (book_at s events) (book_at s later) =
    subst (λ (l : List Event). IsLaterBook name (book_at s events) (book_at s l)) begins.1
    (later_events s events begins.0 name (subst (HaveHappened s) (sym begins.1) happened)) in
    let becomes : MayBecome first.row last.row = grows.grows first.row last.row first.stands last.stands in
    omega (arith, becomes.offset, first.has, last.has)

-- what was before a sweep begins what is after it
sweep-more : (q : Queueing) (s : Settings) (before : List Event) (desk now : ℕ) (swept : Option Swept) (after : List Event) → IsSweepAt q s before desk now swept after → IsPrefix before after
sweep-more q s before desk now (Some swept) after sweep = (record { desk = desk; change = change.Sweep; now = now } ∷ [], sym sweep.next)
sweep-more q s before desk now None after sweep = subst (IsPrefix before) (sym sweep.1) (prefix-self before)

-- a desk sees more by a sweep, and by a HEAD
sweep-on : (s : Settings) (now : ℕ) (swept : Option Swept) (old new : Desk) → Sweeps s now swept old new → IsPrefix old.seen new.seen
sweep-on s now swept old new sweeps = prefix-on old.seen sweeps.before new.seen sweeps.begins (sweep-more (queueing old sweeps.frame) s sweeps.before old.number now swept new.seen sweeps.sweep)

head-on : (s : Settings) (name : Name) (now : ℕ) (row : Result HeadRow Refusal) (old new : Desk) → SeesHead s name now row old new → IsPrefix old.seen new.seen
head-on s name now row old new sees = elim sees [
  | inl read ↦ read.0.begins
  | inr stays ↦ subst (λ (d : Desk). IsPrefix old.seen d.seen) (sym stays.1) (prefix-self old.seen)
]

pub later_answers : LaterAnswers
later_answers = record {
  answer = sees-on;
  sweep = sweep-on;
  head = head-on;
  offsets = λ s first later told other a b c d here more_seen there name less more tells others.
      let begins : IsPrefix b.seen d.seen = prefix-on b.seen c.seen d.seen more_seen (sees-on s later.request later.now other c d there) in
      has-more s b.seen d.seen name less more begins there.happened (turn-has s first told a b name less here tells) (turn-has s later other c d name more there others);
}
