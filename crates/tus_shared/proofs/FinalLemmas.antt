-- That no event restores anything without a journal, and that each final upload was joined then.
use Rattle.std.specs.Prelude.{Contains, IfSome, get_or}
use Rattle.std.proofs.Common.{◌≡◌, ◌∷◌, [], ◌++◌, ℕ, length, List, All, map, Bool, true, false, Option, Some, None, Result, Ok, Err, inl, inr, refl, ap, sym, subst, ◌∙◌}
use Rattle.std.proofs.lemmas.List.Elements.{All-drop, All-head, All-map, All-nil, All-push, All-same}
use Rattle.std.proofs.Math.Seq.{drop-append_seam}
use Rattle.upload_book.specs.declared.change.Change.{Change}
use Rattle.upload_book.specs.declared.change.Change.TheVariants as change
use Rattle.upload_book.specs.declared.head_row.Kind.TheVariants.{Final}
use Rattle.upload_book.specs.declared.head_row.Name.{Name}
use Rattle.upload_book.specs.Operation.{Operation}
use Rattle.upload_book.specs.Operation as operation
use Rattle.upload_book.specs.declared.refusal.Refusal.{Refusal}
use Rattle.std.proofs.lemmas.List.{append-nil}
use Rattle.upload_book.specs.declared.append.Refused.{Refused}
use Rattle.upload_book.specs.declared.change.Outcome.{Outcome}
use Rattle.upload_book.specs.declared.sweep.Swept.{Swept}
use Rattle.upload_book.specs.Events.{ChangeEvent, HasUpload, book_after_all, book_after_event}
use Rattle.upload_book.specs.PlainBook.{PlainBook, opening_book}
use Rattle.upload_book.specs.TenantBook.{TenantBook, opening_part}
use Rattle.upload_book.specs.Settings.{Settings}
use Rattle.upload_book.specs.Upload.{Upload}
use Rattle.upload_book.proofs.Lawful.FinalLaw.{finals_stay}
use Rattle.tus_steps.specs.Asked.{asked_by, asked_for, asked_in, change_in}
use Rattle.tus_steps.specs.declared.requested_change.ChangeOf.{ChangeOf}
use Rattle.tus_steps.specs.Method.{is_options}
use Rattle.tus_steps.specs.Operation.{operation_of}
use Rattle.tus_steps.specs.Request.{Request}
use Rattle.head_board.specs.Event.{Event}
use Rattle.head_board.specs.Events.{change_event}
use Rattle.head_board.specs.Events.{book_at}
use Rattle.tus_steps.specs.Changing.{change_found}
use Rattle.tus_steps.specs.declared.reply.Reply.{Reply}
use Rattle.tus_shared.specs.Finals.{AddsPlain, ComesBy, FinalsAreJoined, FinalsOfOpenings, OpeningsGoOn, StepsRestoreNothing, book_begun}
use Rattle.tus_shared.specs.Journal.{Queueing}
use Rattle.tus_shared.specs.Restoring.{RestoreNothing, RestoresNothing}
use Rattle.tus_shared.specs.Steps.{AddsBy, IsDone, IsSweepAt}

-- no operation restores anything
of-operation : (op : Operation) (found : ChangeOf) → change_in (asked_for op) ≡ Some found → RestoresNothing found.change
of-operation (operation.Create tenant new) found is restored back = cc
of-operation (operation.CreateWith tenant new first) found is restored back = cc
of-operation (operation.Concat tenant new) found is restored back = cc
of-operation (operation.Look name) found is restored back = cc
of-operation (operation.Content name) found is restored back = cc
of-operation (operation.Append name chunk) found is restored back = cc
of-operation (operation.Terminate name) found is restored back = cc

of-answer : (asks : Result Operation Refusal) (found : ChangeOf) → change_in (asked_by asks) ≡ Some found → RestoresNothing found.change
of-answer (Ok op) found is = of-operation op found is
of-answer (Err why) found is = λ restored back. cc

-- so no request does
pub request-restores-nothing : (s : Settings) (r : Request) (found : ChangeOf) → change_in (asked_in s r) ≡ Some found → RestoresNothing found.change
request-restores-nothing s r found is = by_method (is_options r.method) refl
  where
    by_method : (options : Bool) → is_options r.method ≡ options → RestoresNothing found.change
    by_method true method = let none : None ≡ Some found = rw method at is in λ restored back. cc
    by_method false method = of-answer (operation_of s r) found (rw method at is)

-- a sweep restores nothing
pub sweep-restores-nothing : RestoresNothing change.Sweep
sweep-restores-nothing restored back = cc

-- nothing was restored before any event
pub none-restored : RestoreNothing []
none-restored = All-nil (λ (e : Event). RestoresNothing e.change)

-- one event more that restores nothing
pub restored-on : (events after : List Event) (e : Event) → after ≡ events ++ e ∷ [] → RestoreNothing events → RestoresNothing e.change → RestoreNothing after
restored-on events after e next before here =
    All-same (λ (e : Event). RestoresNothing e.change) after (events ++ e ∷ []) next (All-push (λ (e : Event). RestoresNothing e.change) events e before here)

-- what is true of all is true of the one in the middle
middle : {X : Type 0} (P : X → Type 0) (all before after : List X) (x : X) → all ≡ before ++ x ∷ after → All P all → P x
middle P all before after x is holds =
    let whole = subst (All P) is holds in
    All-head P x after (subst (All P) (drop-append_seam before (x ∷ after)) (All-drop P (length before) (before ++ x ∷ after) whole))

-- a final that came by an event was joined, where no event restores anything
pub finals-joined : FinalsAreJoined
finals-joined s events name u nothing final has =
    let made = finals_stay.comes s (map {A = Event} {B = ChangeEvent} change_event events) name u final has in
    let none = middle (λ (e : ChangeEvent). RestoresNothing e.change) (map {A = Event} {B = ChangeEvent} change_event events) made.before made.after made.event made.all
    (All-map (λ (e : ChangeEvent). RestoresNothing e.change) change_event events nothing) in
    elim made.made [
      | inl joined ↦ record { before = made.before; event = made.event; after = made.after; all = made.all; joined = joined }
      | inr back ↦ absurd (none back.restored back.is)
    ]

-- the book after some events and then others
pub after-both : (b : PlainBook) (first more : List ChangeEvent) → book_after_all b (first ++ more) ≡ book_after_all (book_after_all b first) more
after-both b [] more = refl
after-both b (e ∷ first) more = after-both (book_after_event b e) first more

-- an opening without events has no upload
none-first : (s : Settings) (name : Name) (u : Upload) → u.kind ≡ Final → HasUpload (opening_book s) name u → ⊥
none-first s name u final has = let made = finals_stay.comes s [] name u final has in nothing made.before made.after made.event made.all
  where
    nothing : (before after : List ChangeEvent) (event : ChangeEvent) → (let none : List ChangeEvent = [] in none ≡ before ++ event ∷ after) → ⊥
    nothing [] after event is = cc
    nothing (e ∷ before) after event is = cc

-- nothing was added
adds-none : (before after : List Event) → after ≡ before → AddsPlain before after
adds-none before after same = record { more = []; are = same ∙ sym (append-nil before); plain = none-restored }

-- an event of one of the openings joined it
pub of-openings : FinalsOfOpenings
of-openings [] name u are final stood = stood
of-openings (opening ∷ earlier) name u are final (inr stood) = inr (of-openings earlier name u are.1 final stood)
of-openings (opening ∷ earlier) name u are final (inl has) = elim (finals_stay.since (book_begun opening) opening.since name u final has) [
  | inl begun ↦ inr (of-openings earlier name u are.1 final (are.0.stood name u final begun))
  | inr made ↦ elim made.made [
    | inl joined ↦ inl (record { before = made.before; event = made.event; after = made.after; all = made.all; joined = joined })
    | inr back ↦ absurd (middle (λ (e : ChangeEvent). RestoresNothing e.change) opening.since made.before made.after made.event made.all are.0.plain back.restored back.is)
  ]
]

-- how each final came to a store
pub comes-by : (s : Settings) (journal : Option ℕ) (events : List Event) (name : Name) (u : Upload) → (journal ≡ None → RestoreNothing events) → u.kind ≡ Final
    → HasUpload (book_after_all (opening_book s) (map {A = Event} {B = ChangeEvent} change_event events)) name u
    → ComesBy journal s (map {A = Event} {B = ChangeEvent} change_event events) name u
comes-by s None events name u nothing final has = finals-joined s events name u (nothing refl) final has
comes-by s (Some key) events name u nothing final has = λ again since earlier all are.
    of-openings (record { settings = s; again = again; since = since } ∷ earlier) name u are final
    (inl (subst (λ (b : PlainBook). HasUpload b name u) (ap (book_after_all (opening_book s)) all ∙ after-both (opening_book s) again since) has))

-- an opening goes on
pub go-on : OpeningsGoOn
go-on = record {
  first = λ s. (record { stood = λ name u final has. none-first s name u final has; plain = All-nil (λ (e : ChangeEvent). RestoresNothing e.change) }, tt);
  happens = λ opening earlier event are here. (
    record { stood = are.0.stood; plain = All-push (λ (e : ChangeEvent). RestoresNothing e.change) opening.since event are.0.plain here },
    are.1,
  );
  reopened = λ opening earlier s again are same. (
    record {
      stood = λ name u final has. inl (subst (λ (parts : List TenantBook). Contains (get_or parts name.tenant (opening_part 0)).uploads (record { id = name.id; kept = u })) same has);
      plain = All-nil (λ (e : ChangeEvent). RestoresNothing e.change);
    },
    are,
  );
}

-- a change that is made or left adds no event that restores anything
adds-done : (q : Queueing) (b : PlainBook) (before after : List Event) (desk : ℕ) (change : Change) (now : ℕ) (result : Result Outcome Refused)
    → RestoresNothing change → IsDone q b before desk change now result after → AddsPlain before after
adds-done q b before after desk change now result nothing (inl made) = record {
  more = record { desk = desk; change = change; now = now } ∷ [];
  are = made.0.next;
  plain = All-push (λ (e : Event). RestoresNothing e.change) [] (record { desk = desk; change = change; now = now }) none-restored nothing;
}
adds-done q b before after desk change now result nothing (inr left) = adds-none before after left.same

adds-by : (q : Queueing) (s : Settings) (found : Option ChangeOf) (b : PlainBook) (before after : List Event) (desk : ℕ) (r : Request) (now : ℕ) (reply : Reply)
    → IfSome found (λ (asked : ChangeOf). RestoresNothing asked.change) → AddsBy q found b before desk r now reply after → AddsPlain before after
adds-by q s (Some asked) b before after desk r now reply nothing adds = adds-done q b before after desk asked.change now adds.0 nothing adds.2
adds-by q s None b before after desk r now reply nothing adds = adds-none before after adds

-- what a request asks for restores nothing, if it asks for a change
found-nothing : (s : Settings) (r : Request) (found : Option ChangeOf) → change_found s r ≡ found → IfSome found (λ (asked : ChangeOf). RestoresNothing asked.change)
found-nothing s r (Some asked) is = request-restores-nothing s r asked is
found-nothing s r None is = tt

adds-sweep : (q : Queueing) (s : Settings) (before : List Event) (desk now : ℕ) (swept : Option Swept) (after : List Event) → IsSweepAt q s before desk now swept after → AddsPlain before after
adds-sweep q s before desk now (Some swept) after is = record {
  more = record { desk = desk; change = change.Sweep; now = now } ∷ [];
  are = is.next;
  plain = All-push (λ (e : Event). RestoresNothing e.change) [] (record { desk = desk; change = change.Sweep; now = now }) none-restored sweep-restores-nothing;
}
adds-sweep q s before desk now None after is = adds-none before after is.1

pub steps-plain : StepsRestoreNothing
steps-plain = record {
  step = λ q s before desk r now reply after adds. adds-by q s (change_found s r) (book_at s before) before after desk r now reply (found-nothing s r (change_found s r) refl) adds;
  sweep = adds-sweep;
}
