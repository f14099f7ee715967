-- What lines change of the heads, and what events leave of them.
use Rattle.std.proofs.Common.{◌≡◌, ◌⊎◌, ℕ, ◌+◌, ◌<◌, ◌≤◌, Bool, true, false, cond, not, ◌&&◌, ◌||◌, eqb, leb, ltb, List, [], ◌∷◌, ◌++◌, map, length, get_or, set, Option, Some, None, IfSome, inl, inr, refl, sym, ap, subst, ◌∙◌, arith, length-append}
use Rattle.std.specs.List.{All, filter}
use Rattle.std.specs.List.Sorted.{IsStrictlyIncreasing}
use Rattle.std.proofs.Math.ListN.{get_or-map, length-set}
use Rattle.std.proofs.lemmas.Bool.{cases_lt, eq-eqb}
use Rattle.std.proofs.lemmas.Bool.Decides.{eqb_tells, nat_tests}
use Rattle.std.proofs.lemmas.List.{get_or-set_other, get_or-set_same, set_past}
use Rattle.std.proofs.lemmas.List.Elements.{All-contains, All-filter, All-get_or, All-map, All-weaker}
use Rattle.upload_book.specs.declared.board_line.BoardLine.{BoardLine}
use Rattle.upload_book.specs.declared.board_line.HeadChange.{HeadChange}
use Rattle.upload_book.specs.declared.board_line.HeadChange.TheVariants.{Put, Gone, Swept, Next, Totals}
use Rattle.upload_book.specs.declared.head_row.HeadRow.{HeadRow}
use Rattle.upload_book.specs.declared.head_row.Name.{Name}
use Rattle.upload_book.specs.declared.settings.Numbers.{Numbers}
use Rattle.upload_book.specs.declared.settings.TenantQuota.{TenantQuota}
use Rattle.upload_book.specs.Expiry.{has_expired}
use Rattle.upload_book.specs.Events.{ChangeEvent, book_after_all, book_after_event}
use Rattle.upload_book.specs.Heads.{Heads, HeadPart, apply_line, head_part, head_part_at, heads_of, parts_after, with_row, without_expired}
use Rattle.upload_book.specs.HeadSteps.{Follows, IsWithin, MayBecome, MayChange, MayFollow}
use Rattle.upload_book.specs.PlainBook.{PlainBook, opening_book}
use Rattle.upload_book.specs.Settings.{Settings}
use Rattle.upload_book.specs.TenantBook.{Entry, TenantBook, kept_in, opening_part, with_changed, with_new, with_next}
use Rattle.upload_book.proofs.Lawful.Entries.{ascending-filter, ids_of-with_kept, kept_in-contains, kept_in-filter, kept_in-push, kept_in-with_other, kept_in-with_same}
use Rattle.head_board.specs.Event.{Event}
use Rattle.head_board.specs.Events.{AllHappen, Happens, change_event}
use Rattle.head_board.specs.Laws.{IsLater, IsLaterBook, LaterEvents, LinesHaveRoom}
use Rattle.head_board.specs.Room.{has_room}
use Rattle.upload_book.specs.inside.Ids.{AreBelow}
use Rattle.upload_book.proofs.Lawful.IdLemmas.{AreBelow-next, AreBelow-none, AreBelow-push}

-- the tests of room hold where the numbers do
room_tests : (tenants t next id rows room last : ℕ) → (t < tenants → id ≡ next → (rows < room) × (next ≤ last)) → (leb tenants t || (not (eqb id next) || (ltb rows room && leb next last))) ≡ true
room_tests tenants t next id rows room last fits = elim (cases_lt t tenants) [
  | inl there ↦ elim (eqb_tells id next) [
    | inl same ↦ (let room = fits there same.1 in grind (arith, nat_tests))
    | inr other ↦ (let differs = other.0 in grind (arith, nat_tests))
  ]
  | inr past ↦ grind (arith, nat_tests)
]

-- a row is put as that of a new upload, which has the next id
with_row-new : (part : HeadPart) (id : ℕ) (row : HeadRow) → id ≡ part.next → with_row part id row ≡ with_new part row
with_row-new part id row same = rw (eq-eqb id part.next same) refl

new-fits : (n : Numbers) (part : HeadPart) (row : HeadRow) → IsWithin n (with_new part row) → (length part.uploads < n.uploads) × (part.next ≤ n.last_id)
new-fits n part row within =
    let e : Entry HeadRow = record { id = part.next; kept = row } in
    let few : length (part.uploads ++ e ∷ []) ≤ n.uploads = within.few in
    let last : part.next + 1 ≤ n.last_id + 1 = within.last in
    (omega (arith, length-append part.uploads (e ∷ [])), omega arith)

-- the test of a next id holds where none is given again
next_tests : (tenants t next id : ℕ) → next ≤ id → (leb tenants t || leb next id) ≡ true
next_tests tenants t next id more = grind (arith, nat_tests)

-- where a change may be made, and each part is within its numbers after it, there was room for it
room-within : (h : Heads) (change : HeadChange) → MayChange h change → All (IsWithin h.settings.numbers) (parts_after h change) → has_room h change ≡ true
room-within h (Put name row) may within =
    let n = h.settings.numbers in
    let part : HeadPart = head_part_at h name.tenant in
    let after : HeadPart = with_row part name.id row in
    room_tests (length h.tenants) name.tenant part.next name.id (length part.uploads) n.uploads n.last_id (λ there same.
    let long : name.tenant < length (set h.tenants name.tenant after) = omega (arith, length-set h.tenants name.tenant after) in
    let at : IsWithin n after = subst (IsWithin n) (get_or-set_same h.tenants name.tenant after after there) (All-get_or (IsWithin n) (set h.tenants name.tenant after) name.tenant after long within) in
    new-fits n part row (subst (IsWithin n) (with_row-new part name.id row same) at))
room-within h (Gone name) may within = refl
room-within h (Swept now) may within = refl
room-within h (Next name) may within = next_tests (length h.tenants) name.tenant (head_part_at h name.tenant).next name.id may
room-within h Totals may within = refl

pub lines_have_room : LinesHaveRoom
lines_have_room h line may = room-within h line.change may.change may.within

-- what is known stays known
known_self : (o : Option ℕ) → IfSome o (λ n. o ≡ Some n)
known_self None = tt
known_self (Some n) = refl

known_on : (x y z : Option ℕ) → IfSome x (λ n. y ≡ Some n) → IfSome y (λ n. z ≡ Some n) → IfSome x (λ n. z ≡ Some n)
known_on None y z p q = tt
known_on (Some n) y z p q = subst (λ (y : Option ℕ). IfSome y (λ n. z ≡ Some n)) p q

becomes_self : (row : HeadRow) → MayBecome row row
becomes_self row = record { kind = refl; metadata = refl; concat = refl; offset = omega arith; declared = known_self row.declared }

becomes_on : (a b c : HeadRow) → MayBecome a b → MayBecome b c → MayBecome a c
becomes_on a b c p q = record {
  kind = q.kind ∙ p.kind;
  metadata = q.metadata ∙ p.metadata;
  concat = q.concat ∙ p.concat;
  offset = omega (arith, p.offset, q.offset);
  declared = known_on a.declared b.declared c.declared p.declared q.declared;
}

-- what stands under an id was given
is_given_to : (part : HeadPart) (id : ℕ) (row : HeadRow) → AreBelow part.next part.uploads → kept_in part.uploads id ≡ Some row → id < part.next
is_given_to part id row are there =
    let e : Entry HeadRow = record { id = id; kept = row } in
    All-contains (λ (e : Entry HeadRow). e.id < part.next) part.uploads e are.below (kept_in-contains part.uploads id row there)

-- a part that gave the same ids, and more, and has the same under this one
IsLater-same : (id : ℕ) (part after : HeadPart) → AreBelow part.next part.uploads → part.next ≤ after.next → (id < part.next → kept_in after.uploads id ≡ kept_in part.uploads id) → IsLater id part after
IsLater-same id part after are next same = record {
  next = next;
  grows = λ old new before then.
      let is : old ≡ new = (let at = same (is_given_to part id old are before) in cc) in
      subst (MayBecome old) is (becomes_self old);
  gone = λ given none. same given ∙ none;
}

IsLater-on : (id : ℕ) (a b c : HeadPart) → AreBelow a.next a.uploads → IsLater id a b → IsLater id b c → IsLater id a c
IsLater-on id a b c are p q = record {
  next = omega (arith, p.next, q.next);
  grows = λ old new before then.
      let given : id < b.next = omega (arith, is_given_to a id old are before, p.next) in
      between old new before then given (kept_in b.uploads id) refl;
  gone = λ given none. q.gone (omega (arith, p.next)) (p.gone given none);
}
  where
    between : (old new : HeadRow) → kept_in a.uploads id ≡ Some old → kept_in c.uploads id ≡ Some new → id < b.next → (o : Option HeadRow) → kept_in b.uploads id ≡ o → MayBecome old new
    between old new before then given None is = absurd (let none = q.gone given is in cc)
    between old new before then given (Some mid) is = becomes_on old mid new (p.grows old mid before is) (q.grows mid new is then)

-- it has fewer rows, or its next id is further
abbrev IsFewerOrNext : HeadPart → HeadPart → Type 0
IsFewerOrNext part after =
    ((p : Entry HeadRow → Bool) × (after ≡ record part { uploads = filter p part.uploads })) ⊎ ((next : ℕ) × (part.next ≤ next) × (after ≡ with_next part next))

-- a tenant's part stays, has one more row, another row under an id, fewer rows, or a next id that is further
abbrev IsPartStep : HeadPart → HeadPart → Type 0
IsPartStep part after =
    (after ≡ part)
    ⊎ (((row : HeadRow) × (after ≡ with_new part row))
    ⊎ (((id : ℕ) × (row : HeadRow) × Follows part id row × (after ≡ with_changed part id row)) ⊎ IsFewerOrNext part after))

row-step : (part : HeadPart) (id : ℕ) (row : HeadRow) → (id ≡ part.next) ⊎ Follows part id row → IsPartStep part (with_row part id row)
row-step part id row may = elim (eqb_tells id part.next) [
  | inl same ↦ inr (inl (row, rw same.0 refl))
  | inr other ↦ elim may [
    | inl same ↦ absurd (other.1 same)
    | inr follows ↦ inr (inr (inl (id, row, follows, rw other.0 refl)))
  ]
]

-- so does it where it is the one that is set, and the others stay
set-step : (h : Heads) (tenant t : ℕ) (after : HeadPart) → IsPartStep (head_part_at h tenant) after → IsPartStep (head_part_at h t) (get_or (set h.tenants tenant after) t (opening_part 0))
set-step h tenant t after step = elim (eqb_tells t tenant) [
  | inr differs ↦ inl (get_or-set_other h.tenants tenant t after (opening_part 0) differs.1)
  | inl same ↦ elim (cases_lt tenant (length h.tenants)) [
    | inr past ↦ inl (ap (λ (parts : List HeadPart). get_or parts t (opening_part 0)) (set_past h.tenants tenant after past))
    | inl there ↦
        let P : ℕ → Type 0 = λ t. IsPartStep (head_part_at h t) (get_or (set h.tenants tenant after) t (opening_part 0)) in
        subst P (sym same.1) (subst (IsPartStep (head_part_at h tenant)) (sym (get_or-set_same h.tenants tenant after (opening_part 0) there)) step)
  ]
]

-- what a change makes of each tenant's part
part-step : (h : Heads) (change : HeadChange) (t : ℕ) → MayChange h change → IsPartStep (head_part_at h t) (get_or (parts_after h change) t (opening_part 0))
part-step h (Put name row) t may = set-step h name.tenant t _ (row-step (head_part_at h name.tenant) name.id row may)
part-step h (Gone name) t may = set-step h name.tenant t _ (inr (inr (inr (inl ((λ e. not (eqb e.id name.id)), refl)))))
part-step h (Swept now) t may = inr (inr (inr (inl ((λ e. not (has_expired now e.kept.expires)), get_or-map (without_expired now) h.tenants t (opening_part 0)))))
part-step h (Next name) t may = set-step h name.tenant t _ (inr (inr (inr (inr (name.id, may, refl)))))
part-step h Totals t may = inl refl

module _ (part : HeadPart) (are : AreBelow part.next part.uploads) where
  abbrev IsRight : HeadPart → Type 0
  IsRight after = AreBelow after.next after.uploads

  same_id : (b : Bool) (e : Entry HeadRow) (row : HeadRow) → (cond b (record e { kept = row }) e).id ≡ e.id
  same_id true e row = refl
  same_id false e row = refl

  changed-below : (id : ℕ) (row : HeadRow) → IsRight (with_changed part id row)
  changed-below id row =
      let f : Entry HeadRow → Entry HeadRow = λ e. cond (eqb e.id id) (record e { kept = row }) e in
      record {
        ascending = subst IsStrictlyIncreasing (sym (ids_of-with_kept part.uploads id row)) are.ascending;
        below = All-map (λ (e : Entry HeadRow). e.id < part.next) f part.uploads (All-weaker (λ (e : Entry HeadRow). e.id < part.next) (λ (e : Entry HeadRow). (f e).id < part.next) (λ (e : Entry HeadRow) less. subst (λ (k : ℕ). k < part.next) (sym (same_id (eqb e.id id) e row)) less) part.uploads are.below);
      }

  -- the ids of its rows still ascend below the next one
  step-below : (after : HeadPart) → IsPartStep part after → IsRight after
  step-below after step = elim step [
    | inl same ↦ subst IsRight (sym same) are
    | inr others ↦ elim others [
      | inl new ↦ subst IsRight (sym new.1) (AreBelow-push part.next part.uploads new.0 are)
      | inr rest ↦ elim rest [
        | inl changed ↦ subst IsRight (sym changed.3) (changed-below changed.0 changed.1)
        | inr last ↦ elim last [
          | inl fewer ↦ subst IsRight (sym fewer.1) (record {
            ascending = ascending-filter fewer.0 part.uploads are.ascending;
            below = All-filter fewer.0 (λ (e : Entry HeadRow). e.id < part.next) part.uploads are.below;
          })
          | inr further ↦ subst IsRight (sym further.2) (AreBelow-next part.next further.0 part.uploads further.1 are)
        ]
      ]
    ]
  ]

  later-new : (id : ℕ) (row : HeadRow) → IsLater id part (with_new part row)
  later-new id row =
      let e : Entry HeadRow = record { id = part.next; kept = row } in
      IsLater-same id part (with_new part row) are (omega arith) (λ given. kept_in-push part.uploads e id (λ same. omega arith))

  later-changed : (id other : ℕ) (row : HeadRow) → Follows part other row → IsLater id part (with_changed part other row)
  later-changed id other row f = elim (eqb_tells id other) [
    | inr differs ↦ IsLater-same id part (with_changed part other row) are (omega arith) (λ given. kept_in-with_other part.uploads other id row differs.1)
    | inl same ↦ subst (λ (k : ℕ). IsLater k part (with_changed part other row)) (sym same.1) (record {
      next = omega arith;
      grows = λ old new before then.
          let first : f.old ≡ old = (let stands = f.stands in cc) in
          let last : row ≡ new = (let now = kept_in-with_same part.uploads other row f.old f.stands in cc) in
          subst (MayBecome old) last (subst (λ (old : HeadRow). MayBecome old row) first f.becomes);
      gone = λ given none. absurd (let stands = f.stands in cc);
    })
  ]

  later-fewer : (id : ℕ) (p : Entry HeadRow → Bool) → IsLater id part (record part { uploads = filter p part.uploads })
  later-fewer id p = elim (kept_in-filter p part.uploads id are.ascending) [
    | inl none ↦ record { next = omega arith; grows = λ old new before then. absurd (cc (none, then)); gone = λ given before. none }
    | inr same ↦ IsLater-same id part (record part { uploads = filter p part.uploads }) are (omega arith) (λ given. same)
  ]

  -- and it tells what comes later
  step-later : (id : ℕ) (after : HeadPart) → IsPartStep part after → IsLater id part after
  step-later id after step = elim step [
    | inl same ↦ subst (IsLater id part) (sym same) (IsLater-same id part part are (omega arith) (λ given. refl))
    | inr others ↦ elim others [
      | inl new ↦ subst (IsLater id part) (sym new.1) (later-new id new.0)
      | inr rest ↦ elim rest [
        | inl changed ↦ subst (IsLater id part) (sym changed.3) (later-changed id changed.0 changed.1 changed.2)
        | inr last ↦ elim last [
          | inl fewer ↦ subst (IsLater id part) (sym fewer.1) (later-fewer id fewer.0)
          | inr further ↦ subst (IsLater id part) (sym further.2) (IsLater-same id part (with_next part further.0) are further.1 (λ given. refl))
        ]
      ]
    ]
  ]

-- in each part of the heads ids ascend below the next one
abbrev AreRight : Heads → Type 0
AreRight h = (t : ℕ) → AreBelow (head_part_at h t).next (head_part_at h t).uploads

opening-right : (s : Settings) → AreRight (heads_of (opening_book s))
opening-right s t =
    let opened : TenantQuota → TenantBook = λ t. opening_part t.quota in
    let none : TenantQuota = record { name = []; quota = 0 } in
    let parts : List TenantBook = map opened s.tenants in
    let is : head_part_at (heads_of (opening_book s)) t ≡ head_part (opened (get_or s.tenants t none)) = get_or-map head_part parts t (opening_part 0) ∙ ap head_part (get_or-map opened s.tenants t none) in
    subst (λ (part : HeadPart). AreBelow part.next part.uploads) (sym is) (AreBelow-none 1)

line-right : (h : Heads) (line : BoardLine) → MayFollow h line → AreRight h → AreRight (apply_line h line)
line-right h line may right t =
    step-below (head_part_at h t) (right t) (head_part_at (apply_line h line) t) (part-step h line.change t may.change)

-- so it is after an event, whose line leads to the book after it,
event-right : (b : PlainBook) (e : Event) → Happens b e → AreRight (heads_of b) → AreRight (heads_of (book_after_event b (change_event e)))
event-right b e here right = subst AreRight (sym here.told.leads.heads) (line-right (heads_of b) here.line here.told.leads.may right)

event-later : (b : PlainBook) (e : Event) (name : Name) → Happens b e → AreRight (heads_of b) → IsLaterBook name b (book_after_event b (change_event e))
event-later b e name here right =
    let part : HeadPart = head_part_at (heads_of b) name.tenant in
    subst (λ (h : Heads). IsLater name.id part (head_part_at h name.tenant)) (sym here.told.leads.heads)
    (step-later part (right name.tenant) name.id (head_part_at (apply_line (heads_of b) here.line) name.tenant) (part-step (heads_of b) here.line.change name.tenant here.told.leads.may.change))

-- and after several
events-later : (b : PlainBook) (events : List Event) (name : Name) → AllHappen b events → AreRight (heads_of b) → IsLaterBook name b (book_after_all b (map {A = Event} {B = ChangeEvent} change_event events))
events-later b [] name all right =
    IsLater-same name.id (head_part_at (heads_of b) name.tenant) (head_part_at (heads_of b) name.tenant) (right name.tenant) (omega arith) (λ given. refl)
events-later b (e ∷ events) name all right =
    let next : PlainBook = book_after_event b (change_event e) in
    IsLater-on name.id (head_part_at (heads_of b) name.tenant) (head_part_at (heads_of next) name.tenant) (head_part_at (heads_of (book_after_all next (map {A = Event} {B = ChangeEvent} change_event events))) name.tenant) (right name.tenant)
    (event-later b e name all.0 right)
    (events-later next events name all.1 (event-right b e all.0 right))

more-later : (b : PlainBook) (events more : List Event) (name : Name) → AllHappen b (events ++ more) → AreRight (heads_of b)
    → IsLaterBook name (book_after_all b (map {A = Event} {B = ChangeEvent} change_event events)) (book_after_all b (map {A = Event} {B = ChangeEvent} change_event (events ++ more)))
more-later b [] more name all right = events-later b more name all right
more-later b (e ∷ events) more name all right = more-later (book_after_event b (change_event e)) events more name all.1 (event-right b e all.0 right)

pub later_events : LaterEvents
later_events s events more name all = more-later (opening_book s) events more name all (opening-right s)
