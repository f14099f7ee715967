-- On what a look rests: what a note leaves of what is told under other ids.
use Rattle.std.proofs.Common.{◌≡◌, ◌≢◌, ◌⊎◌, ℕ, ◌+◌, ◌<◌, ◌≤◌, ◌%◌, Bool, cond, not, ◌&&◌, if◌then◌else◌, eqb, ltb, List, [], ◌∷◌, ◌++◌, drop, get_or, length, map, replicate, set, take, Option, Some, None, option_map, Result, Err, inl, inr, refl, sym, ap, ap₂, subst, ◌∙◌, arith}
use Rattle.std.specs.List.{filter}
use Rattle.std.proofs.Math.ListN.{length-set}
use Rattle.std.proofs.lemmas.Bool.{cases_lt}
use Rattle.std.proofs.lemmas.Bool.Decides.{eqb_tells, nat_tests}
use Rattle.std.proofs.lemmas.List.{append-nil, drop_all, get_or-replicate, length-replicate, get_or-set_other, get_or-set_same, set_past, take_all}
use mathlib.Core.List.{IsPrefix}
use Rattle.upload_book.specs.declared.board_line.Accounts.{Accounts}
use Rattle.upload_book.specs.declared.board_line.BoardLine.{BoardLine}
use Rattle.upload_book.specs.declared.board_line.HeadChange.{HeadChange}
use Rattle.upload_book.specs.declared.board_line.HeadChange.TheVariants as head
use Rattle.upload_book.specs.declared.board_line.HeadChange.TheVariants.{Put}
use Rattle.upload_book.specs.declared.head_note.Growth.{Growth}
use Rattle.upload_book.specs.declared.head_note.NotedChange.{NotedChange}
use Rattle.upload_book.specs.declared.head_note.NotedChange.TheVariants.{Created, Shared, Grown, Gone, Swept, Next, Totals}
use Rattle.upload_book.specs.declared.head_row.HeadRow.{HeadRow}
use Rattle.upload_book.specs.declared.head_row.Name.{Name}
use Rattle.upload_book.specs.declared.refusal.Refusal.{Refusal}
use Rattle.upload_book.specs.declared.refusal.Refusal.TheVariants.{Unknown}
use Rattle.upload_book.specs.HeadNotes.{line_told, row_grown}
use Rattle.upload_book.specs.Heads.{Heads, HeadPart, apply_line, head_part_at, heads_of, shown, with_row}
use Rattle.upload_book.specs.PlainBook.{opening_book}
use Rattle.upload_book.specs.Settings.{AreSound, Settings}
use Rattle.upload_book.specs.TenantBook.{Entry, is_given, kept_in, opening_part, visible, visible_in, with_changed, with_new}
use Rattle.upload_book.specs.Terminate.{without}
use Rattle.upload_book.proofs.Lawful.Entries.{kept_in-push, kept_in-with_other}
use Rattle.head_board.specs.Event.{Event}
use Rattle.head_board.specs.Events.{HaveHappened, book_at}
use Rattle.head_board.specs.declared.board_copy.BoardCopy.{BoardCopy}
use Rattle.head_board.specs.declared.coming_texts.ComingTexts.{ComingTexts}
use Rattle.head_board.specs.inside.EventLog.{LogPrefix}
use Rattle.head_board.specs.inside.LastChanges.{all_marked, last_after, last_of, marked, no_events}
use Rattle.head_board.specs.inside.Showing.{IsCurrent, RestsOn}
use Rattle.head_board.proofs.PrefixLemmas.{prefix_on, prefix_or_all, prefix_same}

-- what is told under an id of a part
abbrev told : HeadPart → ℕ → ℕ → Result HeadRow Refusal
told part id now = visible_in (λ (row : HeadRow). row.expires) part id now

-- it is told by whether the id was given, and by what stands under it
told-same : (part after : HeadPart) (id now : ℕ) → is_given after id ≡ is_given part id → kept_in after.uploads id ≡ kept_in part.uploads id → told after id now ≡ told part id now
told-same part after id now given kept =
    ap₂ (λ (given : Bool) (row : Option HeadRow). if given then visible (λ (row : HeadRow). row.expires) now row else Err Unknown) given kept

-- an id that is not the next one is given with it only where it was
given-next : (id next : ℕ) → next ≢ id → (ltb 0 id && ltb id (next + 1)) ≡ (ltb 0 id && ltb id next)
given-next id next differs = grind (arith, nat_tests)

-- a row that is put under an id leaves what is told under others
told-put : (part : HeadPart) (id other now : ℕ) (row : HeadRow) → other ≢ id → told (with_row part id row) other now ≡ told part other now
told-put part id other now row differs = elim (eqb_tells id part.next) [
  | inl same ↦
      let next : part.next ≢ other = λ is. differs (sym is ∙ sym same.1) in
      rw same.0 (told-same part (with_new part row) other now (given-next other part.next next) (kept_in-push part.uploads (record { id = part.next; kept = row }) other next))
  | inr apart ↦ rw apart.0 (told-same part (with_changed part id row) other now refl (kept_in-with_other part.uploads id other row differs))
]

-- what stands under other ids than one
kept-without : (entries : List (Entry HeadRow)) (id other : ℕ) → other ≢ id → kept_in (filter (λ (e : Entry HeadRow). not (eqb e.id id)) entries) other ≡ kept_in entries other
kept-without [] id other differs = refl
kept-without (e ∷ entries) id other differs =
    let rest = kept-without entries id other differs in
    elim (eqb_tells e.id id) [
      | inl same ↦ rw same.0 (elim (eqb_tells e.id other) [ inl this ↦ absurd (differs (sym this.1 ∙ same.1)) | inr apart ↦ rw apart.0 rest ])
      | inr apart ↦ rw apart.0 (ap (λ (rest : Option HeadRow). cond (eqb e.id other) (Some e.kept) rest) rest)
    ]

told-without : (part : HeadPart) (id other now : ℕ) → other ≢ id → told (without part id) other now ≡ told part other now
told-without part id other now differs = told-same part (without part id) other now refl (kept-without part.uploads id other differs)

-- a part that is set for a tenant, and tells the same, leaves what is told of each name
told-set : (h : Heads) (tenant : ℕ) (after : HeadPart) (name : Name) (now : ℕ) → told after name.id now ≡ told (head_part_at h tenant) name.id now
    → told (get_or (set h.tenants tenant after) name.tenant (opening_part 0)) name.id now ≡ shown h name now
told-set h tenant after name now same = elim (eqb_tells name.tenant tenant) [
  | inr differs ↦ ap (λ (part : HeadPart). told part name.id now) (get_or-set_other h.tenants tenant name.tenant after (opening_part 0) differs.1)
  | inl here ↦ elim (cases_lt tenant (length h.tenants)) [
    | inr past ↦ ap (λ (parts : List HeadPart). told (get_or parts name.tenant (opening_part 0)) name.id now) (set_past h.tenants tenant after past)
    | inl there ↦
        let P : ℕ → Type 0 = λ t. told (get_or (set h.tenants tenant after) t (opening_part 0)) name.id now ≡ told (head_part_at h t) name.id now in
        subst P (sym here.1) (ap (λ (part : HeadPart). told part name.id now) (get_or-set_same h.tenants tenant after (opening_part 0) there) ∙ same)
  ]
]

-- The events that are known for a name are those of a note; or they are what they were, and the line leaves what is told of it.
abbrev IsKnown : Heads → List LogPrefix → LogPrefix → LogPrefix → BoardLine → Name → Type 0
IsKnown h slots after known line name =
    (known ≡ after) ⊎ ((known ≡ last_of slots name.id) × ((now : ℕ) → shown (apply_line h line) name now ≡ shown h name now))

-- each id has a slot
has-slot : (slots : List LogPrefix) (id : ℕ) → length slots ≡ 256 → id % 256 < length slots
has-slot slots id all = omega (arith, all)

-- where an id is marked, a line that leaves the other ids leaves those of the other slots
marked-known : (h : Heads) (slots : List LogPrefix) (id : ℕ) (after : LogPrefix) (line : BoardLine) (name : Name) → length slots ≡ 256
    → (name.id ≢ id → (now : ℕ) → shown (apply_line h line) name now ≡ shown h name now) → IsKnown h slots after (last_of (marked slots id after) name.id) line name
marked-known h slots id after line name all leaves = elim (eqb_tells (name.id % 256) (id % 256)) [
  | inl same ↦ inl (ap (λ (k : ℕ). get_or (marked slots id after) k no_events) same.1 ∙ get_or-set_same slots (id % 256) after no_events (has-slot slots id all))
  | inr apart ↦ inr (
    get_or-set_other slots (id % 256) (name.id % 256) after no_events apart.1,
    leaves (λ is. apart.1 (ap (λ (k : ℕ). k % 256) is)),
  )
]

-- where all are marked, each has these events
all-known : (id : ℕ) (after : LogPrefix) → last_of (all_marked after) id ≡ after
all-known id after = get_or-replicate 256 (id % 256) after no_events (omega arith)

-- slots that were marked one by one
pub all-same : (slots after_all : List LogPrefix) (i : ℕ) (after : LogPrefix) → after_all ≡ map {A = LogPrefix} {B = LogPrefix} (λ slot. after) (take i slots) ++ drop i slots → length slots ≤ i → length slots ≡ 256 → after_all ≡ all_marked after
all-same slots after_all i after is past all =
    is ∙ rw (take_all i slots past, drop_all i slots past, append-nil) (same slots ∙ ap (λ (n : ℕ). replicate n after) all)
  where
    same : (slots : List LogPrefix) → map {A = LogPrefix} {B = LogPrefix} (λ slot. after) slots ≡ replicate (length slots) after
    same [] = refl
    same (slot ∷ slots) = ap (λ (rest : List LogPrefix). after ∷ rest) (same slots)

-- a row is put under an id
put-known : (h : Heads) (slots : List LogPrefix) (put : Name) (row : HeadRow) (after : LogPrefix) (accounts : Accounts) (line : BoardLine) (name : Name) → length slots ≡ 256
    → line ≡ record { change = Put put row; accounts = accounts } → IsKnown h slots after (last_of (marked slots put.id after) name.id) line name
put-known h slots put row after accounts line name all is =
    subst (λ (line : BoardLine). IsKnown h slots after (last_of (marked slots put.id after) name.id) line name) (sym is)
    (marked-known h slots put.id after (record { change = Put put row; accounts = accounts }) name all
    (λ differs now. told-set h put.tenant (with_row (head_part_at h put.tenant) put.id row) name now (told-put (head_part_at h put.tenant) put.id name.id now row differs)))

-- a line that puts the row of an upload that grew puts a row
grown-row : (name : Name) (growth : Growth) (accounts : Accounts) (o : Option HeadRow) (line : BoardLine)
    → option_map (λ (change : HeadChange). let line : BoardLine = record { change = change; accounts = accounts } in line) (option_map (λ (row : HeadRow). Put name (row_grown growth row)) o) ≡ Some line
    → (row : HeadRow) × (line ≡ record { change = Put name row; accounts = accounts })
grown-row name growth accounts None line is = absurd (cc (is))
grown-row name growth accounts (Some row) line is = (row_grown growth row, cc (is))

-- what is known of a name after a note
pub note-known : (h : Heads) (slots : List LogPrefix) (change : NotedChange) (accounts : Accounts) (after : LogPrefix) (line : BoardLine) (name : Name) → length slots ≡ 256
    → line_told h (record { change = change; accounts = accounts }) ≡ Some line → IsKnown h slots after (last_of (last_after slots h change after) name.id) line name
note-known h slots (Created tenant row) accounts after line name all told =
    put-known h slots (record { tenant = tenant; id = (head_part_at h tenant).next }) row after accounts line name all (cc (told))
note-known h slots (Shared tenant row) accounts after line name all told =
    put-known h slots (record { tenant = tenant; id = (head_part_at h tenant).next }) row after accounts line name all (cc (told))
note-known h slots (Grown grown growth) accounts after line name all told =
    let put = grown-row grown growth accounts (kept_in (head_part_at h grown.tenant).uploads grown.id) line told in
    put-known h slots grown put.0 after accounts line name all put.1
note-known h slots (Gone gone) accounts after line name all told =
    let is : line ≡ record { change = head.Gone gone; accounts = accounts } = cc (told) in
    subst (λ (line : BoardLine). IsKnown h slots after (last_of (marked slots gone.id after) name.id) line name) (sym is)
    (marked-known h slots gone.id after (record { change = head.Gone gone; accounts = accounts }) name all
    (λ differs now. told-set h gone.tenant (without (head_part_at h gone.tenant) gone.id) name now (told-without (head_part_at h gone.tenant) gone.id name.id now differs)))
note-known h slots (Swept now) accounts after line name all told = inl (all-known name.id after)
note-known h slots (Next next) accounts after line name all told = inl (all-known name.id after)
note-known h slots Totals accounts after line name all told =
    let is : line ≡ record { change = head.Totals; accounts = accounts } = cc (told) in
    inr (refl, λ now. ap (λ (line : BoardLine). shown (apply_line h line) name now) is)

-- and there are as many slots after it
pub note-slots : (h : Heads) (slots : List LogPrefix) (change : NotedChange) (after : LogPrefix) → length slots ≡ 256 → length (last_after slots h change after) ≡ 256
note-slots h slots (Created tenant row) after all = length-set slots ((head_part_at h tenant).next % 256) after ∙ all
note-slots h slots (Shared tenant row) after all = length-set slots ((head_part_at h tenant).next % 256) after ∙ all
note-slots h slots (Grown name growth) after all = length-set slots (name.id % 256) after ∙ all
note-slots h slots (Gone name) after all = length-set slots (name.id % 256) after ∙ all
note-slots h slots (Swept now) after all = length-replicate 256 after
note-slots h slots (Next name) after all = length-replicate 256 after
note-slots h slots Totals after all = all

-- after an event a copy rests on the events by which it knows what changed
pub rests-next : (s next : BoardCopy) (e : Event) (line : BoardLine) (name : Name) (known : LogPrefix) → next.table.settings ≡ s.table.settings → next.seen ≡ record s.seen { events = s.seen.events ++ e ∷ [] }
    → next.table ≡ heads_of (book_at s.table.settings next.seen.events) → next.table ≡ apply_line s.table line → RestsOn s name (last_of s.last_changes name.id)
    → IsKnown s.table s.last_changes next.seen known line name → RestsOn next name known
rests-next s next e line name known settings seen heads table rests (inl is) = record {
  log = ap (λ (t : LogPrefix). t.book) is;
  begins = ([], append-nil known.events ∙ ap (λ (t : LogPrefix). t.events) is);
  same = λ events from to now.
      let all : events ≡ next.seen.events = prefix_same events next.seen.events to (subst (λ (t : LogPrefix). IsPrefix t.events events) is from) in
      ap₂ (λ (settings : Settings) (events : List Event). shown (heads_of (book_at settings events)) name now) settings all ∙ sym (ap (λ (h : Heads). shown h name now) heads);
}
rests-next s next e line name known settings seen heads table rests (inr stays) =
    let last : LogPrefix = last_of s.last_changes name.id in
    let all : next.seen.events ≡ s.seen.events ++ e ∷ [] = ap (λ (t : LogPrefix). t.events) seen in
    let tells : Heads → ℕ → Result HeadRow Refusal = λ h now. shown h name now in
    record {
      log = ap (λ (t : LogPrefix). t.book) stays.0 ∙ rests.log ∙ sym (ap (λ (t : LogPrefix). t.book) seen);
      begins = subst (λ (t : LogPrefix). IsPrefix t.events next.seen.events) (sym stays.0) (subst (IsPrefix last.events) (sym all) (prefix_on last.events s.seen.events (s.seen.events ++ e ∷ []) rests.begins (e ∷ [], refl)));
      same = λ events from to now.
          ap (λ (settings : Settings). tells (heads_of (book_at settings events)) now) settings
          ∙ tells-same events (subst (λ (t : LogPrefix). IsPrefix t.events events) stays.0 from) now (prefix_or_all events s.seen.events e (subst (IsPrefix events) all to));
    }
  where
    tells-same : (events : List Event) → IsPrefix (last_of s.last_changes name.id).events events → (now : ℕ) → (events ≡ s.seen.events ++ e ∷ []) ⊎ IsPrefix events s.seen.events
        → shown (heads_of (book_at s.table.settings events)) name now ≡ shown next.table name now
    tells-same events from now (inl whole) =
        ap (λ (events : List Event). shown (heads_of (book_at s.table.settings events)) name now) (whole ∙ sym (ap (λ (t : LogPrefix). t.events) seen)) ∙ sym (ap (λ (h : Heads). shown h name now) heads)
    tells-same events from now (inr before) = rests.same events from before now ∙ sym (ap (λ (h : Heads). shown h name now) table ∙ stays.1 now)

-- a copy of a new book is current, and rests on no event
pub current-first : (settings : Settings) (opened seen : LogPrefix) (table : Heads) (slots : List LogPrefix) (texts : ComingTexts) → AreSound settings → table ≡ heads_of (opening_book settings) → seen ≡ opened → opened.events ≡ [] → slots ≡ all_marked opened
    → IsCurrent (record { table = table; seen = seen; last_changes = slots; coming = texts })
current-first settings opened seen table slots texts sound heads same none marked =
    let s : BoardCopy = record { table = table; seen = seen; last_changes = slots; coming = texts } in
    let events : seen.events ≡ [] = ap (λ (t : LogPrefix). t.events) same ∙ none in
    let last : slots ≡ all_marked seen = marked ∙ sym (ap all_marked same) in
    let here : table ≡ heads_of (book_at table.settings seen.events) =
    heads ∙ sym (ap₂ (λ (settings : Settings) (events : List Event). heads_of (book_at settings events)) (ap (λ (h : Heads). h.settings) heads) events) in
    record {
      sound = subst AreSound (sym (ap (λ (h : Heads). h.settings) heads)) sound;
      happened = subst (HaveHappened table.settings) (sym events) tt;
      heads = here;
      slots = ap (λ (slots : List LogPrefix). length slots) last ∙ length-replicate 256 seen;
      rests = λ name.
          subst (RestsOn s name) (sym (ap (λ (slots : List LogPrefix). last_of slots name.id) last ∙ all-known name.id seen)) (record {
            log = refl;
            begins = ([], append-nil seen.events);
            same = λ events from to now. ap (λ (events : List Event). shown (heads_of (book_at table.settings events)) name now) (prefix_same events seen.events to from) ∙ sym (ap (λ (h : Heads). shown h name now) here);
          });
    }
