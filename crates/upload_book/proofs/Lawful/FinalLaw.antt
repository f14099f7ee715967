-- A final upload stays until it is ended, and comes by a concatenation, or is put back.
use Rattle.std.proofs.Common.{◌≡◌, ◌≢◌, ◌⊎◌, ℕ, Bool, true, false, cond, eqb, not, List, [], ◌∷◌, get_or, Option, None, Some, Result, Ok, Err, refl, inl, inr, sym, ap, ap₂, subst, ◌∙◌}
use Rattle.std.specs.List.{All, Contains}
use Rattle.std.proofs.lemmas.Bool.Decides.{eqb_tells}
use Rattle.std.proofs.lemmas.List.Elements.{All-head, All-tail, All-weaker, Contains-append_cases}
use Rattle.std.proofs.Math.ListN.{get_or-map}
use Rattle.upload_book.specs.Account.{account_in}
use Rattle.upload_book.specs.Append.{append_refusal, part_after_append, upload_with}
use Rattle.upload_book.specs.Change.{book_after_change}
use Rattle.upload_book.specs.Chunk.{Chunk}
use Rattle.upload_book.specs.Concat.{concat_refusal, joined_upload, part_after_concat}
use Rattle.upload_book.specs.Create.{created_upload, creation_refusal, new_kind, part_after_create}
use Rattle.upload_book.specs.declared.change.Change.{Change}
use Rattle.upload_book.specs.declared.change.Change.TheVariants.{Create, Append, Concat, Terminate, Sweep, Restore}
use Rattle.upload_book.specs.declared.head_row.Kind.TheVariants.{Final}
use Rattle.upload_book.specs.declared.head_row.Name.{Name}
use Rattle.upload_book.specs.declared.refusal.Refusal.{Refusal}
use Rattle.upload_book.specs.declared.settings.Numbers.{Numbers}
use Rattle.upload_book.specs.declared.settings.TenantQuota.{TenantQuota}
use Rattle.upload_book.specs.Events.{ChangeEvent, HasUpload, IsJoinedBy, StandsAs, book_after_all, book_after_event}
use Rattle.upload_book.specs.Expiry.{has_expired}
use Rattle.upload_book.specs.laws.FinalsStay.{Spares, FinalsStay, IsMadeIn, IsPutBackBy}
use Rattle.upload_book.specs.FirstChunk.{FirstChunk}
use Rattle.upload_book.specs.NewFinal.{NewFinal}
use Rattle.upload_book.specs.NewUpload.{NewUpload}
use Rattle.upload_book.specs.PlainBook.{PlainBook, opening_book, tenant_book, with_tenant_book}
use Rattle.upload_book.specs.Settings.{Settings}
use Rattle.upload_book.specs.Sweep.{book_after_sweep, part_after_sweep}
use Rattle.upload_book.specs.TenantBook.{Entry, TenantBook, kept_in, opening_part, visible_upload, with_kept, with_new}
use Rattle.upload_book.specs.Terminate.{part_after_terminate}
use Rattle.upload_book.specs.Upload.{Upload, head_row_of}
use Rattle.upload_book.proofs.Charge.InUse.{Contains-cases, Contains-mapped, Contains-none}
use Rattle.upload_book.proofs.Lawful.Entries.{Contains-filter, kept_in-with_other, visible_in-Ok}
use Rattle.upload_book.proofs.Lawful.FinalLemmas.{kept-filter, kept-push, moved, part-after, stays-book}
use Rattle.upload_book.proofs.Restoring.PiecesLeft.{pieces_leave}

-- a final upload takes no bytes
final-refused : (n : Numbers) (part : TenantBook) (charged : ℕ) (v : Upload) (chunk : Chunk) → v.kind ≡ Final → append_refusal n (account_in n part charged) (head_row_of v) chunk ≢ None
final-refused n part charged v chunk final none = let refused = rw final at none in absurd cc

-- what a final upload is to the part after each change of its tenant
module _ (n : Numbers) (part : TenantBook) (id now charged : ℕ) (u : Upload) (there : kept_in part.uploads id ≡ Some u) where
  stays-create : (new : NewUpload) (first : FirstChunk) (why : Option Refusal) → creation_refusal n (account_in n part charged) part new first ≡ why → kept_in (part_after_create new first now charged n part).uploads id ≡ Some u
  stays-create new first None is = rw is (kept-push part.uploads (record { id = part.next; kept = created_upload n new first.bytes now } ∷ []) id u there)
  stays-create new first (Some why) is = rw is there

  stays-concat : (new : NewFinal) (why : Option Refusal) → concat_refusal n part new now ≡ why → kept_in (part_after_concat new now n part).uploads id ≡ Some u
  stays-concat new None is = rw is (kept-push part.uploads (record { id = part.next; kept = joined_upload n part new now } ∷ []) id u there)
  stays-concat new (Some why) is = rw is there

  stays-append : (other : ℕ) (chunk : Chunk) (seen : Result Upload Refusal) → u.kind ≡ Final → visible_upload part other now ≡ seen → kept_in (part_after_append other chunk now charged n part).uploads id ≡ Some u
  stays-append other chunk (Err why) final is = rw is there
  stays-append other chunk (Ok v) final is = by (append_refusal n (account_in n part charged) (head_row_of v) chunk) refl where
    by : (why : Option Refusal) → append_refusal n (account_in n part charged) (head_row_of v) chunk ≡ why → kept_in (part_after_append other chunk now charged n part).uploads id ≡ Some u
    by (Some why) refused = rw is (rw refused there)
    by None none = elim (eqb_tells id other) [
      | inr differs ↦ rw is (rw none (kept_in-with_other part.uploads other id (upload_with n v chunk now) differs.1 ∙ there))
      | inl same ↦
          let kept : kept_in part.uploads other ≡ Some v = visible_in-Ok (λ (u : Upload). u.expires) part other now v is in
          let one : v ≡ u = (let both : Some v ≡ Some u = sym kept ∙ ap (kept_in part.uploads) (sym same.1) ∙ there in cc) in
          absurd (final-refused n part charged v chunk (ap (λ (u : Upload). u.kind) one ∙ final) none)
    ]

  stays-terminate : (other : ℕ) (seen : Result Upload Refusal) → id ≢ other → visible_upload part other now ≡ seen → kept_in (part_after_terminate other now n part).uploads id ≡ Some u
  stays-terminate other (Err why) differs is = rw is there
  stays-terminate other (Ok v) differs is =
      rw is (kept-filter (λ e. not (eqb e.id other)) part.uploads id u there (λ e named same. elim (eqb_tells e.id other) [
        | inl again ↦ absurd (differs (sym named ∙ again.1))
        | inr apart ↦ rw apart.0 refl
      ]))

  stays-sweep : has_expired now u.expires ≡ false → kept_in (part_after_sweep now part).uploads id ≡ Some u
  stays-sweep never = kept-filter (λ e. not (has_expired now e.kept.expires)) part.uploads id u there (λ e named same. rw same (rw never refl))

stays-event : (b : PlainBook) (change : Change) (now : ℕ) (name : Name) (u : Upload) → u.kind ≡ Final → StandsAs b name u → Spares name u (record { change = change; now = now }) → StandsAs (book_after_change b change now) name u
stays-event b (Create tenant new first) now name u final there spares =
    let n = b.settings.numbers in
    let part = tenant_book b tenant in
    stays-book b tenant _ name u there (λ same. stays-create n part name.id now b.charged u (moved b tenant name u there same) new first (creation_refusal n (account_in n part b.charged) part new first) refl)
stays-event b (Append other chunk) now name u final there spares =
    let n = b.settings.numbers in
    let part = tenant_book b other.tenant in
    stays-book b other.tenant _ name u there (λ same. stays-append n part name.id now b.charged u (moved b other.tenant name u there same) other.id chunk (visible_upload part other.id now) final refl)
stays-event b (Concat tenant new) now name u final there spares =
    let n = b.settings.numbers in
    let part = tenant_book b tenant in
    stays-book b tenant _ name u there (λ same. stays-concat n part name.id now b.charged u (moved b tenant name u there same) new (concat_refusal n part new now) refl)
stays-event b (Terminate other) now name u final there spares =
    let n = b.settings.numbers in
    let part = tenant_book b other.tenant in
    stays-book b other.tenant _ name u there (λ same. stays-terminate n part name.id now b.charged u (moved b other.tenant name u there same) other.id (visible_upload part other.id now) (λ id. spares.owner (ap Terminate (let tenant : other.tenant ≡ name.tenant = sym same in let number : other.id ≡ name.id = sym id in one_name other name tenant number))) refl)
  where
    name_of : ℕ → ℕ → Name
    name_of tenant id = record { tenant = tenant; id = id }

    one_name : (a b : Name) → a.tenant ≡ b.tenant → a.id ≡ b.id → a ≡ b
    one_name a b tenant id = ap₂ name_of tenant id
stays-event b Sweep now name u final there spares =
    ap (λ (part : TenantBook). kept_in part.uploads name.id) (get_or-map (part_after_sweep now) b.tenants name.tenant (opening_part 0))
    ∙ stays-sweep b.settings.numbers (tenant_book b name.tenant) name.id now b.charged u there (spares.sweep refl)
stays-event b (Restore restored) now name u final there spares = pieces_leave.stays b restored name u there

lasts-all : (b : PlainBook) (events : List ChangeEvent) (name : Name) (u : Upload) → u.kind ≡ Final → StandsAs b name u → All (Spares name u) events → StandsAs (book_after_all b events) name u
lasts-all b [] name u final there others = there
lasts-all b (e ∷ events) name u final there others =
    lasts-all (book_after_event b e) events name u final (stays-event b e.change e.now name u final there (All-head (Spares name u) e events others)) (All-tail (Spares name u) e events others)

-- one that has no end is left by each sweep
stays-all : (b : PlainBook) (events : List ChangeEvent) (name : Name) (u : Upload) → u.kind ≡ Final → u.expires ≡ None → StandsAs b name u → All (λ e. e.change ≢ Terminate name) events → StandsAs (book_after_all b events) name u
stays-all b events name u final never there others =
    lasts-all b events name u final there (All-weaker (λ e. e.change ≢ Terminate name) (Spares name u) (λ e owner. record { owner = owner; sweep = λ sweep. rw never refl }) events others)

-- What a final upload of a part after a change was before it: the same, or what the change joined.
module _ (n : Numbers) (part : TenantBook) (id now charged : ℕ) (u : Upload) (final : u.kind ≡ Final) where
  abbrev e : Entry Upload
  e = record { id = id; kept = u }

  -- one that was added is the last one
  comes-push : (v : Upload) → Contains (with_new part v).uploads e → Contains part.uploads e ⊎ ((part.next ≡ id) × (v ≡ u))
  comes-push v c = elim (Contains-append_cases part.uploads (record { id = part.next; kept = v } ∷ []) e c) [
    | inl before ↦ inl before
    | inr last ↦ elim (Contains-cases (record { id = part.next; kept = v }) e [] last) [
      | inl same ↦ inr (ap (λ (e : Entry Upload). e.id) same, ap (λ (e : Entry Upload). e.kept) same)
      | inr none ↦ absurd (Contains-none e none)
    ]
  ]

  comes-create : (new : NewUpload) (first : FirstChunk) (why : Option Refusal) → creation_refusal n (account_in n part charged) part new first ≡ why → Contains (part_after_create new first now charged n part).uploads e → Contains part.uploads e
  comes-create new first (Some why) is c = rw is at c
  comes-create new first None is c = elim (comes-push (created_upload n new first.bytes now) (rw is at c)) [
    | inl before ↦ before
    | inr made ↦ absurd (new-kind new.partial (ap (λ (u : Upload). u.kind) made.1 ∙ final))
  ]
    where
      new-kind : (partial : Bool) → new_kind partial ≢ Final
      new-kind true is = absurd cc
      new-kind false is = absurd cc

  comes-concat : (new : NewFinal) (why : Option Refusal) → concat_refusal n part new now ≡ why → Contains (part_after_concat new now n part).uploads e
      → Contains part.uploads e ⊎ ((concat_refusal n part new now ≡ None) × (part.next ≡ id) × (joined_upload n part new now ≡ u))
  comes-concat new (Some why) is c = inl (rw is at c)
  comes-concat new None is c = elim (comes-push (joined_upload n part new now) (rw is at c)) [
    | inl before ↦ inl before
    | inr made ↦ inr (is, made.0, made.1)
  ]

  comes-append : (other : ℕ) (chunk : Chunk) (seen : Result Upload Refusal) → visible_upload part other now ≡ seen → Contains (part_after_append other chunk now charged n part).uploads e → Contains part.uploads e
  comes-append other chunk (Err why) is c = rw is at c
  comes-append other chunk (Ok v) is c = by (append_refusal n (account_in n part charged) (head_row_of v) chunk) refl where
    changed : Entry Upload → Entry Upload
    changed e = cond (eqb e.id other) (record e { kept = upload_with n v chunk now }) e

    by : (why : Option Refusal) → append_refusal n (account_in n part charged) (head_row_of v) chunk ≡ why → Contains part.uploads e
    by (Some why) refused = rw (is, refused) at c
    by None none =
        let listed : Contains (with_kept part.uploads other (upload_with n v chunk now)) e = rw (is, none) at c in
        let found = Contains-mapped changed part.uploads e listed in
        elim (eqb_tells found.0.id other) [
          | inr differs ↦ subst (Contains part.uploads) (let same = rw differs.0 at found.2 in same) found.1
          | inl same ↦
              let is_new : upload_with n v chunk now ≡ u = ap (λ (e : Entry Upload). e.kept) (let both = rw same.0 at found.2 in both) in
              absurd (final-refused n part charged v chunk (ap (λ (u : Upload). u.kind) is_new ∙ final) none)
        ]

  comes-terminate : (other : ℕ) (seen : Result Upload Refusal) → visible_upload part other now ≡ seen → Contains (part_after_terminate other now n part).uploads e → Contains part.uploads e
  comes-terminate other (Err why) is c = rw is at c
  comes-terminate other (Ok v) is c = Contains-filter (λ e. not (eqb e.id other)) part.uploads e (rw is at c)

  comes-sweep : Contains (part_after_sweep now part).uploads e → Contains part.uploads e
  comes-sweep c = Contains-filter (λ e. not (has_expired now e.kept.expires)) part.uploads e c

-- and so of the book
comes-book : (b : PlainBook) (tenant : ℕ) (part : TenantBook) (name : Name) (u : Upload) → HasUpload (with_tenant_book b tenant part) name u
    → HasUpload b name u ⊎ ((name.tenant ≡ tenant) × Contains part.uploads (record { id = name.id; kept = u }))
comes-book b tenant part name u c = elim (part-after b tenant name.tenant part) [
  | inl same ↦ inl (subst (λ (part : TenantBook). Contains part.uploads (record { id = name.id; kept = u })) same c)
  | inr its ↦ inr (its.0, subst (λ (part : TenantBook). Contains part.uploads (record { id = name.id; kept = u })) its.1 c)
]

-- what the tenant's part had is what the book has
had : (b : PlainBook) (tenant : ℕ) (name : Name) (u : Upload) → name.tenant ≡ tenant → Contains (tenant_book b tenant).uploads (record { id = name.id; kept = u }) → HasUpload b name u
had b tenant name u same c = subst (λ t. Contains (tenant_book b t).uploads (record { id = name.id; kept = u })) (sym same) c

-- a change that leaves the finals of its tenant leaves those of the book
only-own : (b : PlainBook) (tenant : ℕ) (part : TenantBook) (name : Name) (u : Upload) → HasUpload (with_tenant_book b tenant part) name u
    → (Contains part.uploads (record { id = name.id; kept = u }) → Contains (tenant_book b tenant).uploads (record { id = name.id; kept = u })) → HasUpload b name u
only-own b tenant part name u c own = elim (comes-book b tenant part name u c) [
  | inl before ↦ before
  | inr its ↦ had b tenant name u its.0 (own its.1)
]

-- it was joined, or put back
abbrev IsMadeBy : PlainBook → ChangeEvent → Name → Upload → Type 0
IsMadeBy b e name u = IsJoinedBy b e name u ⊎ IsPutBackBy b e name u

comes-event : (b : PlainBook) (change : Change) (now : ℕ) (name : Name) (u : Upload) → u.kind ≡ Final → HasUpload (book_after_change b change now) name u
    → HasUpload b name u ⊎ IsMadeBy b (record { change = change; now = now }) name u
comes-event b (Restore restored) now name u final c = elim (pieces_leave.comes b restored name u c) [
  | inl before ↦ inl before
  | inr back ↦ inr (inr (record { restored = restored; is = refl; back = back }))
]
comes-event b (Create tenant new first) now name u final c =
    let n = b.settings.numbers in
    let part = tenant_book b tenant in
    inl (only-own b tenant _ name u c (comes-create n part name.id now b.charged u final new first (creation_refusal n (account_in n part b.charged) part new first) refl))
comes-event b (Append other chunk) now name u final c =
    let n = b.settings.numbers in
    let part = tenant_book b other.tenant in
    inl (only-own b other.tenant _ name u c (comes-append n part name.id now b.charged u final other.id chunk (visible_upload part other.id now) refl))
comes-event b (Terminate other) now name u final c =
    let n = b.settings.numbers in
    let part = tenant_book b other.tenant in
    inl (only-own b other.tenant _ name u c (comes-terminate n part name.id now b.charged u final other.id (visible_upload part other.id now) refl))
comes-event b Sweep now name u final c =
    let same : tenant_book (book_after_sweep b now) name.tenant ≡ part_after_sweep now (tenant_book b name.tenant) = get_or-map (part_after_sweep now) b.tenants name.tenant (opening_part 0) in
    inl (comes-sweep b.settings.numbers (tenant_book b name.tenant) name.id now b.charged u final (subst (λ (part : TenantBook). Contains part.uploads (record { id = name.id; kept = u })) same c))
comes-event b (Concat tenant new) now name u final c = elim (comes-book b tenant _ name u c) [
  | inl before ↦ inl before
  | inr its ↦
      let n = b.settings.numbers in
      let part = tenant_book b tenant in
      elim (comes-concat n part name.id now b.charged u final new (concat_refusal n part new now) refl its.1) [
        | inl before ↦ inl (had b tenant name u its.0 before)
        | inr made ↦ inr (inl (joined name.tenant (sym its.0) made))
      ]
]
  where
    joined : (t : ℕ) → tenant ≡ t
        → (concat_refusal b.settings.numbers (tenant_book b tenant) new now ≡ None) × ((tenant_book b tenant).next ≡ name.id) × (joined_upload b.settings.numbers (tenant_book b tenant) new now ≡ u)
        → IsJoinedBy b (record { change = Concat tenant new; now = now }) (record { tenant = t; id = name.id }) u
    joined t same made = subst (λ t. IsJoinedBy b (record { change = Concat tenant new; now = now }) (record { tenant = t; id = name.id }) u) same (record {
      new = new;
      is = refl;
      accepted = rw made.0 refl;
      id = sym made.1;
      upload = sym made.2;
    })

-- a final upload of a book after events was there before them, or came by one of them
comes-all : (b : PlainBook) (events : List ChangeEvent) (name : Name) (u : Upload) → u.kind ≡ Final → HasUpload (book_after_all b events) name u → HasUpload b name u ⊎ IsMadeIn b events name u
comes-all b [] name u final c = inl c
comes-all b (e ∷ events) name u final c = elim (comes-all (book_after_event b e) events name u final c) [
  | inr later ↦ inr (record {
    before = e ∷ later.before;
    event = later.event;
    after = later.after;
    all = ap (λ rest. e ∷ rest) later.all;
    made = later.made;
  })
  | inl here ↦ elim (comes-event b e.change e.now name u final here) [
    | inl before ↦ inl before
    | inr made ↦ inr (record { before = []; event = e; after = events; all = refl; made = made })
  ]
]

-- an opening book has no upload
opening-none : (s : Settings) (name : Name) (u : Upload) → HasUpload (opening_book s) name u → ⊥
opening-none s name u c =
    let nobody : TenantQuota = record { name = []; quota = 0 } in
    let same : tenant_book (opening_book s) name.tenant ≡ opening_part (get_or s.tenants name.tenant nobody).quota = get_or-map (λ (t : TenantQuota). opening_part {K = Upload} t.quota) s.tenants name.tenant nobody in
    Contains-none (record { id = name.id; kept = u }) (subst (λ (part : TenantBook). Contains part.uploads (record { id = name.id; kept = u })) same c)

pub finals_stay : FinalsStay
finals_stay = record {
  stays = stays-all;
  lasts = lasts-all;
  since = comes-all;
  comes = λ s events name u final c. elim (comes-all (opening_book s) events name u final c) [
    | inl opening ↦ absurd (opening-none s name u opening)
    | inr made ↦ made
  ];
}
