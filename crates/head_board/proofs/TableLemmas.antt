-- A table of heads, part by part.
use Rattle.std.proofs.Common.{◌≡◌, ℕ, zero, suc, ◌+◌, ◌<◌, ◌≤◌, Bool, true, false, if◌then◌else◌, List, [], ◌∷◌, ◌++◌, map, take, drop, length, get_or, set, option_map, Some, None, eqb, leb, ltb, ◌&&◌, ◌||◌, slice_get, refl, add-one, sym, ap, ap₂, subst, ◌∙◌, arith}
use Rattle.std.specs.List.{All, range_with_len}
use Rattle.std.specs.Option.{option_map_or}
use Rattle.std.proofs.Math.ListN.{get_or-map, length-map}
use Rattle.std.proofs.lemmas.Bool.Decides.{nat_tests}
use Rattle.std.proofs.lemmas.List.{append-nil, drop_all, get_or_default, map-append, map-set, set-get_or, take_all}
use Rattle.std.proofs.lemmas.List.Elements.{All-get_or, All-map, All-set}
use Rattle.upload_book.specs.declared.board_line.Accounts.{Accounts}
use Rattle.upload_book.specs.declared.board_line.HeadChange.{HeadChange}
use Rattle.upload_book.specs.declared.board_line.HeadChange.TheVariants.{Put}
use Rattle.upload_book.specs.declared.head_note.Growth.{Growth}
use Rattle.upload_book.specs.declared.head_note.NotedChange.{NotedChange}
use Rattle.upload_book.specs.declared.head_note.NotedChange.TheVariants.{Grown, Next}
use Rattle.upload_book.specs.declared.head_row.HeadRow.{HeadRow}
use Rattle.upload_book.specs.declared.head_row.Name.{Name}
use Rattle.upload_book.specs.declared.settings.TenantQuota.{TenantQuota}
use Rattle.upload_book.specs.Charge.{charge_in}
use Rattle.upload_book.specs.HeadNotes.{change_told, row_grown}
use Rattle.upload_book.specs.Heads.{HeadPart, Heads, accounts_of, head_part, head_part_at, heads_of, parts_after, without_expired}
use Rattle.upload_book.specs.PlainBook.{opening_book, tenant_book}
use Rattle.upload_book.specs.Settings.{Settings}
use Rattle.upload_book.specs.TenantBook.{TenantBook, kept_in, opening_part, with_changed}
use Rattle.head_board.specs.inside.Rows.{IsGrown, Rows}
use Rattle.head_board.specs.inside.HeadTable.{is_taken, opening_parts, parts_noted}
use Rattle.head_board.specs.Room.{has_room}

-- a list of numbers that are all 0
all_zero : (f : ℕ → ℕ) → ((k : ℕ) → f k ≡ 0) → (ks : List ℕ) → map f ks ≡ map (λ (k : ℕ). 0) ks
all_zero f zeros [] = refl
all_zero f zeros (k ∷ ks) = cc (zeros k, all_zero f zeros ks)

-- nothing is charged at the start
pub opening-accounts : (s : Settings) → accounts_of (opening_book s) ≡ record { charged = 0; released = 0; charge = map (λ (k : ℕ). 0) (range_with_len 0 16) }
opening-accounts s =
    let opened : TenantQuota → TenantBook = λ t. opening_part t.quota in
    let none : TenantQuota = record { name = []; quota = 0 } in
    let each : (k : ℕ) → charge_in s.numbers (tenant_book (opening_book s) k) ≡ 0 = λ k. ap (charge_in s.numbers) (get_or-map opened s.tenants k none) in
    ap (λ (charges : List ℕ). let a : Accounts = record { charged = 0; released = 0; charge = charges } in a) (all_zero (λ k. charge_in s.numbers (tenant_book (opening_book s) k)) each (range_with_len 0 16))

-- and no tenant has a row
pub opening-heads : (tenants : List TenantQuota) → opening_parts tenants ≡ map {A = TenantBook} {B = HeadPart} head_part (map {A = TenantQuota} {B = TenantBook} (λ t. opening_part t.quota) tenants)
opening-heads [] = refl
opening-heads (t ∷ tenants) = ap (λ parts. opening_part t.quota ∷ parts) (opening-heads tenants)

-- a tenant's rows once more, as its part of the heads
abbrev part_of : Rows → HeadPart
part_of r = r.part

-- the heads with these rows
abbrev heads : Settings → Accounts → List Rows → Heads
heads s a parts = record { settings = s; tenants = map {A = Rows} {B = HeadPart} part_of parts; accounts = a }

-- the rows of a tenant are its part
part-read : (s : Settings) (a : Accounts) (parts : List Rows) (t : ℕ) (r : Rows) → t < length parts → r ≡ get_or parts t r → head_part_at (heads s a parts) t ≡ r.part
part-read s a parts t r within read =
    let none : Rows = record { part = opening_part 0; room = 0 } in
    get_or-map part_of parts t none ∙ ap part_of (get_or_default parts t none r within ∙ sym read)

-- what is true of the second is true
or-true : (b c : Bool) → (b || (true || c)) ≡ true
or-true true c = refl
or-true false c = refl

-- the rows of a tenant change, or stay
pub heads-put : (s : Settings) (a : Accounts) (parts : List Rows) (t place : ℕ) (r after : Rows) (f : HeadPart → HeadPart) (done : Bool) → place ≡ t → place < length parts → r ≡ get_or parts place r → after ≡ (if done then record r { part = f r.part } else r)
    → heads s a (set parts place after) ≡ (if done then record (heads s a parts) { tenants = set (heads s a parts).tenants t (f (head_part_at (heads s a parts) t)) } else heads s a parts)
heads-put s a parts t place r after f true same within read is =
    ap (λ (tenants : List HeadPart). let h : Heads = record { settings = s; tenants = tenants; accounts = a } in h)
    (map-set part_of parts place after ∙ ap (set (heads s a parts).tenants place) (ap part_of is ∙ ap f (sym (part-read s a parts place r within read)))
    ∙ ap (λ k. set (heads s a parts).tenants k (f (head_part_at (heads s a parts) k))) same)
heads-put s a parts t place r after f false same within read is =
    ap (heads s a) (ap (set parts place) (is ∙ read) ∙ set-get_or parts place r)

-- the room for them stays
pub room-put : (room : ℕ) (parts : List Rows) (place : ℕ) (r after : Rows) (f : HeadPart → HeadPart) (done : Bool) → place < length parts → r ≡ get_or parts place r → after ≡ (if done then record r { part = f r.part } else r)
    → All (λ (r : Rows). r.room ≡ room) parts → All (λ (r : Rows). r.room ≡ room) (set parts place after)
room-put room parts place r after f done within read is all =
    let P : Rows → Type 0 = λ (r : Rows). r.room ≡ room in
    All-set P parts place after (kept done is ∙ subst P (sym read) (All-get_or P parts place r within all)) all
  where
    kept : (done : Bool) → after ≡ (if done then record r { part = f r.part } else r) → after.room ≡ r.room
    kept true is = ap (λ (r : Rows). r.room) is
    kept false is = ap (λ (r : Rows). r.room) is

-- something is told as this change of the heads
module _ (h : Heads) (noted : NotedChange) (head : HeadChange) (told : change_told h noted ≡ Some head) where
  taken-told : is_taken h noted ≡ has_room h head
  taken-told = ap (λ change. option_map_or (has_room h) change false) told

  parts-told : parts_noted h noted ≡ parts_after h head
  parts-told = ap (λ change. option_map_or (parts_after h) change h.tenants) told

-- a tenant's next id is taken where none is given again
pub taken-next : (s : Settings) (a : Accounts) (parts : List Rows) (name : Name) (place : ℕ) (r : Rows) (done : Bool) → place ≡ name.tenant → place < length parts → r ≡ get_or parts place r → done ≡ leb r.part.next name.id
    → done ≡ is_taken (heads s a parts) (Next name)
taken-next s a parts name place r done same within read is =
    let h : Heads = heads s a parts in
    let at : head_part_at h name.tenant ≡ r.part = ap (head_part_at h) (sym same) ∙ part-read s a parts place r within read in
    let there : leb (length h.tenants) name.tenant ≡ false = inside name.tenant place (length parts) (length h.tenants) same within (length-map parts part_of) in
    is ∙ sym (ap₂ (λ (past : Bool) (part : HeadPart). past || leb part.next name.id) there at)
  where
    inside : (t place there tenants : ℕ) → place ≡ t → place < there → tenants ≡ there → leb tenants t ≡ false
    inside t place there tenants same within long = grind (arith, nat_tests)

-- the row of a tenant that grew, or did not stand
module _ (s : Settings) (a : Accounts) (parts : List Rows) (name : Name) (growth : Growth) (place : ℕ) (r after : Rows) (same : place ≡ name.tenant) (within : place < length parts) (read : r ≡ get_or parts place r) where
  part-here : head_part_at (heads s a parts) name.tenant ≡ r.part
  part-here = ap (head_part_at (heads s a parts)) (sym same) ∙ part-read s a parts place r within read

  pub heads-grown : (done : Bool) → IsGrown r name.id growth done after
      → (done ≡ is_taken (heads s a parts) (Grown name growth))
      × (heads s a (set parts place after) ≡ (if done then record (heads s a parts) { tenants = parts_noted (heads s a parts) (Grown name growth) } else heads s a parts))
  heads-grown true grown =
      let h : Heads = heads s a parts in
      let row : HeadRow = row_grown growth grown.0 in
      let put : HeadRow → HeadChange = λ row. Put name (row_grown growth row) in
      let told : change_told h (Grown name growth) ≡ Some (Put name row) = ap (λ (part : HeadPart). option_map put (kept_in part.uploads name.id)) part-here ∙ ap (option_map put) grown.1 in
      let apart : eqb name.id (head_part_at h name.tenant).next ≡ false = ap (λ (part : HeadPart). eqb name.id part.next) part-here ∙ grown.2 in
      let room : has_room h (Put name row) ≡ true = rw apart (or-true (leb (length h.tenants) name.tenant) (ltb (length (head_part_at h name.tenant).uploads) s.numbers.uploads && leb (head_part_at h name.tenant).next s.numbers.last_id)) in
      let with_parts : List HeadPart → Heads = λ parts. record h { tenants = parts } in
      let put_there : parts_after h (Put name row) ≡ set h.tenants name.tenant (with_changed (head_part_at h name.tenant) name.id row) = rw apart refl in (
        sym (taken-told h (Grown name growth) (Put name row) told ∙ room),
        heads-put s a parts name.tenant place r after (λ part. with_changed part name.id row) true same within read grown.3
            ∙ ap with_parts (sym (parts-told h (Grown name growth) (Put name row) told ∙ put_there)),
      )
  heads-grown false grown =
      let h : Heads = heads s a parts in
      let put : HeadRow → HeadChange = λ row. Put name (row_grown growth row) in
      let told : change_told h (Grown name growth) ≡ None = ap (λ (part : HeadPart). option_map put (kept_in part.uploads name.id)) part-here ∙ ap (option_map put) grown.0 in (
        sym (ap (λ change. option_map_or (has_room h) change false) told),
        ap (heads s a) (ap (set parts place) (grown.1 ∙ read) ∙ set-get_or parts place r),
      )

  -- its room stays
  pub room-grown : (room : ℕ) (done : Bool) → IsGrown r name.id growth done after → All (λ (r : Rows). r.room ≡ room) parts → All (λ (r : Rows). r.room ≡ room) (set parts place after)
  room-grown room true grown all = room-put room parts place r after (λ part. with_changed part name.id (row_grown growth grown.0)) true within read grown.3 all
  room-grown room false grown all = room-put room parts place r after (λ part. part) false within read grown.1 all

-- the rows of a tenant without those that have expired
abbrev pub swept : ℕ → Rows → Rows
swept now r = record r { part = without_expired now r.part }

-- the heads of swept rows are swept
pub heads-swept : (now : ℕ) (parts : List Rows) → map {A = Rows} {B = HeadPart} part_of (map {A = Rows} {B = Rows} (swept now) parts) ≡ map {A = HeadPart} {B = HeadPart} (without_expired now) (map {A = Rows} {B = HeadPart} part_of parts)
heads-swept now [] = refl
heads-swept now (r ∷ parts) = ap (λ rest. without_expired now r.part ∷ rest) (heads-swept now parts)

-- and have the same room
pub room-swept : (now room : ℕ) (parts : List Rows) → All (λ (r : Rows). r.room ≡ room) parts → All (λ (r : Rows). r.room ≡ room) (map {A = Rows} {B = Rows} (swept now) parts)
room-swept now room parts all = All-map (λ (r : Rows). r.room ≡ room) (swept now) parts all

opening-more : (tenants : List TenantQuota) (k quota : ℕ) → slice_get (map {A = TenantQuota} {B = ℕ} (λ t. t.quota) tenants) k ≡ Some quota → opening_parts (take (suc k) tenants) ≡ opening_parts (take k tenants) ++ opening_part quota ∷ []
opening-more [] k quota is = absurd cc
opening-more (t ∷ tenants) zero quota is = let same : t.quota ≡ quota = cc in rw same refl
opening-more (t ∷ tenants) (suc k) quota is = ap (λ rest. opening_part t.quota ∷ rest) (opening-more tenants k quota is)

-- the rows of one more tenant
pub parts-more : (tenants : List TenantQuota) (parts items : List Rows) (k quota room : ℕ) → items ≡ parts ++ record { part = opening_part quota; room = room } ∷ []
    → slice_get (map {A = TenantQuota} {B = ℕ} (λ t. t.quota) tenants) k ≡ Some quota → map {A = Rows} {B = HeadPart} part_of parts ≡ opening_parts (take k tenants)
    → map {A = Rows} {B = HeadPart} part_of items ≡ opening_parts (take (k + 1) tenants)
parts-more tenants parts items k quota room is there before =
    let made : Rows = record { part = opening_part quota; room = room } in
    ap (map {A = Rows} {B = HeadPart} part_of) is ∙ map-append part_of parts (made ∷ []) ∙ ap (λ all. all ++ opening_part quota ∷ []) before
    ∙ sym (ap (λ n. opening_parts (take n tenants)) (add-one k) ∙ opening-more tenants k quota there)

-- at the end all rows are swept
pub swept-all : (now : ℕ) (xs ys : List Rows) (i : ℕ) → ys ≡ map {A = Rows} {B = Rows} (swept now) (take i xs) ++ drop i xs → length xs ≤ i → ys ≡ map {A = Rows} {B = Rows} (swept now) xs
swept-all now xs ys i is all = is ∙ rw (take_all i xs all, drop_all i xs all, append-nil) refl

-- the heads of a new book
pub opening-table : (s copied : Settings) (parts : List Rows) → copied ≡ s → map {A = Rows} {B = HeadPart} part_of parts ≡ opening_parts s.tenants
    → heads copied (record { charged = 0; released = 0; charge = map (λ (k : ℕ). 0) (range_with_len 0 16) }) parts ≡ heads_of (opening_book s)
opening-table s copied parts same is =
    let zeros : Accounts = record { charged = 0; released = 0; charge = map (λ (k : ℕ). 0) (range_with_len 0 16) } in
    ap (λ s. heads s zeros parts) same
    ∙ ap₂ (λ (tenants : List HeadPart) (a : Accounts). let h : Heads = record { settings = s; tenants = tenants; accounts = a } in h) (is ∙ opening-heads s.tenants) (sym (opening-accounts s))
