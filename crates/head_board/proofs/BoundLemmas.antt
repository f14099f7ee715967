-- Rows that do not end before a bound.
use Rattle.std.proofs.Common.{◌≡◌, ℕ, ◌<◌, ◌≤◌, Bool, true, false, eqb, leb, not, if◌then◌else◌, List, [], ◌∷◌, ◌++◌, length, get_or, map, set, take, Option, Some, None, refl, ap, ap₂, sym, subst, ◌∙◌, arith}
use Rattle.std.specs.List.{All, filter}
use Rattle.std.proofs.Math.ListN.{get_or-map, length-map}
use Rattle.std.proofs.lemmas.Bool.Decides.{nat_tests}
use Rattle.std.proofs.lemmas.Bool.{eq-eqb}
use Rattle.std.proofs.lemmas.List.{take_all}
use Rattle.std.proofs.lemmas.List.Elements.{All-filter, All-get_or, All-head, All-map, All-push, All-set, All-tail, All-weaker}
use Rattle.upload_book.specs.declared.head_note.Growth.{Growth}
use Rattle.upload_book.specs.declared.head_row.HeadRow.{HeadRow}
use Rattle.upload_book.specs.declared.settings.TenantQuota.{TenantQuota}
use Rattle.upload_book.specs.Expiry.{has_expired}
use Rattle.upload_book.specs.HeadNotes.{row_grown}
use Rattle.upload_book.specs.Heads.{HeadPart, with_row, without_expired}
use Rattle.upload_book.specs.TenantBook.{Entry, opening_part, with_kept, with_new, with_next}
use Rattle.upload_book.specs.Terminate.{without}
use Rattle.upload_book.proofs.Lawful.Entries.{filter_all}
use Rattle.head_board.proofs.TableLemmas.{swept}
use Rattle.head_board.specs.inside.HeadTable.{opening_parts}
use Rattle.head_board.specs.inside.Rows.{AreBounded, AreFresh, IsGrown, IsNotBefore, Rows, earlier}

-- an end that is not before a bound is not before an earlier one,
pub not_before-first : (bound end other : Option ℕ) → IsNotBefore bound other → IsNotBefore (earlier bound end) other
not_before-first bound end None is = tt
not_before-first None end (Some other) is = absurd is
not_before-first (Some bound) None (Some other) is = is
not_before-first (Some bound) (Some end) (Some other) is = omega (arith, is)

-- whichever it is of the two
pub not_before-second : (bound end other : Option ℕ) → IsNotBefore end other → IsNotBefore (earlier bound end) other
not_before-second bound end None is = tt
not_before-second None end (Some other) is = is
not_before-second (Some bound) None (Some other) is = absurd is
not_before-second (Some bound) (Some end) (Some other) is = omega (arith, is)

-- an end is not before itself
pub not_before-self : (end : Option ℕ) → IsNotBefore end end
not_before-self None = tt
not_before-self (Some end) = omega arith

-- the rows stay behind an earlier bound,
pub bounded-first : (bound end : Option ℕ) (rows : List (Entry HeadRow)) → AreBounded bound rows → AreBounded (earlier bound end) rows
bounded-first bound end rows are =
    All-weaker (λ (e : Entry HeadRow). IsNotBefore bound e.kept.expires) (λ (e : Entry HeadRow). IsNotBefore (earlier bound end) e.kept.expires) (λ (e : Entry HeadRow) is. not_before-first bound end e.kept.expires is) rows are

pub bounded-second : (bound end : Option ℕ) (rows : List (Entry HeadRow)) → AreBounded end rows → AreBounded (earlier bound end) rows
bounded-second bound end rows are =
    All-weaker (λ (e : Entry HeadRow). IsNotBefore end e.kept.expires) (λ (e : Entry HeadRow). IsNotBefore (earlier bound end) e.kept.expires) (λ (e : Entry HeadRow) is. not_before-second bound end e.kept.expires is) rows are

-- so they do with one more,
pub bounded-more : (bound : Option ℕ) (rows : List (Entry HeadRow)) (e : Entry HeadRow) → AreBounded bound rows → AreBounded (earlier bound e.kept.expires) (rows ++ e ∷ [])
bounded-more bound rows e are =
    All-push (λ (x : Entry HeadRow). IsNotBefore (earlier bound e.kept.expires) x.kept.expires) rows e (bounded-first bound e.kept.expires rows are) (not_before-second bound e.kept.expires e.kept.expires (not_before-self e.kept.expires))

-- with another one under an id,
bounded-kept : (bound : Option ℕ) (rows : List (Entry HeadRow)) (id : ℕ) (row : HeadRow) → AreBounded bound rows → AreBounded (earlier bound row.expires) (with_kept rows id row)
bounded-kept bound rows id row are =
    let P : Entry HeadRow → Type 0 = λ (e : Entry HeadRow). IsNotBefore (earlier bound row.expires) e.kept.expires in
    let f : Entry HeadRow → Entry HeadRow = λ e. if eqb e.id id then record e { kept = row } else e in
    All-map P f rows (All-weaker P (λ (e : Entry HeadRow). P (f e)) (λ (e : Entry HeadRow) is. by_test (eqb e.id id) e is) rows (bounded-first bound row.expires rows are))
  where
    by_test : (test : Bool) (e : Entry HeadRow) → IsNotBefore (earlier bound row.expires) e.kept.expires → IsNotBefore (earlier bound row.expires) (if test then record e { kept = row } else e).kept.expires
    by_test true e is = not_before-second bound row.expires row.expires (not_before-self row.expires)
    by_test false e is = is

-- and with fewer
pub bounded-fewer : (bound : Option ℕ) (p : Entry HeadRow → Bool) (rows : List (Entry HeadRow)) → AreBounded bound rows → AreBounded bound (filter p rows)
bounded-fewer bound p rows are = All-filter p (λ (e : Entry HeadRow). IsNotBefore bound e.kept.expires) rows are

-- the rows of a tenant with a new one
pub bounded-created : (bound : Option ℕ) (r after : Rows) (row : HeadRow) (done : Bool) → after ≡ (if done then record r { part = with_row r.part r.part.next row } else r) → AreBounded bound r.part.uploads → AreBounded (earlier bound row.expires) after.part.uploads
bounded-created bound r after row true is are =
    let next : HeadPart = with_row r.part r.part.next row in
    let same : next ≡ with_new r.part row = rw (eq-eqb r.part.next r.part.next refl) refl in
    subst (λ (part : HeadPart). AreBounded (earlier bound row.expires) part.uploads) (sym (ap (λ (r : Rows). r.part) is ∙ same)) (bounded-more bound r.part.uploads (record { id = r.part.next; kept = row }) are)
bounded-created bound r after row false is are =
    subst (λ (r : Rows). AreBounded (earlier bound row.expires) r.part.uploads) (sym is) (bounded-first bound row.expires r.part.uploads are)

-- and with one that grew
pub bounded-grown : (bound : Option ℕ) (r after : Rows) (id : ℕ) (growth : Growth) (done : Bool) → IsGrown r id growth done after → AreBounded bound r.part.uploads → AreBounded (earlier bound growth.expires) after.part.uploads
bounded-grown bound r after id growth true grown are =
    subst (λ (r : Rows). AreBounded (earlier bound growth.expires) r.part.uploads) (sym grown.3) (bounded-kept bound r.part.uploads id (row_grown growth grown.0) are)
bounded-grown bound r after id growth false grown are =
    subst (λ (r : Rows). AreBounded (earlier bound growth.expires) r.part.uploads) (sym grown.1) (bounded-first bound growth.expires r.part.uploads are)

-- the rows of all tenants behind a bound
abbrev pub AllBounded : Option ℕ → List Rows → Type 0
AllBounded bound parts = All (λ (r : Rows). AreBounded bound r.part.uploads) parts

-- where those of one change, and the bound comes earlier
pub bounded-put : (bound end : Option ℕ) (parts : List Rows) (place : ℕ) (after : Rows) → AreBounded (earlier bound end) after.part.uploads → AllBounded bound parts → AllBounded (earlier bound end) (set parts place after)
bounded-put bound end parts place after here all =
    All-set (λ (r : Rows). AreBounded (earlier bound end) r.part.uploads) parts place after here
    (All-weaker (λ (r : Rows). AreBounded bound r.part.uploads) (λ (r : Rows). AreBounded (earlier bound end) r.part.uploads) (λ (r : Rows) are. bounded-first bound end r.part.uploads are) parts all)

-- a next id that is put back leaves the rows
pub bounded-next : (bound : Option ℕ) (parts : List Rows) (place next : ℕ) (r after : Rows) (done : Bool) → place < length parts → r ≡ get_or parts place r → after ≡ (if done then record r { part = with_next r.part next } else r) → AllBounded bound parts → AllBounded bound (set parts place after)
bounded-next bound parts place next r after done within read is all =
    let P : Rows → Type 0 = λ (r : Rows). AreBounded bound r.part.uploads in
    All-set P parts place after (subst (AreBounded bound) (sym (same done is)) (subst P (sym read) (All-get_or P parts place r within all))) all
  where
    same : (done : Bool) → after ≡ (if done then record r { part = with_next r.part next } else r) → after.part.uploads ≡ r.part.uploads
    same true is = ap (λ (r : Rows). r.part.uploads) is
    same false is = ap (λ (r : Rows). r.part.uploads) is

-- of a part that is read the rows are
pub bounded-read : (bound : Option ℕ) (parts : List Rows) (place : ℕ) (r : Rows) → place < length parts → r ≡ get_or parts place r → AllBounded bound parts → AreBounded bound r.part.uploads
bounded-read bound parts place r within read all =
    let P : Rows → Type 0 = λ (r : Rows). AreBounded bound r.part.uploads in
    subst P (sym read) (All-get_or P parts place r within all)

module _ {X Y : Type 0} (P : Y → Type 0) (f : X → Y) where
  -- what is true of all that is made of a list, is true of what is made of each
  pub All-unmap : (xs : List X) → All P (map f xs) → All (λ x. P (f x)) xs
  All-unmap xs all = λ k d within. subst P (get_or-map f xs k d) (all k (f d) (omega (arith, length-map xs f)))

-- the rows of all tenants that were read
pub bounded-all : (bound : Option ℕ) (i : ℕ) (parts read : List Rows) → read ≡ parts → length read ≤ i → AllBounded bound (take i read) → All (λ (part : HeadPart). AreBounded bound part.uploads) (map {A = Rows} {B = HeadPart} (λ r. r.part) parts)
bounded-all bound i parts read same all are =
    All-map (λ (part : HeadPart). AreBounded bound part.uploads) (λ (r : Rows). r.part) parts (subst (AllBounded bound) (take_all i read all ∙ same) are)

-- a new book has no row
pub bounded-opening : (tenants : List TenantQuota) (parts : List Rows) → map {A = Rows} {B = HeadPart} (λ r. r.part) parts ≡ opening_parts tenants → AllBounded None parts
bounded-opening tenants parts is =
    let P : HeadPart → Type 0 = λ (part : HeadPart). AreBounded None part.uploads in
    let opened : TenantQuota → HeadPart = λ t. opening_part t.quota in
    All-unmap P (λ (r : Rows). r.part) parts (subst (All P) (sym is) (All-map P opened tenants (λ k d within. λ k d within. absurd (omega arith))))

-- before the bound no row has expired
pub fresh-before : (bound : Option ℕ) (now : ℕ) (rows : List (Entry HeadRow)) → ((end : ℕ) → bound ≡ Some end → now < end) → AreBounded bound rows → AreFresh now rows
fresh-before bound now rows before are =
    All-weaker (λ (e : Entry HeadRow). IsNotBefore bound e.kept.expires) (λ (e : Entry HeadRow). has_expired now e.kept.expires ≡ false) (λ (e : Entry HeadRow) is. by_end bound e.kept.expires before is) rows are
  where
    by_end : (bound end : Option ℕ) → ((end : ℕ) → bound ≡ Some end → now < end) → IsNotBefore bound end → has_expired now end ≡ false
    by_end bound None before is = refl
    by_end None (Some end) before is = absurd is
    by_end (Some bound) (Some end) before is = (let early = before bound refl in grind (arith, nat_tests))

-- a sweep leaves rows behind their bound
pub bounded-swept : (bound : Option ℕ) (now : ℕ) (parts : List Rows) → AllBounded bound parts → AllBounded bound (map {A = Rows} {B = Rows} (swept now) parts)
bounded-swept bound now parts all =
    let P : Rows → Type 0 = λ (r : Rows). AreBounded bound r.part.uploads in
    All-map P (swept now) parts (All-weaker P (λ (r : Rows). P (swept now r)) (λ (r : Rows) are. bounded-fewer bound (λ e. not (has_expired now e.kept.expires)) r.part.uploads are) parts all)

-- and so does one upload that ends
pub bounded-removed : (bound : Option ℕ) (parts : List Rows) (place id : ℕ) (r after : Rows) → place < length parts → r ≡ get_or parts place r → after ≡ record r { part = without r.part id } → AllBounded bound parts → AllBounded bound (set parts place after)
bounded-removed bound parts place id r after within read is all =
    let P : Rows → Type 0 = λ (r : Rows). AreBounded bound r.part.uploads in
    All-set P parts place after (subst P (sym is) (bounded-fewer bound (λ e. not (eqb e.id id)) r.part.uploads (bounded-read bound parts place r within read all))) all

-- where the bound has not come, no row of any tenant has expired,
pub fresh-parts : (bound : Option ℕ) (now : ℕ) (parts : List Rows) → ((end : ℕ) → bound ≡ Some end → now < end) → AllBounded bound parts → All (λ (part : HeadPart). AreFresh now part.uploads) (map {A = Rows} {B = HeadPart} (λ r. r.part) parts)
fresh-parts bound now parts before all =
    All-map (λ (part : HeadPart). AreFresh now part.uploads) (λ (r : Rows). r.part) parts
    (All-weaker (λ (r : Rows). AreBounded bound r.part.uploads) (λ (r : Rows). AreFresh now r.part.uploads) (λ (r : Rows) are. fresh-before bound now r.part.uploads before are) parts all)

-- a moment before the bound
pub before-some : (bound : Option ℕ) (first now : ℕ) → bound ≡ Some first → leb first now ≡ false → (end : ℕ) → bound ≡ Some end → now < end
before-some bound first now is late end there =
    let same : first ≡ end = cc (is, there) in
    grind (arith, nat_tests)

-- where there is no bound, none comes
pub before-none : (bound : Option ℕ) (now : ℕ) → bound ≡ None → (end : ℕ) → bound ≡ Some end → now < end
before-none bound now is end there = absurd (cc (is, there))

-- and a sweep leaves a part of which none has
fresh-part : (now : ℕ) (part : HeadPart) → AreFresh now part.uploads → without_expired now part ≡ part
fresh-part now part are =
    ap (λ (rows : List (Entry HeadRow)). let p : HeadPart = record part { uploads = rows } in p) (filter_all (λ e. not (has_expired now e.kept.expires)) part.uploads (λ k d within. ap not (are k d within)))

-- so it leaves them all
pub fresh-heads : (now : ℕ) (parts : List HeadPart) → All (λ (part : HeadPart). AreFresh now part.uploads) parts → map {A = HeadPart} {B = HeadPart} (without_expired now) parts ≡ parts
fresh-heads now [] all = refl
fresh-heads now (part ∷ parts) all =
    let P : HeadPart → Type 0 = λ (part : HeadPart). AreFresh now part.uploads in
    ap₂ (λ (part : HeadPart) parts. part ∷ parts) (fresh-part now part (All-head P part parts all)) (fresh-heads now parts (All-tail P part parts all))
