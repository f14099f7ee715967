-- A lawful book is put back by its snapshot.
use Rattle.std.proofs.Common.{◌≡◌, ℕ, ◌+◌, ◌-◌, ◌<◌, ◌≤◌, Bool, false, ltb, List, [], ◌∷◌, ◌++◌, map, length, set, None, refl, sym, ap, ap₂, subst, ◌∙◌, arith, append_assoc, length-append}
use Rattle.std.specs.List.{All, sum_by}
use Rattle.std.proofs.lemmas.Bool.Decides.{nat_tests}
use Rattle.std.proofs.lemmas.List.{append-nil, get_or_at, set_at}
use Rattle.std.proofs.lemmas.List.Elements.{All-head, All-nil, All-tail}
use Rattle.std.proofs.lemmas.List.Sums.{sum_by-cons}
use Rattle.upload_book.specs.Charge.{charge_in, price}
use Rattle.upload_book.specs.declared.settings.Numbers.{Numbers}
use Rattle.upload_book.specs.declared.settings.TenantQuota.{TenantQuota}
use Rattle.upload_book.specs.Lawful.{IsLawful, IsTenantOf}
use Rattle.upload_book.specs.PlainBook.{PlainBook, opening_book, tenant_book, with_tenant_book}
use Rattle.upload_book.specs.declared.refusal.Refusal.TheVariants.{Field, Spent}
use Rattle.upload_book.specs.Refusal.{first_that_holds}
use Rattle.upload_book.specs.snapshot.Restore.{CanBePutBack, book_after_piece, book_with, next_tests, part_with, piece_refusal, restore_refusal, sent_back, sent_in}
use Rattle.upload_book.specs.declared.restored.Restored.TheVariants as piece
use Rattle.upload_book.specs.declared.restored.Restored.{Restored}
use Rattle.upload_book.specs.Settings.{Settings}
use Rattle.upload_book.specs.snapshot.Snapshot.{AreAccepted, SnapshotsRestore, book_after_pieces, parts_kept, snapshot_of, upload_kept, uploads_kept}
use Rattle.upload_book.specs.TenantBook.{Entry, TenantBook, opening_part}
use Rattle.upload_book.specs.Upload.{Upload}
use Rattle.upload_book.proofs.Charge.SumsBelow.{sum_below-none}
use Rattle.upload_book.proofs.Lawful.LawfulSteps.{opening_parts}
use Rattle.upload_book.proofs.Restoring.LawfulBack.{IsLawful-piece}
use Rattle.upload_book.proofs.Restoring.SegmentsBack.{sources-below}
use Rattle.upload_book.proofs.Restoring.UploadsBack.{IsNextBack, asked-kept, before-below, before-paid, charge-end, front, given, least-after, more-paid, next-below, part-with, restore-kept}

-- a book accepts these pieces, one after another, and is that one after them
abbrev PutsBack : PlainBook → List Restored → PlainBook → Type 0
PutsBack b pieces after = AreAccepted b pieces × (book_after_pieces b pieces ≡ after)

after-accepted : (b : PlainBook) (first : Restored) → piece_refusal b first ≡ None → book_after_piece b first ≡ book_with b first
after-accepted b first none = rw none refl

PutsBack-cons : (b next after : PlainBook) (first : Restored) (others : List Restored) → CanBePutBack (length b.tenants) first → piece_refusal b first ≡ None → book_with b first ≡ next → PutsBack next others after → PutsBack b (first ∷ others) after
PutsBack-cons b next after first others asked none is rest =
    let step : book_after_piece b first ≡ next = after-accepted b first none ∙ is in
    ((asked, none, subst (λ b. AreAccepted b others) (sym step) rest.0), ap (λ b. book_after_pieces b others) step ∙ rest.1)

PutsBack-append : (b next after : PlainBook) (some others : List Restored) → PutsBack b some next → PutsBack next others after → PutsBack b (some ++ others) after
PutsBack-append b next after [] others first rest = subst (λ b. PutsBack b others after) (sym first.1) rest
PutsBack-append b next after (piece ∷ some) others first rest =
    let more : PutsBack (book_after_piece b piece) (some ++ others) after = PutsBack-append (book_after_piece b piece) next after some others (first.0.2, first.1) rest in
    ((first.0.0, first.0.1, more.0), more.1)

-- a book with these parts in which so many blocks were charged, and none released
abbrev book_of : Settings → List TenantBook → ℕ → PlainBook
book_of s tenants charged = record { settings = s; tenants = tenants; charged = charged; released = 0 }

-- one in which so many were released
abbrev book_at : Settings → List TenantBook → ℕ → ℕ → PlainBook
book_at s tenants charged released = record { settings = s; tenants = tenants; charged = charged; released = released }

-- the part of a tenant becomes another that pays no less
with-part : (s : Settings) (done rest : List TenantBook) (before later : TenantBook) (charged t : ℕ) → length done ≡ t → charge_in s.numbers before ≤ charge_in s.numbers later
    → with_tenant_book (book_of s (done ++ before ∷ rest) charged) t later ≡ book_of s (done ++ later ∷ rest) (charged + (charge_in s.numbers later - charge_in s.numbers before))
with-part s done rest before later charged t place more =
    let b : PlainBook = book_of s (done ++ before ∷ rest) charged in
    let here : tenant_book b t ≡ before = get_or_at done before rest (opening_part 0) t place in
    let tenants : set b.tenants t later ≡ done ++ later ∷ rest = set_at done before rest later t place in
    let pays : charge_in s.numbers (tenant_book b t) ≡ charge_in s.numbers before = ap (charge_in s.numbers) here in
    let none : 0 + (charge_in s.numbers (tenant_book b t) - charge_in s.numbers later) ≡ 0 = nothing _ _ _ pays more in
    let added : charged + (charge_in s.numbers later - charge_in s.numbers (tenant_book b t)) ≡ charged + (charge_in s.numbers later - charge_in s.numbers before) = ap (λ k. charged + (charge_in s.numbers later - k)) pays in
    one _ _ _ _ _ _ tenants added none
  where
    nothing : (k before later : ℕ) → k ≡ before → before ≤ later → 0 + (k - later) ≡ 0
    nothing k before later is less = omega arith

    one : (a b : List TenantBook) (c d e f : ℕ) → a ≡ b → c ≡ d → e ≡ f → book_at s a c e ≡ book_at s b d f
    one a b c d e f ab cd ef = rw (ab, cd, ef) refl

-- a part without uploads pays nothing
charge-none : (n : Numbers) (part : TenantBook) → part.uploads ≡ [] → charge_in n part ≡ 0
charge-none n part none = ap (λ l. charge_in n (record part { uploads = l })) none ∙ sum_below-none part.next (price n.block_size []) (λ origin less. refl)

-- ---- the pieces of a tenant

-- a tenant's place is there
place-there : (done rest : List TenantBook) (part : TenantBook) (t : ℕ) → length done ≡ t → t < length (done ++ part ∷ rest)
place-there done rest part t place = omega (arith, place, length-append done (part ∷ rest))

-- what is charged for a tenant's first uploads, and for one more, is charged for these together
charged-more : (base before later : ℕ) → before ≤ later → base + before + (later - before) ≡ base + later
charged-more base before later less = omega arith

module _ (s : Settings) (done rest : List TenantBook) (part : TenantBook) (base t : ℕ) (place : length done ≡ t) (sound : IsTenantOf s.numbers part) (paid : charge_in s.numbers part ≤ part.quota)
    (unspent : base + charge_in s.numbers part ≤ s.numbers.last_total) where
  -- the book where so many of the tenant's uploads are put back
  abbrev up_to : ℕ → List (Entry Upload) → PlainBook
  up_to next before = book_of s (done ++ front part next before ∷ rest) (base + charge_in s.numbers (front part next before))

  is-here : (next : ℕ) (before : List (Entry Upload)) → tenant_book (up_to next before) t ≡ front part next before
  is-here next before = get_or_at done (front part next before) rest (opening_part 0) t place

  -- an upload is put back behind those before it
  upload-back : (next : ℕ) (before after : List (Entry Upload)) (e : Entry Upload) → IsNextBack s.numbers part next before after e base → next ≡ e.id → piece_refusal (up_to next before) (piece.Upload t (upload_kept before e)) ≡ None
  upload-back next before after e can at =
      ap (λ (p : TenantBook). restore_refusal s.numbers (base + charge_in s.numbers (front part next before)) p (upload_kept before e)) (is-here next before)
      ∙ restore-kept s.numbers part next before after e base can at

  upload-with : (next : ℕ) (before after : List (Entry Upload)) (e : Entry Upload) → IsNextBack s.numbers part next before after e base → book_with (up_to next before) (piece.Upload t (upload_kept before e)) ≡ up_to (e.id + 1) (before ++ e ∷ [])
  upload-with next before after e can =
      let r = upload_kept before e in
      let later : TenantBook = front part (e.id + 1) (before ++ e ∷ []) in
      let more = more-paid s.numbers part next before after e base can in
      ap (λ (p : TenantBook). with_tenant_book (up_to next before) t (part_with p r (sent_back (sent_in p.uploads) r.segments))) (is-here next before)
      ∙ ap (with_tenant_book (up_to next before) t) (part-with s.numbers part next before after e base can)
      ∙ with-part s done rest (front part next before) later (base + charge_in s.numbers (front part next before)) t place more
      ∙ ap (book_of s (done ++ later ∷ rest)) (charged-more base _ _ more)

  -- a next id is put back, where it is none of those that were given
  next-back : (next later : ℕ) (before : List (Entry Upload)) → next ≤ later → later ≤ s.numbers.last_id + 1 → piece_refusal (up_to next before) (piece.Next t later) ≡ None
  next-back next later before least fits =
      ap (λ (p : TenantBook). first_that_holds (next_tests s.numbers p later)) (is-here next before) ∙ neither _ _ (at-most _ _ least) (at-most _ _ fits)
    where
      neither : (a b : Bool) → a ≡ false → b ≡ false → first_that_holds ((a, Field) ∷ (b, Spent) ∷ []) ≡ None
      neither a b first second = rw (first, second) refl

      at-most : (most k : ℕ) → k ≤ most → ltb most k ≡ false
      at-most most k less = grind (arith, nat_tests)

  next-with : (next later : ℕ) (before : List (Entry Upload)) → charge_in s.numbers (front part next before) ≡ charge_in s.numbers (front part later before) → book_with (up_to next before) (piece.Next t later) ≡ up_to later before
  next-with next later before same =
      ap (λ (part : TenantBook). with_tenant_book (up_to next before) t (record part { next = later })) (is-here next before)
      ∙ with-part s done rest (front part next before) (front part later before) (base + charge_in s.numbers (front part next before)) t place (omega (arith, same))
      ∙ ap (book_of s (done ++ front part later before ∷ rest)) (charged-more base _ _ (omega (arith, same)))

  entry-given : (before : List (Entry Upload)) (e : Entry Upload) (after : List (Entry Upload)) → part.uploads ≡ before ++ e ∷ after → 0 < e.id
  entry-given before e after is =
      subst (λ (e : Entry Upload). 0 < e.id) (get_or_at before e after e (length before) refl) (subst (All (λ (e : Entry Upload). (0 < e.id) × (e.id < part.next))) is sound.given (length before) e (omega (arith, length-append before (e ∷ after)))).0

  entry-earlier : (before : List (Entry Upload)) (e : Entry Upload) (after : List (Entry Upload)) → part.uploads ≡ before ++ e ∷ after → All (λ (a : Entry Upload). a.id < e.id) before
  entry-earlier before e after is = before-below before after e s.numbers part sound is

  -- all uploads that are left are put back, and then the next id
  uploads-back : (next : ℕ) (before after : List (Entry Upload)) (others : List Restored) (end : PlainBook) → part.uploads ≡ before ++ after → All (λ (a : Entry Upload). a.id < next) before
      → ((id : ℕ) → 0 < id → All (λ (a : Entry Upload). a.id < id) before → next ≤ id)
      → PutsBack (book_of s (done ++ part ∷ rest) (base + charge_in s.numbers part)) others end
      → PutsBack (up_to next before) (uploads_kept t before after ++ piece.Next t part.next ∷ others) end
  uploads-back next before [] others end is below least rest-back =
      let all : before ≡ part.uploads = sym (append-nil before) ∙ sym is in
      let given : All (λ (a : Entry Upload). a.id < part.next) part.uploads = λ k d within. (sound.given k d within).1 in
      let next-fits : next ≤ part.next = least part.next sound.first (subst (All (λ (a : Entry Upload). a.id < part.next)) (sym all) given) in
      let same : charge_in s.numbers (front part next part.uploads) ≡ charge_in s.numbers part =
      charge-end s.numbers part next part.next next-fits (sources-below part.uploads next (subst (All (λ (a : Entry Upload). a.id < next)) all below) sound.later) in
      subst (λ (uploads : List (Entry Upload)). PutsBack (up_to next uploads) (piece.Next t part.next ∷ others) end) (sym all)
      (PutsBack-cons (up_to next part.uploads) (book_of s (done ++ part ∷ rest) (base + charge_in s.numbers part)) end (piece.Next t part.next) others
      (place-there done rest (front part next part.uploads) t place) (next-back next part.next part.uploads next-fits sound.last) (next-with next part.next part.uploads same) rest-back)
  uploads-back next before (e ∷ after) others end is below least rest-back =
      let can : IsNextBack s.numbers part next before after e base = record { sound = sound; all = is; below = below; fresh = least e.id (entry-given before e after is) (entry-earlier before e after is); paid = paid; unspent = unspent } in
      let here : IsNextBack s.numbers part e.id before after e base = record { sound = sound; all = is; below = entry-earlier before e after is; fresh = omega arith; paid = paid; unspent = unspent } in
      let id = given s.numbers part next before after e base can in
      PutsBack-cons (up_to next before) (up_to e.id before) end (piece.Next t e.id) (piece.Upload t (upload_kept before e) ∷ uploads_kept t (before ++ e ∷ []) after ++ piece.Next t part.next ∷ others)
      (place-there done rest (front part next before) t place) (next-back next e.id before can.fresh (omega (arith, id.1, sound.last))) (next-with next e.id before (before-paid s.numbers part next before after e base can ∙ sym (before-paid s.numbers part e.id before after e base here)))
      (PutsBack-cons (up_to e.id before) (up_to (e.id + 1) (before ++ e ∷ [])) end (piece.Upload t (upload_kept before e)) (uploads_kept t (before ++ e ∷ []) after ++ piece.Next t part.next ∷ others)
      (place-there done rest (front part e.id before) t place, asked-kept s.numbers part e.id before after e base here)
      (upload-back e.id before after e here refl) (upload-with e.id before after e here)
      (uploads-back (e.id + 1) (before ++ e ∷ []) after others end (is ∙ sym (append_assoc before (e ∷ []) after)) (next-below s.numbers part e.id before after e base here) (least-after s.numbers part e.id before after e base here) rest-back))

  -- a tenant's part is put back
  part-back : (others : List Restored) (end : PlainBook) → PutsBack (book_of s (done ++ part ∷ rest) (base + charge_in s.numbers part)) others end
      → PutsBack (book_of s (done ++ opening_part part.quota ∷ rest) base) (uploads_kept t [] part.uploads ++ piece.Next t part.next ∷ others) end
  part-back others end rest-back =
      subst (λ (k : ℕ). PutsBack (book_of s (done ++ front part 1 [] ∷ rest) k) (uploads_kept t [] part.uploads ++ piece.Next t part.next ∷ others) end) (nothing _ _ (charge-none s.numbers (front part 1 []) refl))
      (uploads-back 1 [] part.uploads others end refl (All-nil (λ (a : Entry Upload). a.id < 1)) (λ id some below. omega arith) rest-back)
    where
      nothing : (base k : ℕ) → k ≡ 0 → base + k ≡ base
      nothing base k none = omega arith

-- the parts of the tenants from a place on are put back
parts-back : (s : Settings) (done parts : List TenantBook) (todo : List TenantQuota) (base t : ℕ) → length done ≡ t
    → map {A = TenantBook} {B = ℕ} (λ part. part.quota) parts ≡ map {A = TenantQuota} {B = ℕ} (λ t. t.quota) todo
    → All (IsTenantOf s.numbers) parts → All (λ part. charge_in s.numbers part ≤ part.quota) parts → base + sum_by (charge_in s.numbers) parts ≤ s.numbers.last_total
    → PutsBack (book_of s (done ++ opening_parts todo) base) (parts_kept t parts) (book_of s (done ++ parts) (base + sum_by (charge_in s.numbers) parts))
parts-back s done [] [] base t place quotas sound paid unspent = (tt, ap (book_of s (done ++ [])) (omega arith))
parts-back s done [] (q ∷ todo) base t place quotas sound paid unspent = absurd (cc)
parts-back s done (part ∷ parts) [] base t place quotas sound paid unspent = absurd (cc)
parts-back s done (part ∷ parts) (q ∷ todo) base t place quotas sound paid unspent =
    let pays : TenantBook → Type 0 = λ (part : TenantBook). charge_in s.numbers part ≤ part.quota in
    let first : part.quota ≡ q.quota = (cc) in
    let others : map {A = TenantBook} {B = ℕ} (λ part. part.quota) parts ≡ map {A = TenantQuota} {B = ℕ} (λ t. t.quota) todo = (cc) in
    let total : sum_by (charge_in s.numbers) (part ∷ parts) ≡ charge_in s.numbers part + sum_by (charge_in s.numbers) parts = sum_by-cons (charge_in s.numbers) part parts in
    let later : List TenantBook = done ++ part ∷ [] in
    let front-then : later ++ opening_parts todo ≡ done ++ part ∷ opening_parts todo = append_assoc done (part ∷ []) (opening_parts todo) in
    let all : later ++ parts ≡ done ++ part ∷ parts = append_assoc done (part ∷ []) parts in
    let rest : PutsBack (book_of s (later ++ opening_parts todo) (base + charge_in s.numbers part)) (parts_kept (t + 1) parts) (book_of s (later ++ parts) (base + charge_in s.numbers part + sum_by (charge_in s.numbers) parts)) =
    parts-back s later parts todo (base + charge_in s.numbers part) (t + 1) (omega (arith, place, length-append done (part ∷ []))) others (All-tail (IsTenantOf s.numbers) part parts sound) (All-tail pays part parts paid) (omega (arith, total, unspent)) in
    let rest-here = subst (λ (tenants : List TenantBook). PutsBack (book_of s tenants (base + charge_in s.numbers part)) (parts_kept (t + 1) parts) (book_of s (later ++ parts) (base + charge_in s.numbers part + sum_by (charge_in s.numbers) parts))) front-then rest in
    let end : book_of s (later ++ parts) (base + charge_in s.numbers part + sum_by (charge_in s.numbers) parts) ≡ book_of s (done ++ part ∷ parts) (base + sum_by (charge_in s.numbers) (part ∷ parts)) =
    ap₂ (book_of s) all (omega (arith, total)) in
    subst (PutsBack (book_of s (done ++ opening_parts (q ∷ todo)) base) (parts_kept t (part ∷ parts))) end
    (subst (λ (quota : ℕ). PutsBack (book_of s (done ++ opening_part quota ∷ opening_parts todo) base) (parts_kept t (part ∷ parts)) (book_of s (later ++ parts) (base + charge_in s.numbers part + sum_by (charge_in s.numbers) parts))) first
    (part-back s done (opening_parts todo) part base t place (All-head (IsTenantOf s.numbers) part parts sound) (All-head pays part parts paid) (omega (arith, total, unspent)) (parts_kept (t + 1) parts) _ rest-here))

-- the totals are put back
totals-back : (s : Settings) (tenants : List TenantBook) (charged released paid : ℕ) → charged ≡ released + paid → charged ≤ s.numbers.last_total
    → PutsBack (book_of s tenants paid) (piece.Totals released ∷ []) (book_at s tenants charged released)
totals-back s tenants charged released paid is last =
    PutsBack-cons (book_of s tenants paid) (book_at s tenants charged released) _ (piece.Totals released) []
    tt (neither _ _ (more released) (few charged released paid s.numbers.last_total is last)) (ap (λ (n : ℕ). book_at s tenants n released) (all charged released paid is)) (tt, refl)
  where
    neither : (a b : Bool) → a ≡ false → b ≡ false → first_that_holds ((a, Field) ∷ (b, Spent) ∷ []) ≡ None
    neither a b first second = rw (first, second) refl

    more : (released : ℕ) → ltb released 0 ≡ false
    more released = grind (arith, nat_tests)

    all : (charged released paid : ℕ) → charged ≡ released + paid → released + (paid - 0) ≡ charged
    all charged released paid is = omega (arith, is)

    few : (charged released paid last : ℕ) → charged ≡ released + paid → charged ≤ last → ltb last (released + (paid - 0)) ≡ false
    few charged released paid last is fits = grind (arith, nat_tests)

book-back : (b : PlainBook) → IsLawful b → PutsBack (opening_book b.settings) (snapshot_of b) b
book-back b lawful =
    let paid : ℕ = sum_by (charge_in b.settings.numbers) b.tenants in
    PutsBack-append (opening_book b.settings) (book_of b.settings b.tenants (0 + paid)) b (parts_kept 0 b.tenants) (piece.Totals b.released ∷ [])
    (parts-back b.settings [] b.tenants b.settings.tenants 0 0 refl lawful.quotas lawful.tenants lawful.charges (omega (arith, lawful.totals, lawful.last)))
    (totals-back b.settings b.tenants b.charged b.released (0 + paid) (omega (arith, lawful.totals)) lawful.last)

pub snapshots_restore : SnapshotsRestore
snapshots_restore = record {
  lawful = IsLawful-piece;
  accepted = λ b lawful. (book-back b lawful).0;
  restored = λ b lawful. (book-back b lawful).1;
}
