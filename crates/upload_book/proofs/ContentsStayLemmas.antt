-- The bytes of a complete upload stay.
use Rattle.std.proofs.Common.{◌≡◌, ℕ, ◌≤◌, false, cond, eqb, ltb, not, List, [], ◌∷◌, length, Option, Some, None, Result, Ok, Err, refl, inl, inr, ap, sym, subst, ◌∙◌, arith, append-nil}
use Rattle.std.specs.List.{Contains}
use Rattle.std.proofs.lemmas.Bool.{ltb-false}
use Rattle.std.proofs.lemmas.Bool.Decides.{eqb_tells, nat_tests}
use Rattle.std.proofs.lemmas.List.{nil_from_length}
use Rattle.std.proofs.lemmas.List.Elements.{Contains-append_cases}
use Rattle.std.proofs.Math.ListN.{get_or-map}
use Rattle.upload_book.specs.Account.{account_in}
use Rattle.upload_book.specs.Append.{append_refusal, part_after_append, upload_with}
use Rattle.upload_book.specs.Change.{book_after_change}
use Rattle.upload_book.specs.Chunk.{Chunk}
use Rattle.upload_book.specs.Concat.{concat_refusal, joined_upload, part_after_concat}
use Rattle.upload_book.specs.Begun.{BookHasOnly, HasOnly}
use Rattle.upload_book.specs.laws.ContentsStay.{ContentsStay}
use Rattle.upload_book.specs.Create.{created_upload, creation_refusal, part_after_create}
use Rattle.upload_book.specs.declared.board_line.Account.{Account}
use Rattle.upload_book.specs.declared.change.Change.{Change}
use Rattle.upload_book.specs.declared.change.Change.TheVariants.{Create, Append, Concat, Terminate, Sweep, Restore}
use Rattle.upload_book.specs.declared.head_row.Name.{Name}
use Rattle.upload_book.specs.declared.refusal.Refusal.{Refusal}
use Rattle.upload_book.specs.declared.settings.Numbers.{Numbers}
use Rattle.upload_book.specs.Events.{book_after_event}
use Rattle.upload_book.specs.Expiry.{has_expired}
use Rattle.upload_book.specs.FirstChunk.{FirstChunk}
use Rattle.upload_book.specs.NewFinal.{NewFinal}
use Rattle.upload_book.specs.NewUpload.{NewUpload}
use Rattle.upload_book.specs.PlainBook.{PlainBook, tenant_book, with_tenant_book}
use Rattle.upload_book.specs.snapshot.Restore.{book_after_piece, book_with, part_with, piece_refusal, refusal_with, sent_back, sent_in, upload_back}
use Rattle.upload_book.specs.snapshot.Restored.{RestoredUpload}
use Rattle.upload_book.specs.declared.refusal.Refusal.TheVariants.{Field}
use Rattle.upload_book.specs.declared.restored.Restored.{Restored}
use Rattle.upload_book.specs.declared.restored.Restored.TheVariants as piece
use Rattle.upload_book.specs.Sweep.{part_after_sweep}
use Rattle.upload_book.specs.TenantBook.{Entry, TenantBook, kept_in, opening_part, visible_upload, with_new, with_next}
use Rattle.upload_book.specs.Terminate.{part_after_terminate}
use Rattle.upload_book.specs.Upload.{Upload, IsComplete, content_of, head_row_of, offset_of}
use Rattle.upload_book.proofs.Charge.InUse.{Contains-cases, Contains-mapped, Contains-none}
use Rattle.upload_book.proofs.Lawful.Entries.{Contains-filter, kept_in-contains, visible_in-Ok}
use Rattle.upload_book.proofs.Lawful.FinalLemmas.{part-after}
use Rattle.upload_book.proofs.Lawful.FirstRefusal.{test-passed}
use Rattle.upload_book.proofs.Restoring.NextSteps.{after-none, after-refused}
use Rattle.upload_book.proofs.Lawful.LawfulAppend.{IsAppendable, IsAppendable-from_none, content_of-append, no_bytes, offset_of-append}

-- a PATCH of a complete upload that is accepted brings no byte
complete-append : (n : Numbers) (account : Account) (v : Upload) (chunk : Chunk) (now : ℕ) (content : List ℕ) → IsAppendable n account v chunk → IsComplete v × (content_of v ≡ content)
    → IsComplete (upload_with n v chunk now) × (content_of (upload_with n v chunk now) ≡ content)
complete-append n account v chunk now content can is =
    let fits = rw is.0 at can.fits in
    let none : length chunk.bytes ≡ 0 = no_bytes n (offset_of v) (length chunk.bytes) fits in
    let offset : offset_of (upload_with n v chunk now) ≡ offset_of v = offset_of-append n v chunk now ∙ omega arith in
    let same : content_of (upload_with n v chunk now) ≡ content_of v = content_of-append n v chunk now ∙ rw (nil_from_length chunk.bytes none) (append-nil (content_of v)) in
    (rw (is.0, offset) refl, same ∙ is.1)

module _ (n : Numbers) (part : TenantBook) (id now charged : ℕ) (content : List ℕ) (s : HasOnly part id content) where
  abbrev entry : Upload → Entry Upload
  entry u = record { id = id; kept = u }

  -- one that is added has another id
  stays-push : (v : Upload) → HasOnly (with_new part v) id content
  stays-push v = record {
    given = omega (arith, s.given);
    has = λ u c. elim (Contains-append_cases part.uploads (record { id = part.next; kept = v } ∷ []) (entry u) c) [
      | inl before ↦ s.has u before
      | inr last ↦ elim (Contains-cases (record { id = part.next; kept = v }) (entry u) [] last) [
        | inl same ↦ (let again : part.next ≡ id = ap (λ (e : Entry Upload). e.id) same in absurd (omega (arith, again, s.given)))
        | inr none ↦ absurd (Contains-none (entry u) none)
      ]
    ];
  }

  stays-create : (new : NewUpload) (first : FirstChunk) (why : Option Refusal) → creation_refusal n (account_in n part charged) part new first ≡ why → HasOnly (part_after_create new first now charged n part) id content
  stays-create new first None is = rw is (stays-push (created_upload n new first.bytes now))
  stays-create new first (Some why) is = rw is s

  stays-concat : (new : NewFinal) (why : Option Refusal) → concat_refusal n part new now ≡ why → HasOnly (part_after_concat new now n part) id content
  stays-concat new None is = rw is (stays-push (joined_upload n part new now))
  stays-concat new (Some why) is = rw is s

  stays-append : (other : ℕ) (chunk : Chunk) (seen : Result Upload Refusal) → visible_upload part other now ≡ seen → HasOnly (part_after_append other chunk now charged n part) id content
  stays-append other chunk (Err why) is = rw is s
  stays-append other chunk (Ok v) is = by (append_refusal n (account_in n part charged) (head_row_of v) chunk) refl where
    after : Upload
    after = upload_with n v chunk now

    changed : Entry Upload → Entry Upload
    changed e = cond (eqb e.id other) (record e { kept = after }) e

    there : kept_in part.uploads other ≡ Some v
    there = visible_in-Ok (λ (u : Upload). u.expires) part other now v is

    had : Contains part.uploads (record { id = other; kept = v })
    had = kept_in-contains part.uploads other v there

    by : (why : Option Refusal) → append_refusal n (account_in n part charged) (head_row_of v) chunk ≡ why → HasOnly (part_after_append other chunk now charged n part) id content
    by (Some why) refused = rw (is, refused) s
    by None none = rw (is, none) (record {
      given = s.given;
      has = λ u c.
          let found = Contains-mapped changed part.uploads (entry u) c in
          elim (eqb_tells found.0.id other) [
            | inr differs ↦ s.has u (subst (Contains part.uploads) (let same = rw differs.0 at found.2 in same) found.1)
            | inl same ↦
                let both : record found.0 { kept = after } ≡ entry u = (let both = rw same.0 at found.2 in both) in
                let is_new : after ≡ u = ap (λ (e : Entry Upload). e.kept) both in
                let named : other ≡ id = sym same.1 ∙ ap (λ (e : Entry Upload). e.id) both in
                let before = s.has v (subst (λ id. Contains part.uploads (record { id = id; kept = v })) named had) in
                subst (λ u. IsComplete u × (content_of u ≡ content)) is_new
                (complete-append n (account_in n part charged) v chunk now content (IsAppendable-from_none n (account_in n part charged) v chunk none) before)
          ];
    })

  stays-terminate : (other : ℕ) (seen : Result Upload Refusal) → visible_upload part other now ≡ seen → HasOnly (part_after_terminate other now n part) id content
  stays-terminate other (Err why) is = rw is s
  stays-terminate other (Ok v) is = rw is (record {
    given = s.given;
    has = λ u c. s.has u (Contains-filter (λ e. not (eqb e.id other)) part.uploads (entry u) c);
  })

  stays-sweep : HasOnly (part_after_sweep now part) id content
  stays-sweep = record {
    given = s.given;
    has = λ u c. s.has u (Contains-filter (λ e. not (has_expired now e.kept.expires)) part.uploads (entry u) c);
  }

-- a tenant's next id is not lowered
stays-next : (part : TenantBook) (id next : ℕ) (content : List ℕ) → HasOnly part id content → part.next ≤ next → HasOnly (with_next part next) id content
stays-next part id next content s more = record { given = omega (arith, s.given, more); has = s.has }

-- and an upload that is put back has it
stays-back : (n : Numbers) (part : TenantBook) (id now charged : ℕ) (content : List ℕ) (r : RestoredUpload) (found : Option (List (ℕ × List ℕ))) → HasOnly part id content → r.id ≡ part.next → HasOnly (part_with part r found) id content
stays-back n part id now charged content r None s same = s
stays-back n part id now charged content r (Some sent) s same =
    stays-push n (with_next part r.id) id now charged content (stays-next part id r.id content s (omega (arith, same))) (upload_back r sent)

-- and so of the book
stays-book : (b : PlainBook) (tenant : ℕ) (part : TenantBook) (name : Name) (content : List ℕ) → BookHasOnly b name content → (name.tenant ≡ tenant → HasOnly part name.id content) → BookHasOnly (with_tenant_book b tenant part) name content
stays-book b tenant part name content s own = elim (part-after b tenant name.tenant part) [
  | inl same ↦ subst (λ (part : TenantBook). HasOnly part name.id content) (sym same) s
  | inr its ↦ subst (λ (part : TenantBook). HasOnly part name.id content) (sym its.1) (own its.0)
]

own : (b : PlainBook) (tenant : ℕ) (name : Name) (content : List ℕ) → BookHasOnly b name content → name.tenant ≡ tenant → HasOnly (tenant_book b tenant) name.id content
own b tenant name content s same = subst (λ t. HasOnly (tenant_book b t) name.id content) same s

-- what is put back and not refused
stays-with : (b : PlainBook) (restored : Restored) (name : Name) (content : List ℕ) → BookHasOnly b name content → piece_refusal b restored ≡ None → BookHasOnly (book_with b restored) name content
stays-with b (piece.Upload t r) name content s none =
    let n = b.settings.numbers in
    let part = tenant_book b t in
    let found = sent_back (sent_in part.uploads) r.segments in
    let passed = test-passed (not (eqb r.id part.next)) Field (refusal_with n b.charged part r found) none in
    stays-book b t (part_with part r found) name content s (λ same. stays-back n part name.id 0 b.charged content r found (own b t name content s same) (is_same r.id part.next passed.0))
  where
    is_same : (x y : ℕ) → not (eqb x y) ≡ false → x ≡ y
    is_same x y test = grind (arith, nat_tests)
stays-with b (piece.Next t next) name content s none =
    let part = tenant_book b t in
    let more : part.next ≤ next = ltb-false next part.next (test-passed (ltb next part.next) _ _ none).0 in
    stays-book b t (with_next part next) name content s (λ same. stays-next part name.id next content (own b t name content s same) more)
stays-with b (piece.Totals released) name content s none = s

stays-event : (b : PlainBook) (change : Change) (now : ℕ) (name : Name) (content : List ℕ) → BookHasOnly b name content → BookHasOnly (book_after_change b change now) name content
stays-event b (Create tenant new first) now name content s =
    let n = b.settings.numbers in
    let part = tenant_book b tenant in
    stays-book b tenant _ name content s (λ same. stays-create n part name.id now b.charged content (own b tenant name content s same) new first (creation_refusal n (account_in n part b.charged) part new first) refl)
stays-event b (Append other chunk) now name content s =
    let n = b.settings.numbers in
    let part = tenant_book b other.tenant in
    stays-book b other.tenant _ name content s (λ same. stays-append n part name.id now b.charged content (own b other.tenant name content s same) other.id chunk (visible_upload part other.id now) refl)
stays-event b (Concat tenant new) now name content s =
    let n = b.settings.numbers in
    let part = tenant_book b tenant in
    stays-book b tenant _ name content s (λ same. stays-concat n part name.id now b.charged content (own b tenant name content s same) new (concat_refusal n part new now) refl)
stays-event b (Terminate other) now name content s =
    let n = b.settings.numbers in
    let part = tenant_book b other.tenant in
    stays-book b other.tenant _ name content s (λ same. stays-terminate n part name.id now b.charged content (own b other.tenant name content s same) other.id (visible_upload part other.id now) refl)
stays-event b Sweep now name content s =
    subst (λ (part : TenantBook). HasOnly part name.id content) (sym (get_or-map (part_after_sweep now) b.tenants name.tenant (opening_part 0)))
    (stays-sweep b.settings.numbers (tenant_book b name.tenant) name.id now b.charged content s)
stays-event b (Restore restored) now name content s = by (piece_refusal b restored) refl where
  by : (why : Option Refusal) → piece_refusal b restored ≡ why → BookHasOnly (book_after_piece b restored) name content
  by None none = subst (λ (b : PlainBook). BookHasOnly b name content) (sym (after-none b restored none)) (stays-with b restored name content s none)
  by (Some why) refused = subst (λ (b : PlainBook). BookHasOnly b name content) (sym (after-refused b restored why refused)) s

pub contents_stay : ContentsStay
contents_stay b [] name content s = s
contents_stay b (e ∷ events) name content s = contents_stay (book_after_event b e) events name content (stays-event b e.change e.now name content s)
