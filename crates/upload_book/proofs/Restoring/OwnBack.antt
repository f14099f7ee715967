-- An upload of its own that is put back: it is a new one under its id, with its bytes.
use Rattle.std.proofs.Common.{◌≡◌, ℕ, ◌+◌, ◌-◌, ◌<◌, ◌≤◌, Bool, false, ◌||◌, ltb, leb, not, List, [], ◌∷◌, ◌++◌, length, Option, Some, unwrap_or, refl, inl, inr, sym, ap, ap₂, ◌∙◌, arith, append-nil}
use Rattle.std.specs.List.{All}
use Rattle.std.proofs.lemmas.Bool.Decides.{eqb_tells}
use Rattle.std.proofs.lemmas.List.Elements.{All-weaker}
use Rattle.upload_book.specs.Account.{account_in, blocks_added}
use Rattle.upload_book.specs.Append.{is_final, is_too_long}
use Rattle.upload_book.specs.Charge.{Source, charge_in, sources_of}
use Rattle.upload_book.specs.Concat.{is_partial}
use Rattle.upload_book.specs.Create.{new_kind, upload_from}
use Rattle.upload_book.specs.declared.head_row.Kind.{Kind}
use Rattle.upload_book.specs.declared.head_row.Kind.TheVariants.{Plain, Partial, Final}
use Rattle.upload_book.specs.declared.refusal.Refusal.{Refusal}
use Rattle.upload_book.specs.declared.refusal.Refusal.TheVariants.{Field, TooLong, Uploads, Spent, Quota}
use Rattle.upload_book.specs.declared.settings.Numbers.{Numbers}
use Rattle.upload_book.specs.inside.Back.{new_of, own_tests}
use Rattle.upload_book.specs.Lawful.{IsTenantOf}
use Rattle.upload_book.specs.Refusal.{first_that_holds}
use Rattle.upload_book.specs.snapshot.Restore.{HasSegments, ends_rightly, refusal_with, restore_refusal, restore_tests, sent_back, sent_in, upload_back, with_back}
use Rattle.upload_book.specs.snapshot.Restored.{RestoredSegment, RestoredUpload}
use Rattle.upload_book.specs.Stored.{parts_of}
use Rattle.upload_book.specs.TenantBook.{Entry, TenantBook}
use Rattle.upload_book.specs.Upload.{Upload, is_reached}
use Rattle.upload_book.proofs.Charge.ChargeLemmas.{blocks_between-first, new-own, sources-given}
use Rattle.upload_book.proofs.Charge.PriceLemmas.{charge-new, sources-own}
use Rattle.upload_book.proofs.Restoring.LawfulBack.{charge-next}
use Rattle.upload_book.proofs.Restoring.SegmentsBack.{bytes_from-none, sent-below}

-- the segment of an upload of its own
abbrev own_segment : ℕ → List ℕ → List RestoredSegment
own_segment id bytes = record { origin = id; bytes = Some bytes } ∷ []

-- one that is not final brings its bytes
pub own-form : (kind : Kind) (id : ℕ) (segments : List RestoredSegment) → is_final kind ≡ false → HasSegments kind id segments → (bytes : List ℕ) × (segments ≡ record { origin = id; bytes = Some bytes } ∷ [])
own-form Plain id segments own form = form
own-form Partial id segments own form = form
own-form Final id segments own form = absurd (cc)

-- it is the new upload with them
pub same-kind : (kind : Kind) → is_final kind ≡ false → new_kind (is_partial kind) ≡ kind
same-kind Plain own = refl
same-kind Partial own = refl
same-kind Final own = absurd (cc)

no_parts : (kind : Kind) (ids : List ℕ) → is_final kind ≡ false → parts_of kind ids ≡ []
no_parts Plain ids own = refl
no_parts Partial ids own = refl
no_parts Final ids own = absurd (cc)

pub upload-own : (r : RestoredUpload) (bytes : List ℕ) → is_final r.kind ≡ false → upload_back r ((r.id, bytes) ∷ []) ≡ upload_from (new_of r) bytes r.expires
upload-own r bytes own =
    ap₂ (λ (kind : Kind) (parts : List ℕ). made kind parts) (sym (same-kind r.kind own)) (no_parts r.kind (r.id ∷ []) own)
  where
    made : Kind → List ℕ → Upload
    made kind parts = record { kind = kind; parts = parts; declared = r.declared; segments = bytes ∷ []; metadata = r.metadata; concat = r.concat; expires = r.expires }

module _ (n : Numbers) (charged : ℕ) (part : TenantBook) (r : RestoredUpload) (bytes : List ℕ) (sound : IsTenantOf n part) (own : is_final r.kind ≡ false) (form : r.segments ≡ record { origin = r.id; bytes = Some bytes } ∷ []) where
  abbrev made : Upload
  made = upload_from (new_of r) bytes r.expires

  -- under an id that was not given it has its segment
  pub sent-own : part.next ≤ r.id → sent_back (sent_in part.uploads) r.segments ≡ Some ((r.id, bytes) ∷ [])
  sent-own fresh =
      let below : All (λ (s : ℕ × List ℕ). s.0 < part.next) (sent_in part.uploads) = sent-below part.uploads part.next (λ k d within. (sound.given k d within).1) sound.later in
      let none = bytes_from-none (sent_in part.uploads) r.id (All-weaker (λ (s : ℕ × List ℕ). s.0 < part.next) (λ (s : ℕ × List ℕ). s.0 < r.id) (λ s less. omega arith) (sent_in part.uploads) below) in
      rw (form, none) refl

  -- its tenant pays for its blocks
  pub charge-own : part.next ≤ r.id → charge_in n (with_back part r.id made) ≡ charge_in n part + blocks_added n 0 (length bytes)
  charge-own fresh =
      let e : Entry Upload = record { id = r.id; kept = made } in
      let source : ℕ → List Source = λ (len : ℕ). record { origin = r.id; len = len } ∷ [] in
      let its : sources_of e ≡ source (length bytes) = sources-own e (new-own (is_partial r.kind)) refl ∙ ap source (ap (length {A = ℕ}) (append-nil bytes)) in
      let below : All (λ (s : Source). s.origin < r.id) _ = All-weaker (λ (s : Source). s.origin < part.next) (λ (s : Source). s.origin < r.id) (λ s less. omega arith) _ (sources-given n part sound) in
      charge-new n.block_size r.id (length bytes) part.uploads e its below
      ∙ ap₂ (λ (a b : ℕ). a + b) (charge-next n part r.id fresh sound) (sym (blocks_between-first n.block_size (length bytes)))

  abbrev tests_at : Bool → Bool → Bool → Bool → Bool → Bool → List (Bool × Refusal)
  tests_at ends long full last total quota = (not ends, Field) ∷ (long, TooLong) ∷ (full, Uploads) ∷ (last || total, Spent) ∷ (quota, Quota) ∷ []

  -- what refuses it where it is of a kind and so long, and so much is charged for all and paid by its tenant
  abbrev refused_by : Kind → ℕ → ℕ → ℕ → Option Refusal
  refused_by kind len total pays =
      first_that_holds (tests_at (ends_rightly n kind (is_reached r.declared len) r.expires) (is_too_long n (unwrap_or r.declared n.max_size) len) (leb n.uploads (length part.uploads)) (ltb n.last_id r.id) (ltb n.last_total total) (ltb part.quota pays))

  -- the tests of one under an id that was not given
  tests-own : part.next ≤ r.id → first_that_holds (restore_tests n charged part r.id made) ≡ refused_by r.kind (length bytes) (charged + blocks_added n 0 (length bytes)) (charge_in n part + blocks_added n 0 (length bytes))
  tests-own fresh =
      let pays = charge-own fresh in
      let len : length (bytes ++ []) ≡ length bytes = ap (length {A = ℕ}) (append-nil bytes) in
      ap (λ (kind : Kind). refused_by kind (length (bytes ++ [])) (charged + (charge_in n (with_back part r.id made) - charge_in n part)) (charge_in n (with_back part r.id made))) (same-kind r.kind own)
      ∙ ap (λ (len : ℕ). refused_by r.kind len (charged + (charge_in n (with_back part r.id made) - charge_in n part)) (charge_in n (with_back part r.id made))) len
      ∙ ap₂ (λ (total pays : ℕ). refused_by r.kind (length bytes) total pays) (more _ _ _ _ pays) pays
    where
      more : (charged before after added : ℕ) → after ≡ before + added → charged + (after - before) ≡ charged + added
      more charged before after added is = omega arith

  -- it is refused by its own tests
  pub refusal-own : first_that_holds (own_tests n (account_in n part charged) part r (length bytes)) ≡ restore_refusal n charged part r
  refusal-own = elim (eqb_tells r.id part.next) [
    | inr other ↦ rw other.0 refl
    | inl same ↦
        let fresh : part.next ≤ r.id = (let next : r.id ≡ part.next = same.1 in omega arith) in
        rw same.0 (sym (tests-own fresh) ∙ ap (λ (u : Upload). first_that_holds (restore_tests n charged part r.id u)) (sym (upload-own r bytes own)) ∙ ap (refusal_with n charged part r) (sym (sent-own fresh)))
  ]
