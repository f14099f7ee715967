-- What a piece that is put back leaves of a book's uploads, and what it adds.
use Rattle.std.proofs.Common.{◌≡◌, ◌⊎◌, ℕ, List, [], ◌∷◌, Option, None, Some, refl, inl, inr, sym, ap, subst, ◌∙◌}
use Rattle.std.specs.List.{Contains}
use Rattle.std.proofs.lemmas.List.Elements.{Contains-push_cases}
use Rattle.upload_book.specs.declared.head_row.Name.{Name}
use Rattle.upload_book.specs.declared.refusal.Refusal.{Refusal}
use Rattle.upload_book.specs.Events.{HasUpload, StandsAs}
use Rattle.upload_book.specs.PlainBook.{PlainBook, tenant_book, with_tenant_book}
use Rattle.upload_book.specs.snapshot.Restore.{book_after_piece, book_with, part_with, piece_refusal, sent_back, sent_in, upload_back}
use Rattle.upload_book.specs.snapshot.RestoreLaws.{IsPutBack, PiecesLeave}
use Rattle.upload_book.specs.declared.restored.Restored.TheVariants as piece
use Rattle.upload_book.specs.declared.restored.Restored.{Restored}
use Rattle.upload_book.specs.snapshot.Restored.{RestoredUpload}
use Rattle.upload_book.specs.TenantBook.{Entry, TenantBook, kept_in, with_next}
use Rattle.upload_book.specs.Upload.{Upload}
use Rattle.upload_book.proofs.Lawful.FinalLemmas.{kept-push, moved, part-after, stays-book}
use Rattle.upload_book.proofs.Restoring.NextSteps.{after-none, after-refused}

-- an upload that stands stays where another is put back
kept-with : (part : TenantBook) (r : RestoredUpload) (found : Option (List (ℕ × List ℕ))) (id : ℕ) (u : Upload) → kept_in part.uploads id ≡ Some u → kept_in (part_with part r found).uploads id ≡ Some u
kept-with part r None id u there = there
kept-with part r (Some sent) id u there = kept-push part.uploads (record { id = r.id; kept = upload_back r sent } ∷ []) id u there

stays-with : (b : PlainBook) (restored : Restored) (name : Name) (u : Upload) → StandsAs b name u → StandsAs (book_with b restored) name u
stays-with b (piece.Upload t r) name u there =
    stays-book b t (part_with (tenant_book b t) r (sent_back (sent_in (tenant_book b t).uploads) r.segments)) name u there (λ same. kept-with (tenant_book b t) r (sent_back (sent_in (tenant_book b t).uploads) r.segments) name.id u (moved b t name u there same))
stays-with b (piece.Next t next) name u there = stays-book b t (with_next (tenant_book b t) next) name u there (λ same. moved b t name u there same)
stays-with b (piece.Totals released) name u there = there

stays-piece : (b : PlainBook) (restored : Restored) (name : Name) (u : Upload) → StandsAs b name u → StandsAs (book_after_piece b restored) name u
stays-piece b restored name u there = by (piece_refusal b restored) refl where
  by : (why : Option Refusal) → piece_refusal b restored ≡ why → StandsAs (book_after_piece b restored) name u
  by None none = subst (λ (b : PlainBook). StandsAs b name u) (sym (after-none b restored none)) (stays-with b restored name u there)
  by (Some why) refused = subst (λ (b : PlainBook). StandsAs b name u) (sym (after-refused b restored why refused)) there

-- an upload of a part to which one may have been added
abbrev entry : Name → Upload → Entry Upload
entry name u = record { id = name.id; kept = u }

-- what is known of it: it was there, or is the one that was put back
abbrev IsAdded : RestoredUpload → Option (List (ℕ × List ℕ)) → Entry Upload → Type 0
IsAdded r found e = (sent : List (ℕ × List ℕ)) × (found ≡ Some sent) × (e.id ≡ r.id) × (e.kept ≡ upload_back r sent)

comes-with : (part : TenantBook) (r : RestoredUpload) (found : Option (List (ℕ × List ℕ))) (e : Entry Upload) → Contains (part_with part r found).uploads e → Contains part.uploads e ⊎ IsAdded r found e
comes-with part r None e c = inl c
comes-with part r (Some sent) e c = elim (Contains-push_cases part.uploads (record { id = r.id; kept = upload_back r sent }) e c) [
  | inl before ↦ inl before
  | inr last ↦ inr (sent, refl, sym (ap (λ (e : Entry Upload). e.id) last), sym (ap (λ (e : Entry Upload). e.kept) last))
]

-- the tenant's part before and after
same-part : (b : PlainBook) (t : ℕ) (part : TenantBook) (name : Name) (u : Upload) → ((name.tenant ≡ t) → Contains part.uploads (entry name u) → Contains (tenant_book b t).uploads (entry name u)) → HasUpload (with_tenant_book b t part) name u → HasUpload b name u
same-part b t part name u own c = elim (part-after b t name.tenant part) [
  | inl same ↦ subst (λ (part : TenantBook). Contains part.uploads (entry name u)) same c
  | inr its ↦ subst (λ t. Contains (tenant_book b t).uploads (entry name u)) (sym its.0) (own its.0 (subst (λ (part : TenantBook). Contains part.uploads (entry name u)) its.1 c))
]

comes-book : (b : PlainBook) (restored : Restored) (name : Name) (u : Upload) → piece_refusal b restored ≡ None → HasUpload (book_with b restored) name u → HasUpload b name u ⊎ IsPutBack b restored name u
comes-book b (piece.Totals released) name u none c = inl c
comes-book b (piece.Next t next) name u none c = inl (same-part b t (with_next (tenant_book b t) next) name u (λ same there. there) c)
comes-book b (piece.Upload t r) name u none c =
    let found = sent_back (sent_in (tenant_book b t).uploads) r.segments in
    elim (part-after b t name.tenant (part_with (tenant_book b t) r found)) [
      | inl same ↦ inl (subst (λ (part : TenantBook). Contains part.uploads (entry name u)) same c)
      | inr its ↦ elim (comes-with (tenant_book b t) r found (entry name u) (subst (λ (part : TenantBook). Contains part.uploads (entry name u)) its.1 c)) [
        | inl before ↦ inl (subst (λ t. Contains (tenant_book b t).uploads (entry name u)) (sym its.0) before)
        | inr added ↦ inr (record {
          upload = r;
          is = ap (λ t. piece.Upload t r) (sym its.0);
          accepted = none;
          id = added.2;
          sent = added.0;
          found = ap (λ t. sent_back (sent_in (tenant_book b t).uploads) r.segments) its.0 ∙ added.1;
          made = added.3;
        })
      ]
    ]

comes-piece : (b : PlainBook) (restored : Restored) (name : Name) (u : Upload) → HasUpload (book_after_piece b restored) name u → HasUpload b name u ⊎ IsPutBack b restored name u
comes-piece b restored name u c = by (piece_refusal b restored) refl where
  by : (why : Option Refusal) → piece_refusal b restored ≡ why → HasUpload b name u ⊎ IsPutBack b restored name u
  by None none = comes-book b restored name u none (subst (λ (b : PlainBook). HasUpload b name u) (after-none b restored none) c)
  by (Some why) refused = inl (subst (λ (b : PlainBook). HasUpload b name u) (after-refused b restored why refused) c)

pub pieces_leave : PiecesLeave
pieces_leave = record { stays = stays-piece; comes = comes-piece }
