-- What a tenant pays after a creation and after a PATCH.
use Rattle.std.proofs.Common.{◌≡◌, ◌≢◌, ◌⊎◌, ℕ, ◌+◌, ◌-◌, ◌<◌, Bool, true, false, eqb, not, List, [], ◌∷◌, length, get_or, set, Some, None, refl, inl, inr, ap, sym, subst, ◌∙◌, arith}
use Rattle.std.specs.List.{All, Contains, filter, flat_map, remove}
use Rattle.std.proofs.lemmas.Bool.{cases_lt}
use Rattle.std.proofs.lemmas.Bool.Decides.{nat_tests}
use Rattle.std.proofs.lemmas.List.{append-nil}
use Rattle.std.proofs.lemmas.List.Elements.{All-filter, All-weaker, filter_passes}
use Rattle.std.proofs.lemmas.Slice.Zip.{length-zip, get_or-zip}
use Rattle.block_bodies.specs.Bodies.{blocks_for}
use Rattle.upload_book.specs.Account.{blocks_added, blocks_between}
use Rattle.upload_book.specs.Append.{is_final, append_refusal, upload_with}
use Rattle.upload_book.specs.Charge.{Source, sources_of, charge_in}
use Rattle.upload_book.specs.Chunk.{Chunk, count_all}
use Rattle.upload_book.specs.Create.{created_upload, new_kind}
use Rattle.upload_book.specs.declared.board_line.Account.{Account}
use Rattle.upload_book.specs.declared.head_row.Kind.TheVariants.{Partial, Final}
use Rattle.upload_book.specs.declared.settings.Numbers.{Numbers}
use Rattle.upload_book.specs.Lawful.{IsTenantOf, IsUploadOf, IsOfKind, IsGivenIn, IsSegmentOf, IsWhole, HasParts}
use Rattle.upload_book.specs.NewUpload.{NewUpload}
use Rattle.upload_book.specs.TenantBook.{Entry, TenantBook, kept_in, with_changed, with_new}
use Rattle.upload_book.specs.Upload.{Upload, IsComplete, offset_of, head_row_of}
use Rattle.upload_book.proofs.Lawful.Entries.{with_kept-place, kept_in-contains, kept_in-All, without-place}
use Rattle.upload_book.proofs.Lawful.LawfulAppend.{IsAppendable, IsAppendable-from_none, IsWhole-from_kind, offset_of-append, no_bytes}
use Rattle.upload_book.proofs.Charge.PriceLemmas.{All-flat_map, blocks_between-adds, blocks_for-zero, charge-more, charge-new, sources-All, sources-own}

-- the parts of a final upload
final_parts : (part : TenantBook) (u : Upload) → IsOfKind part u u.kind → u.kind ≡ Final → HasParts part u
final_parts part u sound final = (subst (IsOfKind part u) final sound).0

-- the segments of a tenant were sent to uploads that were given
pub sources-given : (n : Numbers) (part : TenantBook) → IsTenantOf n part → All (λ s. s.origin < part.next) (flat_map sources_of part.uploads)
sources-given n part sound =
    All-flat_map (λ (s : Source). s.origin < part.next) sources_of part.uploads (λ k d within.
    let e : Entry Upload = get_or part.uploads k d in
    sources-All (λ id. id < part.next) e (sound.given k d within).1 (λ final. All-weaker (IsGivenIn part) (λ id. id < part.next) (λ id given. given.1) e.kept.parts (final_parts part e.kept (sound.uploads k d within).kind final).given))

pub new-own : (partial : Bool) → is_final (new_kind partial) ≡ false
new-own true = refl
new-own false = refl

-- the blocks of the first bytes
pub blocks_between-first : (size len : ℕ) → blocks_between size 0 len ≡ blocks_for size len
blocks_between-first size len = first _ _ _ _ (blocks_between-adds size 0 len) (blocks_for-zero size) (ap (blocks_for size) (omega arith)) where
  first : (all zero_blocks between whole : ℕ) → all ≡ zero_blocks + between → zero_blocks ≡ 0 → all ≡ whole → between ≡ whole
  first all zero_blocks between whole adds none same = omega arith

-- a new upload adds to what the tenant pays the blocks that its bytes take
pub charge-create : (n : Numbers) (part : TenantBook) (new : NewUpload) (bytes : List ℕ) (now : ℕ) → IsTenantOf n part
    → charge_in n (with_new part (created_upload n new bytes now)) ≡ charge_in n part + blocks_added n 0 (length bytes)
charge-create n part new bytes now sound =
    let e : Entry Upload = record { id = part.next; kept = created_upload n new bytes now } in
    let source : ℕ → List Source = λ (len : ℕ). record { origin = part.next; len = len } ∷ [] in
    let own : sources_of e ≡ source (length bytes) = sources-own e (new-own new.partial) refl ∙ ap source (ap (length {A = ℕ}) (append-nil bytes)) in
    charge-new n.block_size part.next (length bytes) part.uploads e own (sources-given n part sound)
    ∙ ap (λ blocks. charge_in n part + blocks) (sym (blocks_between-first n.block_size (length bytes)))

-- an upload that is no complete partial one is a part of no final upload
pub parts-sole : (part : TenantBook) (id : ℕ) (u v : Upload) → kept_in part.uploads id ≡ Some u → ((u.kind ≡ Partial) → ¬ (IsComplete u)) → HasParts part v → All (λ o. o ≢ id) v.parts
parts-sole part id u v there sole parts = λ k d within same.
    let Q : (ℕ × List ℕ) → Type 0 = λ (p : ℕ × List ℕ). IsSegmentOf part p.0 p.1 in
    let in_segments : k < length v.segments = omega (arith, parts.each) in
    let pair = get_or-zip v.parts v.segments k (d, []) within in_segments in
    let segment = subst Q pair (parts.same k (d, []) (omega (arith, length-zip v.parts v.segments))) in
    let seen = rw same at segment in
    let complete = rw there at seen in
    sole complete.0 complete.1

-- so it is of every upload of the tenant
pub uploads-sole : (n : Numbers) (part : TenantBook) (id : ℕ) (u : Upload) → IsTenantOf n part → kept_in part.uploads id ≡ Some u → ((u.kind ≡ Partial) → ¬ (IsComplete u))
    → All (λ e. e.kept.kind ≡ Final → All (λ o. o ≢ id) e.kept.parts) part.uploads
uploads-sole n part id u sound there sole = λ k d within final.
    let e : Entry Upload = get_or part.uploads k d in
    parts-sole part id u e.kept there sole (final_parts part e.kept (sound.uploads k d within).kind final)

-- an upload that takes more bytes is not complete
takes-more : (n : Numbers) (account : Account) (u : Upload) (chunk : Chunk) → IsAppendable n account u chunk → 0 < count_all chunk → ¬ (IsComplete u)
takes-more n account u chunk can some complete =
    let fits = rw complete at can.all_fit in
    let none : count_all chunk ≡ 0 = no_bytes n (offset_of u) (count_all chunk) fits in
    omega arith

-- no final upload has a part that takes more bytes
pub parts-differ : (n : Numbers) (account : Account) (part : TenantBook) (id : ℕ) (u : Upload) (chunk : Chunk) (v : Upload) → kept_in part.uploads id ≡ Some u → IsAppendable n account u chunk → 0 < count_all chunk → HasParts part v → All (λ o. o ≢ id) v.parts
parts-differ n account part id u chunk v there can some parts = parts-sole part id u v there (λ kind. takes-more n account u chunk can some) parts

-- so it is of every upload of the tenant
pub uploads-differ : (n : Numbers) (account : Account) (part : TenantBook) (id : ℕ) (u : Upload) (chunk : Chunk) → IsTenantOf n part → kept_in part.uploads id ≡ Some u → IsAppendable n account u chunk → 0 < count_all chunk
    → All (λ e. e.kept.kind ≡ Final → All (λ o. o ≢ id) e.kept.parts) part.uploads
uploads-differ n account part id u chunk sound there can some = uploads-sole n part id u sound there (λ kind. takes-more n account u chunk can some)

-- nobody else has the bytes of an upload that takes more
pub sources-differ : (n : Numbers) (account : Account) (part : TenantBook) (id : ℕ) (u : Upload) (chunk : Chunk) → IsTenantOf n part → kept_in part.uploads id ≡ Some u → IsAppendable n account u chunk → 0 < count_all chunk
    → All (λ s. s.origin ≢ id) (flat_map sources_of (filter (λ e. not (eqb e.id id)) part.uploads))
sources-differ n account part id u chunk sound there can some =
    let p : Entry Upload → Bool = λ (e : Entry Upload). not (eqb e.id id) in
    All-flat_map (λ (s : Source). s.origin ≢ id) sources_of (filter p part.uploads) (λ k d within.
    let e : Entry Upload = get_or (filter p part.uploads) k d in
    let passes = filter_passes p part.uploads k d within in
    let lawful : IsUploadOf n part e.kept = All-filter p (λ (e : Entry Upload). IsUploadOf n part e.kept) part.uploads sound.uploads k d within in
    sources-All (λ o. o ≢ id) e (differs e.id id passes) (λ final. parts-differ n account part id u chunk e.kept there can some (final_parts part e.kept lawful.kind final)))
  where
    differs : (a b : ℕ) → not (eqb a b) ≡ true → a ≢ b
    differs a b test = λ same. (grind (arith, nat_tests))

-- no byte takes no more blocks
pub blocks_between-none : (size offset more : ℕ) → more ≡ 0 → blocks_between size offset more ≡ 0
blocks_between-none size offset more none =
    let end : blocks_for size (offset + more) ≡ blocks_for size offset = ap (blocks_for size) (omega arith) in
    nothing _ _ end
  where
    nothing : (a b : ℕ) → a ≡ b → a - b ≡ 0
    nothing a b same = omega arith

-- a PATCH that is not refused adds to what the tenant pays the blocks that its bytes take
pub charge-appendable : (n : Numbers) (account : Account) (part : TenantBook) (id : ℕ) (u : Upload) (chunk : Chunk) (now : ℕ) → IsTenantOf n part → kept_in part.uploads id ≡ Some u → IsAppendable n account u chunk
    → charge_in n (with_changed part id (upload_with n u chunk now)) ≡ charge_in n part + blocks_added n (offset_of u) (length chunk.bytes)
charge-appendable n account part id u chunk now sound there can =
    ap (λ l. charge_in n (record part { uploads = l })) changed
    ∙ charge-more n.block_size part.next part.uploads place.0 e later added place.1 place.2 given (sources-own e can.own whole.segment) (sources-own later can.own refl) more alone
  where
    e : Entry Upload
    e = record { id = id; kept = u }

    later : Entry Upload
    later = record { id = id; kept = upload_with n u chunk now }

    added : ℕ
    added = blocks_added n (offset_of u) (length chunk.bytes)

    place : Contains part.uploads e
    place = kept_in-contains part.uploads id u there

    named : (get_or part.uploads place.0 e).id ≡ id
    named = ap (λ (e : Entry Upload). e.id) place.2

    changed : (with_changed part id (upload_with n u chunk now)).uploads ≡ set part.uploads place.0 later
    changed = with_kept-place part.uploads id place.0 e (upload_with n u chunk now) sound.ascending place.1 named

    given : id < part.next
    given = subst (λ k. k < part.next) named (sound.given place.0 e place.1).1

    lawful : IsUploadOf n part u
    lawful = kept_in-All (IsUploadOf n part) part.uploads id u sound.uploads there

    whole : IsWhole u
    whole = IsWhole-from_kind part u.kind u can.own lawful.kind

    more : blocks_for n.block_size (offset_of later.kept) ≡ blocks_for n.block_size (offset_of u) + added
    more = ap (blocks_for n.block_size) (offset_of-append n u chunk now) ∙ blocks_between-adds n.block_size (offset_of u) (length chunk.bytes)

    alone : (added ≡ 0) ⊎ All (λ s. s.origin ≢ id) (flat_map sources_of (remove part.uploads place.0))
    alone = elim (cases_lt 0 (length chunk.bytes)) [
      | inl some ↦ inr (rw (← without-place part.uploads id place.0 e sound.ascending place.1 named) (sources-differ n account part id u chunk sound there can (omega (arith, some))))
      | inr none ↦ inl (blocks_between-none n.block_size (offset_of u) (length chunk.bytes) (omega arith))
    ]

-- the same by its refusal
pub charge-append : (n : Numbers) (account : Account) (part : TenantBook) (id : ℕ) (u : Upload) (chunk : Chunk) (now : ℕ) → IsTenantOf n part → kept_in part.uploads id ≡ Some u → append_refusal n account (head_row_of u) chunk ≡ None
    → charge_in n (with_changed part id (upload_with n u chunk now)) ≡ charge_in n part + blocks_added n (offset_of u) (length chunk.bytes)
charge-append n account part id u chunk now sound there none =
    charge-appendable n account part id u chunk now sound there (IsAppendable-from_none n account u chunk none)
