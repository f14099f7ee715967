-- A PATCH leaves a lawful book lawful.
use Rattle.std.proofs.Common.{◌≡◌, ℕ, ◌+◌, ◌<◌, ◌≤◌, ◌⊎◌, ◌||◌, Bool, true, false, cond, not, eqb, ltb, List, [], ◌++◌, length, get_or, Option, Some, None, unwrap_or, is_some, IfSome, refl, inl, inr, sym, ap, ◌∙◌, arith}
use Rattle.std.specs.List.{All}
use Rattle.std.proofs.Math.ListN.{length-map, length-append}
use Rattle.std.proofs.lemmas.Bool.Decides.{eqb_tells, nat_tests}
use Rattle.std.proofs.lemmas.Bool.{true≢false}
use Rattle.std.proofs.lemmas.List.{append-nil, nil_from_length}
use Rattle.std.proofs.lemmas.List.Elements.{All-map, All-nil, All-weaker}
use Rattle.upload_book.specs.Account.{blocks_added, blocks_between}
use Rattle.upload_book.specs.Append.{is_final, or_else, differ, is_too_long, append_refusal, upload_with}
use Rattle.upload_book.specs.Checksum.{is_mismatch, is_of_other_algorithm}
use Rattle.upload_book.specs.Chunk.{Chunk, count_all}
use Rattle.upload_book.specs.declared.board_line.Account.{Account}
use Rattle.upload_book.specs.declared.head_row.Kind.{Kind}
use Rattle.upload_book.specs.declared.head_row.Kind.TheVariants.{Plain, Partial, Final}
use Rattle.upload_book.specs.declared.settings.Numbers.{Numbers}
use Rattle.upload_book.specs.Expiry.{ends_finished, finished_end, later_by, may_end, may_end_finished, renewed}
use Rattle.upload_book.specs.Lawful.{IsTenantOf, IsUploadOf, IsOfKind, IsWhole, IsGivenIn, IsSegmentOf}
use Rattle.upload_book.specs.TenantBook.{Entry, TenantBook, kept_in, with_changed}
use Rattle.upload_book.specs.Upload.{Upload, content_of, offset_of, is_reached, is_complete, IsComplete, head_row_of}
use Rattle.upload_book.proofs.Charge.PriceLemmas.{blocks_between-two}
use Rattle.upload_book.proofs.Lawful.Entries.{ids_of-with_kept, kept_in-All, kept_in-place, kept_in-with_other, kept_in-with_same}
use Rattle.upload_book.proofs.Lawful.FirstRefusal.{test-passed}
use Rattle.upload_book.proofs.Lawful.LawfulSteps.{IsUploadOf-beside}
use Rattle.upload_book.proofs.Lawful.SharedLemmas.{ShareParts-with_kept}

-- what is known of a PATCH that is not refused
pub record IsAppendable (n : Numbers) (account : Account) (u : Upload) (chunk : Chunk) : Type 0 where
  pub own : is_final u.kind ≡ false
  pub typed : not chunk.typed ≡ false
  pub offset : not (eqb chunk.offset (offset_of u)) ≡ false
  pub fixed : differ u.declared chunk.length ≡ false
  pub fits : is_too_long n (unwrap_or (or_else u.declared chunk.length) n.max_size) (offset_of u + length chunk.bytes) ≡ false
  pub known : is_of_other_algorithm chunk.check ≡ false
  pub same : is_mismatch chunk.check chunk.bytes ≡ false
  pub unspent : account.charged + blocks_added n (offset_of u) (length chunk.bytes) ≤ n.last_total
  pub paid : account.charge + blocks_added n (offset_of u) (length chunk.bytes) ≤ account.quota
  pub all_fit : is_too_long n (unwrap_or (or_else u.declared chunk.length) n.max_size) (offset_of u + count_all chunk) ≡ false
  pub all_unspent : account.charged + blocks_added n (offset_of u) (count_all chunk) ≤ n.last_total
  pub all_paid : account.charge + blocks_added n (offset_of u) (count_all chunk) ≤ account.quota

-- fewer bytes fit, and take no more blocks
pub fewer_fit : (n : Numbers) (most less end : ℕ) → less ≤ end → is_too_long n most end ≡ false → is_too_long n most less ≡ false
fewer_fit n most less end few fits = grind (arith, nat_tests)

pub fewer_blocks : (size offset first later : ℕ) → blocks_between size offset first ≤ blocks_between size offset (first + later)
fewer_blocks size offset first later = omega (arith, blocks_between-two size offset first later)

-- it is known where no refusal applies
pub IsAppendable-from_none : (n : Numbers) (account : Account) (u : Upload) (chunk : Chunk) → append_refusal n account (head_row_of u) chunk ≡ None → IsAppendable n account u chunk
IsAppendable-from_none n account u chunk none =
    let added = blocks_added n (offset_of u) (count_all chunk) in
    let fewer = fewer_blocks n.block_size (offset_of u) (length chunk.bytes) chunk.more in
    let own = test-passed (is_final u.kind) _ _ none in
    let typed = test-passed (not chunk.typed) _ _ own.1 in
    let offset = test-passed (not (eqb chunk.offset (offset_of u))) _ _ typed.1 in
    let fixed = test-passed (differ u.declared chunk.length) _ _ offset.1 in
    let fits = test-passed (is_too_long n (unwrap_or (or_else u.declared chunk.length) n.max_size) (offset_of u + count_all chunk)) _ _ fixed.1 in
    let known = test-passed (is_of_other_algorithm chunk.check) _ _ fits.1 in
    let same = test-passed (is_mismatch chunk.check chunk.bytes) _ _ known.1 in
    let unspent = test-passed (ltb n.last_total (account.charged + added)) _ _ same.1 in
    let paid = test-passed (ltb account.quota (account.charge + added)) _ _ unspent.1 in
    record {
      own = own.0;
      typed = typed.0;
      offset = offset.0;
      fixed = fixed.0;
      fits = fewer_fit n (unwrap_or (or_else u.declared chunk.length) n.max_size) (offset_of u + length chunk.bytes) (offset_of u + count_all chunk) (omega arith) fits.0;
      known = known.0;
      same = same.0;
      unspent = omega (arith, fewer, at_most n.last_total (account.charged + added) unspent.0);
      paid = omega (arith, fewer, at_most account.quota (account.charge + added) paid.0);
      all_fit = fits.0;
      all_unspent = at_most n.last_total (account.charged + added) unspent.0;
      all_paid = at_most account.quota (account.charge + added) paid.0;
    }
  where
    at_most : (most k : ℕ) → ltb most k ≡ false → k ≤ most
    at_most most k test = grind (arith, nat_tests)

-- a number that is no more is not above
pub not_above : (most k : ℕ) → k ≤ most → ltb most k ≡ false
not_above most k less = grind (arith, nat_tests)

-- and no refusal applies where it is known
pub append_refusal-none : (n : Numbers) (account : Account) (u : Upload) (chunk : Chunk) → IsAppendable n account u chunk → append_refusal n account (head_row_of u) chunk ≡ None
append_refusal-none n account u chunk can =
    let added = blocks_added n (offset_of u) (count_all chunk) in
    rw (can.own, can.typed, can.offset, can.fixed, can.all_fit, can.known, can.same, not_above n.last_total (account.charged + added) can.all_unspent, not_above account.quota (account.charge + added) can.all_paid) refl

-- the bytes stand at the end
pub content_of-append : (n : Numbers) (u : Upload) (chunk : Chunk) (now : ℕ) → content_of (upload_with n u chunk now) ≡ content_of u ++ chunk.bytes
content_of-append n u chunk now = append-nil (content_of u ++ chunk.bytes)

-- and count for the offset
pub offset_of-append : (n : Numbers) (u : Upload) (chunk : Chunk) (now : ℕ) → offset_of (upload_with n u chunk now) ≡ offset_of u + length chunk.bytes
offset_of-append n u chunk now =
    ap length (content_of-append n u chunk now) ∙ length-append (content_of u) chunk.bytes

-- bytes that are not too many end within the length that is known, and within the greatest size
pub ends_within : (n : Numbers) (declared : Option ℕ) (end : ℕ) → is_too_long n (unwrap_or declared n.max_size) end ≡ false → IfSome declared (λ most. (end ≤ most) × (most ≤ n.max_size)) × (end ≤ n.max_size)
ends_within n None end fits = (tt, grind (arith, nat_tests))
ends_within n (Some most) end fits = ((grind (arith, nat_tests), grind (arith, nat_tests)), grind (arith, nat_tests))

-- the test of completeness and the fact, over a length and an offset
declared_tells : (declared : Option ℕ) (offset : ℕ) → let complete = is_reached declared offset in ((complete ≡ true) × (declared ≡ Some offset)) ⊎ ((complete ≡ false) × (declared ≡ Some offset → ⊥))
declared_tells None offset = inr (refl, λ is. cc)
declared_tells (Some most) offset =
    elim (eqb_tells most offset) [ inl same ↦ inl (same.0, ap Some same.1) | inr differs ↦ inr (differs.0, λ is. differs.1 (cc)) ]

-- the same of an upload
pub complete_tells : (u : Upload) → ((is_complete u ≡ true) × IsComplete u) ⊎ ((is_complete u ≡ false) × (IsComplete u → ⊥))
complete_tells u = declared_tells u.declared (offset_of u)

-- an upload that is complete already takes no more
pub complete_later : (n : Numbers) (declared : Option ℕ) (start end : ℕ) → start ≤ end → is_too_long n (unwrap_or declared n.max_size) end ≡ false
    → is_reached declared start ≡ true → is_reached declared end ≡ true
complete_later n None start end le fits is = absurd (true≢false (sym is))
complete_later n (Some most) start end le fits is = grind (arith, nat_tests)

-- a length that is told leaves it complete
pub complete_known : (known told : Option ℕ) (end : ℕ) → is_reached known end ≡ true → is_reached (or_else known told) end ≡ true
complete_known None told end is = absurd (true≢false (sym is))
complete_known (Some most) told end is = is

-- a finished upload may have the end that it gets
pub may-finished : (n : Numbers) (now : ℕ) → may_end_finished n (finished_end n now) ≡ true
may-finished n now = may-if (ends_finished n) (later_by now n.finished_lifetime) where
  may-if : (ends : Bool) (end : ℕ) → (ends || not (is_some (cond ends (Some end) None))) ≡ true
  may-if true end = refl
  may-if false end = refl

-- an upload that is touched may have its end, if it could before
pub ends-renewed : (n : Numbers) (kind : Kind) (was complete : Bool) (before : Option ℕ) (now : ℕ) → is_final kind ≡ false → (was ≡ true → complete ≡ true) → (was ≡ true → may_end n kind true before ≡ true)
    → may_end n kind complete (renewed n kind was complete before now) ≡ true
ends-renewed n Plain true complete before now own stays had = ap (λ complete. may_end n Plain complete before) (stays refl) ∙ had refl
ends-renewed n Plain false true before now own stays had = may-finished n now
ends-renewed n Plain false false before now own stays had = refl
ends-renewed n Partial was complete before now own stays had = refl
ends-renewed n Final was complete before now own stays had = absurd (cc)

-- an upload that is not a final one is as its kind asks where it is whole
pub IsOfKind-whole : (part : TenantBook) (kind : Kind) (u : Upload) → is_final kind ≡ false → IsWhole u → IsOfKind part u kind
IsOfKind-whole part Plain u own whole = whole
IsOfKind-whole part Partial u own whole = whole
IsOfKind-whole part Final u own whole = absurd (cc)

-- an upload that is not a final one is whole
pub IsWhole-from_kind : (part : TenantBook) (kind : Kind) (u : Upload) → is_final kind ≡ false → IsOfKind part u kind → IsWhole u
IsWhole-from_kind part Plain u own sound = sound
IsWhole-from_kind part Partial u own sound = sound
IsWhole-from_kind part Final u own sound = absurd (cc)

-- an upload is as it should be after a PATCH
IsUploadOf-append : (n : Numbers) (account : Account) (part later : TenantBook) (u : Upload) (chunk : Chunk) (now : ℕ) → IsAppendable n account u chunk → IsUploadOf n part u → IsUploadOf n later (upload_with n u chunk now)
IsUploadOf-append n account part later u chunk now can sound =
    let after = upload_with n u chunk now in
    let within = ends_within n (or_else u.declared chunk.length) (offset_of u + length chunk.bytes) can.fits in
    let end = offset_of-append n u chunk now in
    let whole = IsWhole-from_kind part u.kind u can.own sound.kind in
    let declared = or_else u.declared chunk.length in
    let ends : may_end n u.kind (is_reached declared (offset_of u + length chunk.bytes)) after.expires ≡ true =
    ends-renewed n u.kind (is_complete u) (is_reached declared (offset_of u + length chunk.bytes)) u.expires now can.own
    (λ was. complete_later n declared (offset_of u) (offset_of u + length chunk.bytes) (omega arith) can.fits (complete_known u.declared chunk.length (offset_of u) was))
    (λ was. ap (λ complete. may_end n u.kind complete u.expires) (sym was) ∙ sound.ends) in
    record {
      within = rw end within.0;
      size = rw end within.1;
      kind = IsOfKind-whole later u.kind after can.own (record { segment = refl; parts = whole.parts });
      ends = ap (λ offset. may_end n u.kind (is_reached declared offset) after.expires) end ∙ ends;
      metadata = sound.metadata;
      concat = sound.concat;
    }

-- past the end of a complete upload there is room for no byte
pub no_bytes : (n : Numbers) (offset more : ℕ) → is_too_long n offset (offset + more) ≡ false → more ≡ 0
no_bytes n offset more fits = grind (arith, nat_tests)

-- a part of a final upload takes no more bytes
IsSegment-append : (n : Numbers) (account : Account) (u : Upload) (chunk : Chunk) (now : ℕ) (segment : List ℕ) → IsAppendable n account u chunk → (u.kind ≡ Partial) × IsComplete u × (content_of u ≡ segment) → let after = upload_with n u chunk now in (after.kind ≡ Partial) × IsComplete after × (content_of after ≡ segment)
IsSegment-append n account u chunk now segment can is =
    let fits = rw is.1 at can.fits in
    let none : length chunk.bytes ≡ 0 = no_bytes n (offset_of u) (length chunk.bytes) fits in
    let offset : offset_of (upload_with n u chunk now) ≡ offset_of u = offset_of-append n u chunk now ∙ omega arith in
    let content : content_of (upload_with n u chunk now) ≡ content_of u = content_of-append n u chunk now ∙ rw (nil_from_length chunk.bytes none) (append-nil (content_of u)) in
    (is.0, rw (is.1, offset) refl, content ∙ is.2)

-- and so still stands for its segment
IsSegmentOf-append : (n : Numbers) (account : Account) (part : TenantBook) (id : ℕ) (u : Upload) (chunk : Chunk) (now : ℕ) → kept_in part.uploads id ≡ Some u → IsAppendable n account u chunk → (other : ℕ) (segment : List ℕ) → IsSegmentOf part other segment → IsSegmentOf (with_changed part id (upload_with n u chunk now)) other segment
IsSegmentOf-append n account part id u chunk now there can other segment is =
    let after = upload_with n u chunk now in
    elim (eqb_tells other id) [
      | inl same ↦
          let seen = rw same.1 at is in
          let part-is = rw there at seen in
          rw same.1 (rw (kept_in-with_same part.uploads id after u there) (IsSegment-append n account u chunk now segment can part-is))
      | inr differs ↦ rw (kept_in-with_other part.uploads id other after differs.1) is
    ]

-- what stands under the id of an upload without parts has none
no_parts : (n : Numbers) (part : TenantBook) (id : ℕ) (u : Upload) → kept_in part.uploads id ≡ Some u → u.parts ≡ [] → IsTenantOf n part → All (λ (e : Entry Upload). e.id ≡ id → e.kept.parts ≡ []) part.uploads
no_parts n part id u there none sound = λ k d within named.
    let both : Some (get_or part.uploads k d).kept ≡ Some u = sym (kept_in-place part.uploads id k d sound.ascending within named) ∙ there in
    let one : (get_or part.uploads k d).kept ≡ u = (cc) in
    ap (λ (u : Upload). u.parts) one ∙ none

-- a PATCH that is not refused leaves the tenant's part as it should be
pub IsTenantOf-append : (n : Numbers) (account : Account) (part : TenantBook) (id : ℕ) (u : Upload) (chunk : Chunk) (now : ℕ) → kept_in part.uploads id ≡ Some u → append_refusal n account (head_row_of u) chunk ≡ None → IsTenantOf n part → IsTenantOf n (with_changed part id (upload_with n u chunk now))
IsTenantOf-append n account part id u chunk now there none sound =
    let can = IsAppendable-from_none n account u chunk none in
    let after = upload_with n u chunk now in
    let later : TenantBook = with_changed part id after in
    let change : Entry Upload → Entry Upload = λ e. cond (eqb e.id id) (record e { kept = after }) e in
    let sound-u = kept_in-All (IsUploadOf n part) part.uploads id u sound.uploads there in
    let segments = IsSegmentOf-append n account part id u chunk now there can in
    let whole = IsWhole-from_kind part u.kind u can.own sound-u.kind in
    record {
      first = sound.first;
      last = sound.last;
      few = omega (arith, sound.few, length-map part.uploads change);
      ascending = rw (ids_of-with_kept part.uploads id after) sound.ascending;
      given = All-map (λ (e : Entry Upload). IsGivenIn later e.id) change part.uploads (All-weaker (λ (e : Entry Upload). IsGivenIn part e.id) (λ (e : Entry Upload). IsGivenIn later (change e).id) (λ e given. elim (eqb e.id id) as (λ same. IsGivenIn later (cond same (record e { kept = after }) e).id) [ true ↦ given | false ↦ given ]) part.uploads sound.given);
      uploads = All-map (λ (e : Entry Upload). IsUploadOf n later e.kept) change part.uploads (All-weaker (λ (e : Entry Upload). IsUploadOf n part e.kept) (λ (e : Entry Upload). IsUploadOf n later (change e).kept) (λ e here. elim (eqb e.id id) as (λ same. IsUploadOf n later (cond same (record e { kept = after }) e).kept) [
        | true ↦ IsUploadOf-append n account part later u chunk now can sound-u
        | false ↦ IsUploadOf-beside n part later e.kept (λ _ given. given) (λ other segment _. segments other segment) here
      ]) part.uploads sound.uploads);
      later = All-map (λ (e : Entry Upload). All (λ p. p < e.id) e.kept.parts) change part.uploads (All-weaker (λ (e : Entry Upload). All (λ p. p < e.id) e.kept.parts) (λ (e : Entry Upload). All (λ p. p < (change e).id) (change e).kept.parts) (λ e older. elim (eqb e.id id) as (λ same. let now_there : Entry Upload = cond same (record e { kept = after }) e in All (λ p. p < now_there.id) now_there.kept.parts) [
        | true ↦ rw whole.parts (All-nil (λ p. p < e.id))
        | false ↦ older
      ]) part.uploads sound.later);
      shared = ShareParts-with_kept part.uploads id after whole.parts (no_parts n part id u there whole.parts sound) sound.shared;
    }
