-- A creation leaves a tenant's part as it should be.
use Rattle.std.proofs.Common.{◌≡◌, ℕ, ◌+◌, ◌<◌, ◌≤◌, Bool, true, false, not, ltb, leb, List, length, None, true≢false, unwrap_or, IsTrue, refl, sym, ap, ◌∙◌, arith}
use Rattle.std.specs.Prelude.{◌||◌}
use Rattle.std.proofs.lemmas.Bool.Decides.{nat_tests}
use Rattle.std.proofs.lemmas.List.{append-nil}
use Rattle.upload_book.specs.Account.{blocks_added}
use Rattle.upload_book.specs.Append.{is_too_long}
use Rattle.upload_book.specs.Checksum.{is_mismatch, is_of_other_algorithm}
use Rattle.upload_book.specs.Create.{creation_refusal, created_upload, new_kind}
use Rattle.upload_book.specs.declared.board_line.Account.{Account}
use Rattle.upload_book.specs.declared.settings.Numbers.{Numbers}
use Rattle.upload_book.specs.Expiry.{may_end}
use Rattle.upload_book.specs.FirstChunk.{FirstChunk, count_all_first}
use Rattle.upload_book.specs.Lawful.{IsTenantOf, IsUploadOf, IsConcatText, is_kept_metadata}
use Rattle.upload_book.specs.NewUpload.{NewUpload}
use Rattle.upload_book.specs.TenantBook.{TenantBook, with_new}
use Rattle.upload_book.specs.Upload.{Upload, offset_of, is_reached}
use Rattle.upload_book.proofs.Charge.ChargeLemmas.{new-own}
use Rattle.upload_book.proofs.Lawful.FirstRefusal.{test-passed}
use Rattle.upload_book.proofs.Lawful.LawfulAppend.{ends-renewed, ends_within, fewer_blocks, fewer_fit, IsOfKind-whole, not_above}
use Rattle.upload_book.proofs.Lawful.LawfulSteps.{HasSharedParts-none, IsTenantOf-with_new}

-- what is known of a creation that is not refused
pub record IsCreatable (n : Numbers) (account : Account) (part : TenantBook) (new : NewUpload) (first : FirstChunk) : Type 0 where
  pub typed : not first.typed ≡ false
  pub fits : is_too_long n (unwrap_or new.length n.max_size) (length first.bytes) ≡ false
  pub room : length part.uploads < n.uploads
  pub id : part.next ≤ n.last_id
  pub unspent : account.charged + blocks_added n 0 (length first.bytes) ≤ n.last_total
  pub paid : account.charge + blocks_added n 0 (length first.bytes) ≤ account.quota
  pub all_fit : is_too_long n (unwrap_or new.length n.max_size) (count_all_first first) ≡ false
  pub all_unspent : account.charged + blocks_added n 0 (count_all_first first) ≤ n.last_total
  pub all_paid : account.charge + blocks_added n 0 (count_all_first first) ≤ account.quota

-- it is known where no refusal applies
pub IsCreatable-from_none : (n : Numbers) (account : Account) (part : TenantBook) (new : NewUpload) (first : FirstChunk) → creation_refusal n account part new first ≡ None → IsCreatable n account part new first
IsCreatable-from_none n account part new first none =
    let added = blocks_added n 0 (count_all_first first) in
    let fewer = fewer_blocks n.block_size 0 (length first.bytes) first.more in
    let typed = test-passed (not first.typed) _ _ none in
    let fits = test-passed (is_too_long n (unwrap_or new.length n.max_size) (count_all_first first)) _ _ typed.1 in
    let known = test-passed (is_of_other_algorithm first.check) _ _ fits.1 in
    let same = test-passed (is_mismatch first.check first.bytes) _ _ known.1 in
    let room = test-passed (leb n.uploads (length part.uploads)) _ _ same.1 in
    let unspent = test-passed (ltb n.last_id part.next || ltb n.last_total (account.charged + added)) _ _ room.1 in
    let paid = test-passed (ltb account.quota (account.charge + added)) _ _ unspent.1 in
    let both = neither _ _ unspent.0 in
    record {
      typed = typed.0;
      fits = fewer_fit n (unwrap_or new.length n.max_size) (length first.bytes) (count_all_first first) (omega arith) fits.0;
      room = less n.uploads (length part.uploads) room.0;
      id = at_most n.last_id part.next both.0;
      unspent = omega (arith, fewer, at_most n.last_total (account.charged + added) both.1);
      paid = omega (arith, fewer, at_most account.quota (account.charge + added) paid.0);
      all_fit = fits.0;
      all_unspent = at_most n.last_total (account.charged + added) both.1;
      all_paid = at_most account.quota (account.charge + added) paid.0;
    }
  where
    neither : (a b : Bool) → (a || b) ≡ false → (a ≡ false) × (b ≡ false)
    neither true b is = absurd (cc)
    neither false b is = (refl, is)

    less : (most k : ℕ) → leb most k ≡ false → k < most
    less most k test = grind (arith, nat_tests)

    at_most : (most k : ℕ) → ltb most k ≡ false → k ≤ most
    at_most most k test = grind (arith, nat_tests)

-- and no refusal applies where it is known of all its bytes, and nothing is said of a checksum
pub creation_refusal-none : (n : Numbers) (account : Account) (part : TenantBook) (new : NewUpload) (first : FirstChunk) → not first.typed ≡ false → is_too_long n (unwrap_or new.length n.max_size) (count_all_first first) ≡ false
    → is_of_other_algorithm first.check ≡ false → is_mismatch first.check first.bytes ≡ false → length part.uploads < n.uploads → part.next ≤ n.last_id
    → account.charged + blocks_added n 0 (count_all_first first) ≤ n.last_total → account.charge + blocks_added n 0 (count_all_first first) ≤ account.quota → creation_refusal n account part new first ≡ None
creation_refusal-none n account part new first typed fits known same room id unspent paid =
    let added = blocks_added n 0 (count_all_first first) in
    rw (typed, fits, known, same, fewer n.uploads (length part.uploads) room, not_above n.last_id part.next id, not_above n.last_total (account.charged + added) unspent, not_above account.quota (account.charge + added) paid) refl
  where
    fewer : (most k : ℕ) → k < most → leb most k ≡ false
    fewer most k less = grind (arith, nat_tests)

-- the texts of a new upload are of their forms
pub record HasLawfulTexts (new : NewUpload) : Type 0 where
  pub metadata : IsTrue (is_kept_metadata new.metadata)
  pub concat : IsConcatText (new_kind new.partial) new.concat

-- a new upload is as it should be
IsUploadOf-create : (n : Numbers) (part : TenantBook) (new : NewUpload) (bytes : List ℕ) (now : ℕ) → is_too_long n (unwrap_or new.length n.max_size) (length bytes) ≡ false → HasLawfulTexts new → IsUploadOf n part (created_upload n new bytes now)
IsUploadOf-create n part new bytes now fits texts =
    let u : Upload = created_upload n new bytes now in
    let end : offset_of u ≡ length bytes = ap (length {A = ℕ}) (append-nil bytes) in
    let within = ends_within n new.length (length bytes) fits in
    let ends : may_end n (new_kind new.partial) (is_reached new.length (length bytes)) u.expires ≡ true =
    ends-renewed n (new_kind new.partial) false (is_reached new.length (length bytes)) None now (new-own new.partial) (λ was. absurd (true≢false (sym was))) (λ was. absurd (true≢false (sym was))) in
    record {
      within = rw end within.0;
      size = rw end within.1;
      kind = IsOfKind-whole part (new_kind new.partial) u (new-own new.partial) (record { segment = refl; parts = refl });
      ends = ap (λ offset. may_end n (new_kind new.partial) (is_reached new.length offset) u.expires) end ∙ ends;
      metadata = texts.metadata;
      concat = texts.concat;
    }

-- a creation that is not refused leaves the tenant's part as it should be
pub IsTenantOf-create : (n : Numbers) (account : Account) (part : TenantBook) (new : NewUpload) (first : FirstChunk) (now : ℕ) → creation_refusal n account part new first ≡ None → HasLawfulTexts new → IsTenantOf n part
    → IsTenantOf n (with_new part (created_upload n new first.bytes now))
IsTenantOf-create n account part new first now none texts sound =
    let can = IsCreatable-from_none n account part new first none in
    IsTenantOf-with_new n part (created_upload n new first.bytes now) can.room can.id (IsUploadOf-create n _ new first.bytes now can.fits texts) (HasSharedParts-none part part.next (created_upload n new first.bytes now) refl) sound
