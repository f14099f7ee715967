-- The book where partial uploads are joined to a final one.
use Rattle.std.proofs.Common.{◌≡◌, ℕ, ◌+◌, ◌<◌, Bool, not, ◌&&◌, ltb, leb, List, [], ◌∷◌, length, min, set, get_or, Option, None, refl, sym, ap, ap₂, ◌∙◌, subst, arith}
use Rattle.std.proofs.Math.ListN.{length-map}
use Rattle.std.proofs.lemmas.Bool.Decides.{nat_tests}
use Rattle.block_bodies.specs.Changes.{SameSizes}
use Rattle.upload_book.specs.Book.{StoredBook, IsBook, plain_of}
use Rattle.upload_book.specs.Concat.{are_complete, are_there, concat_refusal, concat_tests, final_upload, joined_len, joined_upload, part_after_concat, parts_found, rows_of}
use Rattle.upload_book.specs.declared.head_row.HeadRow.{HeadRow}
use Rattle.upload_book.specs.declared.parts_seen.PartsSeen.{PartsSeen}
use Rattle.upload_book.specs.declared.refusal.Refusal.{Refusal}
use Rattle.upload_book.specs.declared.refusal.Refusal.TheVariants.{TooLong, Part, PartOpen, Uploads, Spent}
use Rattle.upload_book.specs.declared.settings.Numbers.{Numbers}
use Rattle.upload_book.specs.Expiry.{finished_end}
use Rattle.upload_book.specs.ExpiryList.{ExpiryList}
use Rattle.upload_book.specs.Lawful.{IsTenantOf}
use Rattle.upload_book.specs.NewFinal.{NewFinal}
use Rattle.upload_book.specs.PlainBook.{book_after, tenant_book, with_tenant_book}
use Rattle.upload_book.specs.Refusal.{first_that_holds}
use Rattle.upload_book.specs.BlockStore.{BlockStore, plain_in, part_at, rows_at, stored_tenant_at}
use Rattle.upload_book.specs.inside.Places.{AreFew}
use Rattle.upload_book.specs.Stored.{entry_of}
use Rattle.upload_book.specs.TenantBook.{TenantBook, with_new}
use Rattle.upload_book.proofs.Store.AloneLemmas.{segments-few}
use Rattle.upload_book.proofs.Steps.BookLemmas.{book_with, IsLawful-concat, IsTenantOf-book, with_tenant_book-same}
use Rattle.upload_book.proofs.Expiries.BookEnds.{HasEnd-new}
use Rattle.upload_book.proofs.Expiries.ExpirySteps.{IsRenewed, ids-below, next-none}
use Rattle.upload_book.proofs.Steps.BookSteps.{Follows, IsBook-follows, IsIndex, part-plain, part-sound, part-within, plain-follows, stored_tenants-settings, stored_with}
use Rattle.upload_book.proofs.Lawful.LawfulConcat.{HasLawfulParts, IsJoinable, IsJoinable-from_none, charge-concat}
use Rattle.upload_book.proofs.Lawful.Outcomes.{part_after_concat-none}
use Rattle.upload_book.proofs.Lawful.SettingsLemmas.{last_id-within, max_size-within, uploads-within}

-- the numbers were read, and the parts of a concatenation seen together
pub record SeesParts (b : StoredBook) (t place : ℕ) (n : Numbers) (named : List (Option ℕ)) (new : NewFinal) (now : ℕ) (seen : PartsSeen) : Type 0 where
  pub kept : IsBook b
  pub within : t < length b.store.stored_tenants
  pub at : place ≡ t
  pub numbers : n ≡ b.settings.numbers
  pub same : named ≡ new.parts
  pub there : seen.there ≡ are_there named (rows_at b.store place named now)
  pub complete : seen.complete ≡ are_complete (rows_at b.store place named now)
  pub len : seen.len ≡ min (joined_len (rows_at b.store place named now)) 18446744073709551615

-- the tests, where the last question on the parts is answered
abbrev tests_by : Numbers → TenantBook → Bool → Bool → Bool → List (Bool × Refusal)
tests_by n part there complete long =
    (there && complete && long, TooLong)
    ∷ (not there, Part)
    ∷ (not complete, PartOpen)
    ∷ (leb n.uploads (length part.uploads), Uploads)
    ∷ (ltb n.last_id part.next, Spent)
    ∷ []

-- what they tell of the same is the same
same_tests : (n m : Numbers) (part part' : TenantBook) (there there' complete complete' long long' : Bool) → n ≡ m → part ≡ part' → there ≡ there' → complete ≡ complete' → long ≡ long'
    → first_that_holds (tests_by n part there complete long) ≡ first_that_holds (tests_by m part' there' complete' long')
same_tests n m part part' there there' complete complete' long long' numbers parts all whole above = rw (numbers, parts, all, whole, above) refl

-- a number that is cut is above a limit below the cut exactly where it is
cut-above : (limit len cut seen : ℕ) → limit < cut → seen ≡ min len cut → ltb limit seen ≡ ltb limit len
cut-above limit len cut seen below is = grind (arith, nat_tests)

module _ {b : StoredBook} {t place : ℕ} {n : Numbers} {named : List (Option ℕ)} {new : NewFinal} {now : ℕ} {seen : PartsSeen} (s : SeesParts b t place n named new now seen) where
  -- the rows are those of the plain book
  rows-plain : rows_at b.store place named now ≡ rows_of (parts_found (tenant_book (plain_of b) t) now new.parts)
  rows-plain =
      ap (λ t. rows_at b.store t named now) s.at ∙ ap (λ (named : List (Option ℕ)). rows_at b.store t named now) s.same
      ∙ ap (λ part. rows_of (parts_found part now new.parts)) (sym (part-plain b t))

  -- the refusal is the plain book's
  pub refusal-told : (result : Option Refusal) → result ≡ first_that_holds (concat_tests n (part_at b.store place) seen.there seen.complete seen.len) → concat_refusal b.settings.numbers (tenant_book (plain_of b) t) new now ≡ result
  refusal-told result is =
      let rows : List HeadRow = rows_of (parts_found (tenant_book (plain_of b) t) now new.parts) in
      let part : TenantBook = tenant_book (plain_of b) t in
      let same_part : part_at b.store place ≡ part = ap (λ t. part_at b.store t) s.at ∙ sym (part-plain b t) in
      let there : seen.there ≡ are_there new.parts rows = s.there ∙ ap (λ (named : List (Option ℕ)). are_there named (rows_at b.store place named now)) s.same ∙ ap (are_there new.parts) (ap (λ (named : List (Option ℕ)). rows_at b.store place named now) (sym s.same) ∙ rows-plain) in
      let complete : seen.complete ≡ are_complete rows = s.complete ∙ ap are_complete rows-plain in
      let limit : b.settings.numbers.max_size < 18446744073709551615 = omega (arith, max_size-within b.settings s.kept.lawful.settings) in
      let long : ltb b.settings.numbers.max_size seen.len ≡ ltb b.settings.numbers.max_size (joined_len rows) =
      cut-above b.settings.numbers.max_size (joined_len rows) 18446744073709551615 seen.len limit (s.len ∙ ap (λ (rows : List HeadRow). min (joined_len rows) 18446744073709551615) rows-plain) in
      sym (is ∙ same_tests n b.settings.numbers (part_at b.store place) part seen.there (are_there new.parts rows) seen.complete (are_complete rows) (ltb n.max_size seen.len) (ltb b.settings.numbers.max_size (joined_len rows)) s.numbers same_part there complete (ap (λ (n : Numbers). ltb n.max_size seen.len) s.numbers ∙ long))

  -- where nothing is refused, the tenant may have the upload,
  pub joinable : concat_refusal b.settings.numbers (tenant_book (plain_of b) t) new now ≡ None → IsJoinable b.settings.numbers (tenant_book (plain_of b) t) new now
  joinable none = IsJoinable-from_none b.settings.numbers (tenant_book (plain_of b) t) new now none

  -- it has as many bytes as were counted,
  pub len-told : concat_refusal b.settings.numbers (tenant_book (plain_of b) t) new now ≡ None → seen.len ≡ joined_len (rows_at b.store place new.parts now)
  len-told none =
      let small = (joinable none).small in
      let rows = ap joined_len rows-plain in
      omega (arith, s.len, small, rows, max_size-within b.settings s.kept.lawful.settings) ∙ ap (λ (named : List (Option ℕ)). joined_len (rows_at b.store place named now)) s.same

  -- there is room for it,
  pub concat-room : concat_refusal b.settings.numbers (tenant_book (plain_of b) t) new now ≡ None → length (stored_tenant_at b.store place).uploads < b.store.room
  concat-room none =
      let uploads : length (stored_tenant_at b.store place).uploads ≡ length (tenant_book (plain_of b) t).uploads =
      ap (λ t. length (stored_tenant_at b.store t).uploads) s.at ∙ sym (length-map (stored_tenant_at b.store t).uploads (entry_of b.store.pool)) ∙ ap (λ (part : TenantBook). length part.uploads) (sym (part-plain b t)) in
      omega (arith, uploads, (joinable none).room, s.kept.room)

  -- an id,
  pub concat-id : concat_refusal b.settings.numbers (tenant_book (plain_of b) t) new now ≡ None → (stored_tenant_at b.store place).next + 1 < 18446744073709551616
  concat-id none =
      let next : (stored_tenant_at b.store place).next ≡ (tenant_book (plain_of b) t).next = ap (λ t. (stored_tenant_at b.store t).next) s.at ∙ ap (λ (part : TenantBook). part.next) (sym (part-plain b t)) in
      omega (arith, next, (joinable none).unspent, last_id-within b.settings s.kept.lawful.settings)

  -- and each block may be held once more
  pub concat-few : AreFew b.store place
  concat-few = subst (AreFew b.store) (sym s.at) (record {
    uploads = omega (arith, sound.few, uploads-within b.settings s.kept.lawful.settings);
    segments = λ k d l. segments-few (part_at b.store t) (get_or (part_at b.store t).uploads k d).kept (get_or (part_at b.store t).uploads k d).kept.kind (sound.uploads k d l).kind;
  })
    where
      sound : IsTenantOf b.settings.numbers (part_at b.store t)
      sound = part-sound b t s.kept s.within

-- so it is where a call of the book read them
pub SeesParts-read : (b w : StoredBook) (t place : ℕ) (n : Numbers) (named : List (Option ℕ)) (new : NewFinal) (now : ℕ) (seen : PartsSeen) → IsBook b → b ≡ w → t < length w.settings.tenants → place ≡ t → n ≡ b.settings.numbers → named ≡ new.parts
    → seen.there ≡ are_there named (rows_at b.store place named now) → seen.complete ≡ are_complete (rows_at b.store place named now) → seen.len ≡ min (joined_len (rows_at b.store place named now)) 18446744073709551615 → SeesParts b t place n named new now seen
SeesParts-read b w t place n named new now seen kept is within at numbers same there complete len = record {
  kept = kept;
  within = omega (arith, within, stored_tenants-settings b kept, ap (λ (b : StoredBook). length b.settings.tenants) is);
  at = at;
  numbers = numbers;
  same = same;
  there = there;
  complete = complete;
  len = len;
}

-- a joined upload makes the book after the concatenation
pub concat-follows : (b : StoredBook) (s : BlockStore) (t : ℕ) (new : NewFinal) (now : ℕ) (expires : Option ℕ) → expires ≡ finished_end b.settings.numbers now
    → plain_in s ≡ set (plain_in b.store) t (with_new (part_at b.store t) (final_upload (parts_found (part_at b.store t) now new.parts) new expires)) → SameSizes b.store.pool s.pool → s.room ≡ b.store.room
    → Follows b s t (with_new (tenant_book (plain_of b) t) (joined_upload b.settings.numbers (tenant_book (plain_of b) t) new now))
concat-follows b s t new now expires end plain sizes room = record {
  plain = plain ∙ ap₂ (λ part expires. set (plain_in b.store) t (with_new part (final_upload (parts_found part now new.parts) new expires))) (sym (part-plain b t)) end;
  sizes = sizes;
  room = room;
}

-- a concatenation that is not refused
pub record Concats (b : StoredBook) (s : BlockStore) (t : ℕ) (new : NewFinal) (now : ℕ) : Type 0 where
  pub kept : IsBook b
  pub within : t < length b.store.stored_tenants
  pub parts : HasLawfulParts new
  pub none : concat_refusal b.settings.numbers (tenant_book (plain_of b) t) new now ≡ None
  pub follows : Follows b s t (with_new (tenant_book (plain_of b) t) (joined_upload b.settings.numbers (tenant_book (plain_of b) t) new now))

-- it is one where the store joined the upload
pub Concats-read : {b : StoredBook} {t place : ℕ} {n : Numbers} {named : List (Option ℕ)} {new : NewFinal} {now : ℕ} {seen : PartsSeen} (s : SeesParts b t place n named new now seen) (after : BlockStore) (expires : Option ℕ) → expires ≡ finished_end b.settings.numbers now → concat_refusal b.settings.numbers (tenant_book (plain_of b) t) new now ≡ None → HasLawfulParts new
    → plain_in after ≡ set (plain_in b.store) place (with_new (part_at b.store place) (final_upload (parts_found (part_at b.store place) now new.parts) new expires)) → SameSizes b.store.pool after.pool → after.room ≡ b.store.room → Concats b after t new now
Concats-read {b} {t} {place} {n} {named} {new} {now} s after expires end none parts plain sizes room = record {
  kept = s.kept;
  within = s.within;
  parts = parts;
  none = none;
  follows = concat-follows b after t new now expires end (subst (λ t. plain_in after ≡ set (plain_in b.store) t (with_new (part_at b.store t) (final_upload (parts_found (part_at b.store t) now new.parts) new expires))) s.at plain) sizes room;
}

-- its id is the next one
pub id-told : {b : StoredBook} {t place : ℕ} {n : Numbers} {named : List (Option ℕ)} {new : NewFinal} {now : ℕ} {seen : PartsSeen} (s : SeesParts b t place n named new now seen) (id : ℕ) → id ≡ (part_at b.store place).next → id ≡ (tenant_book (plain_of b) t).next
id-told {b} {t} s id is = is ∙ ap (λ t. (part_at b.store t).next) s.at ∙ ap (λ (part : TenantBook). part.next) (sym (part-plain b t))

-- leaves the totals
concats-totals : (b : StoredBook) (s : BlockStore) (t : ℕ) (new : NewFinal) (now : ℕ) → Concats b s t new now
    → let part = tenant_book (plain_of b) t in let after = with_new part (joined_upload b.settings.numbers part new now) in with_tenant_book (plain_of b) t after ≡ book_with (plain_of b) (set (plain_in b.store) t after) b.charged b.released
concats-totals b s t new now f =
    let part : TenantBook = tenant_book (plain_of b) t in
    with_tenant_book-same (plain_of b) t (with_new part (joined_upload b.settings.numbers part new now)) (charge-concat b.settings.numbers part new now (IsTenantOf-book (plain_of b) t f.kept.lawful (part-within b t f.within)))

-- the upload gets its end
pub concat-renewed : (b : StoredBook) (t : ℕ) (new : NewFinal) (now : ℕ) → IsBook b → t < length b.store.stored_tenants → HasLawfulParts new → concat_refusal b.settings.numbers (tenant_book (plain_of b) t) new now ≡ None
    → let part = tenant_book (plain_of b) t in IsRenewed (plain_of b) b.expiries.list t part.next (with_new part (joined_upload b.settings.numbers part new now)) None (finished_end b.settings.numbers now)
concat-renewed b t new now kept within parts none =
    let part : TenantBook = tenant_book (plain_of b) t in
    let below = ids-below b.settings.numbers part (IsTenantOf-book (plain_of b) t kept.lawful (part-within b t within)) in
    record {
      lawful = kept.lawful;
      are = kept.expiries;
      within = part-within b t within;
      was = next-none part below;
      has = HasEnd-new part (joined_upload b.settings.numbers part new now) below;
      after = IsLawful-concat (plain_of b) t new now kept.lawful (part-within b t within) none parts;
    }

-- makes a book
pub IsBook-concats : (b : StoredBook) (s : BlockStore) (t : ℕ) (new : NewFinal) (now : ℕ) (e : ExpiryList) → Concats b s t new now
    → let part = tenant_book (plain_of b) t in IsIndex b t (with_new part (joined_upload b.settings.numbers part new now)) e → IsBook (record (stored_with b s b.charged b.released) { expiries = e })
IsBook-concats b s t new now e f index =
    let part : TenantBook = tenant_book (plain_of b) t in
    IsBook-follows b s t (with_new part (joined_upload b.settings.numbers part new now)) b.charged b.released e f.kept f.follows (concats-totals b s t new now f) (concat-renewed b t new now f.kept f.within f.parts f.none).after index

-- and is the plain book's concatenation
pub plain-concats : (b : StoredBook) (s : BlockStore) (t : ℕ) (new : NewFinal) (now : ℕ) → Concats b s t new now → plain_of (stored_with b s b.charged b.released) ≡ book_after (plain_of b) t (part_after_concat new now)
plain-concats b s t new now f =
    let part : TenantBook = tenant_book (plain_of b) t in
    plain-follows b s t (with_new part (joined_upload b.settings.numbers part new now)) b.charged b.released f.follows (concats-totals b s t new now f)
    ∙ ap (with_tenant_book (plain_of b) t) (sym (part_after_concat-none b.settings.numbers part new now f.none))

-- so are the parts of a concatenation for which the book is ready
pub SeesParts-ready : (b : StoredBook) (t : ℕ) (new : NewFinal) (now : ℕ) → IsBook b → t < length b.settings.tenants
    → let rows = rows_at b.store t new.parts now in
    SeesParts b t t b.settings.numbers new.parts new now (record { there = are_there new.parts rows; complete = are_complete rows; len = min (joined_len rows) 18446744073709551615 })
SeesParts-ready b t new now kept within =
    SeesParts-read b b t t b.settings.numbers new.parts new now _ kept refl within refl refl refl refl refl refl
