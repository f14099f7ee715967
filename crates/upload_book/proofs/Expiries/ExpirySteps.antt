-- What the list of the uploads that expire keeps where one tenant's part of the book changes.
use Rattle.std.proofs.Common.{◌≡◌, ◌≢◌, ℕ, ◌<◌, ◌≤◌, ◌*◌, List, [], length, Option, Some, None, refl, sym, ap, subst, ◌∙◌, arith}
use Rattle.std.proofs.lemmas.Option.{none-some}
use Rattle.std.specs.List.{All, Contains}
use Rattle.std.specs.Option.{IsSome}
use Rattle.std.proofs.lemmas.Bool.{false≢true}
use Rattle.std.proofs.Math.ListN.{get_or-map, length-set}
use Rattle.upload_book.specs.declared.expiry_list.Expiring.{Expiring}
use Rattle.upload_book.specs.declared.head_row.Name.{Name}
use Rattle.upload_book.specs.declared.settings.Numbers.{Numbers}
use Rattle.upload_book.specs.declared.settings.TenantQuota.{TenantQuota}
use Rattle.upload_book.specs.Expiries.{end_in, ends_of, AreExpiries}
use Rattle.upload_book.specs.ExpiryList.{with_end, AreExpiring, Ends, KnowsEnd}
use Rattle.upload_book.specs.Lawful.{IsLawful, IsTenantOf}
use Rattle.upload_book.specs.PlainBook.{PlainBook, opening_book, tenant_book, with_tenant_book}
use Rattle.upload_book.specs.Settings.{Settings}
use Rattle.upload_book.specs.TenantBook.{TenantBook, Entry, opening_part}
use Rattle.upload_book.specs.Upload.{Upload}
use Rattle.upload_book.proofs.Expiries.BookEnds.{HasEnd, ends-with, kept_in-above}
use Rattle.upload_book.proofs.Expiries.EndsLemmas.{AreExpiring-same, KnowsEnd-told, with_end-other, with_end-same}
use Rattle.upload_book.proofs.Expiries.FewEnds.{expiries-few, expiries-room}

-- a list has no upload where none expires
AreExpiring-none : (ends : Ends) → ((name : Name) → ends name ≡ None) → AreExpiring ends []
AreExpiring-none ends none = record {
  ascending = λ i j d below within. absurd (omega arith);
  each = λ x. (λ there. absurd (omega (arith, there.1)), λ told. absurd (none-some x.at (sym (none x.name) ∙ told)));
}

-- in the book with no upload none does
pub AreExpiries-opening : (settings : Settings) → AreExpiries (opening_book settings) []
AreExpiries-opening settings =
    AreExpiring-none (ends_of (opening_book settings)) (λ name.
    ap (λ (part : TenantBook). end_in part name.id) (get_or-map (λ (t : TenantQuota). opening_part t.quota) settings.tenants name.tenant (record { name = []; quota = 0 })))

-- all ids that were given come before the next one,
pub ids-below : (n : Numbers) (part : TenantBook) → IsTenantOf n part → All (λ (e : Entry Upload). e.id < part.next) part.uploads
ids-below n part sound = λ k d within. (sound.given k d within).1

-- so this has no end
pub next-none : (part : TenantBook) → All (λ (e : Entry Upload). e.id < part.next) part.uploads → end_in part part.next ≡ None
next-none part below = ap (λ found. end_of found) (kept_in-above part.uploads part.next below)
  where
    end_of : Option Upload → Option ℕ
    end_of None = None
    end_of (Some u) = u.expires

some_at : (end : Option ℕ) → IsSome end → (at : ℕ) × (end ≡ Some at)
some_at None some = absurd (false≢true some)
some_at (Some at) some = (at, refl)

-- one tenant's part changes, in which one upload gets another end, or ends
pub record IsRenewed (b : PlainBook) (list : List Expiring) (t id : ℕ) (part : TenantBook) (before end : Option ℕ) : Type 0 where
  pub lawful : IsLawful b
  pub are : AreExpiries b list
  pub within : t < length b.tenants
  pub was : end_in (tenant_book b t) id ≡ before
  pub has : HasEnd (tenant_book b t) part id end
  pub after : IsLawful (with_tenant_book b t part)

module _ {b : PlainBook} {list : List Expiring} {t id : ℕ} {part : TenantBook} {before end : Option ℕ} (r : IsRenewed b list t id part before end) where
  abbrev name : Name
  name = record { tenant = t; id = id }

  abbrev later : PlainBook
  later = with_tenant_book b t part

  -- the list knows the end that it had
  pub renewed-known : KnowsEnd list name before
  renewed-known = KnowsEnd-told (ends_of b) name before list r.are r.was

  -- there is room for all,
  pub renewed-few : length list ≤ length b.tenants * b.settings.numbers.uploads
  renewed-few = expiries-few b list r.lawful r.are

  -- and for one that did not expire,
  renewed-one : (at : ℕ) → end ≡ Some at → before ≡ None → length list < length b.tenants * b.settings.numbers.uploads
  renewed-one at is none =
      let with_it = ends-with b t id part end r.within r.has in
      let here : ends_of later name ≡ Some at = sym (with_it name) ∙ with_end-same (ends_of b) name end ∙ is in
      let each : (y : Expiring) → Contains list y → (ends_of later y.name ≡ Some y.at) × (record { at = at; name = name } ≢ y) = λ y there.
      let told : ends_of b y.name ≡ Some y.at = (r.are.each y).0 there in
      let differs : y.name ≢ name = λ same. none-some y.at (sym (r.was ∙ none) ∙ ap (ends_of b) (sym same) ∙ told) in
      (sym (with_it y.name) ∙ with_end-other (ends_of b) name end y.name differs ∙ told, λ same. differs (ap (λ (x : Expiring). x.name) (sym same))) in
      subst (λ n. length list < n * b.settings.numbers.uploads) (length-set b.tenants t part)
      (expiries-room later list (record { at = at; name = name }) r.after r.are.ascending here each)

  pub renewed-room : before ≡ None → IsSome end → length list < length b.tenants * b.settings.numbers.uploads
  renewed-room none some = let end_is = some_at end some in renewed-one end_is.0 end_is.1 none

  -- and with the new end it is the list of the book after the change
  pub AreExpiries-renewed : (new : List Expiring) → AreExpiring (with_end (ends_of b) name end) new → AreExpiries later new
  AreExpiries-renewed new is =
      AreExpiring-same (with_end (ends_of b) name end) (ends_of later) new (ends-with b t id part end r.within r.has) is
