-- The uploads that expire, in the order in which they do (tus 1.0.0, Expiration).
use Rattle.std.specs.Prelude.{◌≡◌, ◌↔◌, ℕ, Bool, true, ◌&&◌, ◌==◌, nat_lt, List, Contains, Option, None, Some, if◌then◌else◌}
use Rattle.std.specs.List.{AllPairs}
use Rattle.upload_book.specs.declared.expiry_list.Expiring.{Expiring}
use Rattle.upload_book.specs.declared.head_row.Name.{Name}
use Rattle.upload_book.specs.Expiry.{has_expired}

-- an upload that expires comes before another: by the moment, then by its tenant's place, then by its id
abbrev pub comes_before : Expiring → Expiring → Bool
comes_before x y =
    if x.at == y.at then
    (if x.name.tenant == y.name.tenant then nat_lt x.name.id y.name.id else nat_lt x.name.tenant y.name.tenant)
    else nat_lt x.at y.at

-- each comes before all later ones, so none stands twice
abbrev pub IsAscending : List Expiring → Type 0
IsAscending list = AllPairs (λ x y. comes_before x y ≡ true) list

-- when the upload of a name expires, if there is one and it does
abbrev pub Ends : Type 0
Ends = Name → Option ℕ

-- whether two names are one
abbrev pub is_same_name : Name → Name → Bool
is_same_name a b = a.tenant == b.tenant && a.id == b.id

-- the ends with another one of a name
abbrev pub with_end : Ends → Name → Option ℕ → Ends
with_end ends name end other = if is_same_name other name then end else ends other

-- the ends that are later than a moment
abbrev pub ends_after : ℕ → Ends → Ends
ends_after now ends name = if has_expired now (ends name) then None else ends name

-- a list has exactly the uploads that expire, each with its end and once, in their order
pub record AreExpiring (ends : Ends) (list : List Expiring) : Type 0 where
  pub ascending : IsAscending list
  pub each : (x : Expiring) → Contains list x ↔ (ends x.name ≡ Some x.at)

-- a list knows exactly this end of a name: it has the name with this end, if that is some, and with no other
abbrev pub KnowsEnd : List Expiring → Name → Option ℕ → Type 0
KnowsEnd list name end = (at : ℕ) → Contains list (record { at = at; name = name }) ↔ (end ≡ Some at)

-- the list, and for how many there is room in it
pub record ExpiryList : Type 0 where
  pub list : List Expiring
  pub room : ℕ
