-- The path of a request's target (RFC 9112, section 3.2): first the grammar, as a tree, a printer and
-- a fact, and then the function that reads it. The authority is not looked at further.
use Rattle.std.specs.Prelude.{◌≡◌, ◌≢◌, ℕ, ◌^◌, ◌<◌, ◌⊎◌, Bool, not, ◌||◌, ◌==◌, List, [], ◌++◌, length, take, drop, slice_index, Option, Some, None, option_and_then, if◌then◌else◌, IsTrue, codes, bytes_eq, ⊤}
use Rattle.std.specs.List.{AllPass, before_first, after_first, prefix_len}
use Rattle.std.specs.Option.{option_map_or}
use Rattle.std.specs.Str.{byte, all_ascii_digits, str_to_ascii_lowercase, str_eq_ignore_ascii_case}
use Rattle.std.specs.Str.Parse.{digits_value}
use Rattle.tus_text.specs.declared.path.Path.{Path}
use Rattle.tus_text.specs.declared.path.Path.TheVariants.{Create, Upload, Other}
use Rattle.tus_text.specs.Number.{number_of}
use Rattle.tus_text.specs.Tenant.{is_tenant_name}

-- a byte of an authority: any but `/`, `?`, `#` and the space
abbrev pub is_authority_byte : ℕ → Bool
is_authority_byte b = not (b == byte "/" || b == byte "?" || b == byte "#" || b == byte " ")

-- where a target in absolute form goes: `http://` or `https://` in any letter case, and an authority
pub record Origin : Type 0 where
  pub scheme : List ℕ
  pub authority : List ℕ

pub record IsOrigin (o : Origin) : Type 0 where
  pub scheme : (str_to_ascii_lowercase o.scheme ≡ codes "http://") ⊎ (str_to_ascii_lowercase o.scheme ≡ codes "https://")
  pub some : 0 < length o.authority
  pub authority : AllPass is_authority_byte o.authority

-- what follows the tenant: nothing, a slash, or a slash and the digits of an id
pub data Tail : Type 0 where
  bare slash : Tail
  id : List ℕ → Tail

-- one or more digits, the first not `0`, of a value below 2^64
pub record IsId (digits : List ℕ) : Type 0 where
  pub some : 0 < length digits
  pub numeral : IsTrue (all_ascii_digits digits)
  pub first : slice_index digits 0 ≢ byte "0"
  pub fits : digits_value 10 digits < 2 ^ 64

-- [ scheme authority ] `/files/` tenant tail
pub record Target : Type 0 where
  pub origin : Option Origin
  pub tenant : List ℕ
  pub tail : Tail

abbrev pub print_origin : Option Origin → List ℕ
print_origin None = []
print_origin (Some o) = o.scheme ++ o.authority

abbrev pub print_tail : Tail → List ℕ
print_tail bare = []
print_tail slash = codes "/"
print_tail (id digits) = codes "/" ++ digits

-- the bytes of a target
abbrev pub print_target : Target → List ℕ
print_target t = print_origin t.origin ++ (codes "/files/" ++ (t.tenant ++ print_tail t.tail))

abbrev pub HasOrigin : Option Origin → Type 0
HasOrigin None = ⊤
HasOrigin (Some o) = IsOrigin o

abbrev pub IsTail : Tail → Type 0
IsTail bare = ⊤
IsTail slash = ⊤
IsTail (id digits) = IsId digits

-- each part is of its class
pub record IsTarget (t : Target) : Type 0 where
  pub origin : HasOrigin t.origin
  pub tenant : IsTrue (is_tenant_name t.tenant)
  pub tail : IsTail t.tail

-- what a tenant and a tail name
abbrev pub named_path : List ℕ → Tail → Path
named_path tenant bare = Create tenant
named_path tenant slash = Create tenant
named_path tenant (id digits) = Upload tenant (digits_value 10 digits)

-- The path is what the bytes name by the grammar: every tree that prints them names it, and one does
-- unless the path is `Other`.
pub record Names (target : List ℕ) (path : Path) : Type 0 where
  pub every : (t : Target) → IsTarget t → target ≡ print_target t → path ≡ named_path t.tenant t.tail
  pub some : path ≢ Other → (t : Target) × IsTarget t × (target ≡ print_target t)

-- what follows the scheme, where the bytes begin with it in any letter case
abbrev pub after_scheme : List ℕ → List ℕ → Option (List ℕ)
after_scheme scheme target =
    if str_eq_ignore_ascii_case (take (length scheme) target) scheme then Some (drop (length scheme) target)
    else None

-- what follows an authority of one byte or more
abbrev pub after_authority : List ℕ → Option (List ℕ)
after_authority text =
    let len = prefix_len is_authority_byte text in if len == 0 then None else Some (drop len text)

-- what follows the origin, or all where there is none
abbrev pub after_origin : List ℕ → Option (List ℕ)
after_origin target =
    option_map_or after_authority (after_scheme (codes "http://") target)
    (option_map_or after_authority (after_scheme (codes "https://") target) (Some target))

-- what follows `/files/`
abbrev pub after_files : List ℕ → Option (List ℕ)
after_files path =
    if bytes_eq (take 7 path) (codes "/files/") then Some (drop 7 path) else None

-- the number of an id's digits
abbrev pub id_of : List ℕ → Option ℕ
id_of text = if slice_index text 0 == byte "0" then None else number_of text

abbrev pub is_slash : ℕ → Bool
is_slash b = b == byte "/"

-- what the text after `/files/` names: a tenant up to the first slash, and an id after it
abbrev pub path_in_files : List ℕ → Path
path_in_files text =
    let tenant = before_first is_slash text in
    let rest = after_first is_slash text in
    if is_tenant_name tenant
    then (if length rest == 0 then Create tenant else option_map_or (Upload tenant) (id_of rest) Other)
    else Other

-- the path that the target names
unfoldable pub path_of : List ℕ → Path
path_of target =
    option_map_or path_in_files (option_and_then after_files (after_origin target)) Other
