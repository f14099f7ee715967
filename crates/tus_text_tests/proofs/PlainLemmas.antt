-- What the plain programs stand on: std's parser of numbers beside `number_of`, and the cuts of a text
-- beside `path_in_files`.
use Rattle.std.proofs.Common.{◌≡◌, ◌≢◌, ℕ, ◌+◌, ◌<◌, ◌^◌, true, List, [], ◌∷◌, ◌++◌, length, get_or, take, drop, Option, Some, None, Result, Ok, Err, IsAscii, IsUtf8, codes, inl, inr, refl, sym, ap, ◌∙◌, arith}
use Rattle.std.specs.Result.{OkIff, result_ok}
use Rattle.std.specs.List.{AllPass}
use Rattle.std.specs.Option.{option_map_or}
use Rattle.std.specs.Str.{all_ascii_digits, str_to_ascii_lowercase}
use Rattle.std.specs.Str.Parse.{ParsesUnsigned, digits_value}
use Rattle.std.proofs.lemmas.Bool.{cases_lt}
use Rattle.std.proofs.lemmas.Bool.Decides.{nat_tests}
use Rattle.std.proofs.lemmas.List.{get_or_past, take_at, drop_at, take-append-drop, length-append, length-map}
use Rattle.std.proofs.lemmas.Option.{none-some, same_Some}
use Rattle.std.proofs.lemmas.Str.{IsUtf8-from_ascii}
use Rattle.std.proofs.lemmas.Str.Parse.{digit_at, parse_plain}
use Rattle.tus_text.specs.declared.path.Path.{Path}
use Rattle.tus_text.specs.declared.path.Path.TheVariants.{Create, Upload, Other}
use Rattle.tus_text.specs.Number.{number_of}
use Rattle.tus_text.specs.Tenant.{is_tenant_name}
use Rattle.tus_text.specs.Path.{Origin, HasOrigin, print_origin, Tail, bare, slash, id, IsId, IsTail, print_tail, print_target, IsTarget, Target, named_path, is_authority_byte, after_files, path_in_files, path_of}
use Rattle.tus_text.proofs.NumberLemmas.{numerals, IsNumber, number_of-empty, number_of-numeral, number_of-other_byte, number_of-some}
use Rattle.tus_text.proofs.PathLemmas.{path_in_files-tail, path_in_files-reading, path_of-printed, path_of-Names, after_files-sound}

ascii-digits : (text : List ℕ) → all_ascii_digits text ≡ true → IsAscii text
ascii-digits text digits i =
    elim (cases_lt i (length text)) [
      | inl within ↦ omega (arith, digit_at text i (numerals.to text digits) within)
      | inr past ↦ omega (arith, get_or_past text i 0 past)
    ]

-- what is no number
number_of-none : (text : List ℕ) → (IsNumber text → ⊥) → number_of text ≡ None
unfolding number_of
number_of-none text never =
    let not_one : 0 < length text → all_ascii_digits text ≡ true → digits_value 10 text < 2 ^ 64 → ⊥
    = λ some digits fits. never (record { some = some; digits = digits; fits = fits }) in
    grind (arith, nat_tests)

-- no bytes, or such as begin with a plus
pub number_of-plus : (text : List ℕ) → (0 < length text → get_or text 0 0 ≡ 43) → number_of text ≡ None
number_of-plus [] plus = number_of-empty
number_of-plus (byte ∷ rest) plus =
    let first = plus (omega arith) in
    number_of-other_byte (byte ∷ rest) 0 (omega arith) (λ digit. omega arith)

-- bytes that are no text
pub number_of-other_text : (text : List ℕ) → (IsUtf8 text → ⊥) → number_of text ≡ None
number_of-other_text text other =
    number_of-none text (λ number. other (IsUtf8-from_ascii text (ascii-digits text number.digits)))

result-number : {E : Type 0} (text : List ℕ) (r : Result ℕ E) → OkIff r ((all_ascii_digits text ≡ true) × (0 < length text) × (digits_value 10 text < 2 ^ 64)) (digits_value 10 text) → result_ok r ≡ number_of text
result-number text (Ok n) parsed = ap Some parsed.1 ∙ sym (number_of-numeral text parsed.0.1 parsed.0.0 parsed.0.2)
result-number text (Err e) refused = sym (number_of-none text (λ number. refused (number.digits, number.some, number.fits)))

-- what `parse` gives of a text with no leading plus
pub parse-number : {E : Type 0} (text : List ℕ) (r : Result ℕ E) → ParsesUnsigned 64 10 text r → get_or text 0 0 ≢ 43 → result_ok r ≡ number_of text
parse-number text r parsed plain = result-number text r (parse_plain numerals 64 text r parsed plain)

-- the bytes of an id's tail
pub tail-id : (tail : List ℕ) (n : ℕ) → 0 < length tail → get_or tail 0 0 ≡ 47 → get_or (drop 1 tail) 0 0 ≢ 48 → number_of (drop 1 tail) ≡ Some n → IsId (drop 1 tail) × (tail ≡ 47 ∷ drop 1 tail) × (n ≡ digits_value 10 (drop 1 tail))
tail-id [] n some begins first is_number = absurd (omega arith)
tail-id (byte ∷ digits) n some begins first is_number =
    let number = number_of-some digits n is_number in
    let value = number_of-numeral digits number.some number.digits number.fits in
    (record { some = number.some; numeral = number.digits; first = first; fits = number.fits }, ap (λ b. b ∷ digits) begins, same_Some _ _ (sym is_number ∙ value))

-- no tail is a slash and bytes that are no number
pub no_tail : (tail : List ℕ) → 1 < length tail → number_of (drop 1 tail) ≡ None → (t : Tail) → IsTail t → tail ≡ print_tail t → ⊥
no_tail tail long none bare valid printed = omega (arith, ap length printed)
no_tail tail long none slash valid printed = omega (arith, ap length printed)
no_tail tail long none (id digits) valid printed =
    none-some _ (sym (rw printed at none) ∙ number_of-numeral digits valid.some valid.numeral valid.fits)

-- the cut at k is into a tenant and a tail
abbrev pub IsCut : List ℕ → ℕ → Type 0
IsCut text k = (is_tenant_name (take k text) ≡ true) × (t : Tail) × IsTail t × (drop k text ≡ print_tail t)

pub path_in_files-cut : (text : List ℕ) (k : ℕ) (t : Tail) → is_tenant_name (take k text) ≡ true → IsTail t → drop k text ≡ print_tail t → path_in_files text ≡ named_path (take k text) t
path_in_files-cut text k t is_name valid printed =
    let whole = sym (take-append-drop k text) ∙ ap (λ bytes. take k text ++ bytes) printed in
    ap path_in_files whole ∙ path_in_files-tail (take k text) t is_name valid

reading-cut : (text tenant : List ℕ) (t : Tail) → is_tenant_name tenant ≡ true → IsTail t → text ≡ tenant ++ print_tail t → (length tenant < length text + 1) × IsCut text (length tenant)
reading-cut text tenant t is_name valid printed =
    let front : take (length tenant) text ≡ tenant = rw printed (take_at tenant (print_tail t) (length tenant) refl) in
    let back : drop (length tenant) text ≡ print_tail t = rw printed (drop_at tenant (print_tail t) (length tenant) refl) in
    let len = simp length-append at (ap length printed) in
    (omega arith, (rw front is_name, t, valid, back))

-- a path that a text names has a cut
path_in_files-some : (text : List ℕ) → ((k : ℕ) → k < length text + 1 → IsCut text k → ⊥) → path_in_files text ≢ Other → ⊥
path_in_files-some text never named =
    let reading = path_in_files-reading text named in
    let cut = reading-cut text reading.tenant reading.tail reading.is_name reading.valid reading.printed in
    never (length reading.tenant) cut.0 cut.1

pub path_in_files-other : (text : List ℕ) (p : Path) → path_in_files text ≡ p → ((k : ℕ) → k < length text + 1 → IsCut text k → ⊥) → Other ≡ p
path_in_files-other text Other is never = refl
path_in_files-other text (Create tenant) is never = absurd (path_in_files-some text never (λ other. cc))
path_in_files-other text (Upload tenant n) is never = absurd (path_in_files-some text never (λ other. cc))

-- a scheme in any letter case and an authority
abbrev pub IsSchemeAndAuthority : List ℕ → List ℕ → Type 0
IsSchemeAndAuthority scheme text =
    (front : List ℕ) × (authority : List ℕ) × (str_to_ascii_lowercase front ≡ str_to_ascii_lowercase scheme)
    × (0 < length authority) × AllPass is_authority_byte authority × (text ≡ front ++ authority)

-- the two parts are as long as the scheme says
pub scheme-cut : (scheme text front authority : List ℕ) → str_to_ascii_lowercase front ≡ str_to_ascii_lowercase scheme → text ≡ front ++ authority → (take (length scheme) text ≡ front) × (drop (length scheme) text ≡ authority)
scheme-cut scheme text front authority same printed =
    let len : length front ≡ length scheme = simp length-map at (ap length same) in
    rw printed (take_at front authority (length scheme) len, drop_at front authority (length scheme) len)

abbrev pub IsPrintedOrigin : List ℕ → Type 0
IsPrintedOrigin text = (o : Option Origin) × HasOrigin o × (text ≡ print_origin o)

-- what an absolute path names
abbrev pub absolute_path : List ℕ → Path
absolute_path path = option_map_or path_in_files (after_files path) Other

-- the cut at k is into an origin and a path that names something
abbrev pub IsOriginCut : List ℕ → ℕ → Type 0
IsOriginCut target k = IsPrintedOrigin (take k target) × (absolute_path (drop k target) ≢ Other)

-- the tree of an absolute path that names something
absolute-reading : (path : List ℕ) (text : Option (List ℕ)) → after_files path ≡ text → option_map_or path_in_files text Other ≢ Other → (tenant : List ℕ) × (tail : Tail) × (is_tenant_name tenant ≡ true) × IsTail tail × (path ≡ codes "/files/" ++ (tenant ++ print_tail tail)) × (option_map_or path_in_files text Other ≡ named_path tenant tail)
absolute-reading path None is named = absurd (named refl)
absolute-reading path (Some text) is named =
    let name = path_in_files-reading text named in
    (name.tenant, name.tail, name.is_name, name.valid, after_files-sound path text is ∙ ap (λ bytes. codes "/files/" ++ bytes) name.printed, ap path_in_files name.printed ∙ path_in_files-tail name.tenant name.tail name.is_name name.valid)

-- such a cut settles the path
pub path_of-cut : (target : List ℕ) (k : ℕ) (o : Option Origin) → HasOrigin o → take k target ≡ print_origin o → absolute_path (drop k target) ≢ Other → absolute_path (drop k target) ≡ path_of target
path_of-cut target k o valid printed named =
    let name = absolute-reading (drop k target) _ refl named in
    let whole = sym (take-append-drop k target) ∙ (λ i. printed i ++ name.4 i) in
    let tree : IsTarget (record { origin = o; tenant = name.0; tail = name.1 }) = record { origin = valid; tenant = name.2; tail = name.3 } in
    name.5 ∙ sym (ap path_of whole ∙ path_of-printed (record { origin = o; tenant = name.0; tail = name.1 }) tree)

named_path-some : (tenant : List ℕ) (tail : Tail) → named_path tenant tail ≢ Other
named_path-some tenant bare other = cc
named_path-some tenant slash other = cc
named_path-some tenant (id digits) other = cc

-- and a target that names something has one
target-cut : (target : List ℕ) (t : Target) → IsTarget t → target ≡ print_target t → (length (print_origin t.origin) < length target + 1) × IsOriginCut target (length (print_origin t.origin))
target-cut target t valid printed =
    let origin = print_origin t.origin in
    let path = codes "/files/" ++ (t.tenant ++ print_tail t.tail) in
    let front : take (length origin) target ≡ origin = rw printed (take_at origin path (length origin) refl) in
    let back : drop (length origin) target ≡ path = rw printed (drop_at origin path (length origin) refl) in
    let len = simp length-append at (ap length printed) in
    let names : absolute_path (drop (length origin) target) ≡ named_path t.tenant t.tail = ap absolute_path back ∙ path_in_files-tail t.tenant t.tail valid.tenant valid.tail in
    (omega arith, ((t.origin, valid.origin, front), λ other. named_path-some t.tenant t.tail (sym names ∙ other)))

path_of-some : (target : List ℕ) → ((k : ℕ) → k < length target + 1 → IsOriginCut target k → ⊥) → path_of target ≢ Other → ⊥
path_of-some target never named =
    let tree = (path_of-Names target).some named in
    let cut = target-cut target tree.0 tree.1 tree.2 in
    never (length (print_origin tree.0.origin)) cut.0 cut.1

pub path_of-other : (target : List ℕ) (p : Path) → path_of target ≡ p → ((k : ℕ) → k < length target + 1 → IsOriginCut target k → ⊥) → Other ≡ p
path_of-other target Other is never = refl
path_of-other target (Create tenant) is never = absurd (path_of-some target never (λ other. cc))
path_of-other target (Upload tenant n) is never = absurd (path_of-some target never (λ other. cc))
