-- `path_of` reads the grammar of targets: it gives what each tree that prints the bytes names, and
-- where it gives a path, some tree prints them.
use Rattle.std.proofs.Common.{◌≡◌, ◌≢◌, ℕ, ◌+◌, ◌<◌, ◌≤◌, Bool, true, false, not, cond, eqb, List, [], ◌∷◌, ◌++◌, length, take, get_or, Option, Some, None, All, codes, inl, inr, refl, sym, ap, ◌∙◌, arith}
use Rattle.std.specs.Char.{to_ascii_lowercase}
use Rattle.std.specs.List.{AllPass, list_all, before_first, after_first, position_or_len, prefix_len}
use Rattle.std.specs.Option.{option_map_or, option_and_then}
use Rattle.std.specs.Str.{str_to_ascii_lowercase, str_eq_ignore_ascii_case}
use Rattle.std.specs.Str.Parse.{digits_value}
use Rattle.std.proofs.lemmas.Bool.{cases_Bool, cases_eq, cases_lt, and_parts, ne_eqb, eq-eqb, eqb-true, false≢true}
use Rattle.std.proofs.lemmas.Bool.Decides.{Decides-by_and}
use Rattle.std.proofs.lemmas.List.{append-nil, length-append, length-map, get_or-take, take-map, take-append-le, append_assoc, take_at, drop_at, take_all, drop_all, length_push, nil_from_length, take-append-drop}
use Rattle.std.proofs.lemmas.List.Elements.{All-get_or, All-weaker}
use Rattle.std.proofs.lemmas.List.Folds.{prefix_len-append, length-prefix_len}
use Rattle.std.proofs.lemmas.List.Sums.{prefix_len_is, prefix_len_passes, split_at_first, passes_at_first}
use Rattle.std.proofs.lemmas.Option.{cond_some, same_Some, none-some}
use Rattle.std.proofs.lemmas.Slice.Eq.{bytes_eq-Decides}
use Rattle.tus_text.specs.declared.path.Path.{Path}
use Rattle.tus_text.specs.declared.path.Path.TheVariants.{Create, Upload, Other}
use Rattle.tus_text.specs.Tenant.{is_tenant_byte, is_tenant_name}
use Rattle.tus_text.proofs.NumberLemmas.{number_of-numeral, number_of-some}
use Rattle.tus_text.specs.Path.{Origin, Tail, bare, slash, id, IsId, Target, IsTarget, IsTail, HasOrigin, Names, print_tail, print_origin, print_target, named_path, is_authority_byte, is_slash, after_scheme, after_authority, after_origin, after_files, id_of, path_in_files, path_of}

-- a front that passes, up to bytes whose first fails
passes-prefix_len : (test : ℕ → Bool) (front rest : List ℕ) → All (λ b. test b ≡ true) front → prefix_len test rest ≡ 0 → prefix_len test (front ++ rest) ≡ length front
passes-prefix_len test front rest passes stops =
    let whole = prefix_len_is test front (length front) 0 (omega arith) (λ k within. All-get_or (λ b. test b ≡ true) front k 0 within passes) (λ past. absurd (omega arith)) in
    rw (prefix_len-append test front rest, whole, stops, eq-eqb (length front) (length front) refl) (omega arith)

no_slash : (b : ℕ) → is_tenant_byte b ≡ true → not (is_slash b) ≡ true
no_slash b tenant = elim (cases_eq b 47) [
  | inl same ↦ absurd (false≢true (rw same at tenant))
  | inr other ↦ rw (ne_eqb b 47 other) refl
]

-- no byte of a tenant's name is a slash
tenant-passes : (tenant : List ℕ) → is_tenant_name tenant ≡ true → All (λ b. not (is_slash b) ≡ true) tenant
tenant-passes tenant is_name =
    let bytes = (and_parts _ _ is_name).1 in
    let all = (Decides-by_and is_tenant_byte (λ b. is_tenant_byte b ≡ true) (list_all is_tenant_byte) (λ b. (λ e. e, λ e. e)) refl (λ _ _. refl) tenant).0 bytes in
    All-weaker (λ b. is_tenant_byte b ≡ true) (λ b. not (is_slash b) ≡ true) no_slash tenant all

-- the two parts that a slash leaves
record Parts (text tenant rest : List ℕ) : Type 0 where
  before : before_first is_slash text ≡ tenant
  after : after_first is_slash text ≡ rest

parts-none : (tenant : List ℕ) → is_tenant_name tenant ≡ true → Parts (tenant ++ []) tenant []
parts-none tenant is_name =
    let place = passes-prefix_len (λ b. not (is_slash b)) tenant [] (tenant-passes tenant is_name) refl in
    let past : length (tenant ++ []) ≤ length tenant + 1 = omega (arith, length-append tenant []) in
    record { before = rw place (take_at tenant [] (length tenant) refl); after = rw place (drop_all (length tenant + 1) (tenant ++ []) past) }

parts-slash : (tenant rest : List ℕ) → is_tenant_name tenant ≡ true → Parts (tenant ++ 47 ∷ rest) tenant rest
parts-slash tenant rest is_name =
    let place = passes-prefix_len (λ b. not (is_slash b)) tenant (47 ∷ rest) (tenant-passes tenant is_name) refl in
    let past = rw (append_assoc tenant (47 ∷ []) rest) at (drop_at (tenant ++ 47 ∷ []) rest (length tenant + 1) (length_push tenant 47)) in
    record { before = rw place (take_at tenant (47 ∷ rest) (length tenant) refl); after = rw place past }

-- what the two parts name
abbrev parts_path : List ℕ → List ℕ → Path
parts_path tenant rest =
    cond (is_tenant_name tenant) (cond (eqb (length rest) 0) (Create tenant) (option_map_or (Upload tenant) (id_of rest) Other)) Other

path_in_files-parts : (text tenant rest : List ℕ) → Parts text tenant rest → path_in_files text ≡ parts_path tenant rest
path_in_files-parts text tenant rest parts = λ i. parts_path (parts.before i) (parts.after i)

parts_path-other : (tenant rest : List ℕ) → is_tenant_name tenant ≡ false → parts_path tenant rest ≡ Other
parts_path-other tenant rest other = rw other refl

parts_path-none : (tenant : List ℕ) → is_tenant_name tenant ≡ true → parts_path tenant [] ≡ Create tenant
parts_path-none tenant is_name = rw is_name refl

parts_path-some : (tenant rest : List ℕ) (n : ℕ) → is_tenant_name tenant ≡ true → 0 < length rest → id_of rest ≡ Some n → parts_path tenant rest ≡ Upload tenant n
parts_path-some tenant rest n is_name some is_id =
    rw (is_name, ne_eqb (length rest) 0 (λ none. omega arith), is_id) refl

id_of-digits : (digits : List ℕ) → IsId digits → id_of digits ≡ Some (digits_value 10 digits)
id_of-digits digits valid =
    rw (ne_eqb (get_or digits 0 0) 48 valid.first) (number_of-numeral digits valid.some valid.numeral valid.fits)

pub path_in_files-tail : (tenant : List ℕ) (tail : Tail) → is_tenant_name tenant ≡ true → IsTail tail → path_in_files (tenant ++ print_tail tail) ≡ named_path tenant tail
path_in_files-tail tenant bare is_name valid =
    path_in_files-parts _ _ _ (parts-none tenant is_name) ∙ parts_path-none tenant is_name
path_in_files-tail tenant slash is_name valid =
    path_in_files-parts _ _ _ (parts-slash tenant [] is_name) ∙ parts_path-none tenant is_name
path_in_files-tail tenant (id digits) is_name valid =
    path_in_files-parts _ _ _ (parts-slash tenant digits is_name) ∙ parts_path-some tenant digits _ is_name valid.some (id_of-digits digits valid)

-- the other way: a tenant and a tail that print the text
pub record Reading (text : List ℕ) : Type 0 where
  pub tenant : List ℕ
  pub tail : Tail
  pub is_name : is_tenant_name tenant ≡ true
  pub valid : IsTail tail
  pub printed : text ≡ tenant ++ print_tail tail

id_of-some : (text : List ℕ) (n : ℕ) → id_of text ≡ Some n → IsId text
id_of-some text n is_id =
    elim (cases_eq (get_or text 0 0) 48) [
      | inl zero ↦ absurd (none-some n (rw (eq-eqb (get_or text 0 0) 48 zero) at is_id))
      | inr other ↦
          let number = number_of-some text n (rw (ne_eqb (get_or text 0 0) 48 other) at is_id) in
          record { some = number.some; numeral = number.digits; first = other; fits = number.fits }
    ]

-- the tail that the rest after a slash is
tail-reading : (tenant rest : List ℕ) (o : Option ℕ) → id_of rest ≡ o → is_tenant_name tenant ≡ true → parts_path tenant rest ≢ Other → (tail : Tail) × IsTail tail × (tenant ++ 47 ∷ rest ≡ tenant ++ print_tail tail)
tail-reading tenant rest (Some n) is_id is_name named = (id rest, id_of-some rest n is_id, refl)
tail-reading tenant rest None is_id is_name named =
    elim (cases_eq (length rest) 0) [
      | inl none ↦ (slash, tt, ap (λ bytes. tenant ++ 47 ∷ bytes) (nil_from_length rest none))
      | inr some ↦ absurd (named (rw (is_name, ne_eqb (length rest) 0 some, is_id) refl))
    ]

pub path_in_files-reading : (text : List ℕ) → path_in_files text ≢ Other → Reading text
path_in_files-reading text named =
    let tenant = before_first is_slash text in
    let rest = after_first is_slash text in
    elim (cases_Bool (is_tenant_name tenant)) [
      | inr other ↦ absurd (named (parts_path-other tenant rest other))
      | inl is_name ↦ elim (cases_lt (position_or_len is_slash text) (length text)) [
        | inl within ↦
            let parts = split_at_first is_slash text 0 within in
            let byte = eqb-true _ _ (passes_at_first is_slash text 0 within) in
            let tail = tail-reading tenant rest _ refl is_name named in
            record { tenant = tenant; tail = tail.0; is_name = is_name; valid = tail.1; printed = parts ∙ ap (λ b. tenant ++ b ∷ rest) byte ∙ tail.2 }
        | inr absent ↦
            record { tenant = tenant; tail = bare; is_name = is_name; valid = tt; printed = sym (append-nil tenant ∙ take_all (position_or_len is_slash text) text absent) }
      ]
    ]

pub after_files-complete : (text : List ℕ) → after_files (codes "/files/" ++ text) ≡ Some text
after_files-complete text = refl

pub after_files-sound : (path text : List ℕ) → after_files path ≡ Some text → path ≡ codes "/files/" ++ text
after_files-sound path text is =
    let found = cond_some _ _ _ is in
    let front = (bytes_eq-Decides (take 7 path) (codes "/files/")).0 found.0 in
    sym (take-append-drop 7 path) ∙ (λ i. front i ++ found.1 i)

-- a scheme at the front
scheme-complete : (scheme text rest : List ℕ) → str_to_ascii_lowercase text ≡ str_to_ascii_lowercase scheme → after_scheme scheme (text ++ rest) ≡ Some rest
scheme-complete scheme text rest same =
    let len : length text ≡ length scheme = simp length-map at (ap length same) in
    let front = take_at text rest (length scheme) len in
    let test : str_eq_ignore_ascii_case (take (length scheme) (text ++ rest)) scheme ≡ true = rw front ((bytes_eq-Decides _ _).1 same) in
    rw test (ap Some (drop_at text rest (length scheme) len))

scheme-sound : (scheme target rest : List ℕ) → after_scheme scheme target ≡ Some rest → (text : List ℕ) × (str_to_ascii_lowercase text ≡ str_to_ascii_lowercase scheme) × (target ≡ text ++ rest)
scheme-sound scheme target rest is =
    let found = cond_some _ _ _ is in
    (take (length scheme) target, (bytes_eq-Decides _ _).0 found.0, sym (take-append-drop (length scheme) target) ∙ ap (λ bytes. take (length scheme) target ++ bytes) found.1)

-- `https://` is not `http://`
https-other : (text rest : List ℕ) → str_to_ascii_lowercase text ≡ codes "https://" → after_scheme (codes "http://") (text ++ rest) ≡ None
https-other text rest same =
    let len : length text ≡ 8 = simp length-map at (ap length same) in
    let front = take-append-le 7 text rest (omega arith) in
    let test : str_eq_ignore_ascii_case (take 7 (text ++ rest)) (codes "http://") ≡ false
    = rw (front, ← take-map to_ascii_lowercase 7 text, same) refl in
    rw test refl

authority-complete : (authority path : List ℕ) → 0 < length authority → AllPass is_authority_byte authority → prefix_len is_authority_byte path ≡ 0 → after_authority (authority ++ path) ≡ Some path
authority-complete authority path some passes stops =
    let len = passes-prefix_len is_authority_byte authority path passes stops in
    rw (len, ne_eqb (length authority) 0 (λ none. omega arith), drop_at authority path (length authority) refl) refl

authority-sound : (text path : List ℕ) → after_authority text ≡ Some path → (authority : List ℕ) × (0 < length authority) × AllPass is_authority_byte authority × (text ≡ authority ++ path)
authority-sound text path is =
    let len = prefix_len is_authority_byte text in
    elim (cases_eq len 0) [
      | inl none ↦ absurd (none-some path (rw (eq-eqb len 0 none) at is))
      | inr some ↦
          let rest = same_Some _ _ (rw (ne_eqb len 0 some) at is) in
          let whole = length-prefix_len is_authority_byte text in
          let passes : AllPass is_authority_byte (take len text)
          = λ k d within. rw (get_or-take len text k d (omega arith)) (prefix_len_passes is_authority_byte text k d (omega arith)) in
          (take len text, omega arith, passes, sym (take-append-drop len text) ∙ ap (λ bytes. take len text ++ bytes) rest)
    ]

-- `after_origin` at the two schemes' answers
schemes : (target : List ℕ) (http https : Option (List ℕ)) → after_scheme (codes "http://") target ≡ http → after_scheme (codes "https://") target ≡ https → after_origin target ≡ option_map_or after_authority http (option_map_or after_authority https (Some target))
schemes target http https is_http is_https = λ i. option_map_or after_authority (is_http i) (option_map_or after_authority (is_https i) (Some target))

after_origin-complete : (origin : Option Origin) (text : List ℕ) → HasOrigin origin → after_origin (print_origin origin ++ (codes "/files/" ++ text)) ≡ Some (codes "/files/" ++ text)
after_origin-complete None text valid = refl
after_origin-complete (Some o) text valid =
    let path = codes "/files/" ++ text in
    let target = o.scheme ++ (o.authority ++ path) in
    let ends = authority-complete o.authority path valid.some valid.authority refl in
    rw (append_assoc o.scheme o.authority path) (elim valid.scheme [
      | inl http ↦
          schemes target (Some (o.authority ++ path)) _ (scheme-complete (codes "http://") o.scheme (o.authority ++ path) http) refl ∙ ends
      | inr https ↦
          schemes target None (Some (o.authority ++ path)) (https-other o.scheme (o.authority ++ path) https) (scheme-complete (codes "https://") o.scheme (o.authority ++ path) https) ∙ ends
    ])

-- what the two schemes' readings tell of a target
origin-reading : (target path : List ℕ) (http https : Option (List ℕ)) → after_scheme (codes "http://") target ≡ http → after_scheme (codes "https://") target ≡ https → option_map_or after_authority http (option_map_or after_authority https (Some target)) ≡ Some path → (origin : Option Origin) × HasOrigin origin × (target ≡ print_origin origin ++ path)
origin-reading target path (Some rest) https is_http is_https is =
    let scheme = scheme-sound (codes "http://") target rest is_http in
    let authority = authority-sound rest path is in (
      Some (record { scheme = scheme.0; authority = authority.0 }),
      record { scheme = inl scheme.1; some = authority.1; authority = authority.2 },
      scheme.2 ∙ ap (λ bytes. scheme.0 ++ bytes) authority.3 ∙ sym (append_assoc scheme.0 authority.0 path),
    )
origin-reading target path None (Some rest) is_http is_https is =
    let scheme = scheme-sound (codes "https://") target rest is_https in
    let authority = authority-sound rest path is in (
      Some (record { scheme = scheme.0; authority = authority.0 }),
      record { scheme = inr scheme.1; some = authority.1; authority = authority.2 },
      scheme.2 ∙ ap (λ bytes. scheme.0 ++ bytes) authority.3 ∙ sym (append_assoc scheme.0 authority.0 path),
    )
origin-reading target path None None is_http is_https is = (None, tt, same_Some _ _ is)

after_origin-sound : (target path : List ℕ) → after_origin target ≡ Some path → (origin : Option Origin) × HasOrigin origin × (target ≡ print_origin origin ++ path)
after_origin-sound target path is = origin-reading target path _ _ refl refl is

pub path_of-printed : (t : Target) → IsTarget t → path_of (print_target t) ≡ named_path t.tenant t.tail
unfolding path_of
path_of-printed t valid =
    let name = t.tenant ++ print_tail t.tail in
    ap (λ path. option_map_or path_in_files (option_and_then after_files path) Other) (after_origin-complete t.origin name valid.origin)
    ∙ path_in_files-tail t.tenant t.tail valid.tenant valid.tail

path_of-reading : (target : List ℕ) (path text : Option (List ℕ)) → after_origin target ≡ path → option_and_then after_files path ≡ text → option_map_or path_in_files text Other ≢ Other → (t : Target) × IsTarget t × (target ≡ print_target t)
path_of-reading target None text is_path is_text named = absurd (named (rw (← is_text) refl))
path_of-reading target (Some path) None is_path is_text named = absurd (named refl)
path_of-reading target (Some path) (Some text) is_path is_text named =
    let origin = after_origin-sound target path is_path in
    let files = after_files-sound path text is_text in
    let name = path_in_files-reading text named in (
      record { origin = origin.0; tenant = name.tenant; tail = name.tail },
      record { origin = origin.1; tenant = name.is_name; tail = name.valid },
      origin.2 ∙ ap (λ bytes. print_origin origin.0 ++ bytes) (files ∙ ap (λ bytes. codes "/files/" ++ bytes) name.printed),
    )

pub path_of-Names : (target : List ℕ) → Names target (path_of target)
unfolding path_of
path_of-Names target = record {
  every = λ t valid printed. rw printed (path_of-printed t valid);
  some = λ named. path_of-reading target _ _ refl refl named;
}

-- at most one path fits the bytes
pub Names-unique : (target : List ℕ) (p q : Path) → Names target p → Names target q → p ≡ q
Names-unique target (Create tenant) q first second =
    let tree = first.some (λ other. cc) in
    first.every tree.0 tree.1 tree.2 ∙ sym (second.every tree.0 tree.1 tree.2)
Names-unique target (Upload tenant n) q first second =
    let tree = first.some (λ other. cc) in
    first.every tree.0 tree.1 tree.2 ∙ sym (second.every tree.0 tree.1 tree.2)
Names-unique target Other (Create tenant) first second =
    let tree = second.some (λ other. cc) in
    first.every tree.0 tree.1 tree.2 ∙ sym (second.every tree.0 tree.1 tree.2)
Names-unique target Other (Upload tenant n) first second =
    let tree = second.some (λ other. cc) in
    first.every tree.0 tree.1 tree.2 ∙ sym (second.every tree.0 tree.1 tree.2)
Names-unique target Other Other first second = refl
