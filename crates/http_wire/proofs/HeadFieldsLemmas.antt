-- The fields of a head that count, one after another, and the map that has them by name.
use Rattle.std.proofs.Common.{◌≡◌, ◌≤◌, ℕ, ◌+◌, ◌<◌, Bool, true, false, List, [], ◌∷◌, ◌++◌, All, length, take, map, get_or, bytes_eq, Option, Some, None, refl, sym, ap, ◌∙◌, subst, inl, inr, append-nil, arith}
use Rattle.std.specs.Prelude.{◌||◌, codes, if◌then◌else◌}
use Rattle.std.specs.List.{list_any}
use Rattle.std.proofs.lemmas.Bool.{cases_Bool, cond-true, cond-false}
use Rattle.std.proofs.lemmas.Bool.Decides.{Decides-eqb}
use Rattle.std.proofs.lemmas.List.{take_more}
use Rattle.std.proofs.lemmas.List.Elements.{All-head}
use Rattle.std.proofs.lemmas.Slice.Eq.{bytes_eq-Decides}
use Rattle.http_header.specs.HeaderMap.{Entries, get}
use Rattle.http_header.specs.Token.{lowercase}
use Rattle.httparse.specs.declared.spans.Span.{Span}
use Rattle.httparse.specs.declared.spans.HeaderSpan.{HeaderSpan}
use Rattle.httparse.specs.Grammar.{Field}
use Rattle.httparse.specs.Spans.{IsHeaderWithin, IsWithin, header_bytes, name_and_value, span_bytes}
use Rattle.http_wire.specs.ConnectionFields.{closes, has_close}
use Rattle.http_wire.specs.Fields.{field_of_values}
use Rattle.http_wire.specs.Layout.{IsInside, field_at}
use Rattle.http_wire.proofs.NameLemmas.{All-spans_named, map-spans_named}
use Rattle.http_wire.specs.declared.read.fields.FieldSpan.{FieldSpan}
use Rattle.http_wire.specs.declared.read.fields.FieldSpan.TheVariants.{Absent, One}
use Rattle.http_wire.specs.declared.read.fields.Found.{Found}
use Rattle.http_wire.specs.inside.HeadFields.{AreInside, ShowFields, Shows, added, changed, changed_at, closes_by, counted, found_by, found_in, head_fields, map_by, place_in, spans_named, with_value}

-- it makes no difference which name is compared with which
flip : (a b : List ℕ) → bytes_eq a b ≡ bytes_eq b a
flip a b =
    elim (cases_Bool (bytes_eq a b)) [
      | inl t ↦ t ∙ sym ((bytes_eq-Decides b a).1 (sym ((bytes_eq-Decides a b).0 t)))
      | inr f ↦ elim (cases_Bool (bytes_eq b a)) [
        | inl t ↦ (bytes_eq-Decides a b).1 (sym ((bytes_eq-Decides b a).0 t)) ∙ sym t
        | inr g ↦ f ∙ sym g
      ]
    ]

-- none of these names is n
abbrev is_apart : List ℕ → List (List ℕ) → Bool
is_apart n [] = true
is_apart n (m ∷ names) = if bytes_eq m n then false else is_apart n names

-- no two of these names are one
abbrev are_distinct : List (List ℕ) → Bool
are_distinct [] = true
are_distinct (n ∷ names) = if is_apart n names then are_distinct names else false

module _ (g : Found → Found) (at : List ℕ → Found) (x : List ℕ) where
  -- what was found, with g of that under the name x
  abbrev after : List ℕ → Found
  after name = if bytes_eq name x then g (at name) else at name

  other : (n : List ℕ) (names : List (List ℕ)) → bytes_eq n x ≡ true → is_apart n names ≡ true → map_by at names ≡ map_by after names
  other n [] same apart = refl
  other n (m ∷ names) same apart =
      elim (cases_Bool (bytes_eq m n)) [
        | inl t ↦ absurd (no (rw t at apart))
        | inr f ↦
            let differs : bytes_eq m x ≡ false = ap (bytes_eq m) (sym ((bytes_eq-Decides n x).0 same)) ∙ f in
            rw differs (ap (λ (l : Entries Found). (m, at m ∷ []) ∷ l) (other n names same (rw f at apart)))
      ]
    where
      no : false ≡ true → ⊥
      no e = absurd cc

  -- the map behind an entry of another name is changed
  behind : (n : List ℕ) (m changed_m : Entries Found) (o : Option Found) → bytes_eq n x ≡ false
      → changed_at g m x o ≡ changed_m → changed_at g ((n, at n ∷ []) ∷ m) x o ≡ (n, at n ∷ []) ∷ changed_m
  behind n m changed_m None f e = ap (λ (l : Entries Found). (n, at n ∷ []) ∷ l) e
  behind n m changed_m (Some v) f e = rw f (ap (λ (l : Entries Found). (n, at n ∷ []) ∷ l) e)

  get_here : (n : List ℕ) (m : Entries Found) → bytes_eq n x ≡ true → get ((n, at n ∷ []) ∷ m) x ≡ Some (at n)
  get_here n m t = rw t refl

  get_behind : (n : List ℕ) (m : Entries Found) → bytes_eq n x ≡ false → get ((n, at n ∷ []) ∷ m) x ≡ get m x
  get_behind n m f = rw f refl

  here : (n : List ℕ) (m : Entries Found) → bytes_eq n x ≡ true → changed_at g ((n, at n ∷ []) ∷ m) x (Some (at n)) ≡ (n, g (at n) ∷ []) ∷ m
  here n m t = rw t refl

  changed-map_by : (names : List (List ℕ)) → are_distinct names ≡ true → changed g (map_by at names) x ≡ map_by after names
  changed-map_by [] d = refl
  changed-map_by (n ∷ names) d =
      let m = map_by at names in
      elim (cases_Bool (is_apart n names)) [
        | inr near ↦ absurd (no (rw near at d))
        | inl apart ↦ elim (cases_Bool (bytes_eq n x)) [
          | inl t ↦
              ap (λ (o : Option Found). changed_at g ((n, at n ∷ []) ∷ m) x o) (get_here n m t) ∙ here n m t
              ∙ rw t (ap (λ (l : Entries Found). (n, g (at n) ∷ []) ∷ l) (other n names t apart))
          | inr f ↦
              ap (λ (o : Option Found). changed_at g ((n, at n ∷ []) ∷ m) x o) (get_behind n m f)
              ∙ behind n m (map_by after names) (get m x) f (changed-map_by names (rw apart at d))
              ∙ rw f refl
        ]
      ]
    where
      no : false ≡ true → ⊥
      no e = absurd cc

  changed-found_by : changed g (found_by at) x ≡ found_by after
  changed-found_by = changed-map_by counted refl

module _ (head : List ℕ) where
  spans_named-append : (name : List ℕ) (xs ys : List HeaderSpan) → spans_named head name (xs ++ ys) ≡ spans_named head name xs ++ spans_named head name ys
  spans_named-append name [] ys = refl
  spans_named-append name (h ∷ xs) ys =
      elim (cases_Bool (bytes_eq (lowercase (span_bytes head h.name)) name)) [
        | inl t ↦ rw t (ap (λ l. h.value ∷ l) (spans_named-append name xs ys))
        | inr f ↦ rw f (spans_named-append name xs ys)
      ]

  place_in-added : (values : List Span) (value : Span) → place_in (values ++ value ∷ []) ≡ added (place_in values) value
  place_in-added [] value = refl
  place_in-added (first ∷ []) value = refl
  place_in-added (first ∷ second ∷ values) value = refl

  -- what a head has under a name with one more field of that name
  more_here : (name : List ℕ) (spans : List HeaderSpan) (h : HeaderSpan) → bytes_eq (lowercase (span_bytes head h.name)) name ≡ true
      → place_in (spans_named head name (spans ++ h ∷ [])) ≡ added (place_in (spans_named head name spans)) h.value
  more_here name spans h t =
      ap place_in (spans_named-append name spans (h ∷ [])) ∙ rw t (place_in-added (spans_named head name spans) h.value)

  -- and with one of another name
  more_other : (name : List ℕ) (spans : List HeaderSpan) (h : HeaderSpan) → bytes_eq (lowercase (span_bytes head h.name)) name ≡ false
      → place_in (spans_named head name (spans ++ h ∷ [])) ≡ place_in (spans_named head name spans)
  more_other name spans h f =
      ap place_in (spans_named-append name spans (h ∷ [])) ∙ rw f (ap place_in (append-nil (spans_named head name spans)))

  found_here : (number : ℕ) (value : Span) (f : Found) → found_in number (with_value number value f) ≡ added (found_in number f) value
  found_here number value f = rw ((Decides-eqb number number).1 refl) refl

  -- the map shows one more field of the head
  Shows-more : (number : ℕ) (spans : List HeaderSpan) (h : HeaderSpan) (m : Entries Found) → Shows number head spans m
      → Shows number head (spans ++ h ∷ []) (changed (with_value number h.value) m (lowercase (span_bytes head h.name)))
  Shows-more number spans h m s =
      record { at = after g s.at x; map = ap (λ (l : Entries Found). changed g l x) s.map ∙ changed-found_by g s.at x; within = within; places = places }
    where
      g : Found → Found
      g = with_value number h.value

      x : List ℕ
      x = lowercase (span_bytes head h.name)

      within : (name : List ℕ) → (after g s.at x name).number ≤ number
      within name =
          elim (cases_Bool (bytes_eq name x)) [
            | inl t ↦ rw t (omega arith)
            | inr f ↦ rw f (s.within name)
          ]

      places : (name : List ℕ) → found_in number (after g s.at x name) ≡ place_in (spans_named head name (spans ++ h ∷ []))
      places name =
          elim (cases_Bool (bytes_eq name x)) [
            | inl t ↦
                ap (found_in number) (cond-true (bytes_eq name x) (g (s.at name)) (s.at name) t) ∙ found_here number h.value (s.at name)
                ∙ ap (λ (p : FieldSpan). added p h.value) (s.places name) ∙ sym (more_here name spans h (flip x name ∙ t))
            | inr f ↦
                ap (found_in number) (cond-false (bytes_eq name x) (g (s.at name)) (s.at name) f) ∙ s.places name
                ∙ sym (more_other name spans h (flip x name ∙ f))
          ]

  -- one more step of the loop over the fields
  pub shown_more : (number : ℕ) (spans : List HeaderSpan) (i : ℕ) (d : HeaderSpan) (before next : Entries Found) → i < length spans
      → next ≡ changed (with_value number (get_or spans i d).value) before (lowercase (span_bytes head (get_or spans i d).name))
      → Shows number head (take i spans) before → Shows number head (take (i + 1) spans) next
  shown_more number spans i d before next inside step so_far =
      subst (Shows number head (take (i + 1) spans)) (sym step)
      (subst (λ (l : List HeaderSpan). Shows number head l (changed (with_value number (get_or spans i d).value) before (lowercase (span_bytes head (get_or spans i d).name))))
      (sym (take_more spans i d inside)) (Shows-more number (take i spans) (get_or spans i d) before so_far))

  -- no field has the name, or one has it
  pub closes-absent : (values : List Span) → place_in values ≡ Absent → false ≡ closes (map (span_bytes head) values)
  closes-absent [] e = refl
  closes-absent (value ∷ []) e = absurd cc
  closes-absent (value ∷ other_value ∷ values) e = absurd cc

  or_false : (b : Bool) → (b || false) ≡ b
  or_false true = refl
  or_false false = refl

  pub closes-one : (values : List Span) (value : Span) → place_in values ≡ One value → has_close (span_bytes head value) ≡ closes (map (span_bytes head) values)
  closes-one [] value e = absurd cc
  closes-one (first ∷ []) value e =
      let same : first ≡ value = cc in
      ap (λ (v : Span). has_close (span_bytes head v)) (sym same) ∙ sym (or_false (has_close (span_bytes head first)))
  closes-one (first ∷ other_value ∷ values) value e = absurd cc

  -- whether one of the fields of the name `connection` has the token
  pub closes-any : (spans : List HeaderSpan) → list_any (closes_by head) spans ≡ closes (map (span_bytes head) (spans_named head (codes "connection") spans))
  closes-any [] = refl
  closes-any (h ∷ spans) =
      elim (cases_Bool (bytes_eq (lowercase (span_bytes head h.name)) (codes "connection"))) [
        | inl t ↦ rw t (ap (λ (b : Bool). has_close (span_bytes head h.value) || b) (closes-any spans))
        | inr f ↦ rw f (closes-any spans)
      ]

  field_at-place : (values : List Span) → field_at head (place_in values) ≡ field_of_values (map (span_bytes head) values)
  field_at-place [] = refl
  field_at-place (value ∷ []) = refl
  field_at-place (value ∷ second ∷ values) = refl

  -- what was found is what the fields of the head have
  pub ShowFields-found : (spans : List HeaderSpan) (fields : List Field) → map (header_bytes head) spans ≡ map name_and_value fields → ShowFields head (head_fields head spans) fields
  ShowFields-found spans fields e =
      let at = λ (name : List ℕ). field_at-place (spans_named head name spans) ∙ ap field_of_values (map-spans_named head name spans fields e) in
      record {
        host = at (codes "host");
        expect = at (codes "expect");
        length = at (codes "content-length");
        coding = at (codes "transfer-encoding");
        instead = at (codes "x-http-method-override");
        range = at (codes "range");
        condition = at (codes "if-range");
        close = ap closes (map-spans_named head (codes "connection") spans fields e);
        tus = rw (at (codes "content-type"), at (codes "tus-resumable"), at (codes "upload-offset"), at (codes "upload-length"), at (codes "upload-concat"), at (codes "upload-metadata"), at (codes "upload-checksum"), at (codes "upload-defer-length")) refl;
      }

inside_place : (n : ℕ) (values : List Span) → All (IsWithin n) values → IsInside n (place_in values)
inside_place n [] h = (omega arith, omega arith)
inside_place n (value ∷ []) h = All-head (IsWithin n) value [] h
inside_place n (value ∷ other ∷ values) h = (omega arith, omega arith)

-- the one value of a name lies where all fields lie
pub one_within : (n : ℕ) (head name : List ℕ) (spans : List HeaderSpan) (value : Span) → All (IsHeaderWithin n) spans
    → One value ≡ place_in (spans_named head name spans) → IsWithin n value
one_within n head name spans value h e =
    subst (λ (p : FieldSpan). IsInside n p) (sym e) (inside_place n (spans_named head name spans) (All-spans_named n head name spans h))

-- what was found lies where all fields lie
pub AreInside-found : (n : ℕ) (head : List ℕ) (spans : List HeaderSpan) → All (IsHeaderWithin n) spans → AreInside n (head_fields head spans)
AreInside-found n head spans h =
    let at = λ (name : List ℕ). inside_place n (spans_named head name spans) (All-spans_named n head name spans h) in
    record {
      host = at (codes "host");
      expect = at (codes "expect");
      length = at (codes "content-length");
      coding = at (codes "transfer-encoding");
      instead = at (codes "x-http-method-override");
      range = at (codes "range");
      condition = at (codes "if-range");
      tus = record {
        media = at (codes "content-type");
        version = at (codes "tus-resumable");
        offset = at (codes "upload-offset");
        length = at (codes "upload-length");
        concat = at (codes "upload-concat");
        metadata = at (codes "upload-metadata");
        checksum = at (codes "upload-checksum");
        defer = at (codes "upload-defer-length");
      };
    }
