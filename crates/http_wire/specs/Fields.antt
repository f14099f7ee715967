-- The fields of a head by their names.
use Rattle.std.specs.Prelude.{ℕ, List, [], ◌∷◌, if◌then◌else◌, bytes_eq}
use Rattle.http_header.specs.Token.{lowercase}
use Rattle.httparse.specs.Grammar.{Field, field_value}
use Rattle.tus_steps.specs.Field.{FieldText, absent, one, many}

-- the values of the fields of that name, which is compared without regard to case (RFC 9110, section 5.1)
abbrev pub values_named : List ℕ → List Field → List (List ℕ)
values_named name [] = []
values_named name (f ∷ fields) =
    if bytes_eq (lowercase f.name) name then field_value f ∷ values_named name fields else values_named name fields

-- what a request has under one name with these values
abbrev pub field_of_values : List (List ℕ) → FieldText
field_of_values [] = absent
field_of_values (value ∷ []) = one value
field_of_values (value ∷ other ∷ values) = many

-- what the fields have under a name, which is given in lower case
abbrev pub field_text : List ℕ → List Field → FieldText
field_text name fields = field_of_values (values_named name fields)
