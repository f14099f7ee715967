-- The value of Upload-Concat (tus 1.0.0, concatenation): `partial`, or `final;`, any number of spaces,
-- and 1 to 32 targets with one or more spaces between them, each the target of an upload.
use Rattle.std.specs.Prelude.{ℕ, ◌<◌, ⊤, List, [], ◌∷◌, length, take, drop, nat_lt, nat_le, Option, Some, None, option_map, option_and_then, if◌then◌else◌, codes, bytes_eq}
use Rattle.std.specs.List.{slice_split}
use Rattle.tus_text.specs.declared.concat.Concat.{Concat}
use Rattle.tus_text.specs.declared.concat.Concat.TheVariants.{Partial, Final}
use Rattle.tus_text.specs.declared.concat.PartPath.{PartPath}
use Rattle.tus_text.specs.declared.path.Path.{Path}
use Rattle.tus_text.specs.declared.path.Path.TheVariants.{Create, Upload, Other}
use Rattle.tus_text.specs.Cut.{is_space}
use Rattle.tus_text.specs.Path.{path_of}

-- the upload that a path names
abbrev pub upload_in : Path → Option PartPath
upload_in (Create tenant) = None
upload_in (Upload tenant id) = Some (record { tenant = tenant; id = id })
upload_in Other = None

-- the part that a target names
abbrev pub part_of : List ℕ → Option PartPath
part_of target = upload_in (path_of target)

-- The words between single spaces without the empty ones, so that a run of spaces counts as one. An empty
-- last word stays: it says that a space ends the text.
abbrev pub join_cuts : List (List ℕ) → List (List ℕ)
join_cuts [] = []
join_cuts (word ∷ []) = word ∷ []
join_cuts ([] ∷ next ∷ more) = join_cuts (next ∷ more)
join_cuts ((b ∷ word) ∷ next ∷ more) = (b ∷ word) ∷ join_cuts (next ∷ more)

-- the words between runs of spaces; those at the front of the text are passed over
abbrev pub words_of : List ℕ → List (List ℕ)
words_of text = join_cuts (slice_split is_space text)

-- the part of each target, where each names one
abbrev pub parts_of : List (List ℕ) → Option (List PartPath)
parts_of [] = Some []
parts_of (target ∷ targets) =
    option_and_then (λ part. option_map (λ parts. part ∷ parts) (parts_of targets)) (part_of target)

-- a list of at most 32 parts
abbrev pub within_limit : List PartPath → Option (List PartPath)
within_limit parts = if nat_le (length parts) 32 then Some parts else None

-- the parts of the list that follows `final;`
unfoldable pub final_of : List ℕ → Option (List PartPath)
final_of list = option_and_then within_limit (parts_of (words_of list))

-- what is read of a final upload names a part
abbrev pub NamesSome : Concat → Type 0
NamesSome Partial = ⊤
NamesSome (Final parts) = 0 < length parts

-- what follows `final;` at the front
abbrev pub after_final : List ℕ → Option (List ℕ)
after_final text = if bytes_eq (take 6 text) (codes "final;") then Some (drop 6 text) else None

-- what the text says, of at most 2,048 bytes
unfoldable pub concat_of : List ℕ → Option Concat
concat_of text =
    if nat_lt 2048 (length text) then None
    else if bytes_eq text (codes "partial") then Some Partial
    else option_map Final (option_and_then final_of (after_final text))
