-- What a POST asks the book to make (tus 1.0.0, Creation, Creation With Upload and Concatenation): an upload of its
-- own or a part of a later one, with its first bytes or without, or the final upload of some parts.
use Rattle.std.specs.Prelude.{ℕ, Bool, true, false, ◌&&◌, ◌||◌, ◌==◌, nat_lt, List, [], length, map, Option, Some, None, option_map, option_and_then, codes, bytes_eq, if◌then◌else◌}
use Rattle.std.specs.Option.{option_map_or}
use Rattle.tus_text.specs.Concat.{concat_of}
use Rattle.tus_text.specs.declared.checksum.Checksum.{Checksum}
use Rattle.tus_text.specs.declared.concat.Concat.{Concat}
use Rattle.tus_text.specs.declared.concat.Concat.TheVariants.{Partial, Final}
use Rattle.tus_text.specs.declared.concat.PartPath.{PartPath}
use Rattle.upload_book.specs.Operation.{Operation}
use Rattle.upload_book.specs.Operation as operation
use Rattle.upload_book.specs.FirstChunk.{FirstChunk}
use Rattle.upload_book.specs.NewFinal.{NewFinal}
use Rattle.upload_book.specs.NewUpload.{NewUpload}
use Rattle.tus_steps.specs.Field.{FieldText, absent, one, many, is_absent, is_just, number_in, metadata_in, optional_checksum_in}
use Rattle.tus_steps.specs.Media.{has_patch_type}
use Rattle.tus_steps.specs.Request.{Request}
use Rattle.tus_steps.specs.Route.{tenant_name}

-- the length that a creation tells: a number, or by a `1` that it will be told later, and not both
abbrev pub length_told : Request → Option (Option ℕ)
length_told r =
    if is_absent r.fields.defer then option_map Some (number_in r.fields.length)
    else (if is_absent r.fields.length && is_just (codes "1") r.fields.defer then Some None else None)

-- the upload with a concat text, a length and metadata
abbrev pub new_upload : Bool → List ℕ → Option ℕ → List ℕ → NewUpload
new_upload partial concat told metadata = record { partial = partial; length = told; metadata = metadata; concat = concat }

-- the upload with a concat text, a part or one of its own, where the other fields tell one
abbrev pub new_upload_in : Request → Bool → List ℕ → Option NewUpload
new_upload_in r partial concat =
    option_and_then (λ told. option_map (new_upload partial concat told) (metadata_in r.fields.metadata)) (length_told r)

-- the POST carries the first bytes of its upload: it has a body, or the content type of a PATCH
abbrev pub is_with_upload : Request → Bool
is_with_upload r = nat_lt 0 (length r.body) || has_patch_type r.fields.media

-- these bytes, with which a checksum may have come
abbrev pub first_chunk : Request → Option Checksum → FirstChunk
first_chunk r check = record { typed = has_patch_type r.fields.media; check = check; bytes = r.body; more = r.more }

-- the creation of an upload, for the tenant at a place, with its first bytes where the POST carries them, and where its
-- fields tell a checksum of these if at all
abbrev pub creation_of : Request → ℕ → NewUpload → Option Operation
creation_of r tenant new =
    if is_with_upload r
    then option_map (λ check. operation.CreateWith tenant new (first_chunk r check)) (optional_checksum_in r.fields.checksum)
    else Some (operation.Create tenant new)

-- the path of a part names the tenant that the request's path names
abbrev pub is_own_part : Request → PartPath → Bool
is_own_part r part = option_map_or (λ name. bytes_eq name part.tenant) (tenant_name r.path) false

-- the part by its id, and by none where it is of another tenant
abbrev pub part_id : Request → PartPath → Option ℕ
part_id r part = if is_own_part r part then Some part.id else None

-- the final upload of these parts, with this concat text and metadata
abbrev pub new_final : Request → List ℕ → List PartPath → List ℕ → NewFinal
new_final r concat parts metadata = record { parts = map (part_id r) parts; metadata = metadata; concat = concat }

-- the same where the other fields tell one: its length and its bytes are those of its parts, and so it is told no length
-- and sent no bytes
abbrev pub new_final_in : Request → List ℕ → List PartPath → Option NewFinal
new_final_in r concat parts =
    if length r.body == 0 && is_absent r.fields.length && is_absent r.fields.defer
    then option_map (new_final r concat parts) (metadata_in r.fields.metadata)
    else None

-- the creation, for the tenant at a place, of what Upload-Concat says: a part, or a final upload
abbrev pub concat_creation : Request → ℕ → List ℕ → Concat → Option Operation
concat_creation r tenant text Partial = option_and_then (creation_of r tenant) (new_upload_in r true (codes "partial"))
concat_creation r tenant text (Final parts) = option_map (λ new. operation.Concat tenant new) (new_final_in r text parts)

-- the creation by Upload-Concat: of an upload of its own where that field stands nowhere
abbrev pub creation_by : Request → ℕ → FieldText → Option Operation
creation_by r tenant absent = option_and_then (creation_of r tenant) (new_upload_in r false [])
creation_by r tenant (one text) = option_and_then (concat_creation r tenant text) (concat_of text)
creation_by r tenant many = None

-- the creation that a POST asks for, where its fields tell one
abbrev pub creation_in : Request → ℕ → Option Operation
creation_in r tenant = creation_by r tenant r.fields.concat
