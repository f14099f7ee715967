-- What a request asks of the book, or why it is refused before the book is asked (tus 1.0.0, Core Protocol).
use Rattle.std.specs.Prelude.{ℕ, ◌+◌, ◌-◌, ◌^◌, min, Bool, ◌||◌, Option, Some, None, option_map, option_and_then, Result, Err, ok_or, codes, if◌then◌else◌}
use Rattle.tus_text.specs.declared.checksum.Checksum.{Checksum}
use Rattle.upload_book.specs.Chunk.{Chunk}
use Rattle.upload_book.specs.Operation.{Operation}
use Rattle.upload_book.specs.Operation as operation
use Rattle.upload_book.specs.declared.refusal.Refusal.{Refusal}
use Rattle.upload_book.specs.declared.refusal.Refusal.TheVariants as refusal
use Rattle.upload_book.specs.Settings.{Settings, tenant_place}
use Rattle.tus_steps.specs.Route.{Route, Create, Look, Content, Append, Terminate, route, tenant_name}
use Rattle.tus_steps.specs.Creation.{creation_in}
use Rattle.tus_steps.specs.Field.{is_just, number_in, optional_checksum_in, optional_number_in}
use Rattle.tus_steps.specs.Media.{has_patch_type}
use Rattle.tus_steps.specs.Method.{is_get}
use Rattle.tus_steps.specs.Request.{Request}

-- the request names the version 1.0.0 of the protocol, or is a GET, which is none of the protocol
abbrev pub has_version : Request → Bool
has_version r = is_get r.method || is_just (codes "1.0.0") r.fields.version

-- the chunk at an offset that may tell the upload's length, and with which a checksum may have come; a piece goes behind the
-- bytes that were given before it
abbrev pub chunk_at : Request → ℕ → Option ℕ → Option Checksum → Chunk
chunk_at r offset told check = record {
  offset = min (offset + r.given) (2 ^ 64 - 1);
  length = told;
  typed = has_patch_type r.fields.media;
  check = check;
  bytes = r.body;
  more = r.more;
}

-- the chunk of a PATCH, which tells its offset, and the upload's length as a number and a checksum if at all
abbrev pub chunk_in : Request → Option Chunk
chunk_in r =
    option_and_then (λ offset. option_and_then (λ told. option_map (chunk_at r offset told) (optional_checksum_in r.fields.checksum)) (optional_number_in r.fields.length)) (number_in r.fields.offset)

-- the operation on a route, of the tenant at a place, where the fields tell what it needs
abbrev pub operation_on : Request → ℕ → Route → Option Operation
operation_on r tenant Create = creation_in r tenant
operation_on r tenant (Look id) = Some (operation.Look (record { tenant = tenant; id = id }))
operation_on r tenant (Content id) = Some (operation.Content (record { tenant = tenant; id = id }))
operation_on r tenant (Terminate id) = Some (operation.Terminate (record { tenant = tenant; id = id }))
operation_on r tenant (Append id) = option_map (λ chunk. operation.Append (record { tenant = tenant; id = id }) chunk) (chunk_in r)

-- what was found, handed on; or this refusal, where nothing was found
abbrev pub found_or : {A B : Type 0} → Refusal → Option A → (A → Result B Refusal) → Result B Refusal
found_or why None next = Err why
found_or why (Some x) next = next x

-- the operation that the method is at the path, of the tenant at a place; or which of the two allows none: the method, or fields
abbrev pub operation_at : Request → ℕ → Result Operation Refusal
operation_at r tenant =
    found_or refusal.Method (route r.path r.method) (λ on.
    ok_or (operation_on r tenant on) refusal.Field)

-- The operation that a request other than OPTIONS asks for, or the first reason why it asks for none: its
-- version, its path, its tenant, its method, its fields.
abbrev pub operation_of : Settings → Request → Result Operation Refusal
operation_of s r =
    if has_version r
    then found_or refusal.Path (tenant_name r.path) (λ name.
    found_or refusal.Tenant (tenant_place s name) (operation_at r))
    else Err refusal.Version
