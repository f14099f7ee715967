-- The reply to what the book answers.
use Rattle.std.specs.Prelude.{ℕ, true, length, List, Option, None, Some, unwrap_or, [], Result, Ok, Err, ⊤}
use Rattle.tus_text.specs.declared.path.Path.{Path}
use Rattle.tus_text.specs.declared.path.Path.TheVariants as path
use Rattle.upload_book.specs.declared.append.Appended.{Appended}
use Rattle.upload_book.specs.declared.append.Refused.{Refused}
use Rattle.upload_book.specs.declared.create.Created.{Created}
use Rattle.upload_book.specs.declared.head_row.HeadRow.{HeadRow}
use Rattle.upload_book.specs.declared.refusal.Refusal.{Refusal}
use Rattle.upload_book.specs.declared.terminate.Removed.{Removed}
use Rattle.tus_steps.specs.declared.range.Extent.{Extent}
use Rattle.tus_steps.specs.declared.reply.PathKind.{PathKind}
use Rattle.tus_steps.specs.declared.reply.PathKind.TheVariants as place
use Rattle.tus_steps.specs.declared.reply.Reply.{Reply}
use Rattle.tus_steps.specs.declared.reply.Reply.TheVariants as reply
use Rattle.tus_steps.specs.Method.{is_head}
use Rattle.tus_steps.specs.Range.{bytes_in, extent_of}
use Rattle.tus_steps.specs.Request.{Request}
use Rattle.tus_steps.specs.Route.{tenant_name}

-- what a path names, as far as a reply tells it
abbrev pub place_of : Path → PathKind
place_of (path.Create tenant) = place.Create
place_of (path.Upload tenant id) = place.Upload
place_of path.Other = place.Other

-- the reply that refuses the request, and tells when its upload expires
abbrev pub refusing : Request → Refusal → Option ℕ → Reply
refusing r why expires = reply.Refused why (is_head r.method) (place_of r.path) expires

-- the reply to a creation, which tells how many bytes the upload has where the creation carried some
abbrev pub creation_reply : Request → Option ℕ → Result Created Refusal → Reply
creation_reply r offset (Ok created) = reply.Created (unwrap_or (tenant_name r.path) []) created.name.id offset created.expires
creation_reply r offset (Err why) = refusing r why None

-- the reply to a HEAD of an upload
abbrev pub head_reply : Result HeadRow Refusal → Reply
head_reply (Ok row) = reply.Head row
head_reply (Err why) = reply.Refused why true place.Upload None

-- the reply that gives some of the bytes of an upload with this metadata, or tells how many these are where it gives none of them
abbrev pub extent_reply : Option Extent → List ℕ → List ℕ → Reply
extent_reply None metadata bytes = reply.Unsatisfiable (length bytes)
extent_reply (Some extent) metadata bytes = reply.Content (bytes_in extent bytes) extent metadata

-- the metadata of the upload of a row
abbrev pub metadata_of : Result HeadRow Refusal → List ℕ
metadata_of (Ok row) = row.metadata
metadata_of (Err why) = []

-- the reply to a GET of the upload of a row, by its bytes
abbrev pub content_reply : Request → Result HeadRow Refusal → Result (List ℕ) Refusal → Reply
content_reply r row (Ok bytes) = extent_reply (extent_of r.range (length bytes)) (metadata_of row) bytes
content_reply r row (Err why) = refusing r why None

-- the reply to a GET that gives these bytes, which are that part of an upload with this metadata, or refuses it
abbrev pub given_reply : Request → Extent → List ℕ → Result (List ℕ) Refusal → Reply
given_reply r extent metadata (Ok bytes) = reply.Content bytes extent metadata
given_reply r extent metadata (Err why) = refusing r why None

-- the bytes of an upload that a reply gives
abbrev pub bytes_told : Reply → List ℕ
bytes_told (reply.Content bytes extent metadata) = bytes
bytes_told _ = []

-- the reply to a PATCH
abbrev pub append_reply : Request → Result Appended Refused → Reply
append_reply r (Ok appended) = reply.Patched appended.offset appended.expires
append_reply r (Err why) = refusing r why.refusal why.expires

-- the reply to a DELETE
abbrev pub deletion_reply : Request → Result Removed Refusal → Reply
deletion_reply r (Ok removed) = reply.Deleted
deletion_reply r (Err why) = refusing r why None

-- the reply refuses the request
abbrev pub IsRefusing : Reply → Type 0
IsRefusing (reply.Refused why head at expires) = ⊤
IsRefusing _ = ⊥
