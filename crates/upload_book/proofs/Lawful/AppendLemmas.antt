-- What the outcome of a PATCH tells.
use Rattle.std.proofs.Common.{◌≡◌, ℕ, None, Result, Ok, Err, refl}
use Rattle.upload_book.specs.Append.{append_refusal, appended, told, upload_with, with_appended, part_after_append, append_answer}
use Rattle.upload_book.specs.Chunk.{Chunk}
use Rattle.upload_book.specs.declared.append.Refused.{Refused}
use Rattle.upload_book.specs.declared.settings.Numbers.{Numbers}
use Rattle.upload_book.specs.Account.{account_in}
use Rattle.upload_book.specs.TenantBook.{TenantBook, visible_upload, with_changed}
use Rattle.upload_book.specs.Upload.{Upload, head_row_of}

-- a PATCH that is refused leaves the part as it was
refused_leaves : (part : TenantBook) (id : ℕ) (outcome : Result Upload Refused) (why : Refused) → told outcome ≡ Err why → with_appended part id outcome ≡ part
refused_leaves part id (Ok u) why is = absurd (cc)
refused_leaves part id (Err refused) why is = refl

-- so too by its answer
pub part_after_append-refused : (id : ℕ) (chunk : Chunk) (now charged : ℕ) (n : Numbers) (part : TenantBook) (why : Refused) → append_answer id chunk now charged n part ≡ Err why → part_after_append id chunk now charged n part ≡ part
part_after_append-refused id chunk now charged n part why is = refused_leaves part id (appended id chunk now charged n part) why is

-- a PATCH that is not refused changes the upload
pub part_after_append-none : (n : Numbers) (part : TenantBook) (id now charged : ℕ) (u : Upload) (chunk : Chunk) → visible_upload part id now ≡ Ok u → append_refusal n (account_in n part charged) (head_row_of u) chunk ≡ None
    → part_after_append id chunk now charged n part ≡ with_changed part id (upload_with n u chunk now)
part_after_append-none n part id now charged u chunk seen none = rw (seen, none) refl
