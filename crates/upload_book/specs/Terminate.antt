-- The step of a DELETE (tus 1.0.0, Termination).
use Rattle.std.specs.Prelude.{ℕ, ◌-◌, ◌==◌, not, Result, Ok, Err}
use Rattle.std.specs.List.{filter}
use Rattle.upload_book.specs.declared.refusal.Refusal.{Refusal}
use Rattle.upload_book.specs.declared.settings.Numbers.{Numbers}
use Rattle.upload_book.specs.declared.terminate.Removed.{Removed}
use Rattle.upload_book.specs.Charge.{charge_in}
use Rattle.upload_book.specs.TenantBook.{TenantBook, TenantPart, visible_upload}
use Rattle.upload_book.specs.Upload.{Upload}

-- a part without what it keeps under an id
abbrev pub without : {K : Type 0} → TenantPart K → ℕ → TenantPart K
without part id = record part { uploads = filter (λ e. not (e.id == id)) part.uploads }

-- what is given back by a part that changes into another: the blocks that it no longer pays
abbrev pub given_back : Numbers → TenantBook → TenantBook → ℕ
given_back n before after = charge_in n before - charge_in n after

-- the answer where the upload is visible
abbrev pub removed_where : Result Upload Refusal → ℕ → Result Removed Refusal
removed_where (Ok u) blocks = Ok (record { blocks = blocks; released = blocks })
removed_where (Err refusal) blocks = Err refusal

-- the answer to a DELETE: the blocks that became free are those that are no longer paid
abbrev pub terminate_answer : ℕ → ℕ → Numbers → TenantBook → Result Removed Refusal
terminate_answer id now n part = removed_where (visible_upload part id now) (given_back n part (without part id))

-- the part after it; one that is refused leaves it as it was
abbrev pub part_after_terminate : ℕ → ℕ → Numbers → TenantBook → TenantBook
part_after_terminate id now n part = part_where (visible_upload part id now) where
  part_where : Result Upload Refusal → TenantBook
  part_where (Ok u) = without part id
  part_where (Err refusal) = part
