-- The heads of a book follow a new upload.
use Rattle.std.proofs.Common.{◌≡◌, ℕ, set, refl, inl, ap, sym, ◌∙◌}
use Rattle.std.proofs.lemmas.Bool.{eq-eqb}
use Rattle.upload_book.specs.declared.board_line.HeadChange.TheVariants.{Put}
use Rattle.upload_book.specs.declared.head_row.Name.{Name}
use Rattle.upload_book.specs.Heads.{HeadPart, head_part, heads_of, with_row}
use Rattle.upload_book.specs.laws.Steps.{LeadsTo}
use Rattle.upload_book.specs.Lawful.{IsLawful}
use Rattle.upload_book.specs.PlainBook.{PlainBook, tenant_book, with_tenant_book}
use Rattle.upload_book.specs.TenantBook.{TenantBook, with_new}
use Rattle.upload_book.specs.Upload.{Upload, head_row_of}
use Rattle.upload_book.proofs.Heads.HeadParts.{head_part-new, head_part-tenant, leads-part, line_to}

-- the name of a tenant's next upload
abbrev pub next_name : PlainBook → ℕ → Name
next_name b t = record { tenant = t; id = (tenant_book b t).next }

-- a row under the next id is that of a new upload
row-new : (part : TenantBook) (u : Upload) → with_row (head_part part) part.next (head_row_of u) ≡ head_part (with_new part u)
row-new part u = rw (eq-eqb part.next part.next refl) (sym (head_part-new part u))

-- the line that puts the row of a new upload leads to the book with it
pub leads-new : (b : PlainBook) (t : ℕ) (u : Upload) → IsLawful (with_tenant_book b t (with_new (tenant_book b t) u))
    → LeadsTo b (line_to (with_tenant_book b t (with_new (tenant_book b t) u)) (Put (next_name b t) (head_row_of u))) (with_tenant_book b t (with_new (tenant_book b t) u))
leads-new b t u lawful =
    leads-part b t (with_new (tenant_book b t) u) (Put (next_name b t) (head_row_of u)) lawful
    (ap (λ (part : HeadPart). set (heads_of b).tenants t (with_row part (tenant_book b t).next (head_row_of u))) (head_part-tenant b t) ∙ ap (set (heads_of b).tenants t) (row-new (tenant_book b t) u))
    (inl (sym (ap (λ (part : HeadPart). part.next) (head_part-tenant b t))))
