-- The heads of a book follow a DELETE and a sweep.
use Rattle.std.proofs.Common.{◌≡◌, ℕ, ◌+◌, eqb, not, List, [], ◌∷◌, map, set, Result, Ok, Err, refl, ap, sym, ◌∙◌, arith}
use Rattle.upload_book.specs.Change.{book_after_change, gone_removed, head_change}
use Rattle.upload_book.specs.declared.board_line.HeadChange.TheVariants.{Gone, Swept}
use Rattle.upload_book.specs.declared.change.Change.TheVariants.{Sweep, Terminate}
use Rattle.upload_book.specs.declared.head_row.HeadRow.{HeadRow}
use Rattle.upload_book.specs.declared.head_row.Name.{Name}
use Rattle.upload_book.specs.declared.refusal.Refusal.{Refusal}
use Rattle.upload_book.specs.Expiry.{has_expired}
use Rattle.upload_book.specs.Heads.{HeadPart, head_part, heads_of, without_expired}
use Rattle.upload_book.specs.Lawful.{IsLawful}
use Rattle.upload_book.specs.PlainBook.{PlainBook, tenant_book}
use Rattle.upload_book.specs.Sweep.{part_after_sweep, swept_blocks}
use Rattle.upload_book.specs.TenantBook.{Entry, TenantBook, visible_upload}
use Rattle.upload_book.specs.Terminate.{without}
use Rattle.upload_book.specs.Upload.{Upload, head_row_of}
use Rattle.upload_book.proofs.Heads.HeadParts.{IsFollowed, followed-part, followed-stays, head_part-tenant, leads, leads-part, rows-filter, visible-within}
use Rattle.upload_book.proofs.Heads.HeadsAppend.{row-stands}
use Rattle.upload_book.proofs.Lawful.LawfulFewer.{IsLawful-sweep, IsLawful-without}
use Rattle.upload_book.proofs.Lawful.Outcomes.{part_after_terminate-refused, part_after_terminate-visible, terminate_answer-refused, terminate_answer-visible}

-- a part with these rows
abbrev with_rows : TenantBook → List (Entry HeadRow) → HeadPart
with_rows part rows = record { quota = part.quota; next = part.next; uploads = rows }

-- without an upload there is not its row
row-gone : (part : TenantBook) (id : ℕ) → without (head_part part) id ≡ head_part (without part id)
row-gone part id =
    ap (with_rows part) (sym (rows-filter (λ (e : Entry Upload). not (eqb e.id id)) (λ (e : Entry HeadRow). not (eqb e.id id)) part.uploads (λ e. refl)))

pub heads-terminate : (b : PlainBook) (name : Name) (now : ℕ) → IsLawful b → IsFollowed b (book_after_change b (Terminate name) now) (head_change b (Terminate name) now)
heads-terminate b name now lawful = by_seen (visible_upload (tenant_book b name.tenant) name.id now) refl where
  by_seen : (seen : Result Upload Refusal) → visible_upload (tenant_book b name.tenant) name.id now ≡ seen → IsFollowed b (book_after_change b (Terminate name) now) (head_change b (Terminate name) now)
  by_seen (Ok u) is =
      let part : TenantBook = tenant_book b name.tenant in
      followed-part b name.tenant _ (without (tenant_book b name.tenant) name.id) _ (Gone name)
      (ap (gone_removed name) (terminate_answer-visible b.settings.numbers (tenant_book b name.tenant) name.id now u is))
      (part_after_terminate-visible b.settings.numbers (tenant_book b name.tenant) name.id now u is)
      (leads-part b name.tenant (without (tenant_book b name.tenant) name.id) (Gone name) (IsLawful-without b name.tenant name.id lawful (visible-within b name.tenant name.id now u is))
      (ap (λ (part : HeadPart). set (heads_of b).tenants name.tenant (without part name.id)) (head_part-tenant b name.tenant) ∙ ap (set (heads_of b).tenants name.tenant) (row-gone (tenant_book b name.tenant) name.id))
      (head_row_of u, row-stands b name.tenant name.id now u is))
  by_seen (Err why) is =
      followed-stays b name.tenant _ _ (ap (gone_removed name) (terminate_answer-refused b.settings.numbers (tenant_book b name.tenant) name.id now why is))
      (part_after_terminate-refused b.settings.numbers (tenant_book b name.tenant) name.id now why is)

-- after a sweep there are the rows of what is left,
rows-swept : (now : ℕ) (part : TenantBook) → head_part (part_after_sweep now part) ≡ without_expired now (head_part part)
rows-swept now part =
    ap (with_rows part) (rows-filter (λ (e : Entry Upload). not (has_expired now e.kept.expires)) (λ (e : Entry HeadRow). not (has_expired now e.kept.expires)) part.uploads (λ e. refl))

-- in each part
parts-swept : (now : ℕ) (parts : List TenantBook) → map {A = TenantBook} {B = HeadPart} head_part (map {A = TenantBook} {B = TenantBook} (part_after_sweep now) parts) ≡ map {A = HeadPart} {B = HeadPart} (without_expired now) (map {A = TenantBook} {B = HeadPart} head_part parts)
parts-swept now [] = refl
parts-swept now (part ∷ parts) = rw (rows-swept now part, parts-swept now parts) refl

pub heads-sweep : (b : PlainBook) (now : ℕ) → IsLawful b → IsFollowed b (book_after_change b Sweep now) (head_change b Sweep now)
heads-sweep b now lawful = (
  leads b (map {A = TenantBook} {B = TenantBook} (part_after_sweep now) b.tenants) b.charged (b.released + swept_blocks b now) (Swept now) (IsLawful-sweep b now lawful) (omega arith) (omega arith) (parts-swept now b.tenants) tt,
  tt,
)
