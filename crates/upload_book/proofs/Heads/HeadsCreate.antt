-- The heads of a book follow a creation.
use Rattle.std.proofs.Common.{◌≡◌, ℕ, ◌<◌, length, Option, Some, None, refl, ap}
use Rattle.upload_book.specs.Account.{account_in}
use Rattle.upload_book.specs.Change.{book_after_change, head_change, put_created}
use Rattle.upload_book.specs.Create.{created_upload, creation_refusal}
use Rattle.upload_book.specs.declared.board_line.HeadChange.TheVariants.{Put}
use Rattle.upload_book.specs.declared.change.Change.TheVariants.{Create}
use Rattle.upload_book.specs.declared.refusal.Refusal.{Refusal}
use Rattle.upload_book.specs.FirstChunk.{FirstChunk}
use Rattle.upload_book.specs.Lawful.{IsLawful}
use Rattle.upload_book.specs.NewUpload.{NewUpload}
use Rattle.upload_book.specs.PlainBook.{PlainBook, tenant_book}
use Rattle.upload_book.specs.TenantBook.{TenantBook, with_new}
use Rattle.upload_book.specs.Upload.{Upload, head_row_of}
use Rattle.upload_book.proofs.Steps.BookLemmas.{IsLawful-create}
use Rattle.upload_book.proofs.Heads.HeadParts.{IsFollowed, followed-part, followed-stays}
use Rattle.upload_book.proofs.Heads.HeadsNew.{leads-new, next_name}
use Rattle.upload_book.proofs.Lawful.LawfulCreate.{HasLawfulTexts}
use Rattle.upload_book.proofs.Lawful.Outcomes.{create_answer-none, create_answer-refused, part_after_create-none, part_after_create-refused}

pub heads-create : (b : PlainBook) (t : ℕ) (new : NewUpload) (first : FirstChunk) (now : ℕ) → IsLawful b → t < length b.tenants → HasLawfulTexts new
    → IsFollowed b (book_after_change b (Create t new first) now) (head_change b (Create t new first) now)
heads-create b t new first now lawful within texts =
    by_refusal (creation_refusal b.settings.numbers (account_in b.settings.numbers (tenant_book b t) b.charged) (tenant_book b t) new first) refl
  where
    part : TenantBook
    part = tenant_book b t

    u : Upload
    u = created_upload b.settings.numbers new first.bytes now

    by_refusal : (found : Option Refusal) → creation_refusal b.settings.numbers (account_in b.settings.numbers (tenant_book b t) b.charged) (tenant_book b t) new first ≡ found
        → IsFollowed b (book_after_change b (Create t new first) now) (head_change b (Create t new first) now)
    by_refusal None none =
        followed-part b t _ (with_new (tenant_book b t) (created_upload b.settings.numbers new first.bytes now)) _ (Put (next_name b t) (head_row_of (created_upload b.settings.numbers new first.bytes now)))
        (ap (put_created (created_upload b.settings.numbers new first.bytes now)) (create_answer-none t b.settings.numbers (tenant_book b t) new first now b.charged none))
        (part_after_create-none b.settings.numbers (tenant_book b t) new first now b.charged none)
        (leads-new b t (created_upload b.settings.numbers new first.bytes now) (IsLawful-create b t new first now lawful within none texts))
    by_refusal (Some why) is =
        let refused = create_answer-refused t b.settings.numbers (tenant_book b t) new first now b.charged why is in
        followed-stays b t _ _ (ap (put_created (created_upload b.settings.numbers new first.bytes now)) refused) (part_after_create-refused t b.settings.numbers (tenant_book b t) new first now b.charged why refused)
