-- The heads of a book follow a concatenation.
use Rattle.std.proofs.Common.{◌≡◌, ℕ, ◌<◌, length, Option, Some, None, refl, ap}
use Rattle.upload_book.specs.Change.{book_after_change, head_change, put_created}
use Rattle.upload_book.specs.Concat.{concat_refusal, joined_upload, part_after_concat}
use Rattle.upload_book.specs.declared.board_line.HeadChange.TheVariants.{Put}
use Rattle.upload_book.specs.declared.change.Change.TheVariants.{Concat}
use Rattle.upload_book.specs.declared.refusal.Refusal.{Refusal}
use Rattle.upload_book.specs.declared.settings.Numbers.{Numbers}
use Rattle.upload_book.specs.Lawful.{IsLawful}
use Rattle.upload_book.specs.NewFinal.{NewFinal}
use Rattle.upload_book.specs.PlainBook.{PlainBook, tenant_book}
use Rattle.upload_book.specs.TenantBook.{TenantBook, with_new}
use Rattle.upload_book.specs.Upload.{Upload, head_row_of}
use Rattle.upload_book.proofs.Steps.BookLemmas.{IsLawful-concat}
use Rattle.upload_book.proofs.Heads.HeadParts.{IsFollowed, followed-part, followed-stays}
use Rattle.upload_book.proofs.Heads.HeadsNew.{leads-new, next_name}
use Rattle.upload_book.proofs.Lawful.LawfulConcat.{HasLawfulParts}
use Rattle.upload_book.proofs.Lawful.Outcomes.{concat_answer-none, concat_answer-refused, part_after_concat-none}

-- a concatenation that is refused leaves the part
part_after_concat-refused : (n : Numbers) (part : TenantBook) (new : NewFinal) (now : ℕ) (why : Refusal) → concat_refusal n part new now ≡ Some why → part_after_concat new now n part ≡ part
part_after_concat-refused n part new now why is = rw is refl

pub heads-concat : (b : PlainBook) (t : ℕ) (new : NewFinal) (now : ℕ) → IsLawful b → t < length b.tenants → HasLawfulParts new
    → IsFollowed b (book_after_change b (Concat t new) now) (head_change b (Concat t new) now)
heads-concat b t new now lawful within asked =
    by_refusal (concat_refusal b.settings.numbers (tenant_book b t) new now) refl
  where
    by_refusal : (found : Option Refusal) → concat_refusal b.settings.numbers (tenant_book b t) new now ≡ found → IsFollowed b (book_after_change b (Concat t new) now) (head_change b (Concat t new) now)
    by_refusal None none =
        let u : Upload = joined_upload b.settings.numbers (tenant_book b t) new now in
        followed-part b t _ (with_new (tenant_book b t) u) _ (Put (next_name b t) (head_row_of u))
        (ap (put_created u) (concat_answer-none t b.settings.numbers (tenant_book b t) new now none))
        (part_after_concat-none b.settings.numbers (tenant_book b t) new now none)
        (leads-new b t u (IsLawful-concat b t new now lawful within none asked))
    by_refusal (Some why) is =
        let u : Upload = joined_upload b.settings.numbers (tenant_book b t) new now in
        followed-stays b t _ _ (ap (put_created u) (concat_answer-refused t b.settings.numbers (tenant_book b t) new now why is)) (part_after_concat-refused b.settings.numbers (tenant_book b t) new now why is)
