-- A creation of a book that comes in pieces.
use Rattle.std.proofs.Common.{◌≡◌, ℕ, ◌<◌, ◌≤◌, ◌^◌, Bool, true, false, true≢false, not, length, unwrap_or, Ok, refl, sym, ap, subst, ◌∙◌, arith}
use Rattle.std.proofs.lemmas.Bool.Decides.{nat_tests}
use Rattle.std.specs.Result.{IsOk}
use Rattle.std.proofs.Math.ListN.{length-set}
use Rattle.std.proofs.lemmas.List.{get_or-set_same}
use Rattle.upload_book.specs.Account.{account_in}
use Rattle.upload_book.specs.Append.{append_answer, is_too_long, part_after_append}
use Rattle.upload_book.specs.Chunk.{Chunk}
use Rattle.upload_book.specs.Create.{create_answer, created_upload, part_after_create}
use Rattle.upload_book.specs.declared.settings.Numbers.{Numbers}
use Rattle.upload_book.specs.Expiry.{lifetime_end}
use Rattle.upload_book.specs.FirstChunk.{FirstChunk}
use Rattle.upload_book.specs.Lawful.{IsLawful, IsTenantOf}
use Rattle.upload_book.specs.NewUpload.{NewUpload}
use Rattle.upload_book.specs.laws.Steps.{LastFinishes}
use Rattle.upload_book.specs.laws.PiecedCreation.{PiecedCreationOfBook, begun_with, ended_by}
use Rattle.upload_book.specs.PlainBook.{PlainBook, answer_of, book_after, tenant_book, with_tenant_book}
use Rattle.upload_book.specs.TenantBook.{TenantBook, opening_part}
use Rattle.upload_book.proofs.Lawful.LawfulCreate.{HasLawfulTexts, IsCreatable}
use Rattle.upload_book.proofs.Lawful.SettingsLemmas.{max_size-within}
use Rattle.upload_book.proofs.PiecedCreationLemmas.{begun_accepted, can, grows, grows_on, is_middle, middle, none-begun, rest_answered, rest_left}
use Rattle.upload_book.proofs.PiecesOfBookLemmas.{with_tenant_book-twice}
use Rattle.upload_book.proofs.Steps.BookLemmas.{IsLawful-create, IsTenantOf-book}

not_false : (typed : Bool) → not typed ≡ false → typed ≡ true
not_false true is = refl
not_false false is = absurd (true≢false is)

-- what fits is within the greatest size
fits_within : (n : Numbers) (most count : ℕ) → is_too_long n most count ≡ false → count ≤ n.max_size
fits_within n most count fits = grind (arith, nat_tests)

module _ (b : PlainBook) (tenant : ℕ) (new : NewUpload) (first : FirstChunk) (k early now : ℕ) (lawful : IsLawful b) (within : tenant < length b.tenants) (le : early ≤ now) (lasts : now < lifetime_end b.settings.numbers early)
    (finishes : LastFinishes b.settings.numbers k (length first.bytes)) (accepted : IsOk (answer_of b tenant (create_answer tenant new first now b.charged))) where
  abbrev n : Numbers
  n = b.settings.numbers

  abbrev part : TenantBook
  part = tenant_book b tenant

  sound : IsTenantOf n part
  sound = IsTenantOf-book b tenant lawful within

  abbrev begun : TenantBook
  begun = part_after_create new (begun_with first k) early b.charged n part

  -- the book after the first piece
  abbrev pub after : PlainBook
  after = book_after b tenant (part_after_create new (begun_with first k) early b.charged)

  abbrev two : Chunk
  two = ended_by new first k

  seen : tenant_book after tenant ≡ begun
  seen = get_or-set_same b.tenants tenant begun (opening_part 0) within

  is_begun : begun ≡ middle n part tenant b.charged new first k early now sound le lasts finishes accepted
  is_begun = is_middle n part tenant b.charged new first k early now sound le lasts finishes accepted

  creatable : IsCreatable n (account_in n part b.charged) part new first
  creatable = can n part tenant b.charged new first k early now sound le lasts finishes accepted

  -- its bytes have the type of a PATCH, and are no more than can be counted
  pub typed : first.typed ≡ true
  typed = not_false first.typed creatable.typed

  pub ends : length first.bytes < 2 ^ 64
  ends = omega (arith, max_size-within b.settings lawful.settings, fits_within n (unwrap_or new.length n.max_size) (length first.bytes) creatable.fits)

  pub after_within : tenant < length after.tenants
  after_within = omega (arith, within, length-set b.tenants tenant begun)

  pub after_lawful : HasLawfulTexts new → IsLawful after
  after_lawful texts = subst (λ (m : TenantBook). IsLawful (with_tenant_book b tenant m)) (sym is_begun)
      (IsLawful-create b tenant new (begun_with first k) early lawful within (none-begun n part tenant b.charged new first k early now sound le lasts finishes accepted) texts)

  pub book_begun : IsOk (answer_of b tenant (create_answer tenant new (begun_with first k) early b.charged))
  book_begun = begun_accepted n part tenant b.charged new first k early now sound le lasts finishes accepted

  pub book_answered : answer_of after tenant (append_answer part.next two now after.charged) ≡ Ok (record { offset = length first.bytes; expires = (created_upload n new first.bytes now).expires })
  book_answered = ap (λ m. append_answer part.next two now after.charged n m) seen ∙ rest_answered n part tenant b.charged new first k early now sound le lasts finishes accepted

  pub book_left : book_after after tenant (part_after_append part.next two now after.charged) ≡ book_after b tenant (part_after_create new first now b.charged)
  book_left =
      ap (λ m. with_tenant_book after tenant (part_after_append part.next two now after.charged n m)) seen
      ∙ ap (with_tenant_book after tenant) (rest_left n part tenant b.charged new first k early now sound le lasts finishes accepted)
      ∙ with_tenant_book-twice b tenant begun (part_after_create new first now b.charged n part) within
      (rw is_begun (grows n part tenant b.charged new first k early now sound le lasts finishes accepted)) (rw is_begun (grows_on n part tenant b.charged new first k early now sound le lasts finishes accepted))

pub pieced_creation_of_book : PiecedCreationOfBook
pieced_creation_of_book b tenant new first k early now lawful within le lasts finishes accepted = (
  book_begun b tenant new first k early now lawful within le lasts finishes accepted,
  book_answered b tenant new first k early now lawful within le lasts finishes accepted,
  book_left b tenant new first k early now lawful within le lasts finishes accepted,
)
