-- What a creation, a concatenation and a DELETE give, by whether they are refused.
use Rattle.std.proofs.Common.{◌≡◌, ℕ, Option, Some, None, Ok, Err, refl}
use Rattle.upload_book.specs.Account.{account_in}
use Rattle.upload_book.specs.Expiry.{finished_end}
use Rattle.upload_book.specs.Concat.{concat_answer, concat_refusal, joined_upload, part_after_concat}
use Rattle.upload_book.specs.Create.{creation_refusal, created_upload, create_answer, part_after_create}
use Rattle.upload_book.specs.declared.refusal.Refusal.{Refusal}
use Rattle.upload_book.specs.declared.settings.Numbers.{Numbers}
use Rattle.upload_book.specs.FirstChunk.{FirstChunk}
use Rattle.upload_book.specs.NewFinal.{NewFinal}
use Rattle.upload_book.specs.NewUpload.{NewUpload}
use Rattle.upload_book.specs.Refusal.{unless}
use Rattle.upload_book.specs.TenantBook.{TenantBook, visible_upload, with_new}
use Rattle.upload_book.specs.Terminate.{without, given_back, terminate_answer, part_after_terminate}
use Rattle.upload_book.specs.Upload.{Upload}

-- what refuses is the refusal
pub unless-Err : {A : Type 0} (found : Option Refusal) (value : A) (why : Refusal) → unless found value ≡ Err why → found ≡ Some why
unless-Err None value why is = absurd cc
unless-Err (Some told) value why is = cc

-- a creation that is refused
pub create_answer-refused : (t : ℕ) (n : Numbers) (part : TenantBook) (new : NewUpload) (first : FirstChunk) (now charged : ℕ) (why : Refusal) → creation_refusal n (account_in n part charged) part new first ≡ Some why → create_answer t new first now charged n part ≡ Err why
create_answer-refused t n part new first now charged why is = rw is refl

-- leaves the part
pub part_after_create-refused : (t : ℕ) (n : Numbers) (part : TenantBook) (new : NewUpload) (first : FirstChunk) (now charged : ℕ) (why : Refusal) → create_answer t new first now charged n part ≡ Err why → part_after_create new first now charged n part ≡ part
part_after_create-refused t n part new first now charged why is = rw (unless-Err _ _ why is) refl

-- one that is not refused
pub create_answer-none : (t : ℕ) (n : Numbers) (part : TenantBook) (new : NewUpload) (first : FirstChunk) (now charged : ℕ) → creation_refusal n (account_in n part charged) part new first ≡ None
    → create_answer t new first now charged n part ≡ Ok (record { name = record { tenant = t; id = part.next }; expires = (created_upload n new first.bytes now).expires })
create_answer-none t n part new first now charged none = rw none refl

-- adds the upload
pub part_after_create-none : (n : Numbers) (part : TenantBook) (new : NewUpload) (first : FirstChunk) (now charged : ℕ) → creation_refusal n (account_in n part charged) part new first ≡ None
    → part_after_create new first now charged n part ≡ with_new part (created_upload n new first.bytes now)
part_after_create-none n part new first now charged none = rw none refl

-- a concatenation that is refused
pub concat_answer-refused : (t : ℕ) (n : Numbers) (part : TenantBook) (new : NewFinal) (now : ℕ) (why : Refusal) → concat_refusal n part new now ≡ Some why → concat_answer t new now n part ≡ Err why
concat_answer-refused t n part new now why is = rw is refl

-- one that is not refused
pub concat_answer-none : (t : ℕ) (n : Numbers) (part : TenantBook) (new : NewFinal) (now : ℕ) → concat_refusal n part new now ≡ None → concat_answer t new now n part ≡ Ok (record { name = record { tenant = t; id = part.next }; expires = finished_end n now })
concat_answer-none t n part new now none = rw none refl

-- adds the final upload
pub part_after_concat-none : (n : Numbers) (part : TenantBook) (new : NewFinal) (now : ℕ) → concat_refusal n part new now ≡ None → part_after_concat new now n part ≡ with_new part (joined_upload n part new now)
part_after_concat-none n part new now none = rw none refl

-- a DELETE of what is not visible is refused
pub terminate_answer-refused : (n : Numbers) (part : TenantBook) (id now : ℕ) (why : Refusal) → visible_upload part id now ≡ Err why → terminate_answer id now n part ≡ Err why
terminate_answer-refused n part id now why is = rw is refl

-- and leaves the part
pub part_after_terminate-refused : (n : Numbers) (part : TenantBook) (id now : ℕ) (why : Refusal) → visible_upload part id now ≡ Err why → part_after_terminate id now n part ≡ part
part_after_terminate-refused n part id now why is = rw is refl

-- one of a visible upload tells what is no longer paid
pub terminate_answer-visible : (n : Numbers) (part : TenantBook) (id now : ℕ) (u : Upload) → visible_upload part id now ≡ Ok u → terminate_answer id now n part ≡ Ok (record { blocks = given_back n part (without part id); released = given_back n part (without part id) })
terminate_answer-visible n part id now u is = rw is refl

-- and leaves the part without it
pub part_after_terminate-visible : (n : Numbers) (part : TenantBook) (id now : ℕ) (u : Upload) → visible_upload part id now ≡ Ok u → part_after_terminate id now n part ≡ without part id
part_after_terminate-visible n part id now u is = rw is refl
