-- Why a request asks for no operation, whichever tenant it is for.
use Rattle.std.proofs.Common.{◌≡◌, ℕ, Bool, true, false, cond, not, List, [], ◌∷◌, Option, Some, None, Err, refl, ap, ◌∙◌, codes}
use Rattle.std.specs.Prelude.{is_none, option_map, option_and_then, ok_or}
use Rattle.std.specs.Result.{result_err}
use Rattle.tus_text.specs.Concat.{concat_of}
use Rattle.tus_text.specs.declared.concat.Concat.{Concat}
use Rattle.tus_text.specs.declared.concat.Concat.TheVariants.{Partial, Final}
use Rattle.tus_text.specs.declared.checksum.Checksum.{Checksum}
use Rattle.upload_book.specs.Operation.{Operation}
use Rattle.upload_book.specs.Operation as operation
use Rattle.upload_book.specs.declared.refusal.Refusal.TheVariants as refusal
use Rattle.upload_book.specs.NewUpload.{NewUpload}
use Rattle.upload_book.specs.Refusal.{first_that_holds}
use Rattle.tus_steps.specs.Creation.{concat_creation, creation_by, creation_of, first_chunk, is_with_upload, new_final_in, new_upload_in}
use Rattle.tus_steps.specs.Route.{Route, Create, Look, Content, Append, Terminate}
use Rattle.tus_steps.specs.Field.{FieldText, absent, one, many, optional_checksum_in}
use Rattle.tus_steps.specs.Operation.{chunk_in, found_or, operation_on}
use Rattle.tus_steps.specs.Request.{Request}

-- what is made of something is there where that is
mapped : {A B : Type 0} (f g : A → B) (found : Option A) → is_none (option_map f found) ≡ is_none (option_map g found)
mapped f g None = refl
mapped f g (Some x) = refl

chained : {A B : Type 0} (f g : A → Option B) (found : Option A) → ((x : A) → is_none (f x) ≡ is_none (g x)) → is_none (option_and_then f found) ≡ is_none (option_and_then g found)
chained f g None same = refl
chained f g (Some x) same = same x

-- a creation is told for each tenant, or for none
created : (r : Request) (s t : ℕ) (new : NewUpload) → is_none (creation_of r s new) ≡ is_none (creation_of r t new)
created r s t new = elim (is_with_upload r) as (λ with_upload. is_none (cond with_upload (option_map (made s) (optional_checksum_in r.fields.checksum)) (Some (bare s))) ≡ is_none (cond with_upload (option_map (made t) (optional_checksum_in r.fields.checksum)) (Some (bare t)))) [
  | true ↦ mapped (made s) (made t) (optional_checksum_in r.fields.checksum)
  | false ↦ refl
]
  where
    made : ℕ → Option Checksum → Operation
    made tenant check = operation.CreateWith tenant new (first_chunk r check)

    bare : ℕ → Operation
    bare tenant = operation.Create tenant new

joined : (r : Request) (s t : ℕ) (text : List ℕ) (concat : Concat) → is_none (concat_creation r s text concat) ≡ is_none (concat_creation r t text concat)
joined r s t text Partial = chained (creation_of r s) (creation_of r t) (new_upload_in r true (codes "partial")) (created r s t)
joined r s t text (Final parts) = mapped (λ new. operation.Concat s new) (λ new. operation.Concat t new) (new_final_in r text parts)

told_by : (r : Request) (s t : ℕ) (field : FieldText) → is_none (creation_by r s field) ≡ is_none (creation_by r t field)
told_by r s t absent = chained (creation_of r s) (creation_of r t) (new_upload_in r false []) (created r s t)
told_by r s t (one text) = chained (concat_creation r s text) (concat_creation r t text) (concat_of text) (joined r s t text)
told_by r s t many = refl

-- so is any operation
same_operation : (r : Request) (s t : ℕ) (on : Route) → is_none (operation_on r s on) ≡ is_none (operation_on r t on)
same_operation r s t Create = told_by r s t r.fields.concat
same_operation r s t (Look id) = refl
same_operation r s t (Content id) = refl
same_operation r s t (Terminate id) = refl
same_operation r s t (Append id) = mapped (λ chunk. operation.Append (record { tenant = s; id = id }) chunk) (λ chunk. operation.Append (record { tenant = t; id = id }) chunk) (chunk_in r)

-- what is looked for last
last : (found : Option Operation) → result_err (ok_or found refusal.Field) ≡ cond (is_none found) (Some refusal.Field) None
last None = refl
last (Some op) = refl

placed : (place : Option ℕ) (on : Option Route) (r : Request) → result_err (found_or refusal.Tenant place (λ tenant. found_or refusal.Method on (λ on. ok_or (operation_on r tenant on) refusal.Field)))
    ≡ first_that_holds ((is_none place, refusal.Tenant) ∷ (is_none on, refusal.Method) ∷ (is_none (option_and_then (operation_on r 0) on), refusal.Field) ∷ [])
placed None on r = refl
placed (Some tenant) None r = refl
placed (Some tenant) (Some on) r = last (operation_on r tenant on) ∙ ap (λ none. cond none (Some refusal.Field) None) (same_operation r tenant 0 on)

-- the first of all that a request is to have, and has not
pub first_missing : (version : Bool) (name : Option (List ℕ)) (place : List ℕ → Option ℕ) (on : Option Route) (r : Request)
    → result_err (cond version (found_or refusal.Path name (λ name. found_or refusal.Tenant (place name) (λ tenant. found_or refusal.Method on (λ on. ok_or (operation_on r tenant on) refusal.Field)))) (Err refusal.Version))
    ≡ first_that_holds ((not version, refusal.Version) ∷ (is_none name, refusal.Path) ∷ (is_none (option_and_then place name), refusal.Tenant) ∷ (is_none on, refusal.Method) ∷ (is_none (option_and_then (operation_on r 0) on), refusal.Field) ∷ [])
first_missing false name place on r = refl
first_missing true None place on r = refl
first_missing true (Some name) place on r = placed (place name) on r
