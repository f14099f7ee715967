-- What a request asks for, apart from where its tenant stands.
use Rattle.std.proofs.Common.{◌≡◌, ℕ, Bool, true, false, cond, List, [], Option, Some, None, Result, Ok, Err, IfOk, IfSome, inl, inr, refl}
use Rattle.std.specs.Option.{option_map, option_and_then}
use Rattle.std.specs.Prelude.{ok_or, codes}
use Rattle.std.proofs.lemmas.Bool.{cases_Bool}
use Rattle.tus_text.specs.Concat.{concat_of}
use Rattle.tus_text.specs.declared.checksum.Checksum.{Checksum}
use Rattle.tus_text.specs.declared.concat.Concat.{Concat}
use Rattle.tus_text.specs.declared.concat.Concat.TheVariants.{Partial, Final}
use Rattle.tus_text.specs.declared.path.Path.{Path}
use Rattle.tus_text.specs.declared.path.Path.TheVariants as path
use Rattle.upload_book.specs.Chunk.{Chunk}
use Rattle.upload_book.specs.Operation.{Operation}
use Rattle.upload_book.specs.Operation as operation
use Rattle.upload_book.specs.declared.refusal.Refusal.{Refusal}
use Rattle.upload_book.specs.declared.refusal.Refusal.TheVariants as refusal
use Rattle.upload_book.specs.NewFinal.{NewFinal}
use Rattle.upload_book.specs.NewUpload.{NewUpload}
use Rattle.upload_book.specs.Settings.{Settings, tenant_place}
use Rattle.tus_steps.specs.Creation.{concat_creation, creation_by, creation_of, first_chunk, is_with_upload, new_final_in, new_upload_in}
use Rattle.tus_steps.specs.declared.method.Method.{Method}
use Rattle.tus_steps.specs.declared.method.Method.TheVariants.{Post, Head, Get, Patch, Delete, Options, Other}
use Rattle.tus_steps.specs.Route.{Route, Create, Look, Content, Append, Terminate, route, tenant_name}
use Rattle.tus_steps.specs.Field.{FieldText, absent, one, many, optional_checksum_in}
use Rattle.tus_steps.specs.Method.{is_patch}
use Rattle.tus_steps.specs.Operation.{chunk_in, has_version, operation_at, operation_of, operation_on}
use Rattle.tus_steps.specs.Request.{Request}

-- an operation, of the tenant at a place
abbrev pub moved : ℕ → Operation → Operation
moved t (operation.Create tenant new) = operation.Create t new
moved t (operation.CreateWith tenant new first) = operation.CreateWith t new first
moved t (operation.Concat tenant new) = operation.Concat t new
moved t (operation.Look name) = operation.Look (record { tenant = t; id = name.id })
moved t (operation.Content name) = operation.Content (record { tenant = t; id = name.id })
moved t (operation.Append name chunk) = operation.Append (record { tenant = t; id = name.id }) chunk
moved t (operation.Terminate name) = operation.Terminate (record { tenant = t; id = name.id })

-- what was asked for, of the tenant at a place
abbrev pub moved_to : ℕ → Result Operation Refusal → Result Operation Refusal
moved_to t (Ok op) = Ok (moved t op)
moved_to t (Err why) = Err why

-- a request that asks to add bytes to an upload is a PATCH
abbrev pub AppendsByPatch : Request → Operation → Type 0
AppendsByPatch r (operation.Append name chunk) = is_patch r.method ≡ true
AppendsByPatch r _ = Unit {0}

-- operations that differ in the place of the tenant alone
pub record Apart (r : Request) (ops : ℕ → Option Operation) : Type 0 where
  pub of : Option Operation
  pub each : (t : ℕ) → ops t ≡ option_map (moved t) of
  pub at : IfSome of (AppendsByPatch r)

none-apart : (r : Request) → Apart r (λ t. None)
none-apart r = record { of = None; each = λ t. refl; at = tt }

cond-apart : (r : Request) (test : Bool) (ops others : ℕ → Option Operation) → Apart r ops → Apart r others → Apart r (λ t. cond test (ops t) (others t))
cond-apart r true ops others holds fails = holds
cond-apart r false ops others holds fails = fails

with-apart : (r : Request) (new : NewUpload) (check : Option (Option Checksum)) → Apart r (λ t. option_map (λ (c : Option Checksum). operation.CreateWith t new (first_chunk r c)) check)
with-apart r new None = none-apart r
with-apart r new (Some check) = record { of = Some (operation.CreateWith 0 new (first_chunk r check)); each = λ t. refl; at = tt }

create-apart : (r : Request) (new : Option NewUpload) → Apart r (λ t. option_and_then (creation_of r t) new)
create-apart r None = none-apart r
create-apart r (Some new) =
    cond-apart r (is_with_upload r) _ (λ t. Some (operation.Create t new))
    (with-apart r new (optional_checksum_in r.fields.checksum))
    (record { of = Some (operation.Create 0 new); each = λ t. refl; at = tt })

final-apart : (r : Request) (new : Option NewFinal) → Apart r (λ t. option_map (λ (n : NewFinal). operation.Concat t n) new)
final-apart r None = none-apart r
final-apart r (Some new) = record { of = Some (operation.Concat 0 new); each = λ t. refl; at = tt }

concat-apart : (r : Request) (text : List ℕ) (concat : Option Concat) → Apart r (λ t. option_and_then (concat_creation r t text) concat)
concat-apart r text None = none-apart r
concat-apart r text (Some Partial) = create-apart r (new_upload_in r true (codes "partial"))
concat-apart r text (Some (Final parts)) = final-apart r (new_final_in r text parts)

creation_by-apart : (r : Request) (concat : FieldText) → Apart r (λ t. creation_by r t concat)
creation_by-apart r absent = create-apart r (new_upload_in r false [])
creation_by-apart r (one text) = concat-apart r text (concat_of text)
creation_by-apart r many = none-apart r

append-apart : (r : Request) (id : ℕ) (chunk : Option Chunk) → is_patch r.method ≡ true → Apart r (λ t. option_map (λ (c : Chunk). operation.Append (record { tenant = t; id = id }) c) chunk)
append-apart r id None at = none-apart r
append-apart r id (Some chunk) at = record { of = Some (operation.Append (record { tenant = 0; id = id }) chunk); each = λ t. refl; at = at }

-- what appends is a PATCH
append-patch : (p : Path) (m : Method) (id : ℕ) → route p m ≡ Some (Append id) → is_patch m ≡ true
append-patch p Patch id is = refl
append-patch (path.Upload tenant named) Post id is = absurd cc
append-patch (path.Upload tenant named) Head id is = absurd cc
append-patch (path.Upload tenant named) Get id is = absurd cc
append-patch (path.Upload tenant named) Delete id is = absurd cc
append-patch (path.Upload tenant named) Options id is = absurd cc
append-patch (path.Upload tenant named) Other id is = absurd cc
append-patch (path.Create tenant) Post id is = absurd cc
append-patch (path.Create tenant) Head id is = absurd cc
append-patch (path.Create tenant) Get id is = absurd cc
append-patch (path.Create tenant) Delete id is = absurd cc
append-patch (path.Create tenant) Options id is = absurd cc
append-patch (path.Create tenant) Other id is = absurd cc
append-patch path.Other m id is = absurd cc

pub route-apart : (r : Request) (on : Route) → route r.path r.method ≡ Some on → Apart r (λ t. operation_on r t on)
route-apart r Create is = creation_by-apart r r.fields.concat
route-apart r (Look id) is = record { of = Some (operation.Look (record { tenant = 0; id = id })); each = λ t. refl; at = tt }
route-apart r (Content id) is = record { of = Some (operation.Content (record { tenant = 0; id = id })); each = λ t. refl; at = tt }
route-apart r (Append id) is = append-apart r id (chunk_in r) (append-patch r.path r.method id is)
route-apart r (Terminate id) is = record { of = Some (operation.Terminate (record { tenant = 0; id = id })); each = λ t. refl; at = tt }

-- What a request of a tenant asks for, whichever the settings that have it: it is refused for the same reason, or asks
-- for the same operation.
pub record AsksFor (r : Request) (name : List ℕ) : Type 0 where
  pub of : Result Operation Refusal
  pub each : (s : Settings) (t : ℕ) → tenant_place s name ≡ Some t → operation_of s r ≡ moved_to t of
  pub at : IfOk of (AppendsByPatch r)

-- what the last two tests give
record AskedAt (r : Request) : Type 0 where
  of : Result Operation Refusal
  each : (t : ℕ) → operation_at r t ≡ moved_to t of
  at : IfOk of (AppendsByPatch r)

ok_or-apart : (r : Request) (ops : ℕ → Option Operation) (of : Option Operation) → ((t : ℕ) → ops t ≡ option_map (moved t) of) → IfSome of (AppendsByPatch r)
    → (x : Result Operation Refusal) × ((t : ℕ) → ok_or (ops t) refusal.Field ≡ moved_to t x) × IfOk x (AppendsByPatch r)
ok_or-apart r ops None each at = (Err refusal.Field, λ t. rw (each t) refl, tt)
ok_or-apart r ops (Some op) each at = (Ok op, λ t. rw (each t) refl, at)

asked-apart : (r : Request) (on : Option Route) → route r.path r.method ≡ on → AskedAt r
asked-apart r None is = record { of = Err refusal.Method; each = λ t. rw is refl; at = tt }
asked-apart r (Some on) is =
    let apart = route-apart r on is in
    let told = ok_or-apart r (λ t. operation_on r t on) apart.of apart.each apart.at in
    record { of = told.0; each = λ t. rw is (told.1 t); at = told.2 }

-- each request that names a tenant asks for something
pub asks-for : (r : Request) (name : List ℕ) → tenant_name r.path ≡ Some name → AsksFor r name
asks-for r name named = elim (cases_Bool (has_version r)) [
  | inl version ↦
      let asked = asked-apart r (route r.path r.method) refl in
      record { of = asked.of; each = λ s t is. rw (version, named, is) (asked.each t); at = asked.at }
  | inr other ↦ record { of = Err refusal.Version; each = λ s t is. rw other refl; at = tt }
]
