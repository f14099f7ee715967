-- What a request asks for, as it is found before any book is at hand: to be told what the server can do, to see what
-- stands of an upload or to get its bytes, or to change the book; or why it is refused before the book is asked.
use Rattle.std.specs.Prelude.{ℕ, length, Option, Some, None, IfSome, Result, Ok, Err, if◌then◌else◌}
use Rattle.upload_book.specs.Change.{CanBeMade}
use Rattle.upload_book.specs.declared.change.Change.TheVariants as change
use Rattle.upload_book.specs.Operation.{Operation}
use Rattle.upload_book.specs.Operation as operation
use Rattle.upload_book.specs.declared.refusal.Refusal.{Refusal}
use Rattle.upload_book.specs.FirstChunk.{no_chunk}
use Rattle.upload_book.specs.Settings.{Settings}
use Rattle.tus_steps.specs.declared.asked.Asked.{Asked}
use Rattle.tus_steps.specs.declared.asked.Asked.TheVariants.{Options, Refused, Look, Content, Change}
use Rattle.tus_steps.specs.declared.requested_change.ChangeOf.{ChangeOf}
use Rattle.tus_steps.specs.Method.{is_options}
use Rattle.tus_steps.specs.Operation.{operation_of}
use Rattle.tus_steps.specs.Request.{Request}

-- what an operation is: a creation that carries nothing has no first bytes, and its reply does not tell how many there are
abbrev pub asked_for : Operation → Asked
asked_for (operation.Create tenant new) = Change (record { change = change.Create tenant new no_chunk; offset = None })
asked_for (operation.CreateWith tenant new first) =
    Change (record { change = change.Create tenant new first; offset = Some (length first.bytes) })
asked_for (operation.Concat tenant new) = Change (record { change = change.Concat tenant new; offset = None })
asked_for (operation.Look name) = Look name
asked_for (operation.Content name) = Content name
asked_for (operation.Append name chunk) = Change (record { change = change.Append name chunk; offset = None })
asked_for (operation.Terminate name) = Change (record { change = change.Terminate name; offset = None })

-- the same of a request for an operation, or for none for this reason
abbrev pub asked_by : Result Operation Refusal → Asked
asked_by (Ok op) = asked_for op
asked_by (Err why) = Refused why

-- the same, apart from the reason
abbrev pub asked_or : Result Operation Refusal → Result Asked Refusal
asked_or (Ok op) = Ok (asked_for op)
asked_or (Err why) = Err why

-- what a request asks for under these settings
abbrev pub asked_in : Settings → Request → Asked
asked_in s r = if is_options r.method then Options else asked_by (operation_of s r)

-- the change that is asked for, if it is one
abbrev pub change_in : Asked → Option ChangeOf
change_in (Change asked) = Some asked
change_in _ = None

-- where there are so many tenants, the change that is asked for, if it is one, can be made
abbrev pub CanBeAsked : ℕ → Asked → Type 0
CanBeAsked tenants asked = IfSome (change_in asked) (λ found. CanBeMade tenants found.change)
