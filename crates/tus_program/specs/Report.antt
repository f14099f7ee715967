-- How the end of a command is reported: by its exit status, and by the line of its fault, behind which a sentence explains it
-- where somebody watches, or where the command asks for more than the least.
use Rattle.std.specs.Prelude.{◌≡◌, ℕ, Bool, ◌||◌, List, ◌++◌, Result, Ok, Err, OnOk, IfErr}
use Rattle.journal_folders.specs.StreamUse.{StreamUse, IsUntouched, WritesOrFails}
use Rattle.server_words.specs.Arguments.{CommandArguments}
use Rattle.server_words.specs.Explained.{asks_more, told_if}
use Rattle.server_words.specs.Fault.{line_of, status_of}
use Rattle.server_words.specs.Sentences.{sentence_of}
use Rattle.server_words.specs.declared.fault.RunFault.{RunFault}

-- the line of the fault and the text behind it were written to this stream, or a prefix of both
abbrev pub WritesLines : {E : Type 0} → StreamUse E → RunFault → List ℕ → Type 0
WritesLines errors fault text =
    WritesOrFails errors.before errors.after errors.has_failed (line_of fault ++ text)

-- the exit status of a command that ended so
abbrev pub exit_status : {T : Type 0} → Result T RunFault → ℕ
exit_status (Ok _) = 0
exit_status (Err fault) = status_of fault

-- what explains a fault of a command with these arguments, where standard error is a terminal or not; no text where nothing does
abbrev pub explanation : Bool → CommandArguments → RunFault → List ℕ
explanation watched arguments fault = told_if (watched || asks_more arguments) (sentence_of arguments fault)

-- The end of a command with these arguments is reported: by the exit status, and by the line of the fault on standard error
-- with what explains it. Standard error is untouched where there is no fault.
pub record Reports {E T : Type 0} (watched : Bool) (arguments : CommandArguments) (outcome : Result T RunFault) (status : ℕ) (errors : StreamUse E) : Type 0 where
  pub status_is : status ≡ exit_status outcome
  pub quiet : OnOk outcome (IsUntouched errors)
  pub lines : IfErr outcome (λ fault. WritesLines errors fault (explanation watched arguments fault))
