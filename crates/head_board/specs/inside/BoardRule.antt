-- What a board keeps.
use Rattle.std.specs.Prelude.{◌≡◌, true, Bool, List, [], MatchBool}
use Rattle.logbook.specs.Pages.{Named}
use Rattle.head_board.specs.declared.board_copy.Note.{Note}
use Rattle.head_board.specs.declared.board_copy.BoardCopy.{BoardCopy}
use Rattle.head_board.specs.declared.board_copy.View.{View}
use Rattle.head_board.specs.inside.EventLog.{LogPrefix, word_of}
use Rattle.head_board.specs.inside.Showing.{Fits, IsCurrent}

-- What a writer knows between two calls: which board it is. The copy is current, and nothing is left to be shown.
pub record IsAtRest (copy : BoardCopy) (place : View) (pending : List Note) : Type 0 where
  pub current : IsCurrent copy
  pub knows : place.knows ≡ true
  pub fits : Fits place copy
  pub nothing : pending ≡ []

-- What a writer knows of the first copy that it is to show: where that was done, it shows this copy, and is at rest.
abbrev pub IsBegun : Bool → BoardCopy → BoardCopy → View → List Note → Type 0
IsBegun done first shown place pending = MatchBool done ((shown ≡ first) × IsAtRest shown place pending) (Unit {0})

-- what every board keeps: it has seen the events of the copy that is shown, and its word is that of the log
pub record IsBoard (copy : BoardCopy) (place : View) (pending : List Note) (seen : LogPrefix) (log_word : Named) : Type 0 where
  pub rest : IsAtRest copy place pending
  pub same : seen ≡ copy.seen
  pub word : log_word ≡ word_of seen.book
