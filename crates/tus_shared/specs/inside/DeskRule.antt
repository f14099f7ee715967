-- What a desk keeps.
use Rattle.std.specs.Prelude.{◌≡◌, ℕ, Option}
use Rattle.logbook.specs.Pages.{Book}
use Rattle.upload_book.specs.Settings.{Settings}
use Rattle.head_board.specs.Board.{ReaderView}
use Rattle.head_board.specs.Events.{HaveHappened}

-- Its settings are those of the opening, and its reader is of the board of that book, which has seen what happened to it.
-- Its journal is that of the opening, and what it was told to be kept is of the same log. It has one part of each ledger.
pub record IsDesk (s : Settings) (log : Book) (journal : Option ℕ) (settings : Settings) (reader : ReaderView) (own : Option ℕ) (kept : Book) (charged released made : ℕ) : Type 0 where
  pub settings_are : settings ≡ s
  pub reader_settings : reader.settings ≡ s
  pub reader_log : reader.log ≡ log
  pub happened : HaveHappened s reader.events
  pub journal_is : own ≡ journal
  pub kept_log : kept ≡ log
  pub charged_part : charged ≡ 1
  pub released_part : released ≡ 1
  pub made_part : made ≡ 1
