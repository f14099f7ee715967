-- What a store keeps.
use Rattle.std.specs.Prelude.{◌≡◌, ℕ, ◌+◌, length}
use Rattle.logbook.specs.Pages.{Book}
use Rattle.upload_book.specs.PlainBook.{PlainBook}
use Rattle.upload_book.specs.Settings.{Settings}
use Rattle.head_board.specs.Board.{BoardView}
use Rattle.tus_shared.specs.Store.{IsBookAt}

-- what is seen of the store's side of a ledger: the total of its book, and the parts and the amount of the share that
-- no desk has
pub record LedgerView : Type 0 where
  pub total : ℕ
  pub parts : ℕ
  pub rest : ℕ

-- The ledger has this total, all of which stands in the shares of the desks: each of these has one part of the
-- sixteen, and the parts that no desk has count nothing.
pub record IsCounted (desks sum : ℕ) (ledger : LedgerView) : Type 0 where
  pub total : ledger.total ≡ sum
  pub parts : ledger.parts + desks ≡ 16
  pub rest : ledger.rest ≡ 0

-- What every store keeps: its book and its board have the settings of the opening, the board's events are in the log of
-- the opening and lead to the book, and the book's two totals and the number of events are those of the ledgers.
pub record IsStore (s : Settings) (desks : ℕ) (log : Book) (book : PlainBook) (board : BoardView) (added removed counted : LedgerView) : Type 0 where
  pub settings : book.settings ≡ s
  pub board_settings : board.settings ≡ s
  pub board_log : board.log ≡ log
  pub at : IsBookAt s board.events book
  pub charged : IsCounted desks book.charged added
  pub released : IsCounted desks book.released removed
  pub made : IsCounted desks (length board.events) counted
