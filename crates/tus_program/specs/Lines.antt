-- The two lines that `serve` prints, and those that it tells of its journal.
use Rattle.std.specs.Prelude.{◌≡◌, ℕ, ◌/◌, List, ◌∷◌, ◌++◌, All, codes, decimal, length}
use mathlib.Core.List.{IsPrefix}
use Rattle.std.specs.List.{sum_by}
use Rattle.std.specs.Net.Text.{socket_text}
use Rattle.std.specs.declared.net.socket_addr.SocketAddr.{SocketAddr}
use Rattle.head_board.specs.Event.{Event}
use Rattle.tus_shared.specs.Desk.{Desk}
use Rattle.tus_shared.specs.Store.{IsBookAt}
use Rattle.tus_shared.specs.declared.balance.Balance.{Balance}
use Rattle.upload_book.specs.Charge.{charge_in}
use Rattle.upload_book.specs.Lawful.{IsLawful}
use Rattle.upload_book.specs.PlainBook.{PlainBook}
use Rattle.upload_book.specs.Settings.{Settings}
use Rattle.journal_folders.specs.declared.held.Held.{Held}

-- where the server listens
abbrev pub listening_text : SocketAddr → List ℕ
listening_text place = codes "listening " ++ socket_text place ++ codes "\n"

-- how many blocks were charged and released, and how many the tenants hold
abbrev pub balance_text : Balance → List ℕ
balance_text b = codes "charged " ++ decimal b.charged ++ codes " released " ++ decimal b.released ++ codes " held " ++ decimal b.held ++ codes "\n"

-- The balance of what these desks did: how many blocks they charged and released together. These are the totals of the
-- book at the end, which is lawful and has these settings, and what is held is what its tenants pay. It is the book after all
-- that happened since its opening, which is as much as the desks made, and of which each of them has seen a beginning.
pub record Settles (s : Settings) (desks : List Desk) (balance : Balance) : Type 0 where
  pub charged_sum : balance.charged ≡ sum_by (λ (d : Desk). d.charged) desks
  pub released_sum : balance.released ≡ sum_by (λ (d : Desk). d.released) desks
  pub book : PlainBook
  pub lawful : IsLawful book
  pub charged : balance.charged ≡ book.charged
  pub released : balance.released ≡ book.released
  pub held : balance.held ≡ sum_by (charge_in s.numbers) book.tenants
  pub settings : book.settings ≡ s
  pub events : List Event
  pub is : IsBookAt s events book
  pub seen : All (λ (d : Desk). IsPrefix d.seen events) desks
  pub made : length events ≡ sum_by (λ (d : Desk). d.made) desks

-- what a start has read of its journal: how many records, what their book holds, and how many milliseconds it took
abbrev pub started_text : ℕ → Held → ℕ → List ℕ
started_text records held millis =
    codes "tus-server: journal: " ++ decimal records ++ codes " records, " ++ decimal held.uploads ++ codes " uploads, "
    ++ decimal held.bytes ++ codes " bytes, read in " ++ decimal millis ++ codes " ms\n"

-- How far a start has come with its journal, in place of the line that stands on a terminal: how many records were made again,
-- how many MiB of how many, and for how many seconds. Escape, `[` and `K` clear a line behind the cursor.
abbrev pub progress_text : ℕ → ℕ → ℕ → ℕ → List ℕ
progress_text records read all millis =
    (13 ∷ 27 ∷ codes "[K") ++ codes "tus-server: journal: " ++ decimal records ++ codes " records, " ++ decimal (read / 1048576) ++ codes " of "
    ++ decimal (all / 1048576) ++ codes " MiB, " ++ decimal (millis / 1000) ++ codes " s"
