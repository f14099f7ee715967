-- What a sweep of a kept book does.
use Rattle.std.specs.Prelude.{◌≡◌, ℕ, Option, Some, None}
use Rattle.upload_book.specs.declared.sweep.Swept.{Swept}
use Rattle.upload_book.specs.PlainBook.{PlainBook}
use Rattle.upload_book.specs.Sweep.{book_after_sweep, sweep_answer}

-- the sweep of the plain book, with what it did; or nothing, where there is no room for its record
abbrev pub IsSwept : PlainBook → ℕ → Option Swept → PlainBook → Type 0
IsSwept b now (Some swept) after = (swept ≡ sweep_answer b now) × (after ≡ book_after_sweep b now)
IsSwept b now None after = after ≡ b
