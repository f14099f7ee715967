-- What is written is read again, and what is read is spelled so.
use Rattle.std.specs.Prelude.{◌≡◌, ℕ, ◌≤◌, List, Some}
use Rattle.upload_book.specs.declared.change.Change.{Change}
use Rattle.journal_records.specs.Reading.{record_at}
use Rattle.journal_records.specs.Records.{record_bytes, AreBytes, FitsChange}

-- each change and its moment, exactly
abbrev pub RecordsAreReadAgain : Type 0
RecordsAreReadAgain = (now : ℕ) (change : Change) → now ≤ 253402300799 → FitsChange change → record_at (record_bytes now change) ≡ Some (now, change)

-- Bytes that are read are the ones that are written of what was read. So a record has one spelling, and what was read can
-- be written again.
abbrev pub RecordsAreSpelledSo : Type 0
RecordsAreSpelledSo = (bytes : List ℕ) (now : ℕ) (change : Change)
    → AreBytes bytes
    → record_at bytes ≡ Some (now, change)
    → (bytes ≡ record_bytes now change) × (now ≤ 253402300799) × FitsChange change
