-- The bytes of an upload that a journal has.
use Rattle.std.specs.Prelude.{◌≡◌, ℕ, List, Option, Some, None, option_map, Result, Ok, Err, ⊤}
use Rattle.std.specs.Borrow.{Bor}
use Rattle.std.specs.List.{after_first, before_first}
use Rattle.tus_text.specs.Path.{id_of, is_slash}
use Rattle.upload_book.specs.PlainBook.{PlainBook, answer_of}
use Rattle.upload_book.specs.Settings.{tenant_place}
use Rattle.upload_book.specs.Content.{so_far_answer}
use Rattle.upload_book.specs.declared.refusal.Refusal.{Refusal}
use Rattle.upload_book.specs.declared.refusal.Refusal.TheVariants as refusal
use Rattle.journal_file.specs.declared.recovered.WholeFrames.{WholeFrames}
use Rattle.server_words.specs.declared.fault.RunFault.{RunFault}
use Rattle.server_words.specs.declared.fault.RunFault.TheVariants as run
use Rattle.server_words.specs.declared.journal_fault.JournalFault.TheVariants.{Upload}
use Rattle.server_words.specs.declared.journal_fault.NoUpload.{NoUpload}
use Rattle.server_words.specs.declared.journal_fault.NoUpload.TheVariants.{Name, Tenant, Unknown, Gone}
use Rattle.journal_folders.specs.ReadJournal.{IsFaultOfFiles, IsReadTo, Makes}

-- the tenant's name and the id of a word TENANT/ID, which is cut at its first `/`; the id is written as in a path
abbrev pub upload_named : List ℕ → Option (List ℕ × ℕ)
upload_named word = option_map (λ id. (before_first is_slash word, id)) (id_of (after_first is_slash word))

-- the same of what the code finds
abbrev pub name_and_id : Bor (List ℕ) × ℕ → List ℕ × ℕ
name_and_id found = (found.0.now, found.1)

-- why there are no bytes
abbrev pub told : Result (List ℕ) Refusal → Result (List ℕ) NoUpload
told (Ok bytes) = Ok bytes
told (Err refusal.Unknown) = Err Unknown
told (Err why) = Err Gone

-- The bytes that the upload of a name has in a book, whether these are all of them or not. It is looked at before any moment
-- at which one expires.
abbrev pub bytes_at : PlainBook → ℕ → Option ℕ → Result (List ℕ) NoUpload
bytes_at b id None = Err Tenant
bytes_at b id (Some tenant) = told (answer_of b tenant (so_far_answer id 0))

abbrev pub bytes_named : PlainBook → Option (List ℕ × ℕ) → Result (List ℕ) NoUpload
bytes_named b None = Err Name
bytes_named b (Some name) = bytes_at b name.1 (tenant_place b.settings name.0)

-- the bytes that a book has of the upload of a word TENANT/ID
abbrev pub exported : PlainBook → List ℕ → Result (List ℕ) NoUpload
exported b word = bytes_named b (upload_named word)

-- a fault says why there are none, or memory was lacking
abbrev pub IsNoUpload : Result (List ℕ) NoUpload → RunFault → Type 0
IsNoUpload found (run.Journal (Upload why)) = found ≡ Err why
IsNoUpload found run.Memory = ⊤
IsNoUpload found fault = ⊥

-- the bytes of the upload of a word, in the book that the files of a journal make; the journal's is not damaged
pub record IsExported (word journal settings bytes : List ℕ) : Type 0 where
  pub found : WholeFrames
  pub read : IsReadTo journal found
  pub book : PlainBook
  pub made : Makes journal settings (Ok book)
  pub are : exported book word ≡ Ok bytes

-- the book that the files make has no such upload; the journal's is not damaged
pub record Misses (word journal settings : List ℕ) (why : NoUpload) : Type 0 where
  pub found : WholeFrames
  pub read : IsReadTo journal found
  pub book : PlainBook
  pub made : Makes journal settings (Ok book)
  pub lacks : exported book word ≡ Err why

-- why no bytes are written: the files have no such upload, or make no book
abbrev pub IsFaultOfExport : List ℕ → List ℕ → List ℕ → RunFault → Type 0
IsFaultOfExport word journal settings (run.Journal (Upload why)) = Misses word journal settings why
IsFaultOfExport word journal settings fault = IsFaultOfFiles journal settings fault
