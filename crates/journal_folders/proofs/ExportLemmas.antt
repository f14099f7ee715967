-- Words that name no upload, and what an export ends with.
use Rattle.std.proofs.Common.{◌≡◌, ℕ, ◌+◌, List, [], length, None, Ok, option_map, refl, ap, ◌∙◌, arith}
use Rattle.std.specs.List.{position_or_len, before_first}
use Rattle.std.proofs.lemmas.List.{drop_all}
use Rattle.tus_text.specs.Number.{number_of}
use Rattle.tus_text.specs.Path.{id_of, is_slash}
use Rattle.upload_book.specs.PlainBook.{PlainBook}
use Rattle.journal_file.specs.declared.recovered.WholeFrames.{WholeFrames}
use Rattle.journal_folders.specs.Export.{IsFaultOfExport, IsNoUpload, exported, upload_named}
use Rattle.journal_folders.specs.ReadJournal.{IsFaultOfFiles, IsReadTo, Makes}
use Rattle.server_words.specs.declared.fault.RunFault.{RunFault}
use Rattle.server_words.specs.declared.fault.RunFault.TheVariants as run
use Rattle.server_words.specs.declared.journal_fault.JournalFault.TheVariants as fault

no_id : id_of [] ≡ None
unfolding number_of
no_id = refl

-- a word without `/` names no upload
pub no_slash : (word : List ℕ) → position_or_len is_slash word ≡ length word → upload_named word ≡ None
no_slash word h =
    ap (λ text. option_map (λ id. (before_first is_slash word, id)) (id_of text)) (drop_all (position_or_len is_slash word + 1) word (omega arith))
    ∙ ap (option_map (λ id. (before_first is_slash word, id))) no_id

-- ---- why nothing is written

-- what is wrong with the files
pub export-files : (word journal settings : List ℕ) (why : RunFault) → IsFaultOfFiles journal settings why → IsFaultOfExport word journal settings why
export-files word journal settings run.Words wrong = wrong
export-files word journal settings run.Address wrong = wrong
export-files word journal settings run.Ports wrong = wrong
export-files word journal settings (run.Settings what) wrong = wrong
export-files word journal settings (run.Wire cause) wrong = wrong
export-files word journal settings (run.Journal fault.File) wrong = wrong
export-files word journal settings (run.Journal fault.NoFolder) wrong = wrong
export-files word journal settings (run.Journal fault.NoJournal) wrong = wrong
export-files word journal settings (run.Journal fault.Busy) wrong = wrong
export-files word journal settings (run.Journal (fault.Settings what)) wrong = wrong
export-files word journal settings (run.Journal (fault.Damaged at len)) wrong = wrong
export-files word journal settings (run.Journal (fault.Record number)) wrong = wrong
export-files word journal settings (run.Journal fault.Disk) wrong = wrong
export-files word journal settings (run.Journal (fault.Upload what)) wrong = absurd wrong
export-files word journal settings run.Memory wrong = wrong

-- their book has no such upload
pub export-misses : (word journal settings : List ℕ) (found : WholeFrames) → IsReadTo journal found → (book : PlainBook) → Makes journal settings (Ok book) → (why : RunFault) → IsNoUpload (exported book word) why
    → IsFaultOfExport word journal settings why
export-misses word journal settings found read book made run.Words lacks = lacks
export-misses word journal settings found read book made run.Address lacks = lacks
export-misses word journal settings found read book made run.Ports lacks = lacks
export-misses word journal settings found read book made (run.Settings what) lacks = lacks
export-misses word journal settings found read book made (run.Wire cause) lacks = lacks
export-misses word journal settings found read book made (run.Journal fault.File) lacks = absurd lacks
export-misses word journal settings found read book made (run.Journal fault.NoFolder) lacks = absurd lacks
export-misses word journal settings found read book made (run.Journal fault.NoJournal) lacks = absurd lacks
export-misses word journal settings found read book made (run.Journal fault.Busy) lacks = absurd lacks
export-misses word journal settings found read book made (run.Journal (fault.Settings what)) lacks = absurd lacks
export-misses word journal settings found read book made (run.Journal (fault.Damaged at len)) lacks = absurd lacks
export-misses word journal settings found read book made (run.Journal (fault.Record number)) lacks = absurd lacks
export-misses word journal settings found read book made (run.Journal fault.Disk) lacks = absurd lacks
export-misses word journal settings found read book made (run.Journal (fault.Upload what)) lacks = record { found = found; read = read; book = book; made = made; lacks = lacks }
export-misses word journal settings found read book made run.Memory lacks = lacks
