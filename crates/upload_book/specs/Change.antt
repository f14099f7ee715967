-- The changes of the book as one: what each answers, the book after it, which may lack memory, and the line by which
-- it changes the heads of the book.
use Rattle.std.specs.Prelude.{ℕ, ◌<◌, ◌≤◌, List, length, Option, Some, None, is_some, option_map, Result, Ok, Err, IsOk, IsTrue, if◌then◌else◌, ⊤}
use Rattle.upload_book.specs.declared.append.Appended.{Appended}
use Rattle.upload_book.specs.declared.append.Refused.{Refused}
use Rattle.upload_book.specs.declared.board_line.BoardLine.{BoardLine}
use Rattle.upload_book.specs.declared.board_line.HeadChange.{HeadChange}
use Rattle.upload_book.specs.declared.board_line.HeadChange.TheVariants.{Put, Gone, Swept, Next, Totals}
use Rattle.upload_book.specs.declared.change.Change.{Change}
use Rattle.upload_book.specs.declared.change.Change.TheVariants.{Create, Append, Concat, Terminate, Sweep, Restore}
use Rattle.upload_book.specs.declared.change.Outcome.{Outcome}
use Rattle.upload_book.specs.declared.change.Outcome.TheVariants as outcome
use Rattle.upload_book.specs.declared.create.Created.{Created}
use Rattle.upload_book.specs.declared.head_row.Kind.TheVariants.{Final}
use Rattle.upload_book.specs.declared.head_row.Name.{Name}
use Rattle.upload_book.specs.declared.refusal.Refusal.{Refusal}
use Rattle.upload_book.specs.declared.refusal.Refusal.TheVariants.{Memory}
use Rattle.upload_book.specs.declared.restored.Restored.TheVariants as piece
use Rattle.upload_book.specs.declared.restored.Restored.{Restored}
use Rattle.upload_book.specs.declared.terminate.Removed.{Removed}
use Rattle.upload_book.specs.Account.{blocks_added}
use Rattle.upload_book.specs.Append.{append_answer, append_lacking, appended, part_after_append}
use Rattle.upload_book.specs.Chunk.{count_all}
use Rattle.upload_book.specs.Concat.{concat_answer, joined_upload, part_after_concat}
use Rattle.upload_book.specs.Create.{create_answer, created_upload, new_kind, part_after_create, TakesMemory}
use Rattle.upload_book.specs.Heads.{accounts_of}
use Rattle.upload_book.specs.Lawful.{IsConcatText, is_kept_metadata}
use Rattle.upload_book.specs.PlainBook.{PlainBook, answer_of, book_after, tenant_book}
use Rattle.upload_book.specs.Refusal.{unless}
use Rattle.upload_book.specs.snapshot.Restore.{CanBePutBack, MayLackPiece, book_after_piece, piece_refusal, sent_back, sent_in, upload_back}
use Rattle.upload_book.specs.snapshot.Restored.{RestoredUpload}
use Rattle.upload_book.specs.Sweep.{book_after_sweep, sweep_answer}
use Rattle.upload_book.specs.Terminate.{part_after_terminate, terminate_answer}
use Rattle.upload_book.specs.Upload.{Upload, head_row_of}

-- the book of so many tenants may be asked for it: a creation is of one of its tenants, with texts of their forms, and
-- so is a concatenation, which is of 1 to 32 parts; and a piece that is put back is of its form
abbrev pub CanBeMade : ℕ → Change → Type 0
CanBeMade tenants (Create tenant new first) =
    (tenant < tenants) × IsTrue (is_kept_metadata new.metadata) × IsConcatText (new_kind new.partial) new.concat
CanBeMade tenants (Append name chunk) = ⊤
CanBeMade tenants (Concat tenant new) =
    (tenant < tenants) × (0 < length new.parts) × (length new.parts ≤ 32) × IsTrue (is_kept_metadata new.metadata) × IsConcatText Final new.concat
CanBeMade tenants (Terminate name) = ⊤
CanBeMade tenants Sweep = ⊤
CanBeMade tenants (Restore restored) = CanBePutBack tenants restored

-- what a call gives, as what a change gives; a refusal tells of no end
abbrev pub outcome_in : {A : Type 0} → (A → Outcome) → Result A Refusal → Result Outcome Refused
outcome_in outcome (Ok given) = Ok (outcome given)
outcome_in outcome (Err refusal) = Err (record { refusal = refusal; expires = None })

-- the same of a PATCH, whose refusal tells when its upload expires
abbrev pub appended_in : Result Appended Refused → Result Outcome Refused
appended_in (Ok given) = Ok (outcome.Appended given)
appended_in (Err refused) = Err refused

-- the answer to a change at a moment
abbrev pub change_answer : PlainBook → Change → ℕ → Result Outcome Refused
change_answer b (Create tenant new first) now =
    outcome_in outcome.Created (answer_of b tenant (create_answer tenant new first now b.charged))
change_answer b (Append name chunk) now = appended_in (answer_of b name.tenant (append_answer name.id chunk now b.charged))
change_answer b (Concat tenant new) now = outcome_in outcome.Created (answer_of b tenant (concat_answer tenant new now))
change_answer b (Terminate name) now = outcome_in outcome.Removed (answer_of b name.tenant (terminate_answer name.id now))
change_answer b Sweep now = Ok (outcome.Swept (sweep_answer b now))
change_answer b (Restore restored) now = outcome_in (λ given. given) (unless (piece_refusal b restored) outcome.Restored)

-- the answer where memory lacks for it
abbrev pub change_lacking : PlainBook → Change → ℕ → Result Outcome Refused
change_lacking b (Append name chunk) now = appended_in (answer_of b name.tenant (append_lacking name.id now))
change_lacking b _ now = Err (record { refusal = Memory; expires = None })

-- The change may lack memory: it is a PATCH whose bytes, with those that are to come behind them, take a block, a creation
-- that takes memory for its bytes or its texts, a concatenation, or an upload that is put back, and is not refused.
abbrev pub MayLackFor : PlainBook → Change → ℕ → Type 0
MayLackFor b (Create tenant new first) now =
    IsOk (answer_of b tenant (create_answer tenant new first now b.charged)) × TakesMemory b.settings.numbers first
MayLackFor b (Append name chunk) now =
    IsOk (answer_of b name.tenant (append_answer name.id chunk now b.charged)) × (0 < blocks_added b.settings.numbers chunk.offset (count_all chunk))
MayLackFor b (Concat tenant new) now = IsOk (answer_of b tenant (concat_answer tenant new now))
MayLackFor b (Terminate name) now = ⊥
MayLackFor b Sweep now = ⊥
MayLackFor b (Restore restored) now = MayLackPiece b restored

-- the book after a change; one that is refused leaves it as it was
abbrev pub book_after_change : PlainBook → Change → ℕ → PlainBook
book_after_change b (Create tenant new first) now = book_after b tenant (part_after_create new first now b.charged)
book_after_change b (Append name chunk) now = book_after b name.tenant (part_after_append name.id chunk now b.charged)
book_after_change b (Concat tenant new) now = book_after b tenant (part_after_concat new now)
book_after_change b (Terminate name) now = book_after b name.tenant (part_after_terminate name.id now)
book_after_change b Sweep now = book_after_sweep b now
book_after_change b (Restore restored) now = book_after_piece b restored

-- the upload that was created is put among the heads, where one was
abbrev pub put_created : Upload → Result Created Refusal → Option HeadChange
put_created u (Ok created) = Some (Put created.name (head_row_of u))
put_created u (Err refusal) = None

-- so is the upload to which bytes were added
abbrev pub put_appended : Name → Result Upload Refused → Option HeadChange
put_appended name (Ok u) = Some (Put name (head_row_of u))
put_appended name (Err refused) = None

-- the upload that ended is gone
abbrev pub gone_removed : Name → Result Removed Refusal → Option HeadChange
gone_removed name (Ok removed) = Some (Gone name)
gone_removed name (Err refusal) = None

-- an upload that is put back with these segments gets its row, where it has them
abbrev pub put_back : ℕ → RestoredUpload → Option (List (ℕ × List ℕ)) → Option HeadChange
put_back tenant r sent =
    option_map (λ (sent : List (ℕ × List ℕ)). Put (record { tenant = tenant; id = r.id }) (head_row_of (upload_back r sent))) sent

-- What a piece changes of the heads that is put back: an upload gets its row, a next id changes no row, and totals change
-- the accounts alone.
abbrev pub head_of_piece : PlainBook → Restored → Option HeadChange
head_of_piece b (piece.Upload tenant r) = put_back tenant r (sent_back (sent_in (tenant_book b tenant).uploads) r.segments)
head_of_piece b (piece.Next tenant next) = Some (Next (record { tenant = tenant; id = next }))
head_of_piece b (piece.Totals released) = Some Totals

-- what a change at a moment changes of the heads, where it is not refused
abbrev pub head_change : PlainBook → Change → ℕ → Option HeadChange
head_change b (Create tenant new first) now =
    put_created (created_upload b.settings.numbers new first.bytes now) (answer_of b tenant (create_answer tenant new first now b.charged))
head_change b (Append name chunk) now = put_appended name (answer_of b name.tenant (appended name.id chunk now b.charged))
head_change b (Concat tenant new) now =
    put_created (joined_upload b.settings.numbers (tenant_book b tenant) new now) (answer_of b tenant (concat_answer tenant new now))
head_change b (Terminate name) now = gone_removed name (answer_of b name.tenant (terminate_answer name.id now))
head_change b Sweep now = Some (Swept now)
head_change b (Restore restored) now = if is_some (piece_refusal b restored) then None else head_of_piece b restored

-- the line of a change at a moment, where it is not refused: what it changes of the heads, and the accounts after it
abbrev pub line_of : PlainBook → Change → ℕ → Option BoardLine
line_of b change now =
    option_map (λ (head : HeadChange). record { change = head; accounts = accounts_of (book_after_change b change now) }) (head_change b change now)
