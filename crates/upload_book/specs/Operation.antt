-- The operations of the book as one type: the book after each, and which may lack memory.
use Rattle.std.specs.Prelude.{◌≢◌, ℕ, ◌<◌, [], IsOk}
use Rattle.std.specs.Result.{IsOkAnd}
use Rattle.upload_book.specs.declared.head_row.Name.{Name}
use Rattle.upload_book.specs.Account.{blocks_added}
use Rattle.upload_book.specs.Append.{append_answer, part_after_append}
use Rattle.upload_book.specs.Chunk.{Chunk, count_all}
use Rattle.upload_book.specs.Concat.{concat_answer, part_after_concat}
use Rattle.upload_book.specs.Content.{content_answer}
use Rattle.upload_book.specs.Create.{create_answer, create_empty_answer, part_after_create, part_after_create_empty, TakesMemory, TakesTexts}
use Rattle.upload_book.specs.FirstChunk.{FirstChunk}
use Rattle.upload_book.specs.NewFinal.{NewFinal}
use Rattle.upload_book.specs.NewUpload.{NewUpload}
use Rattle.upload_book.specs.Terminate.{part_after_terminate}
use Rattle.upload_book.specs.PlainBook.{PlainBook, answer_of, book_after}

-- What is asked of the book, but for the moment: a creation for the tenant at a place in the settings, without first bytes or
-- with them; a concatenation for one; a HEAD, a GET, a PATCH and a DELETE of the upload of a name.
pub data Operation : Type 0 where
  Create : ℕ → NewUpload → Operation
  CreateWith : ℕ → NewUpload → FirstChunk → Operation
  Concat : ℕ → NewFinal → Operation
  Look : Name → Operation
  Content : Name → Operation
  Append : Name → Chunk → Operation
  Terminate : Name → Operation

-- the book after an operation at a moment: a HEAD and a GET leave it
abbrev pub book_after_operation : PlainBook → Operation → ℕ → PlainBook
book_after_operation b (Create tenant new) now = book_after b tenant (part_after_create_empty new now)
book_after_operation b (CreateWith tenant new first) now = book_after b tenant (part_after_create new first now b.charged)
book_after_operation b (Concat tenant new) now = book_after b tenant (part_after_concat new now)
book_after_operation b (Look name) now = b
book_after_operation b (Content name) now = b
book_after_operation b (Append name chunk) now = book_after b name.tenant (part_after_append name.id chunk now b.charged)
book_after_operation b (Terminate name) now = book_after b name.tenant (part_after_terminate name.id now)

-- The operation may lack memory: it is a GET of an upload with bytes, a PATCH whose bytes, with those that are to come
-- behind them, take a block, a creation that takes memory for its bytes or its texts, or a concatenation, and is not
-- refused. Where it does, its answer is the refusal Memory, and the book stays as it was.
abbrev pub MayLackMemory : PlainBook → Operation → ℕ → Type 0
MayLackMemory b (Create tenant new) now = IsOk (answer_of b tenant (create_empty_answer tenant new now)) × TakesTexts b.settings.numbers
MayLackMemory b (CreateWith tenant new first) now =
    IsOk (answer_of b tenant (create_answer tenant new first now b.charged)) × TakesMemory b.settings.numbers first
MayLackMemory b (Concat tenant new) now = IsOk (answer_of b tenant (concat_answer tenant new now))
MayLackMemory b (Look name) now = ⊥
MayLackMemory b (Content name) now = IsOkAnd (answer_of b name.tenant (content_answer name.id now)) (λ bytes. bytes ≢ [])
MayLackMemory b (Append name chunk) now =
    IsOk (answer_of b name.tenant (append_answer name.id chunk now b.charged)) × (0 < blocks_added b.settings.numbers chunk.offset (count_all chunk))
MayLackMemory b (Terminate name) now = ⊥
