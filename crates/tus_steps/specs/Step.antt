-- The step of a request on the plain book: its reply, and the book after it.
use Rattle.std.specs.Prelude.{◌≡◌, ◌≢◌, ◌<◌, ◌⊎◌, ℕ, [], length, Some, None, Result, Ok, Err, MatchBool}
use Rattle.upload_book.specs.declared.head_row.Name.{Name}
use Rattle.upload_book.specs.Operation.{Operation, Create, CreateWith, Concat, Look, Content, Append, Terminate, book_after_operation, MayLackMemory}
use Rattle.upload_book.specs.declared.refusal.Refusal.{Refusal}
use Rattle.upload_book.specs.declared.refusal.Refusal.TheVariants as refusal
use Rattle.upload_book.specs.Append.{append_answer, append_lacking}
use Rattle.upload_book.specs.Concat.{concat_answer}
use Rattle.upload_book.specs.Content.{content_answer}
use Rattle.upload_book.specs.Create.{create_answer, create_empty_answer}
use Rattle.upload_book.specs.Look.{look_answer}
use Rattle.upload_book.specs.PlainBook.{PlainBook, answer_of}
use Rattle.upload_book.specs.Refusal.{IsAnswer}
use Rattle.upload_book.specs.Terminate.{terminate_answer}
use Rattle.tus_steps.specs.declared.reply.Reply.{Reply}
use Rattle.tus_steps.specs.declared.reply.Reply.TheVariants.{Options}
use Rattle.tus_steps.specs.Operation.{operation_of}
use Rattle.tus_steps.specs.Method.{is_options}
use Rattle.tus_steps.specs.Reply.{bytes_told, refusing, creation_reply, head_reply, content_reply, append_reply, deletion_reply}
use Rattle.tus_steps.specs.Request.{Request}

-- the reply to a request for an operation, which the answer of the plain book determines
abbrev pub operation_reply : PlainBook → Request → ℕ → Operation → Reply
operation_reply b r now (Create tenant new) = creation_reply r None (answer_of b tenant (create_empty_answer tenant new now))
operation_reply b r now (CreateWith tenant new first) =
    creation_reply r (Some (length first.bytes)) (answer_of b tenant (create_answer tenant new first now b.charged))
operation_reply b r now (Concat tenant new) = creation_reply r None (answer_of b tenant (concat_answer tenant new now))
operation_reply b r now (Look name) = head_reply (answer_of b name.tenant (look_answer name.id now))
operation_reply b r now (Content name) =
    content_reply r (answer_of b name.tenant (look_answer name.id now)) (answer_of b name.tenant (content_answer name.id now))
operation_reply b r now (Append name chunk) = append_reply r (answer_of b name.tenant (append_answer name.id chunk now b.charged))
operation_reply b r now (Terminate name) = deletion_reply r (answer_of b name.tenant (terminate_answer name.id now))

-- the reply where the operation lacks memory
abbrev pub lacking_reply : PlainBook → Request → ℕ → Operation → Reply
lacking_reply b r now (Append name chunk) = append_reply r (answer_of b name.tenant (append_lacking name.id now))
lacking_reply b r now _ = refusing r refusal.Memory None

-- the operation may lack memory; a GET only for bytes that it gives
abbrev pub MayLackIn : PlainBook → Request → ℕ → Operation → Type 0
MayLackIn b r now (Content name) = MayLackMemory b (Content name) now × (bytes_told (operation_reply b r now (Content name)) ≢ [])
MayLackIn b r now op = MayLackMemory b op now

-- The step of an operation: this reply, and this book after it. Where it may lack memory, and does, it is
-- refused for that instead, and the book stays.
abbrev pub IsOperationStep : PlainBook → Request → ℕ → Operation → Reply → PlainBook → Type 0
IsOperationStep b r now op reply after =
    ((reply ≡ operation_reply b r now op) × (after ≡ book_after_operation b op now))
    ⊎ (MayLackIn b r now op × (reply ≡ lacking_reply b r now op) × (after ≡ b))

-- the step of a request that asks for an operation, or for none for this reason
abbrev pub IsStepBy : PlainBook → Request → ℕ → Result Operation Refusal → Reply → PlainBook → Type 0
IsStepBy b r now (Ok op) reply after = IsOperationStep b r now op reply after
IsStepBy b r now (Err why) reply after = (reply ≡ refusing r why None) × (after ≡ b)

-- The step of a request. OPTIONS is answered whatever else the request says (tus 1.0.0, Core Protocol, OPTIONS).
abbrev pub IsStep : PlainBook → Request → ℕ → Reply → PlainBook → Type 0
IsStep b r now reply after =
    MatchBool (is_options r.method)
    ((reply ≡ Options b.settings.numbers.max_size) × (after ≡ b))
    (IsStepBy b r now (operation_of b.settings r) reply after)

-- The reply to a GET of an upload whose bytes are copied to where there is so much room: what the plain book gives; or, where
-- that are more bytes, that memory was lacking.
abbrev pub IsContentReply : PlainBook → Request → ℕ → Name → ℕ → Reply → Type 0
IsContentReply b r now name room reply =
    let answer = operation_reply b r now (Content name) in
    IsAnswer answer (room < length (bytes_told answer)) (refusing r refusal.Memory None) reply
