-- Laws above the steps.
use Rattle.std.specs.Result.{result_err}
use Rattle.std.specs.Prelude.{◌≡◌, ◌<◌, ◌⊎◌, ℕ, ◌+◌, ◌-◌, Bool, true, not, List, [], ◌∷◌, ◌++◌, length, is_err, IsOk, IfSome, IfNone, Some, None, Result, Ok, Err}
use Rattle.upload_book.specs.Chunk.{Chunk}
use Rattle.upload_book.specs.FirstChunk.{FirstChunk}
use Rattle.upload_book.specs.NewUpload.{NewUpload}
use Rattle.upload_book.specs.declared.head_row.HeadRow.{HeadRow}
use Rattle.upload_book.specs.declared.settings.Numbers.{Numbers}
use Rattle.upload_book.specs.declared.board_line.Account.{Account}
use Rattle.upload_book.specs.Account.{account_in, account_with, blocks_added}
use Rattle.upload_book.specs.declared.board_line.BoardLine.{BoardLine}
use Rattle.upload_book.specs.declared.change.Change.{Change}
use Rattle.upload_book.specs.Append.{append_tests, append_answer, append_refusal, appended_row, appended_upload, part_after_append, upload_with}
use Rattle.upload_book.specs.Charge.{charge_in}
use Rattle.upload_book.specs.Change.{CanBeMade, MayLackFor, book_after_change, change_answer, line_of}
use Rattle.upload_book.specs.Concat.{concat_tests}
use Rattle.upload_book.specs.Content.{content_tests}
use Rattle.upload_book.specs.Create.{creation_tests}
use Rattle.upload_book.specs.Heads.{apply_line, heads_of}
use Rattle.upload_book.specs.HeadSteps.{MayFollow}
use Rattle.upload_book.specs.Lawful.{IsLawful, IsTenantOf}
use Rattle.upload_book.specs.Look.{row_of}
use Rattle.upload_book.specs.laws.Order.{order, stand_in}
use Rattle.upload_book.specs.PlainBook.{PlainBook}
use Rattle.upload_book.specs.Refusal.{first_that_holds, word_of, words_of}
use Rattle.upload_book.specs.declared.refusal.Refusal.TheVariants.{Gone, Memory, Unknown}
use Rattle.upload_book.specs.TenantBook.{TenantBook, is_given, kept_in, visible, visible_upload, with_changed}
use Rattle.upload_book.specs.declared.refusal.Refusal.{Refusal}
use Rattle.upload_book.specs.Upload.{Upload, head_row_of, offset_of}

-- what is asked of every upload before its own tests: whether its id was given, and whether it is still there and has
-- not expired
abbrev pub visible_tests : TenantBook → ℕ → ℕ → List (Bool × Refusal)
visible_tests part id now =
    (not (is_given part id), Unknown)
    ∷ (is_err (visible (λ (u : Upload). u.expires) now (kept_in part.uploads id)), Gone)
    ∷ []

-- what is asked after every test
abbrev pub memory_word : List (List ℕ)
memory_word = word_of Memory ∷ []

-- Which upload a request sees is refused by the first of its tests that holds. These, and the tests of a creation, of a
-- concatenation, of a PATCH and of a GET, follow the order of refusals. Memory is lacking only for a change that nothing
-- else refuses, and then that is its refusal.
pub record FollowOrder : Type 0 where
  pub visible : (part : TenantBook) (id now : ℕ) → result_err (visible_upload part id now) ≡ first_that_holds (visible_tests part id now)
  pub last : (b : PlainBook) (change : Change) (now : ℕ) → MayLackFor b change now → IsOk (change_answer b change now)
  pub creation : (n : Numbers) (account : Account) (part : TenantBook) (new : NewUpload) (first : FirstChunk) → stand_in (words_of (creation_tests n account part new first) ++ memory_word) order ≡ true
  pub concat : (n : Numbers) (part : TenantBook) (there complete : Bool) (len : ℕ) → stand_in (words_of (concat_tests n part there complete len) ++ memory_word) order ≡ true
  pub append : (n : Numbers) (account : Account) (part : TenantBook) (id now : ℕ) (row : HeadRow) (chunk : Chunk) → stand_in (words_of (visible_tests part id now) ++ words_of (append_tests n account row chunk) ++ memory_word) order ≡ true
  pub content : (part : TenantBook) (id now : ℕ) (u : Upload) → stand_in (words_of (visible_tests part id now) ++ words_of (content_tests u) ++ memory_word) order ≡ true

-- the row of the two
abbrev pub row_in : Result (HeadRow × Account) Refusal → Result HeadRow Refusal
row_in (Ok both) = Ok both.0
row_in (Err refusal) = Err refusal

-- The row of an upload after a PATCH, or why that is refused, is found from the row before it: the bytes that the upload
-- had make no difference. (It also takes the chunk, the tenant's account, the moment and the numbers of the settings.)
abbrev pub RowsFollow : Type 0
RowsFollow =
    (n : Numbers) (account : Account) (u : Upload) (chunk : Chunk) (now : ℕ)
    → row_of (appended_upload n account u chunk now) ≡ row_in (appended_row n account (head_row_of u) chunk now)

-- what was charged so far, after a part changed into another
abbrev pub charged_after : Numbers → ℕ → TenantBook → TenantBook → ℕ
charged_after n charged before after = charged + (charge_in n after - charge_in n before)

-- A PATCH that is not refused adds to the tenant's account the blocks that its bytes take after the offset of the
-- upload before. So a PATCH can be followed by its row and its account alone.
abbrev pub AccountsFollow : Type 0
AccountsFollow =
    (n : Numbers) (part : TenantBook) (id charged : ℕ) (u : Upload) (chunk : Chunk) (now : ℕ) → IsTenantOf n part → kept_in part.uploads id ≡ Some u
    → append_refusal n (account_in n part charged) (head_row_of u) chunk ≡ None
    → let after = with_changed part id (upload_with n u chunk now) in
    account_in n after (charged_after n charged part after)
    ≡ account_with (account_in n part charged) (blocks_added n (offset_of u) (length chunk.bytes))

-- the PATCH of the first of its bytes; it has no checksum, since that was of all of them
abbrev pub first_part : Chunk → List ℕ → Chunk
first_part chunk first = record chunk { bytes = first; check = None }

-- the PATCH of the later ones, which go on where the first end; it has none either
abbrev pub later_part : Chunk → List ℕ → List ℕ → Chunk
later_part chunk first later = record chunk { offset = chunk.offset + length first; bytes = later; check = None }

-- Of so many bytes so many are sent ahead, and the rest is some, so that the last bytes finish what all of them do. Where
-- finished uploads don't end by themselves, all may be sent ahead: it makes no difference then which bytes finish an upload.
abbrev pub LastFinishes : Numbers → ℕ → ℕ → Type 0
LastFinishes n ahead all = (n.finished_lifetime ≡ 0) ⊎ (ahead < all)

-- A PATCH that is accepted, with a checksum or without, may be sent in two without one, of which the second goes
-- on where the first ended: at one moment both are accepted, the last answer is the one to the whole, and so is
-- the tenant's part after it.
abbrev pub ResumedPatch : Type 0
ResumedPatch =
    (n : Numbers) (part : TenantBook) (id charged : ℕ) (chunk : Chunk) (first later : List ℕ) (now : ℕ) → IsTenantOf n part → chunk.bytes ≡ first ++ later
    → LastFinishes n (length first) (length chunk.bytes)
    → IsOk (append_answer id chunk now charged n part)
    → let middle = part_after_append id (first_part chunk first) now charged n part in
    let more = charged_after n charged part middle in
    IsOk (append_answer id (first_part chunk first) now charged n part)
    × (append_answer id (later_part chunk first later) now more n middle ≡ append_answer id chunk now charged n part)
    × (part_after_append id (later_part chunk first later) now more n middle ≡ part_after_append id chunk now charged n part)

-- The line leads from one book to another: it may follow on the heads of the first, and after it they are those of the
-- second.
pub record LeadsTo (before : PlainBook) (line : BoardLine) (after : PlainBook) : Type 0 where
  pub may : MayFollow (heads_of before) line
  pub heads : heads_of after ≡ apply_line (heads_of before) line

-- The line of a change leads from a lawful book to the book after the change. A change without a line leaves the book.
abbrev pub HeadsFollow : Type 0
HeadsFollow =
    (b : PlainBook) (change : Change) (now : ℕ) → IsLawful b → CanBeMade (length b.tenants) change
    → IfSome (line_of b change now) (λ line. LeadsTo b line (book_after_change b change now))
    × IfNone (line_of b change now) (book_after_change b change now ≡ b)
