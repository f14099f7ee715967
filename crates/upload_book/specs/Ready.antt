-- When a book is ready for a change: all that it takes was found, and its memory taken.
use Rattle.std.specs.Prelude.{◌≡◌, ℕ, ◌<◌, ◌≤◌, IsTrue, false, List, None, Some, [], ◌∷◌, length, map, vec_capacity, ⊤}
use Rattle.block_bodies.specs.Bodies.{HasRoom}
use Rattle.upload_book.specs.Account.{account_in, blocks_added}
use Rattle.upload_book.specs.Append.{append_refusal, is_final, row_with}
use Rattle.upload_book.specs.Book.{StoredBook, plain_of}
use Rattle.upload_book.specs.Chunk.{count_all}
use Rattle.upload_book.specs.declared.change.Change.{Change}
use Rattle.upload_book.specs.declared.change.Change.TheVariants as change
use Rattle.upload_book.specs.declared.head_row.Kind.TheVariants.{Final}
use Rattle.upload_book.specs.declared.ready.Ready.{Ready}
use Rattle.upload_book.specs.declared.ready.ReadyBack.{ReadyBack}
use Rattle.upload_book.specs.declared.ready.ReadyChunk.{ReadyChunk}
use Rattle.upload_book.specs.Concat.{concat_refusal, joined_len}
use Rattle.upload_book.specs.Create.{creation_refusal, first_end, new_kind}
use Rattle.upload_book.specs.Expiry.{finished_end}
use Rattle.upload_book.specs.FirstChunk.{count_all_first}
use Rattle.upload_book.specs.declared.ready.ReadyEnd.{ReadyEnd}
use Rattle.upload_book.specs.declared.ready.ReadyFinal.{ReadyFinal}
use Rattle.upload_book.specs.declared.ready.ReadyNext.{ReadyNext}
use Rattle.upload_book.specs.declared.ready.ReadyOwn.{ReadyOwn}
use Rattle.upload_book.specs.declared.ready.ReadyPiece.{ReadyPiece}
use Rattle.upload_book.specs.declared.ready.ReadyPiece.TheVariants as ready
use Rattle.upload_book.specs.declared.ready.ReadyTotals.{ReadyTotals}
use Rattle.upload_book.specs.declared.ready.ReadyUpload.{ReadyUpload}
use Rattle.upload_book.specs.declared.ready.Step.{Step}
use Rattle.upload_book.specs.declared.ready.Step.TheVariants.{Append, Concat, Create, Restore, Sweep, Terminate}
use Rattle.upload_book.specs.Lawful.{IsConcatText, is_kept_metadata}
use Rattle.upload_book.specs.PlainBook.{tenant_book}
use Rattle.upload_book.specs.snapshot.Restore.{IsRestorable, piece_refusal}
use Rattle.upload_book.specs.declared.restored.Restored.{Restored}
use Rattle.upload_book.specs.inside.Texts.{IsTextsFor}
use Rattle.upload_book.specs.declared.restored.Restored.TheVariants as piece
use Rattle.upload_book.specs.inside.FinalBack.{AreRoomsFor}
use Rattle.upload_book.specs.Progress.{progress_in}
use Rattle.upload_book.specs.BlockStore.{BlockStore, Joins, entry_at, pieces_named, rows_at, stored_tenant_at, upload_at}
use Rattle.upload_book.specs.inside.Places.{IsVisibleIn}
use Rattle.upload_book.specs.Stored.{pieces_of, segment_of}
use Rattle.upload_book.specs.inside.Pieces.{as_piece, no_chain, own_chain}
use Rattle.upload_book.specs.Upload.{head_row_of, offset_of}

-- The book is ready for a PATCH: it sees the upload at the place and refuses nothing. The upload expires so without the PATCH,
-- and is so far after it, for which its tenant pays so many blocks. The list of its blocks has room for the bytes, and for
-- all that are to come behind them.
pub record IsReadyForChunk (b : StoredBook) (r : ReadyChunk) : Type 0 where
  pub there : r.name.tenant < length b.settings.tenants
  pub seen : IsVisibleIn b.store r.name.tenant r.name.id r.now r.place
  pub accepted : append_refusal b.settings.numbers (account_in b.settings.numbers (tenant_book (plain_of b) r.name.tenant) b.charged) (head_row_of (upload_at b.store r.name.tenant r.place)) r.chunk ≡ None
  pub expires : r.expires ≡ (upload_at b.store r.name.tenant r.place).expires
  pub after : r.after ≡ progress_in (row_with b.settings.numbers (head_row_of (upload_at b.store r.name.tenant r.place)) r.chunk r.now)
  pub cost : r.cost ≡ blocks_added b.settings.numbers (offset_of (upload_at b.store r.name.tenant r.place)) (length r.chunk.bytes)
  pub room : 0 < count_all r.chunk → HasRoom b.store.pool (own_chain (entry_at b.store r.name.tenant r.place).kept.pieces) (count_all r.chunk)

-- the book is ready for a DELETE: it sees the upload at the place
pub record IsReadyForEnd (b : StoredBook) (r : ReadyEnd) : Type 0 where
  pub there : r.name.tenant < length b.store.stored_tenants
  pub seen : IsVisibleIn b.store r.name.tenant r.name.id r.now r.place

-- The book is ready for a creation: it refuses nothing, the texts are of their forms, the upload will expire then, and
-- there is a body with room for the first bytes, and for all that are to come behind them. There is memory for the texts,
-- as for those of each upload to come below.
pub record IsReadyForUpload (b : StoredBook) (r : ReadyUpload) : Type 0 where
  pub there : r.tenant < length b.settings.tenants
  pub metadata : IsTrue (is_kept_metadata r.new.metadata)
  pub concat : IsConcatText (new_kind r.new.partial) r.new.concat
  pub accepted : creation_refusal b.settings.numbers (account_in b.settings.numbers (tenant_book (plain_of b) r.tenant) b.charged) (tenant_book (plain_of b) r.tenant) r.new r.first ≡ None
  pub expires : r.expires ≡ first_end b.settings.numbers r.new (length r.first.bytes) r.now
  pub empty : r.body ≡ record no_chain { room = r.body.room }
  pub room : HasRoom b.store.pool r.body (count_all_first r.first)
  pub texts : IsTextsFor b.settings.numbers.uploads r.texts r.new.metadata r.new.concat

-- the pieces of the parts of a concatenation were listed, and there is an empty list with room for them
pub record IsListed (s : BlockStore) (tenant : ℕ) (r : ReadyFinal) : Type 0 where
  pub pieces : map segment_of (map as_piece r.unheld.items) ≡ map segment_of (pieces_named s tenant r.new.parts r.now)
  pub few : length r.unheld.items ≤ length r.new.parts
  pub empty : r.pieces.items ≡ []
  pub room : length r.unheld.items ≤ vec_capacity r.pieces

-- The book is ready for a concatenation: it refuses nothing, there are 1 to 32 parts, which are so long together, the upload
-- will expire then, the texts are of their forms, and the pieces of the parts are listed.
pub record IsReadyForFinal (b : StoredBook) (r : ReadyFinal) : Type 0 where
  pub there : r.tenant < length b.settings.tenants
  pub some : 0 < length r.new.parts
  pub few : length r.new.parts ≤ 32
  pub metadata : IsTrue (is_kept_metadata r.new.metadata)
  pub concat : IsConcatText Final r.new.concat
  pub accepted : concat_refusal b.settings.numbers (tenant_book (plain_of b) r.tenant) r.new r.now ≡ None
  pub len : r.len ≡ joined_len (rows_at b.store r.tenant r.new.parts r.now)
  pub expires : r.expires ≡ finished_end b.settings.numbers r.now
  pub listed : IsListed b.store r.tenant r
  pub texts : IsTextsFor b.settings.numbers.uploads r.texts r.new.metadata r.new.concat

-- the book is ready to put back a tenant's next id: it does not refuse it
pub record IsReadyForNext (b : StoredBook) (r : ReadyNext) : Type 0 where
  pub there : r.tenant < length b.settings.tenants
  pub accepted : piece_refusal (plain_of b) (piece.Next r.tenant r.next) ≡ None

-- The same of an upload of its own: it is of its form, and there is a body with room for its bytes.
pub record IsReadyForOwn (b : StoredBook) (r : ReadyOwn) : Type 0 where
  pub there : r.tenant < length b.settings.tenants
  pub own : is_final r.upload.kind ≡ false
  pub form : IsRestorable r.upload
  pub accepted : piece_refusal (plain_of b) (piece.Upload r.tenant r.upload) ≡ None
  pub empty : r.body ≡ record no_chain { room = r.body.room }
  pub room : (bytes : List ℕ) → r.upload.segments ≡ record { origin = r.upload.id; bytes = Some bytes } ∷ [] → HasRoom b.store.pool r.body (length bytes)
  pub texts : IsTextsFor b.settings.numbers.uploads r.texts r.upload.metadata r.upload.concat

-- The same of a final upload: there is an empty body with room for each of its segments, and an empty list with room for
-- its pieces.
pub record IsReadyForBack (b : StoredBook) (r : ReadyBack) : Type 0 where
  pub there : r.tenant < length b.settings.tenants
  pub final : r.upload.kind ≡ Final
  pub form : IsRestorable r.upload
  pub accepted : piece_refusal (plain_of b) (piece.Upload r.tenant r.upload) ≡ None
  pub rooms : AreRoomsFor b.store.pool.block_size (pieces_of (stored_tenant_at b.store r.tenant)) r.upload.segments r.bodies.items
  pub empty : r.pieces.items ≡ []
  pub listed : length r.upload.segments ≤ vec_capacity r.pieces
  pub texts : IsTextsFor b.settings.numbers.uploads r.texts r.upload.metadata r.upload.concat

-- the same of totals
abbrev pub IsReadyForTotals : StoredBook → ReadyTotals → Type 0
IsReadyForTotals b r = piece_refusal (plain_of b) (piece.Totals r.released) ≡ None

-- the book is ready to put back a piece
abbrev pub IsReadyForPiece : StoredBook → ReadyPiece → Type 0
IsReadyForPiece b (ready.Own r) = IsReadyForOwn b r
IsReadyForPiece b (ready.Joined r) = IsReadyForBack b r
IsReadyForPiece b (ready.Next r) = IsReadyForNext b r
IsReadyForPiece b (ready.Totals r) = IsReadyForTotals b r

-- the piece that was prepared
abbrev pub piece_in : ReadyPiece → Restored
piece_in (ready.Own r) = piece.Upload r.tenant r.upload
piece_in (ready.Joined r) = piece.Upload r.tenant r.upload
piece_in (ready.Next r) = piece.Next r.tenant r.next
piece_in (ready.Totals r) = piece.Totals r.released

-- the book is ready for a change: for a sweep it always is
abbrev pub IsReadyForStep : StoredBook → Step → Type 0
IsReadyForStep b (Create r) = IsReadyForUpload b r
IsReadyForStep b (Append r) = IsReadyForChunk b r
IsReadyForStep b (Concat r) = IsReadyForFinal b r
IsReadyForStep b (Terminate r) = IsReadyForEnd b r
IsReadyForStep b (Sweep r) = ⊤
IsReadyForStep b (Restore r) = IsReadyForPiece b r.piece

-- the same of what `prepare` gives
abbrev pub IsReady : StoredBook → Ready → Type 0
IsReady b r = IsReadyForStep b r.step

-- the change that was prepared
abbrev pub step_change : Step → Change
step_change (Create r) = change.Create r.tenant r.new r.first
step_change (Append r) = change.Append r.name r.chunk
step_change (Concat r) = change.Concat r.tenant r.new
step_change (Terminate r) = change.Terminate r.name
step_change (Sweep r) = change.Sweep
step_change (Restore r) = change.Restore (piece_in r.piece)

-- What a change leaves of the blocks, beside what the plain book says of the bytes: a PATCH of no bytes touches no block,
-- and a concatenation takes none and changes no byte of any.
abbrev pub LeavesBlocks : StoredBook → Change → ℕ → StoredBook → Type 0
LeavesBlocks before (change.Append name chunk) now after = chunk.bytes ≡ [] → after.store.pool ≡ before.store.pool
LeavesBlocks before (change.Concat tenant new) now after = Joins before.store after.store tenant new now
LeavesBlocks before _ now after = ⊤

-- the same of what `prepare` gives,
abbrev pub change_in : Ready → Change
change_in r = step_change r.step

-- and the moment at which it was
abbrev pub step_moment : Step → ℕ
step_moment (Create r) = r.now
step_moment (Append r) = r.now
step_moment (Concat r) = r.now
step_moment (Terminate r) = r.now
step_moment (Sweep r) = r.now
step_moment (Restore r) = r.now

abbrev pub moment_in : Ready → ℕ
moment_in r = step_moment r.step
