-- What a book over a store keeps and tells where a PATCH of the upload at a place is not refused, and where it is.
use Rattle.std.proofs.Common.{◌≡◌, ◌≢◌, ℕ, ◌+◌, ◌<◌, ◌≤◌, false, List, [], length, set, Option, Some, None, Ok, Err, refl, ap, sym, subst, ◌∙◌, arith}
use Rattle.std.specs.List.{All, sum_by}
use Rattle.std.specs.Result.{IsOk}
use Rattle.std.proofs.lemmas.Bool.{false≢true}
use Rattle.std.proofs.lemmas.Bool.Decides.{nat_tests}
use Rattle.block_pool.specs.Blocks.{size_of}
use Rattle.block_bodies.specs.Changes.{SameSizes}
use Rattle.upload_book.specs.Account.{account_in, blocks_added, blocks_between}
use Rattle.upload_book.specs.Append.{append_answer, append_lacking, append_refusal, is_final, or_else, part_after_append, row_with, upload_with}
use Rattle.upload_book.specs.Book.{StoredBook, IsBook, plain_of}
use Rattle.upload_book.specs.Charge.{charge_in, charge_with}
use Rattle.upload_book.specs.Chunk.{Chunk, count_all}
use Rattle.upload_book.specs.declared.board_line.Account.{Account}
use Rattle.upload_book.specs.declared.append.Appended.{Appended}
use Rattle.upload_book.specs.declared.head_row.Kind.{Kind}
use Rattle.upload_book.specs.declared.head_row.Kind.TheVariants.{Plain, Partial, Final}
use Rattle.upload_book.specs.declared.refusal.Refusal.{Refusal}
use Rattle.upload_book.specs.declared.refusal.Refusal.TheVariants.{Memory}
use Rattle.upload_book.specs.declared.settings.Numbers.{Numbers}
use Rattle.upload_book.specs.declared.progress.Progress.{Progress}
use Rattle.upload_book.specs.PlainBook.{book_after, tenant_book, with_tenant_book}
use Rattle.upload_book.specs.Progress.{row_at, progress_in}
use Rattle.upload_book.specs.BlockStore.{BlockStore, plain_in, part_at, entry_at, upload_at}
use Rattle.upload_book.specs.inside.Places.{IsAlone, IsVisibleIn, with_bytes, with_upload}
use Rattle.upload_book.specs.TenantBook.{TenantBook, Entry, visible_upload, with_changed}
use Rattle.upload_book.specs.Upload.{Upload, head_row_of, offset_of}
use Rattle.upload_book.proofs.Steps.BookLemmas.{book_with, IsLawful-append, with_tenant_book-more}
use Rattle.upload_book.specs.ExpiryList.{ExpiryList}
use Rattle.std.specs.Option.{option_and_then}
use Rattle.upload_book.proofs.Expiries.BookEnds.{HasEnd-changed}
use Rattle.upload_book.proofs.Expiries.ExpirySteps.{IsRenewed}
use Rattle.upload_book.proofs.Steps.BookSteps.{Follows, IsBook-follows, IsIndex, seen-placed, part-plain, part-sound, part-within, plain-follows, placed-changed, seen-kept, seen-sound, seen-visible, stored_tenants-settings, stored_with}
use Rattle.upload_book.proofs.Lawful.AppendLemmas.{part_after_append-none}
use Rattle.upload_book.proofs.Charge.ChargeLemmas.{blocks_between-none, charge-append, uploads-differ}
use Rattle.upload_book.proofs.Lawful.LawfulAppend.{IsAppendable, IsAppendable-from_none, ends_within, fewer_blocks, offset_of-append}
use Rattle.upload_book.proofs.Charge.RoomLemmas.{room-within}
use Rattle.upload_book.proofs.Lawful.SettingsLemmas.{max_size-within}

-- the account of a tenant
abbrev pub account_at : StoredBook → ℕ → Account
account_at b t = account_in b.settings.numbers (tenant_book (plain_of b) t) b.charged

-- the refusal was told by what was read
pub refusal-read : (b : StoredBook) (t tenant place : ℕ) (chunk : Chunk) (numbers : Numbers) (account : Account) (progress : Progress) (result why : Option Refusal)
    → numbers ≡ b.settings.numbers → account ≡ account_at b t → tenant ≡ t → progress ≡ progress_in (head_row_of (upload_at b.store tenant place)) → result ≡ append_refusal numbers account (row_at progress) chunk → result ≡ why
    → append_refusal b.settings.numbers (account_at b t) (head_row_of (upload_at b.store t place)) chunk ≡ why
refusal-read b t tenant place chunk numbers account progress result why numbers-is account-is at progress-is is answer =
    ap (λ t'. append_refusal b.settings.numbers (account_at b t) (row_at (progress_in (head_row_of (upload_at b.store t' place)))) chunk) (sym at)
    ∙ ap (λ s. append_refusal b.settings.numbers (account_at b t) (row_at s) chunk) (sym progress-is)
    ∙ ap (λ a. append_refusal b.settings.numbers a (row_at progress) chunk) (sym account-is)
    ∙ ap (λ n. append_refusal n account (row_at progress) chunk) (sym numbers-is) ∙ sym is ∙ answer

-- so was how far the upload is afterwards
pub after-read : (b : StoredBook) (t tenant place : ℕ) (chunk : Chunk) (now : ℕ) (numbers : Numbers) (progress after : Progress)
    → numbers ≡ b.settings.numbers → tenant ≡ t → progress ≡ progress_in (head_row_of (upload_at b.store tenant place)) → after ≡ progress_in (row_with numbers (row_at progress) chunk now)
    → after ≡ progress_in (row_with b.settings.numbers (head_row_of (upload_at b.store t place)) chunk now)
after-read b t tenant place chunk now numbers progress after numbers-is at progress-is is =
    is ∙ ap (λ n. progress_in (row_with n (row_at progress) chunk now)) numbers-is ∙ ap (λ s. progress_in (row_with b.settings.numbers (row_at s) chunk now)) progress-is
    ∙ ap (λ t'. progress_in (row_with b.settings.numbers (head_row_of (upload_at b.store t' place)) chunk now)) at

-- a kind that is not final
not_final : (kind : Kind) → is_final kind ≡ false → kind ≢ Final
not_final Plain is = λ e. absurd cc
not_final Partial is = λ e. absurd cc
not_final Final is = absurd (false≢true (sym is))

module _ (b : StoredBook) (t id place now : ℕ) (chunk : Chunk) (kept : IsBook b) (within : t < length b.store.stored_tenants) (seen : IsVisibleIn b.store t id now place) where
  abbrev part : TenantBook
  part = tenant_book (plain_of b) t

  abbrev u : Upload
  u = upload_at b.store t place

  shown : visible_upload part id now ≡ Ok u
  shown = seen-visible b t id place now kept within seen

  -- the answer to a PATCH that is refused
  pub patch-refused : (why : Refusal) → append_refusal b.settings.numbers (account_at b t) (head_row_of u) chunk ≡ Some why → append_answer id chunk now b.charged b.settings.numbers part ≡ Err (record { refusal = why; expires = u.expires })
  patch-refused why is = rw (shown, is) refl

  -- and to one that lacks memory
  pub patch-lacking : append_lacking id now b.settings.numbers part ≡ Err (record { refusal = Memory; expires = u.expires })
  patch-lacking = rw shown refl

  module _ (none : append_refusal b.settings.numbers (account_at b t) (head_row_of u) chunk ≡ None) where
    abbrev later : Upload
    later = upload_with b.settings.numbers u chunk now

    -- how many blocks its bytes take
    abbrev pub patch_blocks : ℕ
    patch_blocks = blocks_added b.settings.numbers (offset_of u) (length chunk.bytes)

    can : IsAppendable b.settings.numbers (account_at b t) u chunk
    can = IsAppendable-from_none b.settings.numbers (account_at b t) u chunk none

    -- it is for the end of the upload
    pub patch-offset : chunk.offset ≡ offset_of u
    patch-offset = let at = can.offset in grind (arith, nat_tests)

    -- the upload is not a final one
    pub patch-own : (entry_at b.store t place).kept.kind ≢ Final
    patch-own = not_final u.kind can.own

    -- nobody else has its bytes
    pub patch-alone : 0 < count_all chunk → IsAlone b.store t place
    patch-alone some =
        let differ = uploads-differ b.settings.numbers (account_at b t) part id u chunk (seen-sound b t id place now kept within seen) (seen-kept b t id place now kept within seen) can some in
        record {
          own = patch-own;
          ids = (part-sound b t kept within).ascending;
          parts =
              subst (λ (p : TenantBook). All (λ (e : Entry Upload). e.kept.kind ≡ Final → All (λ o. o ≢ (entry_at b.store t place).id) e.kept.parts) p.uploads) (part-plain b t)
              (subst (λ named. All (λ (e : Entry Upload). e.kept.kind ≡ Final → All (λ o. o ≢ named) e.kept.parts) part.uploads) (sym seen.named) differ);
        }

    -- how many blocks all that is to come takes
    abbrev all_blocks : ℕ
    all_blocks = blocks_added b.settings.numbers (offset_of u) (count_all chunk)

    -- there is room for all that is to come
    pub all-room : sum_by (charge_with b.store.pool.block_size) (plain_in b.store) + blocks_between b.store.pool.block_size (offset_of u) (count_all chunk) ≤ size_of b.store.pool
    all-room =
        let room = room-within (plain_of b) t all_blocks kept.lawful (part-within b t within) can.all_paid in
        let same : sum_by (charge_with b.store.pool.block_size) (plain_in b.store) + blocks_between b.store.pool.block_size (offset_of u) (count_all chunk) ≡ sum_by (charge_in b.settings.numbers) (plain_in b.store) + all_blocks =
        ap (λ size. sum_by (charge_with size) (plain_in b.store) + blocks_between size (offset_of u) (count_all chunk)) kept.size in
        omega (arith, room, same, kept.blocks)

    -- so there is for its bytes
    pub patch-room : sum_by (charge_with b.store.pool.block_size) (plain_in b.store) + blocks_between b.store.pool.block_size (offset_of u) (length chunk.bytes) ≤ size_of b.store.pool
    patch-room = omega (arith, all-room, fewer_blocks b.store.pool.block_size (offset_of u) (length chunk.bytes) chunk.more)

    -- and what is charged stays within its bound
    pub patch-charged : b.charged + blocks_between b.store.pool.block_size (offset_of u) (length chunk.bytes) ≤ b.settings.numbers.last_total
    patch-charged =
        let same : blocks_between b.store.pool.block_size (offset_of u) (length chunk.bytes) ≡ patch_blocks = ap (λ size. blocks_between size (offset_of u) (length chunk.bytes)) kept.size in
        omega (arith, same, can.unspent)

    -- the store in which the upload has the bytes
    pub patch-follows : (s : BlockStore) (bytes : List ℕ) (after : Progress) → bytes ≡ chunk.bytes → after ≡ progress_in (row_with b.settings.numbers (head_row_of u) chunk now)
        → plain_in s ≡ set (plain_in b.store) t (with_upload (part_at b.store t) place (record { id = (entry_at b.store t place).id; kept = with_bytes u bytes after.declared after.expires }))
        → SameSizes b.store.pool s.pool → s.room ≡ b.store.room → Follows b s t (with_changed part id later)
    patch-follows s bytes after bytes-is after-is plain sizes room =
        let kept_as : List ℕ → Progress → List TenantBook = λ bytes after. set (plain_in b.store) t (with_upload (part_at b.store t) place (record { id = (entry_at b.store t place).id; kept = with_bytes u bytes after.declared after.expires })) in
        record {
          plain = plain ∙ ap (λ bytes. kept_as bytes after) bytes-is ∙ ap (kept_as chunk.bytes) after-is ∙ ap (set (plain_in b.store) t) (placed-changed b t id place kept within (seen-placed b t id place now kept within seen) later);
          sizes = sizes;
          room = room;
        }

    patch-totals : (charged : ℕ) → charged ≡ b.charged + patch_blocks → with_tenant_book (plain_of b) t (with_changed part id later) ≡ book_with (plain_of b) (set (plain_in b.store) t (with_changed part id later)) charged b.released
    patch-totals charged is =
        with_tenant_book-more (plain_of b) t patch_blocks (with_changed part id later) (charge-append b.settings.numbers (account_at b t) part id u chunk now (seen-sound b t id place now kept within seen) (seen-kept b t id place now kept within seen) none)
        ∙ ap (λ charged. book_with (plain_of b) (set (plain_in b.store) t (with_changed part id later)) charged b.released) (sym is)

    -- the upload gets another end
    pub patch-renewed : IsRenewed (plain_of b) b.expiries.list t id (with_changed part id later) u.expires later.expires
    patch-renewed =
        let there = seen-kept b t id place now kept within seen in
        record {
          lawful = kept.lawful;
          are = kept.expiries;
          within = part-within b t within;
          was = ap (λ found. option_and_then (λ (u : Upload). u.expires) found) there;
          has = HasEnd-changed part id later u there;
          after = IsLawful-append (plain_of b) t id u chunk now kept.lawful (part-within b t within) there none;
        }

    -- makes a book
    pub IsBook-patch : (s : BlockStore) (charged : ℕ) (e : ExpiryList) → Follows b s t (with_changed part id later) → charged ≡ b.charged + patch_blocks → IsIndex b t (with_changed part id later) e → IsBook (record (stored_with b s charged b.released) { expiries = e })
    IsBook-patch s charged e follows is index =
        IsBook-follows b s t (with_changed part id later) charged b.released e kept follows (patch-totals charged is) patch-renewed.after index

    -- which is the plain book after the PATCH
    pub plain-patch : (s : BlockStore) (charged : ℕ) → Follows b s t (with_changed part id later) → charged ≡ b.charged + patch_blocks → plain_of (stored_with b s charged b.released) ≡ book_after (plain_of b) t (part_after_append id chunk now b.charged)
    plain-patch s charged follows is =
        plain-follows b s t (with_changed part id later) charged b.released follows (patch-totals charged is)
        ∙ ap (with_tenant_book (plain_of b) t) (sym (part_after_append-none b.settings.numbers part id now b.charged u chunk shown none))

    -- the answer
    pub patch-answer : (after : Progress) → after ≡ progress_in (row_with b.settings.numbers (head_row_of u) chunk now) → append_answer id chunk now b.charged b.settings.numbers part ≡ Ok (record { offset = after.offset; expires = after.expires })
    patch-answer after is =
        let told : ℕ → Option ℕ → Appended = λ offset expires. record { offset = offset; expires = expires } in
        accepted ∙ ap (λ offset. Ok (told offset later.expires)) (offset_of-append b.settings.numbers u chunk now) ∙ ap (λ (s : Progress). Ok (told s.offset s.expires)) (sym is)
      where
        accepted : append_answer id chunk now b.charged b.settings.numbers part ≡ Ok (record { offset = offset_of later; expires = later.expires })
        accepted = rw (shown, none) refl

    -- no byte takes no block
    pub patch-free : chunk.bytes ≡ [] → b.charged ≡ b.charged + patch_blocks
    patch-free empty = omega (arith, blocks_between-none b.settings.numbers.block_size (offset_of u) (length chunk.bytes) (ap length empty))

    -- the blocks that were taken are those that its bytes take
    pub patch-taken : (tenant taken : ℕ) (bytes : List ℕ) → tenant ≡ t → bytes ≡ chunk.bytes → taken ≡ blocks_between b.store.pool.block_size (offset_of (upload_at b.store tenant place)) (length bytes) → taken ≡ patch_blocks
    patch-taken tenant taken bytes at bytes-is is =
        is ∙ ap (λ t. blocks_between b.store.pool.block_size (offset_of (upload_at b.store t place)) (length bytes)) at
        ∙ ap (λ bytes. blocks_between b.store.pool.block_size (offset_of u) (length bytes)) bytes-is
        ∙ ap (λ size. blocks_between size (offset_of u) (length chunk.bytes)) kept.size

    -- where all that is to come takes a block, memory may lack for it
    pub patch-lacks : (after : Progress) (tenant count : ℕ) → after ≡ progress_in (row_with b.settings.numbers (head_row_of u) chunk now) → tenant ≡ t → count ≡ count_all chunk → 0 < blocks_between b.store.pool.block_size (offset_of (upload_at b.store tenant place)) count → IsOk (append_answer id chunk now b.charged b.settings.numbers part) × (0 < blocks_added b.settings.numbers chunk.offset (count_all chunk))
    patch-lacks after tenant count after-is at is some = (
      subst IsOk (sym (patch-answer after after-is)) refl,
      subst (λ offset. 0 < blocks_added b.settings.numbers offset (count_all chunk)) (sym patch-offset)
          (subst (λ size. 0 < blocks_between size (offset_of u) (count_all chunk)) kept.size
          (subst (λ count. 0 < blocks_between b.store.pool.block_size (offset_of u) count) is
          (subst (λ t. 0 < blocks_between b.store.pool.block_size (offset_of (upload_at b.store t place)) count) at some))),
    )

-- what was read where a PATCH of the upload at a place is tested
pub record IsRead (b w : StoredBook) (t id place now : ℕ) (chunk : Chunk) (tenant : ℕ) (numbers : Numbers) (account : Account) (progress : Progress) : Type 0 where
  pub kept : IsBook b
  pub is : b ≡ w
  pub there : t < length w.settings.tenants
  pub seen : IsVisibleIn w.store t id now place
  pub at : tenant ≡ t
  pub numbers_read : numbers ≡ b.settings.numbers
  pub account_read : account ≡ account_at w t
  pub progress_read : progress ≡ progress_in (head_row_of (upload_at b.store tenant place))

module _ {b w : StoredBook} {t id place now : ℕ} {chunk : Chunk} {tenant : ℕ} {numbers : Numbers} {account : Account} {progress : Progress} (r : IsRead b w t id place now chunk tenant numbers account progress) where
  -- the tenant has a stored part
  pub read-within : t < length b.store.stored_tenants
  read-within = omega (arith, r.there, stored_tenants-settings b r.kept, ap (λ (b : StoredBook). length b.settings.tenants) r.is)

  -- on which the upload is seen
  pub read-seen : IsVisibleIn b.store t id now place
  read-seen = subst (λ (b : StoredBook). IsVisibleIn b.store t id now place) (sym r.is) r.seen

  -- how far it is
  pub read-progress : progress ≡ progress_in (head_row_of (upload_at b.store t place))
  read-progress = r.progress_read ∙ ap (λ t. progress_in (head_row_of (upload_at b.store t place))) r.at

  -- why the PATCH is refused, if it is
  pub read-refusal : (result why : Option Refusal) → result ≡ append_refusal numbers account (row_at progress) chunk → result ≡ why → append_refusal b.settings.numbers (account_at b t) (head_row_of (upload_at b.store t place)) chunk ≡ why
  read-refusal result why is answer =
      refusal-read b t tenant place chunk numbers account progress result why r.numbers_read (r.account_read ∙ ap (λ b. account_at b t) (sym r.is)) r.at r.progress_read is answer

  -- how far it is afterwards
  pub read-after : (after : Progress) → after ≡ progress_in (row_with numbers (row_at progress) chunk now) → after ≡ progress_in (row_with b.settings.numbers (head_row_of (upload_at b.store t place)) chunk now)
  read-after after is = after-read b t tenant place chunk now numbers progress after r.numbers_read r.at r.progress_read is

  -- when it expires
  pub read-expires : progress.expires ≡ (upload_at b.store t place).expires
  read-expires = ap (λ (s : Progress). s.expires) read-progress

  -- what the bytes cost
  pub read-cost : (len cost : ℕ) → len ≡ length chunk.bytes → cost ≡ blocks_added numbers progress.offset len → cost ≡ blocks_added b.settings.numbers (offset_of (upload_at b.store t place)) (length chunk.bytes)
  read-cost len cost len-is is =
      is ∙ ap (λ (n : Numbers). blocks_added n progress.offset len) r.numbers_read ∙ ap (λ (s : Progress). blocks_added b.settings.numbers s.offset len) read-progress
      ∙ ap (λ len. blocks_added b.settings.numbers (offset_of (upload_at b.store t place)) len) len-is

  -- all that is to come of a PATCH that is not refused ends within the greatest size
  pub read-end : append_refusal b.settings.numbers (account_at b t) (head_row_of (upload_at b.store t place)) chunk ≡ None → progress.offset + count_all chunk ≤ 1099511627776
  read-end none =
      let u = upload_at b.store t place in
      let can = IsAppendable-from_none b.settings.numbers (account_at b t) u chunk none in
      let ends = ends_within b.settings.numbers (or_else u.declared chunk.length) (offset_of u + count_all chunk) can.all_fit in
      omega (arith, ends.1, max_size-within b.settings r.kept.lawful.settings, ap (λ (s : Progress). s.offset) read-progress)
