-- What each change for which a book is ready changes of the heads, where its row was found so, and the accounts after it.
use Rattle.std.proofs.Common.{◌≡◌, ℕ, ◌+◌, ◌-◌, ◌<◌, ◌≤◌, List, length, Option, Some, ap, ap₂, subst, sym, ◌∙◌, append-nil, arith}
use Rattle.std.proofs.lemmas.List.Sums.{get_or-le-sum_by}
use Rattle.upload_book.specs.Account.{blocks_added}
use Rattle.upload_book.specs.Append.{row_with, upload_with}
use Rattle.upload_book.specs.Book.{StoredBook, IsBook, plain_of}
use Rattle.upload_book.specs.Change.{book_after_change, gone_removed, head_change, put_appended, put_created}
use Rattle.upload_book.specs.Charge.{charge_in, charge_with}
use Rattle.upload_book.specs.Chunk.{Chunk}
use Rattle.upload_book.specs.Expiry.{finished_end}
use Rattle.upload_book.specs.Concat.{joined_len, joined_upload, parts_found, rows_of}
use Rattle.upload_book.specs.Create.{created_upload, new_kind}
use Rattle.upload_book.specs.declared.board_line.Accounts.{Accounts}
use Rattle.upload_book.specs.declared.board_line.HeadChange.{HeadChange}
use Rattle.upload_book.specs.declared.board_line.HeadChange.TheVariants.{Gone, Put}
use Rattle.upload_book.specs.declared.change.Change.TheVariants as change
use Rattle.upload_book.specs.declared.head_note.NotedChange.{NotedChange}
use Rattle.upload_book.specs.declared.head_note.NotedChange.TheVariants.{Created}
use Rattle.upload_book.specs.declared.head_row.HeadRow.{HeadRow}
use Rattle.upload_book.specs.declared.head_row.Kind.TheVariants.{Final}
use Rattle.upload_book.specs.declared.head_row.Name.{Name}
use Rattle.upload_book.specs.declared.ready.ReadyChunk.{ReadyChunk}
use Rattle.upload_book.specs.declared.ready.ReadyEnd.{ReadyEnd}
use Rattle.upload_book.specs.declared.ready.ReadyFinal.{ReadyFinal}
use Rattle.upload_book.specs.declared.ready.ReadyUpload.{ReadyUpload}
use Rattle.upload_book.specs.declared.settings.Numbers.{Numbers}
use Rattle.upload_book.specs.declared.progress.Progress.{Progress}
use Rattle.upload_book.specs.declared.texts.SharedTexts.{SharedTexts}
use Rattle.upload_book.specs.HeadNotes.{SharesTexts, change_told}
use Rattle.upload_book.specs.Heads.{HeadPart, accounts_of, head_part_at, heads_of}
use Rattle.upload_book.specs.Lawful.{IsTenantOf}
use Rattle.upload_book.specs.PlainBook.{tenant_book, with_tenant_book}
use Rattle.upload_book.specs.Ready.{IsReadyForChunk, IsReadyForEnd, IsReadyForFinal, IsReadyForUpload}
use Rattle.upload_book.specs.Progress.{progress_in}
use Rattle.upload_book.specs.BlockStore.{part_at, upload_at}
use Rattle.upload_book.specs.inside.Places.{without_upload}
use Rattle.upload_book.specs.inside.Texts.{IsTextsFor}
use Rattle.upload_book.specs.TenantBook.{TenantBook, kept_in, opening_part, with_changed, with_new}
use Rattle.upload_book.specs.Terminate.{without}
use Rattle.upload_book.specs.Upload.{Upload, head_row_of, offset_of}
use Rattle.upload_book.proofs.Lawful.AppendLemmas.{part_after_append-none}
use Rattle.upload_book.proofs.Steps.BookLemmas.{IsTenantOf-book}
use Rattle.upload_book.proofs.Steps.BookSteps.{part-plain, part-within, placed-without, seen-kept, seen-placed, seen-visible, stored_tenants-settings}
use Rattle.upload_book.proofs.Charge.ChargeLemmas.{charge-append, charge-create}
use Rattle.upload_book.proofs.Heads.HeadsAppend.{appended-none, row-stands}
use Rattle.upload_book.proofs.Heads.HeadParts.{head_part-tenant}
use Rattle.upload_book.proofs.Lawful.LawfulAppend.{IsAppendable-from_none, offset_of-append}
use Rattle.upload_book.proofs.Lawful.LawfulConcat.{charge-concat, offset_of-final}
use Rattle.upload_book.proofs.Lawful.LawfulCreate.{IsCreatable-from_none}
use Rattle.upload_book.proofs.Lawful.LawfulFewer.{charge-terminate}
use Rattle.upload_book.proofs.Lawful.Outcomes.{concat_answer-none, create_answer-none, part_after_concat-none, part_after_create-none, part_after_terminate-visible, terminate_answer-visible}
use Rattle.upload_book.proofs.Steps.PatchSteps.{account_at}
use Rattle.upload_book.proofs.Charge.RoomLemmas.{room-within}
use Rattle.upload_book.proofs.Lawful.SettingsLemmas.{blocks-within}

-- the accounts are those of the book in which a tenant pays so much
abbrev pub Tells : StoredBook → ℕ → ℕ → Accounts → Type 0
Tells b t charge accounts =
    (part : TenantBook) → charge_in b.settings.numbers part ≡ charge → accounts ≡ accounts_of (with_tenant_book (plain_of b) t part)

-- memory was taken for texts by the numbers that were read of the book,
pub texts-read : (b w : StoredBook) (n : Numbers) (texts : Option SharedTexts) (row : HeadRow) (metadata concat : List ℕ) → n ≡ w.settings.numbers → w ≡ b → IsTextsFor b.settings.numbers.uploads texts metadata concat → row.metadata ≡ metadata → row.concat ≡ concat
    → IsTextsFor n.uploads texts row.metadata row.concat
texts-read b w n texts row metadata concat read is taken same_metadata same_concat =
    let numbers : n ≡ b.settings.numbers = read ∙ ap (λ (b : StoredBook). b.settings.numbers) is in
    subst (λ (n : Numbers). IsTextsFor n.uploads texts row.metadata row.concat) (sym numbers)
    (subst (λ (concat : List ℕ). IsTextsFor b.settings.numbers.uploads texts row.metadata concat) (sym same_concat)
    (subst (λ (metadata : List ℕ). IsTextsFor b.settings.numbers.uploads texts metadata concat) (sym same_metadata) taken))

-- and they are shared by them
pub shares-read : (b w : StoredBook) (n : Numbers) (noted : NotedChange) → n ≡ w.settings.numbers → w ≡ b → SharesTexts n.uploads noted → SharesTexts b.settings.numbers.uploads noted
shares-read b w n noted read is shares =
    subst (λ (n : Numbers). SharesTexts n.uploads noted) (read ∙ ap (λ (b : StoredBook). b.settings.numbers) is) shares

-- a tenant of the settings has a stored part
pub stored_tenant-there : (b : StoredBook) (t : ℕ) → IsBook b → t < length b.settings.tenants → t < length b.store.stored_tenants
stored_tenant-there b t kept there = omega (arith, there, stored_tenants-settings b kept)

-- its part is as it should be
pub sound-part : (b : StoredBook) (t : ℕ) → IsBook b → t < length b.settings.tenants → IsTenantOf b.settings.numbers (tenant_book (plain_of b) t)
sound-part b t kept there = IsTenantOf-book (plain_of b) t kept.lawful (part-within b t (stored_tenant-there b t kept there))

-- what it pays, and blocks that are within its quota, is a small number
pub paid-small : (b : StoredBook) (t added : ℕ) → IsBook b → t < length b.settings.tenants → charge_in b.settings.numbers (tenant_book (plain_of b) t) + added ≤ (tenant_book (plain_of b) t).quota → charge_in b.settings.numbers (tenant_book (plain_of b) t) + added ≤ 4294967295
paid-small b t added kept there within =
    let inside = part-within b t (stored_tenant-there b t kept there) in
    omega (arith, room-within (plain_of b) t added kept.lawful inside within, get_or-le-sum_by (charge_in b.settings.numbers) (plain_of b).tenants t (opening_part 0) inside, blocks-within b.settings kept.lawful.settings)

-- the name that its next upload gets
abbrev pub next_name : StoredBook → ℕ → Name
next_name b t = record { tenant = t; id = (tenant_book (plain_of b) t).next }

-- a row that is noted as that of its new upload is put there
pub next-told : (b : StoredBook) (t : ℕ) (row : HeadRow) → change_told (heads_of (plain_of b)) (Created t row) ≡ Some (Put (next_name b t) row)
next-told b t row =
    let put : HeadPart → Option HeadChange = λ part. Some (Put (record { tenant = t; id = part.next }) row) in
    ap put (head_part-tenant (plain_of b) t)

-- what a call read of what it pays
abbrev pub pays : StoredBook → ℕ → ℕ
pays b t = charge_in b.settings.numbers (tenant_book (plain_of b) t)

-- what is charged where it pays so much more
charged-more : (charged before added most charge : ℕ) → charge ≡ before + added → charged + added ≤ most → charged + (charge - before) ≤ most
charged-more charged before added most charge is within = omega arith

module _ (b : StoredBook) (r : ReadyUpload) (kept : IsBook b) (ready : IsReadyForUpload b r) where
  abbrev pub upload_blocks : ℕ
  upload_blocks = blocks_added b.settings.numbers 0 (length r.first.bytes)

  -- what the tenant of a creation will pay is a small number,
  pub upload-small : pays b r.tenant + upload_blocks ≤ 4294967295
  upload-small =
      paid-small b r.tenant upload_blocks kept ready.there (IsCreatable-from_none b.settings.numbers (account_at b r.tenant) (tenant_book (plain_of b) r.tenant) r.new r.first ready.accepted).paid

  -- what is charged then is within its bound,
  pub upload-charged : (charge : ℕ) → charge ≡ pays b r.tenant + upload_blocks → b.charged + (charge - pays b r.tenant) ≤ b.settings.numbers.last_total
  upload-charged charge is =
      charged-more b.charged (pays b r.tenant) upload_blocks b.settings.numbers.last_total charge is (IsCreatable-from_none b.settings.numbers (account_at b r.tenant) (tenant_book (plain_of b) r.tenant) r.new r.first ready.accepted).unspent

  -- these are the accounts after it,
  pub upload-accounts : (charge : ℕ) (accounts : Accounts) → charge ≡ pays b r.tenant + upload_blocks → Tells b r.tenant charge accounts
      → accounts ≡ accounts_of (book_after_change (plain_of b) (change.Create r.tenant r.new r.first) r.now)
  upload-accounts charge accounts is_charge tells =
      let n : Numbers = b.settings.numbers in
      let part : TenantBook = tenant_book (plain_of b) r.tenant in
      let u : Upload = created_upload b.settings.numbers r.new r.first.bytes r.now in
      tells (with_new part u) (charge-create n part r.new r.first.bytes r.now (sound-part b r.tenant kept ready.there) ∙ sym is_charge)
      ∙ ap (λ part. accounts_of (with_tenant_book (plain_of b) r.tenant part)) (sym (part_after_create-none n part r.new r.first r.now b.charged ready.accepted))

  -- and this changes of the heads
  pub upload-head : (row : HeadRow)
      → row ≡ record { kind = new_kind r.new.partial; offset = length r.first.bytes; declared = r.new.length; metadata = r.new.metadata; concat = r.new.concat; expires = r.expires }
      → head_change (plain_of b) (change.Create r.tenant r.new r.first) r.now ≡ Some (Put (next_name b r.tenant) row)
  upload-head row is_row =
      let n : Numbers = b.settings.numbers in
      let part : TenantBook = tenant_book (plain_of b) r.tenant in
      let u : Upload = created_upload b.settings.numbers r.new r.first.bytes r.now in
      let told : ℕ → Option ℕ → HeadRow = λ offset expires. record { kind = new_kind r.new.partial; offset = offset; declared = r.new.length; metadata = r.new.metadata; concat = r.new.concat; expires = expires } in
      let rows : row ≡ head_row_of (created_upload b.settings.numbers r.new r.first.bytes r.now) = is_row ∙ ap₂ told (ap (length {A = ℕ}) (sym (append-nil r.first.bytes))) ready.expires in
      ap (put_created u) (create_answer-none r.tenant n part r.new r.first r.now b.charged ready.accepted) ∙ ap (λ (row : HeadRow). Some (Put (next_name b r.tenant) row)) (sym rows)

module _ (b : StoredBook) (r : ReadyFinal) (kept : IsBook b) (ready : IsReadyForFinal b r) where
  -- what is charged after a concatenation is what was,
  pub final-charged : (charge : ℕ) → charge ≡ pays b r.tenant → b.charged + (charge - pays b r.tenant) ≤ b.settings.numbers.last_total
  final-charged charge is = omega (arith, is, kept.lawful.last)

  -- these are the accounts after it,
  pub final-accounts : (charge : ℕ) (accounts : Accounts) → charge ≡ pays b r.tenant → Tells b r.tenant charge accounts
      → accounts ≡ accounts_of (book_after_change (plain_of b) (change.Concat r.tenant r.new) r.now)
  final-accounts charge accounts is_charge tells =
      let n : Numbers = b.settings.numbers in
      let part : TenantBook = tenant_book (plain_of b) r.tenant in
      let u : Upload = joined_upload b.settings.numbers (tenant_book (plain_of b) r.tenant) r.new r.now in
      tells (with_new part u) (charge-concat n part r.new r.now (sound-part b r.tenant kept ready.there) ∙ sym is_charge)
      ∙ ap (λ part. accounts_of (with_tenant_book (plain_of b) r.tenant part)) (sym (part_after_concat-none n part r.new r.now ready.accepted))

  -- and this changes of the heads
  pub final-head : (row : HeadRow)
      → row ≡ record { kind = Final; offset = r.len; declared = Some r.len; metadata = r.new.metadata; concat = r.new.concat; expires = r.expires }
      → head_change (plain_of b) (change.Concat r.tenant r.new) r.now ≡ Some (Put (next_name b r.tenant) row)
  final-head row is_row =
      let n : Numbers = b.settings.numbers in
      let part : TenantBook = tenant_book (plain_of b) r.tenant in
      let u : Upload = joined_upload b.settings.numbers (tenant_book (plain_of b) r.tenant) r.new r.now in
      let told : ℕ → ℕ → Option ℕ → HeadRow = λ offset len expires. record { kind = Final; offset = offset; declared = Some len; metadata = r.new.metadata; concat = r.new.concat; expires = expires } in
      let len : r.len ≡ joined_len (rows_of (parts_found (tenant_book (plain_of b) r.tenant) r.now r.new.parts)) =
      ready.len ∙ ap (λ part. joined_len (rows_of (parts_found part r.now r.new.parts))) (sym (part-plain b r.tenant)) in
      let rows : row ≡ head_row_of u =
      is_row ∙ ap₂ (λ offset len. told offset len r.expires) (len ∙ sym (offset_of-final (parts_found part r.now r.new.parts) r.new (finished_end n r.now))) len ∙ ap (told (offset_of u) (joined_len (rows_of (parts_found part r.now r.new.parts)))) ready.expires in
      ap (put_created u) (concat_answer-none r.tenant n part r.new r.now ready.accepted) ∙ ap (λ (row : HeadRow). Some (Put (next_name b r.tenant) row)) (sym rows)

-- the row of an upload after a PATCH
row-appended : (n : Numbers) (u : Upload) (chunk : Chunk) (now : ℕ) (after : Progress) → after ≡ progress_in (row_with n (head_row_of u) chunk now)
    → record (head_row_of u) { offset = after.offset; declared = after.declared; expires = after.expires } ≡ head_row_of (upload_with n u chunk now)
row-appended n u chunk now after is =
    let read : Progress → HeadRow = λ s. record (head_row_of u) { offset = s.offset; declared = s.declared; expires = s.expires } in
    let long : ℕ → HeadRow = λ offset. record (head_row_of (upload_with n u chunk now)) { offset = offset } in
    ap read is ∙ ap long (sym (offset_of-append n u chunk now))

module _ (b : StoredBook) (r : ReadyChunk) (kept : IsBook b) (ready : IsReadyForChunk b r) where
  abbrev pub u : Upload
  u = upload_at b.store r.name.tenant r.place

  abbrev pub chunk_blocks : ℕ
  chunk_blocks = blocks_added b.settings.numbers (offset_of u) (length r.chunk.bytes)

  within : r.name.tenant < length b.store.stored_tenants
  within = stored_tenant-there b r.name.tenant kept ready.there

  -- what the tenant of a PATCH will pay is a small number,
  pub chunk-small : pays b r.name.tenant + chunk_blocks ≤ 4294967295
  chunk-small =
      paid-small b r.name.tenant chunk_blocks kept ready.there (IsAppendable-from_none b.settings.numbers (account_at b r.name.tenant) u r.chunk ready.accepted).paid

  -- what is charged then is within its bound,
  pub chunk-charged : (charge : ℕ) → charge ≡ pays b r.name.tenant + chunk_blocks → b.charged + (charge - pays b r.name.tenant) ≤ b.settings.numbers.last_total
  chunk-charged charge is =
      charged-more b.charged (pays b r.name.tenant) chunk_blocks b.settings.numbers.last_total charge is (IsAppendable-from_none b.settings.numbers (account_at b r.name.tenant) u r.chunk ready.accepted).unspent

  -- these are the accounts after it,
  pub chunk-accounts : (charge : ℕ) (accounts : Accounts) → charge ≡ pays b r.name.tenant + chunk_blocks → Tells b r.name.tenant charge accounts
      → accounts ≡ accounts_of (book_after_change (plain_of b) (change.Append r.name r.chunk) r.now)
  chunk-accounts charge accounts is_charge tells =
      let n : Numbers = b.settings.numbers in
      let part : TenantBook = tenant_book (plain_of b) r.name.tenant in
      let later : Upload = upload_with b.settings.numbers u r.chunk r.now in
      let seen = seen-visible b r.name.tenant r.name.id r.place r.now kept within ready.seen in
      let there = seen-kept b r.name.tenant r.name.id r.place r.now kept within ready.seen in
      tells (with_changed part r.name.id later) (charge-append n (account_at b r.name.tenant) part r.name.id u r.chunk r.now (sound-part b r.name.tenant kept ready.there) there ready.accepted ∙ sym is_charge)
      ∙ ap (λ part. accounts_of (with_tenant_book (plain_of b) r.name.tenant part)) (sym (part_after_append-none n part r.name.id r.now b.charged u r.chunk seen ready.accepted))

  -- this changes of the heads,
  pub chunk-head : (row : HeadRow) → row ≡ record (head_row_of u) { offset = r.after.offset; declared = r.after.declared; expires = r.after.expires }
      → head_change (plain_of b) (change.Append r.name r.chunk) r.now ≡ Some (Put r.name row)
  chunk-head row is_row =
      let n : Numbers = b.settings.numbers in
      let part : TenantBook = tenant_book (plain_of b) r.name.tenant in
      let put : HeadRow → Option HeadChange = λ row. Some (Put r.name row) in
      let seen = seen-visible b r.name.tenant r.name.id r.place r.now kept within ready.seen in
      ap (put_appended r.name) (appended-none n part r.name.id r.now b.charged u r.chunk seen ready.accepted) ∙ ap put (sym (is_row ∙ row-appended n u r.chunk r.now r.after ready.after))

  -- and the upload has a row there
  pub chunk-stands : kept_in (head_part_at (heads_of (plain_of b)) r.name.tenant).uploads r.name.id ≡ Some (head_row_of u)
  chunk-stands =
      row-stands (plain_of b) r.name.tenant r.name.id r.now u (seen-visible b r.name.tenant r.name.id r.place r.now kept within ready.seen)

module _ (b : StoredBook) (r : ReadyEnd) (kept : IsBook b) (ready : IsReadyForEnd b r) where
  abbrev part : TenantBook
  part = tenant_book (plain_of b) r.name.tenant

  -- what the tenant of a DELETE will pay, by the plain book,
  end-pays : (charge : ℕ) → charge ≡ charge_with b.store.pool.block_size (without_upload (part_at b.store r.name.tenant) r.place) → charge_in b.settings.numbers (without part r.name.id) ≡ charge
  end-pays charge is =
      sym (is ∙ ap (λ size. charge_with size (without_upload (part_at b.store r.name.tenant) r.place)) kept.size
      ∙ ap (charge_in b.settings.numbers) (placed-without b r.name.tenant r.name.id r.place kept ready.there (seen-placed b r.name.tenant r.name.id r.place r.now kept ready.there ready.seen)))

  -- is no more than before,
  pub end-charged : (charge : ℕ) → charge ≡ charge_with b.store.pool.block_size (without_upload (part_at b.store r.name.tenant) r.place) → b.charged + (charge - pays b r.name.tenant) ≤ b.settings.numbers.last_total
  end-charged charge is = omega (arith, end-pays charge is, charge-terminate b.settings.numbers part r.name.id, kept.lawful.last)

  -- these are the accounts after it,
  pub end-accounts : (charge : ℕ) (accounts : Accounts) → charge ≡ charge_with b.store.pool.block_size (without_upload (part_at b.store r.name.tenant) r.place) → Tells b r.name.tenant charge accounts
      → accounts ≡ accounts_of (book_after_change (plain_of b) (change.Terminate r.name) r.now)
  end-accounts charge accounts is tells =
      let seen = seen-visible b r.name.tenant r.name.id r.place r.now kept ready.there ready.seen in
      tells (without part r.name.id) (end-pays charge is)
      ∙ ap (λ part. accounts_of (with_tenant_book (plain_of b) r.name.tenant part)) (sym (part_after_terminate-visible b.settings.numbers part r.name.id r.now (upload_at b.store r.name.tenant r.place) seen))

  -- and this changes of the heads
  pub end-head : head_change (plain_of b) (change.Terminate r.name) r.now ≡ Some (Gone r.name)
  end-head =
      let seen = seen-visible b r.name.tenant r.name.id r.place r.now kept ready.there ready.seen in
      ap (gone_removed r.name) (terminate_answer-visible b.settings.numbers part r.name.id r.now (upload_at b.store r.name.tenant r.place) seen)
