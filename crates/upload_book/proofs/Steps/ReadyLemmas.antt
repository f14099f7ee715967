-- A book in which room was made is ready for the PATCH.
use Rattle.std.proofs.Common.{◌≡◌, ◌<◌, length, get_or, None, Ok, ap, ap₂, sym, ◌∙◌, arith}
use Rattle.std.proofs.Math.ListN.{get_or-map, length-map}
use Rattle.block_bodies.specs.Bodies.{HasRoom}
use Rattle.upload_book.specs.Account.{account_in, blocks_added}
use Rattle.upload_book.specs.Append.{append_refusal, row_with}
use Rattle.upload_book.specs.Book.{StoredBook, plain_of}
use Rattle.upload_book.specs.Chunk.{count_all}
use Rattle.upload_book.specs.declared.ready.ReadyChunk.{ReadyChunk}
use Rattle.upload_book.specs.PlainBook.{PlainBook, tenant_book}
use Rattle.upload_book.specs.Ready.{IsReadyForChunk}
use Rattle.upload_book.specs.Progress.{progress_in}
use Rattle.upload_book.specs.BlockStore.{entry_at, no_upload, part_at, stored_tenant_at, upload_at}
use Rattle.upload_book.specs.inside.Places.{IsVisibleIn}
use Rattle.upload_book.specs.Stored.{entry_of}
use Rattle.upload_book.specs.inside.Pieces.{own_chain}
use Rattle.upload_book.specs.TenantBook.{Entry, TenantBook, visible_upload}
use Rattle.upload_book.specs.Upload.{Upload, head_row_of, offset_of}
use Rattle.upload_book.proofs.Steps.BookSteps.{part-plain}

module _ (b later : StoredBook) (r : ReadyChunk) (same : plain_of later ≡ plain_of b) where
  same_part : part_at later.store r.name.tenant ≡ part_at b.store r.name.tenant
  same_part = sym (part-plain later r.name.tenant) ∙ ap (λ p. tenant_book p r.name.tenant) same ∙ part-plain b r.name.tenant

  -- what stands at the place of a tenant's part
  abbrev at_place : TenantBook → Entry Upload
  at_place part = get_or part.uploads r.place (entry_of b.store.pool no_upload)

  same_entry : entry_of later.store.pool (entry_at later.store r.name.tenant r.place) ≡ entry_of b.store.pool (entry_at b.store r.name.tenant r.place)
  same_entry =
      sym (get_or-map (entry_of later.store.pool) (stored_tenant_at later.store r.name.tenant).uploads r.place no_upload) ∙ ap at_place same_part ∙ get_or-map (entry_of b.store.pool) (stored_tenant_at b.store r.name.tenant).uploads r.place no_upload

  same_upload : upload_at later.store r.name.tenant r.place ≡ upload_at b.store r.name.tenant r.place
  same_upload = ap (λ (e : Entry Upload). e.kept) same_entry

  same_seen : IsVisibleIn b.store r.name.tenant r.name.id r.now r.place → IsVisibleIn later.store r.name.tenant r.name.id r.now r.place
  same_seen seen = record {
    there = omega (arith, seen.there, length-map (stored_tenant_at later.store r.name.tenant).uploads (entry_of later.store.pool), length-map (stored_tenant_at b.store r.name.tenant).uploads (entry_of b.store.pool), ap (λ (part : TenantBook). length part.uploads) same_part);
    named = ap (λ (e : Entry Upload). e.id) same_entry ∙ seen.named;
    visible = ap (λ part. visible_upload part r.name.id r.now) same_part ∙ seen.visible ∙ ap Ok (sym same_upload);
  }

  -- what was found of the book before, and the room
  pub ready-later : r.name.tenant < length b.settings.tenants → IsVisibleIn b.store r.name.tenant r.name.id r.now r.place
      → append_refusal b.settings.numbers (account_in b.settings.numbers (tenant_book (plain_of b) r.name.tenant) b.charged) (head_row_of (upload_at b.store r.name.tenant r.place)) r.chunk ≡ None
      → r.expires ≡ (upload_at b.store r.name.tenant r.place).expires
      → r.after ≡ progress_in (row_with b.settings.numbers (head_row_of (upload_at b.store r.name.tenant r.place)) r.chunk r.now)
      → r.cost ≡ blocks_added b.settings.numbers (offset_of (upload_at b.store r.name.tenant r.place)) (length r.chunk.bytes)
      → (0 < count_all r.chunk → HasRoom later.store.pool (own_chain (entry_at later.store r.name.tenant r.place).kept.pieces) (count_all r.chunk))
      → IsReadyForChunk later r
  ready-later there seen accepted expires after cost room = record {
    there = omega (arith, there, ap (λ (p : PlainBook). length p.settings.tenants) same);
    seen = same_seen seen;
    accepted =
        ap₂ (λ (p : PlainBook) (u : Upload). append_refusal p.settings.numbers (account_in p.settings.numbers (tenant_book p r.name.tenant) p.charged) (head_row_of u) r.chunk) same same_upload ∙ accepted;
    expires = expires ∙ sym (ap (λ (u : Upload). u.expires) same_upload);
    after = after ∙ sym (ap₂ (λ (p : PlainBook) (u : Upload). progress_in (row_with p.settings.numbers (head_row_of u) r.chunk r.now)) same same_upload);
    cost = cost ∙ sym (ap₂ (λ (p : PlainBook) (u : Upload). blocks_added p.settings.numbers (offset_of u) (length r.chunk.bytes)) same same_upload);
    room = room;
  }
