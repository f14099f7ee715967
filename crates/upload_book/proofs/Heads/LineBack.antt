-- What a piece for which a book is ready changes of the heads, and the accounts after it.
use Rattle.std.proofs.Common.{◌≡◌, ◌⊎◌, ℕ, ◌+◌, ◌-◌, ◌<◌, ◌≤◌, false, List, [], ◌∷◌, length, Option, None, Some, unwrap_or, refl, inl, inr, ap, sym, ◌∙◌, append-nil, arith}
use Rattle.std.specs.List.{sum_by}
use Rattle.std.proofs.lemmas.List.Sums.{sum_by-cons}
use Rattle.block_bodies.specs.Bodies.{blocks_for}
use Rattle.upload_book.specs.Account.{blocks_added}
use Rattle.upload_book.specs.Append.{is_final}
use Rattle.upload_book.specs.Book.{StoredBook, IsBook, plain_of}
use Rattle.upload_book.specs.Change.{head_change, put_back}
use Rattle.upload_book.specs.Charge.{charge_in}
use Rattle.upload_book.specs.declared.board_line.Accounts.{Accounts}
use Rattle.upload_book.specs.declared.board_line.HeadChange.{HeadChange}
use Rattle.upload_book.specs.declared.board_line.HeadChange.TheVariants.{Put}
use Rattle.upload_book.specs.declared.change.Change.TheVariants as change
use Rattle.upload_book.specs.declared.head_note.NotedChange.TheVariants.{Created}
use Rattle.upload_book.specs.declared.head_row.HeadRow.{HeadRow}
use Rattle.upload_book.specs.declared.head_row.Kind.{Kind}
use Rattle.upload_book.specs.declared.head_row.Kind.TheVariants.{Final, Partial, Plain}
use Rattle.upload_book.specs.declared.ready.ReadyBack.{ReadyBack}
use Rattle.upload_book.specs.declared.ready.ReadyNext.{ReadyNext}
use Rattle.upload_book.specs.declared.ready.ReadyOwn.{ReadyOwn}
use Rattle.upload_book.specs.declared.restored.Restored.TheVariants as piece
use Rattle.upload_book.specs.declared.settings.Numbers.{Numbers}
use Rattle.upload_book.specs.HeadNotes.{change_told}
use Rattle.upload_book.specs.Heads.{accounts_of, heads_of}
use Rattle.upload_book.specs.inside.Back.{row_back}
use Rattle.upload_book.specs.inside.FinalBack.{brought_blocks, brought_in}
use Rattle.upload_book.specs.PlainBook.{tenant_book}
use Rattle.upload_book.specs.Ready.{IsReadyForBack, IsReadyForNext, IsReadyForOwn}
use Rattle.upload_book.specs.snapshot.Restore.{IsRestorable, book_after_piece, piece_refusal, upload_back, with_back}
use Rattle.upload_book.specs.snapshot.Restored.{RestoredSegment, RestoredUpload}
use Rattle.upload_book.specs.TenantBook.{TenantBook, with_next}
use Rattle.upload_book.specs.Upload.{Upload, head_row_of}
use Rattle.upload_book.proofs.Charge.ChargeLemmas.{blocks_between-first}
use Rattle.upload_book.proofs.Heads.HeadsRestore.{head-none, with-upload}
use Rattle.upload_book.proofs.Heads.LineSteps.{Tells, next-told, paid-small, pays, sound-part, stored_tenant-there}
use Rattle.upload_book.proofs.Restoring.FinalSteps.{IsFinalBack, back, final-len, final-pays}
use Rattle.upload_book.proofs.Restoring.LawfulBack.{IsBack, IsBack-from_none, charge-next}
use Rattle.upload_book.proofs.Restoring.NextSteps.{after-none, next-more}
use Rattle.upload_book.proofs.Restoring.OwnBack.{own-form}
use Rattle.upload_book.proofs.Restoring.OwnSteps.{IsOwnBack, back as own-back, own-next, own-pays, own-sent, upload-is}

-- an upload of its own
module _ (b : StoredBook) (r : ReadyOwn) (kept : IsBook b) (ready : IsReadyForOwn b r) where
  pub own-read : (bytes : List ℕ) × (r.upload.segments ≡ record { origin = r.upload.id; bytes = Some bytes } ∷ [])
  own-read = own-form r.upload.kind r.upload.id r.upload.segments ready.own ready.form.segments

  -- brings these bytes
  abbrev pub own-bytes : List ℕ
  own-bytes = own-read.0

  pub own-segment : r.upload.segments ≡ record { origin = r.upload.id; bytes = Some own-bytes } ∷ []
  own-segment = own-read.1

  own-is : IsOwnBack b r.tenant r.upload own-bytes
  own-is = record { kept = kept; within = stored_tenant-there b r.tenant kept ready.there; own = ready.own; form = ready.form; its = own-segment; none = ready.accepted }

  -- this changes of the heads,
  pub own-head : (now : ℕ) (row : HeadRow) → row ≡ row_back r.upload (length own-bytes)
      → head_change (plain_of b) (change.Restore (piece.Upload r.tenant r.upload)) now ≡ Some (Put (record { tenant = r.tenant; id = r.upload.id }) row)
  own-head now row is_row =
      let put : HeadRow → Option HeadChange = λ row. Some (Put (record { tenant = r.tenant; id = r.upload.id }) row) in
      let rows : row ≡ head_row_of (upload_back r.upload ((r.upload.id, own-bytes) ∷ [])) = is_row ∙ ap (row_back r.upload) (ap (length {A = ℕ}) (sym (append-nil own-bytes))) in
      head-none (plain_of b) (piece.Upload r.tenant r.upload) now ready.accepted
      ∙ ap (put_back r.tenant r.upload) (own-sent b r.tenant r.upload own-bytes own-is) ∙ ap put (sym rows)

  -- as its row is noted
  pub own-noted : (row : HeadRow) → change_told (heads_of (plain_of b)) (Created r.tenant row) ≡ Some (Put (record { tenant = r.tenant; id = r.upload.id }) row)
  own-noted row =
      let put : ℕ → Option HeadChange = λ id. Some (Put (record { tenant = r.tenant; id = id }) row) in
      next-told b r.tenant row ∙ ap put (own-next b r.tenant r.upload own-bytes own-is)

-- a final upload
module _ (b : StoredBook) (r : ReadyBack) (kept : IsBook b) (ready : IsReadyForBack b r) where
  joined-is : IsFinalBack b r.tenant r.upload
  joined-is = record { kept = kept; within = stored_tenant-there b r.tenant kept ready.there; kind = ready.final; form = ready.form; none = ready.accepted }

  -- this changes of the heads,
  pub joined-head : (now : ℕ) (row : HeadRow) → row ≡ row_back r.upload (unwrap_or r.upload.declared 0)
      → head_change (plain_of b) (change.Restore (piece.Upload r.tenant r.upload)) now ≡ Some (Put (record { tenant = r.tenant; id = r.upload.id }) row)
  joined-head now row is_row =
      let put : HeadRow → Option HeadChange = λ row. Some (Put (record { tenant = r.tenant; id = r.upload.id }) row) in
      let rows : row ≡ head_row_of (upload_back r.upload (back b r.tenant r.upload joined-is).sent) = is_row ∙ ap (row_back r.upload) (final-len b r.tenant r.upload joined-is) in
      head-none (plain_of b) (piece.Upload r.tenant r.upload) now ready.accepted
      ∙ ap (put_back r.tenant r.upload) (back b r.tenant r.upload joined-is).is ∙ ap put (sym rows)

  -- as its row is noted
  pub joined-noted : (row : HeadRow) → change_told (heads_of (plain_of b)) (Created r.tenant row) ≡ Some (Put (record { tenant = r.tenant; id = r.upload.id }) row)
  joined-noted row =
      let put : ℕ → Option HeadChange = λ id. Some (Put (record { tenant = r.tenant; id = id }) row) in
      next-told b r.tenant row ∙ ap put (back b r.tenant r.upload joined-is).next

-- an upload is of its own, or final
of-kind : (kind : Kind) → (is_final kind ≡ false) ⊎ (kind ≡ Final)
of-kind Plain = inl refl
of-kind Partial = inl refl
of-kind Final = inr refl

-- the segments of an upload that is put back are found in one way
same-sent : (n : Numbers) (charged : ℕ) (part : TenantBook) (r : RestoredUpload) (one other : IsBack n charged part r) → one.sent ≡ other.sent
same-sent n charged part r one other = let both : Some one.sent ≡ Some other.sent = sym one.is ∙ other.is in cc

-- one segment brings the blocks of its bytes
brought-one : (size id : ℕ) (bytes : List ℕ) → brought_in size (record { origin = id; bytes = Some bytes } ∷ []) ≡ blocks_for size (length bytes)
brought-one size id bytes = first (brought_blocks size) (record { origin = id; bytes = Some bytes }) where
  first : (f : RestoredSegment → ℕ) (s : RestoredSegment) → sum_by f (s ∷ []) ≡ f s
  first f s = omega (arith, sum_by-cons f s [])

-- what is charged where so much more is paid
charged-within : (charged before after added charge most : ℕ) → after ≡ before + added → charged + (after - before) ≤ most → charge ≡ before + added → charged + (charge - before) ≤ most
charged-within charged before after added charge most is within same = omega arith

-- the tenant of an upload that is put back
module _ (b : StoredBook) (t : ℕ) (r : RestoredUpload) (kept : IsBook b) (there : t < length b.settings.tenants) (form : IsRestorable r) (none : piece_refusal (plain_of b) (piece.Upload t r) ≡ None) where
  abbrev part : TenantBook
  part = tenant_book (plain_of b) t

  found : IsBack b.settings.numbers b.charged part r
  found = IsBack-from_none b.settings.numbers b.charged part r none

  abbrev pub added_blocks : ℕ
  added_blocks = brought_in b.settings.numbers.block_size r.segments

  -- will pay the blocks that it brings,
  pays-more : charge_in b.settings.numbers (with_back part r.id (upload_back r found.sent)) ≡ charge_in b.settings.numbers part + added_blocks
  pays-more = elim (of-kind r.kind) [ inl own ↦ by_own own | inr final ↦ by_final final ] where
    by_own : is_final r.kind ≡ false → charge_in b.settings.numbers (with_back part r.id (upload_back r found.sent)) ≡ charge_in b.settings.numbers part + added_blocks
    by_own own =
        let read = own-form r.kind r.id r.segments own form.segments in
        let is : IsOwnBack b t r read.0 = record { kept = kept; within = stored_tenant-there b t kept there; own = own; form = form; its = read.1; none = none } in
        let blocks : blocks_added b.settings.numbers 0 (length read.0) ≡ added_blocks =
        blocks_between-first b.settings.numbers.block_size (length read.0) ∙ sym (brought-one b.settings.numbers.block_size r.id read.0) ∙ ap (brought_in b.settings.numbers.block_size) (sym read.1) in
        ap (λ (sent : List (ℕ × List ℕ)). charge_in b.settings.numbers (with_back part r.id (upload_back r sent))) (same-sent _ _ _ _ found (own-back b t r read.0 is))
        ∙ ap (λ (u : Upload). charge_in b.settings.numbers (with_back part r.id u)) (upload-is b t r read.0 is) ∙ own-pays b t r read.0 is
        ∙ ap (λ (blocks : ℕ). charge_in b.settings.numbers part + blocks) blocks

    by_final : r.kind ≡ Final → charge_in b.settings.numbers (with_back part r.id (upload_back r found.sent)) ≡ charge_in b.settings.numbers part + added_blocks
    by_final final =
        let is : IsFinalBack b t r = record { kept = kept; within = stored_tenant-there b t kept there; kind = final; form = form; none = none } in
        ap (λ (sent : List (ℕ × List ℕ)). charge_in b.settings.numbers (with_back part r.id (upload_back r sent))) (same-sent _ _ _ _ found (back b t r is)) ∙ final-pays b t r is

  -- which is a small number,
  pub back-small : pays b t + added_blocks ≤ 4294967295
  back-small = paid-small b t added_blocks kept there (omega (arith, pays-more, found.can.paid))

  -- what is charged then is within its bound,
  pub back-charged : (charge : ℕ) → charge ≡ pays b t + added_blocks → b.charged + (charge - pays b t) ≤ b.settings.numbers.last_total
  back-charged charge is = charged-within b.charged (pays b t) _ added_blocks charge b.settings.numbers.last_total pays-more found.can.unspent is

  -- and these are the accounts after it
  pub back-accounts : (charge : ℕ) (accounts : Accounts) → charge ≡ pays b t + added_blocks → Tells b t charge accounts → accounts ≡ accounts_of (book_after_piece (plain_of b) (piece.Upload t r))
  back-accounts charge accounts is_charge tells =
      tells (with_back part r.id (upload_back r found.sent)) (pays-more ∙ sym is_charge)
      ∙ ap accounts_of (sym (after-none (plain_of b) (piece.Upload t r) none ∙ with-upload (plain_of b) t r found))

-- a next id costs nothing
module _ (b : StoredBook) (r : ReadyNext) (kept : IsBook b) (ready : IsReadyForNext b r) where
  pub next-charged : (charge : ℕ) → charge ≡ pays b r.tenant → b.charged + (charge - pays b r.tenant) ≤ b.settings.numbers.last_total
  next-charged charge is = omega (arith, is, kept.lawful.last)

  pub next-accounts : (charge : ℕ) (accounts : Accounts) → charge ≡ pays b r.tenant → Tells b r.tenant charge accounts → accounts ≡ accounts_of (book_after_piece (plain_of b) (piece.Next r.tenant r.next))
  next-accounts charge accounts is_charge tells =
      let more = next-more b r.tenant r.next kept (stored_tenant-there b r.tenant kept ready.there) ready.accepted in
      tells (with_next (tenant_book (plain_of b) r.tenant) r.next) (charge-next b.settings.numbers (tenant_book (plain_of b) r.tenant) r.next more (sound-part b r.tenant kept ready.there) ∙ sym is_charge)
      ∙ ap accounts_of (sym (after-none (plain_of b) (piece.Next r.tenant r.next) ready.accepted))
