use Rattle.std.proofs.Common.{◌≡◌, ℕ, ◌<◌, false, List, [], ◌∷◌, length, None, Option, Some, inl, inr, refl, sym, ap, subst, ◌∙◌, arith}
use Rattle.block_bodies.specs.Bodies.{Chain, HasRoom}
use Rattle.upload_book.specs.Append.{is_final}
use Rattle.upload_book.specs.BlockStore.{part_at}
use Rattle.upload_book.specs.Book.{IsBook, StoredBook, plain_of}
use Rattle.upload_book.specs.contracts.book.Book.{the_view}
use Rattle.upload_book.specs.declared.board_line.Account.{Account}
use Rattle.upload_book.specs.declared.ready.ReadyOwn.{ReadyOwn}
use Rattle.upload_book.specs.declared.texts.SharedTexts.{SharedTexts}
use Rattle.upload_book.specs.inside.Texts.{IsTextsFor}
use Rattle.upload_book.specs.declared.refusal.Refusal.{Refusal}
use Rattle.upload_book.specs.declared.refusal.Refusal.TheVariants.{Memory}
use Rattle.upload_book.specs.declared.settings.Numbers.{Numbers}
use Rattle.upload_book.specs.inside.Back.{own_tests}
use Rattle.upload_book.specs.inside.Pieces.{no_chain}
use Rattle.upload_book.specs.PlainBook.{tenant_book}
use Rattle.upload_book.specs.Ready.{IsReadyForOwn}
use Rattle.upload_book.specs.Refusal.{IsAnswer, first_that_holds}
use Rattle.upload_book.specs.snapshot.Restore.{IsRestorable, piece_refusal}
use Rattle.upload_book.specs.declared.restored.Restored.TheVariants as piece
use Rattle.upload_book.specs.snapshot.Restored.{RestoredUpload}
use Rattle.upload_book.proofs.Restoring.OwnBack.{own-form, refusal-own}
use Rattle.upload_book.proofs.Restoring.OwnSteps.{IsOwnBack, own-room_blocks}
use Rattle.upload_book.proofs.Steps.BookLemmas.{IsTenantOf-book}
use Rattle.upload_book.proofs.Steps.BookSteps.{part-plain, part-within, stored_tenants-settings}
use Rattle.upload_book.proofs.Steps.PatchSteps.{account_at}
use Rattle.upload_book.proofs.book.Book.ready_for_own.Goals as goal

-- what was read where an upload of its own is tested
record IsRead (b w : StoredBook) (t place : ℕ) (numbers : Numbers) (account : Account) (r : RestoredUpload) (read : List ℕ) (found : Option Refusal) : Type 0 where
  kept : IsBook b
  is : b ≡ w
  tenant : t < length w.settings.tenants
  own : is_final r.kind ≡ false
  form : IsRestorable r
  at : place ≡ t
  numbers_read : numbers ≡ b.settings.numbers
  account_read : account ≡ account_at w t
  read_is : (bytes : List ℕ) → r.segments ≡ record { origin = r.id; bytes = Some bytes } ∷ [] → read ≡ bytes
  found_is : found ≡ first_that_holds (own_tests numbers account (part_at b.store place) r (length read))

module _ {b w : StoredBook} {t place : ℕ} {numbers : Numbers} {account : Account} {r : RestoredUpload} {read : List ℕ} {found : Option Refusal} (s : IsRead b w t place numbers account r read found) where
  bytes : List ℕ
  bytes = (own-form r.kind r.id r.segments s.own s.form.segments).0

  its : r.segments ≡ record { origin = r.id; bytes = Some bytes } ∷ []
  unfolding bytes
  its = (own-form r.kind r.id r.segments s.own s.form.segments).1

  read_same : read ≡ bytes
  read_same = s.read_is bytes its

  -- the tenant has a stored part
  there : t < length b.store.stored_tenants
  there = omega (arith, s.tenant, stored_tenants-settings b s.kept, ap (λ (b : StoredBook). length b.settings.tenants) s.is)

  -- why it is refused, if it is
  told : found ≡ piece_refusal (plain_of b) (piece.Upload t r)
  told =
      s.found_is
      ∙ ap (λ (n : Numbers). first_that_holds (own_tests n account (part_at b.store place) r (length read))) s.numbers_read
      ∙ ap (λ (a : Account). first_that_holds (own_tests b.settings.numbers a (part_at b.store place) r (length read))) (s.account_read ∙ ap (λ (b : StoredBook). account_at b t) (sym s.is))
      ∙ ap (λ t'. first_that_holds (own_tests b.settings.numbers (account_at b t) (part_at b.store t') r (length read))) s.at
      ∙ ap (λ part. first_that_holds (own_tests b.settings.numbers (account_at b t) part r (length read))) (sym (part-plain b t))
      ∙ ap (λ (bytes : List ℕ). first_that_holds (own_tests b.settings.numbers (account_at b t) (tenant_book (plain_of b) t) r (length bytes))) read_same
      ∙ refusal-own b.settings.numbers b.charged (tenant_book (plain_of b) t) r bytes (IsTenantOf-book (plain_of b) t s.kept.lawful (part-within b t there)) s.own its

  -- one that is not refused
  back : found ≡ None → IsOwnBack b t r bytes
  back none = record { kept = s.kept; within = there; own = s.own; form = s.form; its = its; none = sym told ∙ none }

  -- a book that is ready for it
  ready_of : Chain → Option SharedTexts → ReadyOwn
  ready_of body texts = record { tenant = t; upload = r; body = body; texts = texts }

  ready : (body : Chain) (texts : Option SharedTexts) → IsTextsFor numbers.uploads texts r.metadata r.concat → found ≡ None → body ≡ record no_chain { room = body.room } → HasRoom b.store.pool body (length read) → IsReadyForOwn w (ready_of body texts)
  unfolding ready_of
  ready body texts taken none empty room = subst (λ (b : StoredBook). IsReadyForOwn b (ready_of body texts)) s.is (record {
    there = omega (arith, s.tenant, ap (λ (b : StoredBook). length b.settings.tenants) s.is);
    own = s.own;
    form = s.form;
    accepted = sym told ∙ none;
    empty = empty;
    room = λ (bytes : List ℕ) is. subst (λ (bytes : List ℕ). HasRoom b.store.pool body (length bytes)) (s.read_is bytes is) room;
    texts = subst (λ (n : Numbers). IsTextsFor n.uploads texts r.metadata r.concat) s.numbers_read taken;
  })

-- what was read
module _ (b w : StoredBook) (t place : ℕ) (numbers : Numbers) (account : Account) (r : RestoredUpload) (read : List ℕ) (found : Option Refusal) where
  refused : IsRead b w t place numbers account r read found → (why : Refusal) → found ≡ Some why → IsAnswer (piece_refusal (plain_of w) (piece.Upload t r)) (piece_refusal (plain_of w) (piece.Upload t r) ≡ None) (Some Memory) (Some why)
  refused s why is = inl (sym is ∙ told s ∙ ap (λ (b : StoredBook). piece_refusal (plain_of b) (piece.Upload t r)) s.is)

  lacking : IsRead b w t place numbers account r read found → found ≡ None → IsAnswer (piece_refusal (plain_of w) (piece.Upload t r)) (piece_refusal (plain_of w) (piece.Upload t r) ≡ None) (Some Memory) (Some Memory)
  lacking s none = inr (ap (λ (b : StoredBook). piece_refusal (plain_of b) (piece.Upload t r)) (sym s.is) ∙ sym (told s) ∙ none, refl)

pub returns-in-Some-clause-refused : goal.returns-in-Some-clause-refused
returns-in-Some-clause-refused c =
    refused (the_view c.self.inside) c.args.self.now c.args.tenant c.from-place.result c.numbers-numbers.result.now c.account-account.result c.args.upload c.own_bytes-bytes.result.now c.own_refusal.result
    (record { kept = c.self.invariant; is = c.self.view_is; tenant = c.requires.tenant_there; own = c.requires.own; form = c.requires.form; at = c.from-place.ensures; numbers_read = c.numbers-numbers.ensures.value; account_read = c.account-account.ensures; read_is = c.own_bytes-bytes.ensures; found_is = c.own_refusal.ensures })
    c.in-Some.refusal c.in-Some.is

pub body_for-requires : goal.body_for-requires
body_for-requires c =
    let b = the_view c.self.inside in
    let s : IsRead b c.args.self.now c.args.tenant c.from-place.result c.numbers-numbers.result.now c.account-account.result c.args.upload c.own_bytes-bytes.result.now c.own_refusal.result =
    record { kept = c.self.invariant; is = c.self.view_is; tenant = c.requires.tenant_there; own = c.requires.own; form = c.requires.form; at = c.from-place.ensures; numbers_read = c.numbers-numbers.ensures.value; account_read = c.account-account.ensures; read_is = c.own_bytes-bytes.ensures; found_is = c.own_refusal.ensures } in
    record { blocks = rw (read_same s) (own-room_blocks b c.args.tenant c.args.upload (bytes s) (back s c.in_default.is)) }

pub returns-in-Ok-texts_ahead-clause-ready : goal.returns-in-Ok-texts_ahead-clause-ready
unfolding ready_of
returns-in-Ok-texts_ahead-clause-ready c =
    let b = the_view c.self.inside in
    let s : IsRead b c.args.self.now c.args.tenant c.from-place.result c.numbers-numbers.result.now c.account-account.result c.args.upload c.own_bytes-bytes.result.now c.own_refusal.result =
    record { kept = c.self.invariant; is = c.self.view_is; tenant = c.requires.tenant_there; own = c.requires.own; form = c.requires.form; at = c.from-place.ensures; numbers_read = c.numbers-numbers.ensures.value; account_read = c.account-account.ensures; read_is = c.own_bytes-bytes.ensures; found_is = c.own_refusal.ensures } in
    ready s c.in-Ok.body c.in-Ok-texts_ahead.texts (subst (λ (u : RestoredUpload). IsTextsFor c.numbers-numbers.result.now.uploads c.in-Ok-texts_ahead.texts u.metadata u.concat) c.upload.view_is c.in-Ok-texts_ahead.ensures.texts) c.in_default.is c.in-Ok.ensures.empty c.in-Ok.ensures.listed

pub returns-in_default-body_for-clause-refused : goal.returns-in_default-body_for-clause-refused
returns-in_default-body_for-clause-refused c =
    lacking (the_view c.self.inside) c.args.self.now c.args.tenant c.from-place.result c.numbers-numbers.result.now c.account-account.result c.args.upload c.own_bytes-bytes.result.now c.own_refusal.result
    (record { kept = c.self.invariant; is = c.self.view_is; tenant = c.requires.tenant_there; own = c.requires.own; form = c.requires.form; at = c.from-place.ensures; numbers_read = c.numbers-numbers.ensures.value; account_read = c.account-account.ensures; read_is = c.own_bytes-bytes.ensures; found_is = c.own_refusal.ensures })
    c.in_default.is

pub returns-in-Err-clause-refused : goal.returns-in-Err-clause-refused
returns-in-Err-clause-refused c =
    lacking (the_view c.self.inside) c.args.self.now c.args.tenant c.from-place.result c.numbers-numbers.result.now c.account-account.result c.args.upload c.own_bytes-bytes.result.now c.own_refusal.result
    (record { kept = c.self.invariant; is = c.self.view_is; tenant = c.requires.tenant_there; own = c.requires.own; form = c.requires.form; at = c.from-place.ensures; numbers_read = c.numbers-numbers.ensures.value; account_read = c.account-account.ensures; read_is = c.own_bytes-bytes.ensures; found_is = c.own_refusal.ensures })
    c.in_default.is
