use Rattle.std.proofs.Common.{◌≡◌, ◌≢◌, ℕ, ◌<◌, ◌≤◌, Bool, true, false, cond, eqb, not, List, length, Option, None, Some, option_map, refl, sym, ap, ap₂, subst, ◌∙◌, arith}
use Rattle.std.proofs.lemmas.Bool.Decides.{nat_tests}
use Rattle.upload_book.specs.Account.{account_in}
use Rattle.upload_book.specs.BlockStore.{part_at}
use Rattle.upload_book.specs.Book.{IsBook, StoredBook, plain_of}
use Rattle.upload_book.specs.contracts.book.Book.{the_view}
use Rattle.upload_book.specs.declared.board_line.Account.{Account}
use Rattle.upload_book.specs.declared.final_back.Left.{Left}
use Rattle.upload_book.specs.declared.head_row.Kind.{Kind}
use Rattle.upload_book.specs.declared.head_row.Kind.TheVariants.{Final}
use Rattle.upload_book.specs.declared.refusal.Refusal.{Refusal}
use Rattle.upload_book.specs.declared.refusal.Refusal.TheVariants.{Field, Part}
use Rattle.upload_book.specs.declared.settings.Numbers.{Numbers}
use Rattle.upload_book.specs.inside.FinalBack.{brought_in, final_tests, left_with, limits_of, sent_len}
use Rattle.upload_book.specs.Lawful.{IsTenantOf}
use Rattle.upload_book.specs.PlainBook.{tenant_book}
use Rattle.upload_book.specs.Refusal.{first_that_holds}
use Rattle.upload_book.specs.snapshot.Restore.{HasSegments, IsRestorable, piece_refusal, refusal_with, restore_refusal, sent_back, sent_in}
use Rattle.upload_book.specs.declared.restored.Restored.TheVariants as piece
use Rattle.upload_book.specs.snapshot.Restored.{RestoredSegment, RestoredUpload}
use Rattle.upload_book.specs.TenantBook.{TenantBook, opening_part}
use Rattle.upload_book.proofs.Restoring.FinalBack.{tests-final}
use Rattle.upload_book.proofs.Steps.BookLemmas.{IsTenantOf-book}
use Rattle.upload_book.proofs.Steps.BookSteps.{part-plain, part-within, stored_tenants-settings}
use Rattle.upload_book.proofs.Steps.PatchSteps.{account_at}
use Rattle.upload_book.proofs.book.Book.final_refusal.Goals as goal

-- what was read where a final upload is tested
record IsRead (b w : StoredBook) (t place : ℕ) (numbers : Numbers) (account : Account) (r : RestoredUpload) (id next : ℕ) : Type 0 where
  kept : IsBook b
  is : b ≡ w
  tenant : t < length w.settings.tenants
  kind : r.kind ≡ Final
  form : IsRestorable r
  at : place ≡ t
  numbers_read : numbers ≡ b.settings.numbers
  account_read : account ≡ account_at w t
  id_read : id ≡ r.id
  next_read : next ≡ (part_at b.store place).next

module _ {b w : StoredBook} {t place : ℕ} {numbers : Numbers} {account : Account} {r : RestoredUpload} {id next : ℕ} (s : IsRead b w t place numbers account r id next) where
  abbrev part : TenantBook
  part = tenant_book (plain_of b) t

  -- the tenant has a stored part
  there : t < length b.store.stored_tenants
  there = omega (arith, s.tenant, stored_tenants-settings b s.kept, ap (λ (b : StoredBook). length b.settings.tenants) s.is)

  part_is : part_at b.store place ≡ part
  part_is = ap (λ t. part_at b.store t) s.at ∙ sym (part-plain b t)

  next_is : next ≡ part.next
  next_is = s.next_read ∙ ap (λ (part : TenantBook). part.next) part_is

  sound : IsTenantOf b.settings.numbers part
  sound = IsTenantOf-book (plain_of b) t s.kept.lawful (part-within b t there)

  account_is : account ≡ account_in b.settings.numbers part b.charged
  account_is = s.account_read ∙ ap (λ (b : StoredBook). account_at b t) (sym s.is)

  -- the refusal is the plain book's
  told : (result : Option Refusal) → result ≡ restore_refusal b.settings.numbers b.charged part r → result ≡ piece_refusal (plain_of w) (piece.Upload t r)
  told result is = is ∙ ap (λ (b : StoredBook). piece_refusal (plain_of b) (piece.Upload t r)) s.is

  other : id ≢ next → Some Field ≡ restore_refusal b.settings.numbers b.charged part r
  other differs =
      let test : not (eqb r.id part.next) ≡ true = unlike r.id part.next (λ same. differs (s.id_read ∙ same ∙ sym next_is)) in
      rw test refl
    where
      unlike : (a b : ℕ) → a ≢ b → not (eqb a b) ≡ true
      unlike a b differs = grind (arith, nat_tests)

  -- under the next id its segments tell
  abbrev refused_with : Option (List (ℕ × List ℕ)) → Option Refusal
  refused_with found = refusal_with b.settings.numbers b.charged part r found

  by_segments : id ≡ next → restore_refusal b.settings.numbers b.charged part r ≡ refused_with (sent_back (sent_in part.uploads) r.segments)
  by_segments same =
      ap (λ (other : Bool). cond other (Some Field) (refused_with (sent_back (sent_in part.uploads) r.segments))) (alike r.id part.next (sym s.id_read ∙ same ∙ next_is))
    where
      alike : (a b : ℕ) → a ≡ b → not (eqb a b) ≡ false
      alike a b same = grind (arith, nat_tests)

  abbrev left_after : Left → List (ℕ × List ℕ) → Left
  left_after limits sent = left_with limits (sent_len sent) (brought_in b.store.pool.block_size r.segments)

  found_is : (limits : Left) (left : Option Left) → left ≡ option_map (left_after limits) (sent_back (sent_in (part_at b.store place).uploads) r.segments) → left ≡ option_map (left_after limits) (sent_back (sent_in part.uploads) r.segments)
  found_is limits left is = is ∙ ap (λ (part : TenantBook). option_map (left_after limits) (sent_back (sent_in part.uploads) r.segments)) part_is

  lacks : (limits : Left) → id ≡ next → None ≡ option_map (left_after limits) (sent_back (sent_in (part_at b.store place).uploads) r.segments) → Some Part ≡ restore_refusal b.settings.numbers b.charged part r
  lacks limits same is = by (sent_back (sent_in part.uploads) r.segments) (found_is limits None is) ∙ sym (by_segments same) where
    by : (found : Option (List (ℕ × List ℕ))) → None ≡ option_map (left_after limits) found → Some Part ≡ refused_with found
    by None none = refl
    by (Some sent) never = absurd (cc)

  tested : (limits left : Left) (result : Option Refusal) → id ≡ next → limits ≡ limits_of numbers account r.declared → Some left ≡ option_map (left_after limits) (sent_back (sent_in (part_at b.store place).uploads) r.segments)
      → result ≡ first_that_holds (final_tests numbers (part_at b.store place) r left) → result ≡ restore_refusal b.settings.numbers b.charged part r
  tested limits left result same limited is answer = by (sent_back (sent_in part.uploads) r.segments) refl (found_is limits (Some left) is) ∙ sym (by_segments same) where
    by : (found : Option (List (ℕ × List ℕ))) → sent_back (sent_in part.uploads) r.segments ≡ found → Some left ≡ option_map (left_after limits) found → result ≡ refused_with found
    by None had never = absurd (cc)
    by (Some sent) had found =
        let form : HasSegments Final r.id r.segments = subst (λ (kind : Kind). HasSegments kind r.id r.segments) s.kind s.form.segments in
        let fresh : part.next ≤ r.id = (let one : part.next ≡ r.id = sym next_is ∙ sym same ∙ s.id_read in omega (arith, one)) in
        let paid = s.kept.lawful.charges t (opening_part 0) (part-within b t there) in
        let one : left ≡ left_after limits sent = (cc) in
        let its : left ≡ left_with (limits_of b.settings.numbers (account_in b.settings.numbers part b.charged) r.declared) (sent_len sent) (brought_in b.settings.numbers.block_size r.segments) =
        one ∙ ap (λ (size : ℕ). left_with limits (sent_len sent) (brought_in size r.segments)) s.kept.size
        ∙ ap (λ (limits : Left). left_with limits (sent_len sent) (brought_in b.settings.numbers.block_size r.segments)) (limited ∙ ap₂ (λ (n : Numbers) (a : Account). limits_of n a r.declared) s.numbers_read account_is) in
        answer ∙ ap₂ (λ (n : Numbers) (part : TenantBook). first_that_holds (final_tests n part r left)) s.numbers_read part_is
        ∙ ap (λ (left : Left). first_that_holds (final_tests b.settings.numbers part r left)) its
        ∙ tests-final b.settings.numbers b.charged part r sent sound s.kind form fresh had paid s.kept.lawful.last

-- what was found of the segments that were read
its : (b : StoredBook) (place : ℕ) (limits : Left) (left : Option Left) (segments own : List RestoredSegment) → segments ≡ own
    → left ≡ option_map (λ (sent : List (ℕ × List ℕ)). left_with limits (sent_len sent) (brought_in b.store.pool.block_size segments)) (sent_back (sent_in (part_at b.store place).uploads) segments)
    → left ≡ option_map (λ (sent : List (ℕ × List ℕ)). left_with limits (sent_len sent) (brought_in b.store.pool.block_size own)) (sent_back (sent_in (part_at b.store place).uploads) own)
its b place limits left segments own same is =
    subst (λ (l : List RestoredSegment). left ≡ option_map (λ (sent : List (ℕ × List ℕ)). left_with limits (sent_len sent) (brought_in b.store.pool.block_size l)) (sent_back (sent_in (part_at b.store place).uploads) l)) same is

pub returns-then-upload-next : goal.returns-then-upload-next
returns-then-upload-next c =
    let s : IsRead (the_view c.self.inside) c.args.self.now c.args.tenant c.from-place.result c.numbers-numbers.result.now c.account-account.result c.args.upload.now c.upload.inside.id c.next.result =
    record { kept = c.self.invariant; is = c.self.view_is; tenant = c.requires.tenant_there; kind = c.requires.kind; form = c.requires.form; at = c.from-place.ensures; numbers_read = c.numbers-numbers.ensures.value; account_read = c.account-account.ensures; id_read = ap (λ (u : RestoredUpload). u.id) c.upload.view_is; next_read = c.next.ensures } in
    told s (Some Field) (other s c.if-upload-next.true)

pub returns-in-Some : goal.returns-in-Some
returns-in-Some c =
    let b = the_view c.self.inside in
    let s : IsRead b c.args.self.now c.args.tenant c.from-place.result c.numbers-numbers.result.now c.account-account.result c.args.upload.now c.upload.inside.id c.next.result =
    record { kept = c.self.invariant; is = c.self.view_is; tenant = c.requires.tenant_there; kind = c.requires.kind; form = c.requires.form; at = c.from-place.ensures; numbers_read = c.numbers-numbers.ensures.value; account_read = c.account-account.ensures; id_read = ap (λ (u : RestoredUpload). u.id) c.upload.view_is; next_read = c.next.ensures } in
    told s c.refusal_within.result
    (tested s c.limits_of-limits.result c.in-Some.left c.refusal_within.result c.if-upload-next.false
    (c.limits_of-limits.ensures ∙ ap (λ (u : RestoredUpload). limits_of c.numbers-numbers.result.now c.account-account.result u.declared) c.upload.view_is)
    (sym c.in-Some.is ∙ its b c.from-place.result c.limits_of-limits.result c.left.result c.upload.inside.segments.now c.args.upload.now.segments (ap (λ (u : RestoredUpload). u.segments) c.upload.view_is) c.left.ensures)
    c.refusal_within.ensures)

pub returns-in-None : goal.returns-in-None
returns-in-None c =
    let b = the_view c.self.inside in
    let s : IsRead b c.args.self.now c.args.tenant c.from-place.result c.numbers-numbers.result.now c.account-account.result c.args.upload.now c.upload.inside.id c.next.result =
    record { kept = c.self.invariant; is = c.self.view_is; tenant = c.requires.tenant_there; kind = c.requires.kind; form = c.requires.form; at = c.from-place.ensures; numbers_read = c.numbers-numbers.ensures.value; account_read = c.account-account.ensures; id_read = ap (λ (u : RestoredUpload). u.id) c.upload.view_is; next_read = c.next.ensures } in
    told s (Some Part)
    (lacks s c.limits_of-limits.result c.if-upload-next.false
    (sym c.in-None.is ∙ its b c.from-place.result c.limits_of-limits.result c.left.result c.upload.inside.segments.now c.args.upload.now.segments (ap (λ (u : RestoredUpload). u.segments) c.upload.view_is) c.left.ensures))
