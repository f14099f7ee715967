-- The line of a change for which a book is ready, and the note that stands for it.
use Rattle.std.proofs.Common.{◌≡◌, ℕ, zero, suc, ◌+◌, ◌-◌, ◌<◌, ◌≤◌, List, [], ◌∷◌, get_or, length, map, set, Option, Some, IfSome, refl, ap, ap₂, sym, subst, ◌∙◌, arith}
use Rattle.std.specs.List.{range_with_len, sum, sum_by}
use Rattle.std.specs.Option.{option_map}
use Rattle.std.proofs.lemmas.List.{get_or-set_other, get_or-set_same}
use Rattle.std.proofs.lemmas.List.Sums.{sum-map, sum_by-cons}
use Rattle.std.proofs.Math.ListN.{get_or-map, length-map}
use Rattle.upload_book.specs.Book.{StoredBook, IsBook, plain_of}
use Rattle.upload_book.specs.Change.{CanBeMade, book_after_change, head_change, line_of}
use Rattle.upload_book.specs.Charge.{charge_in, charge_with, price, sum_below}
use Rattle.upload_book.specs.declared.board_line.Accounts.{Accounts}
use Rattle.upload_book.specs.declared.board_line.BoardLine.{BoardLine}
use Rattle.upload_book.specs.declared.board_line.HeadChange.{HeadChange}
use Rattle.upload_book.specs.declared.change.Change.{Change}
use Rattle.upload_book.specs.declared.head_note.NotedChange.{NotedChange}
use Rattle.upload_book.specs.declared.ready.Step.{Step}
use Rattle.upload_book.specs.declared.ready.ReadyPiece.{ReadyPiece}
use Rattle.upload_book.specs.declared.ready.ReadyPiece.TheVariants as piece
use Rattle.upload_book.specs.declared.ready.Step.TheVariants.{Append, Concat, Create, Restore, Sweep, Terminate}
use Rattle.upload_book.specs.declared.settings.Numbers.{Numbers}
use Rattle.upload_book.specs.declared.settings.TenantQuota.{TenantQuota}
use Rattle.upload_book.specs.HeadNotes.{change_told, line_told}
use Rattle.upload_book.specs.Heads.{Heads, accounts_of}
use Rattle.upload_book.specs.laws.Steps.{LeadsTo}
use Rattle.upload_book.specs.Lawful.{IsLawful}
use Rattle.upload_book.specs.PlainBook.{PlainBook, tenant_book, with_tenant_book}
use Rattle.upload_book.specs.Ready.{IsReadyForPiece, IsReadyForStep, piece_in, step_change}
use Rattle.upload_book.specs.snapshot.Restore.{CanBePutBack}
use Rattle.upload_book.specs.BlockStore.{part_at}
use Rattle.upload_book.specs.Sweep.{book_after_sweep, part_after_sweep, swept_blocks}
use Rattle.upload_book.specs.TenantBook.{TenantBook, opening_part}
use Rattle.upload_book.proofs.Steps.BookSteps.{part-plain}
use Rattle.upload_book.proofs.Heads.HeadsLemmas.{heads_follow}
use Rattle.upload_book.proofs.Lawful.LawfulFewer.{IsLawful-sweep}
use Rattle.upload_book.proofs.Store.PlainStoredTenants.{map-same}
use Rattle.upload_book.proofs.Charge.RoomLemmas.{quotas-of_book, sum_by-each_le}
use Rattle.upload_book.proofs.Lawful.SettingsLemmas.{blocks-within, tenants-within}
use Rattle.upload_book.proofs.Charge.SumsBelow.{sum_below-first, sum_below-none, sum_below-same, sum_by-range}
use Rattle.upload_book.proofs.Heads.Tables.{table-set}

-- the accounts once one tenant pays so much
pub accounts-with : (b : PlainBook) (t charge before : ℕ) (part : TenantBook) (charges : List ℕ) → t < length b.tenants → t < 16 → charge_in b.settings.numbers part ≡ charge → before ≡ charge_in b.settings.numbers (tenant_book b t) → charges ≡ (accounts_of b).charge
    → record { charged = b.charged + (charge - before); released = b.released + (before - charge); charge = set charges t charge } ≡ accounts_of (with_tenant_book b t part)
accounts-with b t charge before part charges there within pays paid were =
    let pay : TenantBook → ℕ = charge_in b.settings.numbers in
    let told : ℕ → List ℕ → Accounts = λ before charges. record { charged = b.charged + (charge - before); released = b.released + (before - charge); charge = set charges t charge } in
    let made : ℕ → List ℕ → Accounts = λ charge charges. record { charged = b.charged + (charge - charge_in b.settings.numbers (tenant_book b t)); released = b.released + (charge_in b.settings.numbers (tenant_book b t) - charge); charge = charges } in
    ap₂ told paid were
    ∙ ap (made charge) (table-set (λ k. charge_in b.settings.numbers (tenant_book b k)) (λ k. charge_in b.settings.numbers (tenant_book (with_tenant_book b t part) k)) t charge within
    (ap (charge_in b.settings.numbers) (get_or-set_same b.tenants t part (opening_part 0) there) ∙ pays)
    (λ k differs. ap (charge_in b.settings.numbers) (get_or-set_other b.tenants t k part (opening_part 0) differs)))
    ∙ ap (λ charge. made charge (accounts_of (with_tenant_book b t part)).charge) (sym pays)

-- a sum over a table that is longer than a list is the sum over the list, where nothing is there past its end
sum-padded : {X : Type 0} (f : X → ℕ) (xs : List X) (n : ℕ) (d : X) → length xs ≤ n → f d ≡ 0 → sum_by (λ k. f (get_or xs k d)) (range_with_len 0 n) ≡ sum_by f xs
sum-padded {X} f xs n d short none =
    sum_by-range n 0 (λ k. f (get_or xs k d)) ∙ sum_below-same n (λ b. f (get_or xs (0 + b) d)) (λ b. f (get_or xs b d)) (λ b below. ap (λ k. f (get_or xs k d)) (omega arith)) ∙ padded xs n short
  where
    padded : (xs : List X) (n : ℕ) → length xs ≤ n → sum_below n (λ k. f (get_or xs k d)) ≡ sum_by f xs
    padded [] n short = sum_below-none n (λ k. f d) (λ k below. none)
    padded (x ∷ xs) zero short = absurd (omega arith)
    padded (x ∷ xs) (suc n) short =
        omega (arith, sum_below-first n (λ k. f (get_or (x ∷ xs) k d)), padded xs n (omega arith), sum_by-cons f x xs)

-- a lawful book has the tenants of its settings,
pub tenants-settings : (b : PlainBook) → IsLawful b → length b.tenants ≡ length b.settings.tenants
tenants-settings b lawful =
    sym (length-map b.tenants (λ (part : TenantBook). part.quota)) ∙ ap (length {A = ℕ}) lawful.quotas ∙ length-map b.settings.tenants (λ (t : TenantQuota). t.quota)

-- which are few
pub tenants-few : (b : PlainBook) → IsLawful b → length b.tenants ≤ 16
tenants-few b lawful = omega (arith, tenants-settings b lawful, tenants-within b.settings lawful.settings)

-- what no tenant pays
opening-free : (n : Numbers) → charge_in n (opening_part 0) ≡ 0
opening-free n = sum_below-none 1 (price n.block_size []) (λ origin below. refl)

-- what the tenants pay after a sweep, by a table of 16
abbrev pub charges_after : PlainBook → ℕ → List ℕ
charges_after b now = (accounts_of (book_after_sweep b now)).charge

-- sums to what they pay
charges-sum : (b : PlainBook) (now : ℕ) → IsLawful b → sum (charges_after b now) ≡ sum_by (charge_in b.settings.numbers) (book_after_sweep b now).tenants
charges-sum b now lawful =
    sum-map (λ k. charge_in b.settings.numbers (tenant_book (book_after_sweep b now) k)) (range_with_len 0 16)
    ∙ sum-padded (charge_in b.settings.numbers) (book_after_sweep b now).tenants 16 (opening_part 0) (tenants-few (book_after_sweep b now) (IsLawful-sweep b now lawful)) (opening-free b.settings.numbers)

-- That is a small number,
pub swept-small : (b : PlainBook) (now : ℕ) → IsLawful b → sum (charges_after b now) ≤ 4294967295
swept-small b now lawful =
    let after : IsLawful (book_after_sweep b now) = IsLawful-sweep b now lawful in
    omega (arith, charges-sum b now lawful, sum_by-each_le (charge_in b.settings.numbers) (λ (part : TenantBook). part.quota) (book_after_sweep b now).tenants after.charges, quotas-of_book (book_after_sweep b now) after, blocks-within b.settings lawful.settings)

-- and what was charged and is not released by then
pub swept-total : (b : PlainBook) (now : ℕ) → IsLawful b → b.charged ≡ b.released + swept_blocks b now + sum (charges_after b now)
swept-total b now lawful = omega (arith, (IsLawful-sweep b now lawful).totals, charges-sum b now lawful)

-- the accounts after a sweep, by that table
pub accounts-swept : (b : PlainBook) (now total released : ℕ) (charges : List ℕ) → IsLawful b → charges ≡ charges_after b now → total ≡ sum charges → released ≡ b.charged - total → record { charged = b.charged; released = released; charge = charges } ≡ accounts_of (book_after_sweep b now)
accounts-swept b now total released charges lawful is sums back =
    let told : ℕ → List ℕ → Accounts = λ released charges. record { charged = b.charged; released = released; charge = charges } in
    let all : released ≡ b.released + swept_blocks b now = omega (arith, swept-total b now lawful, back, sums, ap sum is) in
    ap₂ told all is

-- it is what the store tells
pub charges-swept : (b : StoredBook) (now : ℕ) → IsBook b → map (λ t. charge_with b.store.pool.block_size (part_after_sweep now (part_at b.store t))) (range_with_len 0 16) ≡ charges_after (plain_of b) now
charges-swept b now kept =
    map-same (λ t. charge_with b.store.pool.block_size (part_after_sweep now (part_at b.store t))) (λ t. charge_in b.settings.numbers (tenant_book (book_after_sweep (plain_of b) now) t)) (range_with_len 0 16) (λ t there.
    ap (λ size. charge_with size (part_after_sweep now (part_at b.store t))) kept.size
    ∙ ap (λ part. charge_in b.settings.numbers (part_after_sweep now part)) (sym (part-plain b t))
    ∙ ap (charge_in b.settings.numbers) (sym (get_or-map (part_after_sweep now) (plain_of b).tenants t (opening_part 0))))

-- The line of a change that has a head, where these are the accounts after it.
pub line-is : (b : PlainBook) (change : Change) (now : ℕ) (head : HeadChange) (accounts : Accounts) → head_change b change now ≡ Some head → accounts ≡ accounts_of (book_after_change b change now) → line_of b change now ≡ Some (record { change = head; accounts = accounts })
line-is b change now head accounts is told =
    let with_head : HeadChange → BoardLine = λ head. record { change = head; accounts = accounts_of (book_after_change b change now) } in
    let with_accounts : Accounts → Option BoardLine = λ accounts. Some (record { change = head; accounts = accounts }) in
    ap (option_map with_head) is ∙ ap with_accounts (sym told)

-- A note that says what the change changes of the heads stands for that line.
pub note-told : (h : Heads) (noted : NotedChange) (head : HeadChange) (accounts : Accounts) → change_told h noted ≡ Some head → line_told h (record { change = noted; accounts = accounts }) ≡ Some (record { change = head; accounts = accounts })
note-told h noted head accounts is =
    let with_head : HeadChange → BoardLine = λ head. record { change = head; accounts = accounts } in
    ap (option_map with_head) is

-- what the book is ready to put back, it may be asked to,
can-piece : (b : StoredBook) (r : ReadyPiece) → IsLawful (plain_of b) → IsReadyForPiece b r → CanBePutBack (length (plain_of b).tenants) (piece_in r)
can-piece b (piece.Own r) lawful ready = (omega (arith, ready.there, tenants-settings (plain_of b) lawful), ready.form)
can-piece b (piece.Joined r) lawful ready = (omega (arith, ready.there, tenants-settings (plain_of b) lawful), ready.form)
can-piece b (piece.Next r) lawful ready = omega (arith, ready.there, tenants-settings (plain_of b) lawful)
can-piece b (piece.Totals r) lawful ready = tt

-- and what it is ready for, it may be asked for
can-step : (b : StoredBook) (step : Step) → IsLawful (plain_of b) → IsReadyForStep b step → CanBeMade (length (plain_of b).tenants) (step_change step)
can-step b (Create r) lawful ready = (omega (arith, ready.there, tenants-settings (plain_of b) lawful), ready.metadata, ready.concat)
can-step b (Append r) lawful ready = tt
can-step b (Concat r) lawful ready = (omega (arith, ready.there, tenants-settings (plain_of b) lawful), ready.some, ready.few, ready.metadata, ready.concat)
can-step b (Terminate r) lawful ready = tt
can-step b (Sweep r) lawful ready = tt
can-step b (Restore r) lawful ready = can-piece b r.piece lawful ready

-- so its line leads to the book after it
pub line-leads : (b : StoredBook) (step : Step) (now : ℕ) (line : BoardLine) → IsLawful (plain_of b) → IsReadyForStep b step → line_of (plain_of b) (step_change step) now ≡ Some line
    → LeadsTo (plain_of b) line (book_after_change (plain_of b) (step_change step) now)
line-leads b step now line lawful ready is =
    subst (λ found. IfSome found (λ line. LeadsTo (plain_of b) line (book_after_change (plain_of b) (step_change step) now))) is (heads_follow (plain_of b) (step_change step) now lawful (can-step b step lawful ready)).0
