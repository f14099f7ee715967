-- Within the quotas there are blocks, and within the totals there are numbers.
use Rattle.std.proofs.Common.{◌≡◌, ℕ, zero, suc, ◌+◌, ◌-◌, ◌<◌, ◌≤◌, List, [], ◌∷◌, length, get_or, sym, ap, ◌∙◌, arith}
use Rattle.std.specs.List.{All, sum, sum_by}
use Rattle.std.proofs.lemmas.List.Elements.{All-head, All-tail}
use Rattle.std.proofs.lemmas.List.Sums.{get_or-le-sum_by, sum_by-cons, sum-map}
use Rattle.block_bodies.specs.Bodies.{Chain, HasRoom}
use Rattle.block_pool.specs.Blocks.{Blocks}
use Rattle.upload_book.specs.Charge.{charge_in}
use Rattle.upload_book.specs.declared.settings.TenantQuota.{TenantQuota}
use Rattle.upload_book.specs.Lawful.{IsLawful}
use Rattle.upload_book.specs.PlainBook.{PlainBook, tenant_book}
use Rattle.upload_book.specs.TenantBook.{TenantBook, opening_part}
use Rattle.upload_book.specs.Terminate.{given_back}
use Rattle.upload_book.proofs.Charge.PriceLemmas.{blocks_for-more}
use Rattle.upload_book.proofs.Lawful.SettingsLemmas.{quotas-within}

-- where there is room for more bytes there is for fewer
pub fewer_room : (p : Blocks) (x : Chain) (few many : ℕ) → few ≤ many → HasRoom p x many → HasRoom p x few
fewer_room p x few many less room =
    let blocks = blocks_for-more p.block_size (x.len + few) (x.len + many) (omega (arith, less)) in
    record { listed = omega (arith, blocks, room.listed); free = omega (arith, blocks, room.free) }

-- terms that are no more have a sum that is no more
pub sum_by-each_le : {X : Type 0} (f g : X → ℕ) (xs : List X) → All (λ x. f x ≤ g x) xs → sum_by f xs ≤ sum_by g xs
sum_by-each_le f g [] less = omega arith
sum_by-each_le f g (x ∷ xs) less =
    omega (arith, sum_by-cons f x xs, sum_by-cons g x xs, All-head (λ x. f x ≤ g x) x xs less, sum_by-each_le f g xs (All-tail (λ x. f x ≤ g x) x xs less))

-- so too where one of them may grow by so much
pub sum_by-room : {X : Type 0} (f g : X → ℕ) (xs : List X) (i : ℕ) (d : X) (added : ℕ) → i < length xs → All (λ x. f x ≤ g x) xs → f (get_or xs i d) + added ≤ g (get_or xs i d) → sum_by f xs + added ≤ sum_by g xs
sum_by-room f g [] i d added within less room = absurd (omega arith)
sum_by-room f g (x ∷ xs) zero d added within less room =
    omega (arith, sum_by-cons f x xs, sum_by-cons g x xs, room, sum_by-each_le f g xs (All-tail (λ x. f x ≤ g x) x xs less))
sum_by-room f g (x ∷ xs) (suc i) d added within less room =
    omega (arith, sum_by-cons f x xs, sum_by-cons g x xs, All-head (λ x. f x ≤ g x) x xs less, sum_by-room f g xs i d added (omega arith) (All-tail (λ x. f x ≤ g x) x xs less) room)

-- the quotas of a lawful book are within its blocks
pub quotas-of_book : (b : PlainBook) → IsLawful b → sum_by (λ part. part.quota) b.tenants ≤ b.settings.numbers.blocks
quotas-of_book b lawful =
    let here : sum_by (λ (part : TenantBook). part.quota) b.tenants ≡ sum_by (λ (t : TenantQuota). t.quota) b.settings.tenants =
    sym (sum-map (λ (part : TenantBook). part.quota) b.tenants) ∙ ap sum lawful.quotas ∙ sum-map (λ (t : TenantQuota). t.quota) b.settings.tenants in
    omega (arith, here, quotas-within b.settings lawful.settings)

-- what is within a tenant's quota is within the blocks, beside what all pay
pub room-within : (b : PlainBook) (t added : ℕ) → IsLawful b → t < length b.tenants → charge_in b.settings.numbers (tenant_book b t) + added ≤ (tenant_book b t).quota → sum_by (charge_in b.settings.numbers) b.tenants + added ≤ b.settings.numbers.blocks
room-within b t added lawful within room =
    omega (arith, quotas-of_book b lawful, sum_by-room (charge_in b.settings.numbers) (λ part. part.quota) b.tenants t (opening_part 0) added within lawful.charges room)

-- what was released, and what a tenant may still give back, is within what was charged
pub released-within : (b : PlainBook) (t : ℕ) (later : TenantBook) → IsLawful b → t < length b.tenants → b.released + given_back b.settings.numbers (tenant_book b t) later ≤ b.charged
released-within b t later lawful within =
    less _ _ _ _ _ lawful.totals (get_or-le-sum_by (charge_in b.settings.numbers) b.tenants t (opening_part 0) within)
  where
    less : (charged released all before after : ℕ) → charged ≡ released + all → before ≤ all → released + (before - after) ≤ charged
    less charged released all before after total part = omega arith
