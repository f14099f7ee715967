-- Tenants do not disturb each other: what a request of one gets as its reply, and what is then kept for it, rests on its
-- own part of the book.
use Rattle.std.specs.Prelude.{◌≡◌, ℕ, true, false, List, [], ◌∷◌, length, map, Option, option_map, option_and_then, slice_get, ⊤}
use Rattle.upload_book.specs.declared.settings.Numbers.{Numbers}
use Rattle.upload_book.specs.declared.settings.TenantQuota.{TenantQuota}
use Rattle.upload_book.specs.PlainBook.{PlainBook, opening_book}
use Rattle.upload_book.specs.Settings.{Settings, tenant_place}
use Rattle.upload_book.specs.Sweep.{book_after_sweep, part_after_sweep}
use Rattle.tus_steps.specs.declared.reply.Reply.{Reply}
use Rattle.tus_steps.specs.History.{Event, IsHistory, exchanges_of, lacks_shared, is_of, next_after, next_of, own_events, part_of, replies_to}
use Rattle.tus_steps.specs.Request.{Request}
use Rattle.tus_steps.specs.Step.{IsStep}

-- the book has a part for each tenant of its settings
abbrev pub HasEachPart : PlainBook → Type 0
HasEachPart b = length b.tenants ≡ length b.settings.tenants

-- two books are alike to a tenant: they have the same numbers in their settings, and the same part of it
pub record AreAlike (tenant : List ℕ) (b other : PlainBook) : Type 0 where
  pub numbers : b.settings.numbers ≡ other.settings.numbers
  pub part : part_of b tenant ≡ part_of other tenant
  pub each : HasEachPart b
  pub other_each : HasEachPart other

-- the request is not refused for what all tenants share, where the tenant's next upload would get this id
abbrev pub IsUnhindered : Numbers → ℕ → Request × Reply → Type 0
IsUnhindered n next exchange = lacks_shared n next exchange.0 exchange.1 ≡ false

-- the same of a request at a book
abbrev pub IsUnhinderedAt : PlainBook → List ℕ → Request × Reply → Type 0
IsUnhinderedAt b tenant exchange = IsUnhindered b.settings.numbers (next_of b tenant) exchange

-- What one step sees of a tenant, and leaves of it. On two books that are alike to a tenant, a request of it gets the
-- same reply at the same moment, and they are alike to it afterwards; and the replies tell which id is the tenant's
-- next. A request that is not its own leaves its part. A sweep leaves of its part what that part and the moment say.
pub record StepsSeeOneTenant : Type 0 where
  pub own :
      (tenant : List ℕ) (b other : PlainBook) (r : Request) (now : ℕ) (reply also : Reply) (after left : PlainBook)
      → AreAlike tenant b other → is_of tenant r ≡ true → IsStep b r now reply after → IsStep other r now also left
      → IsUnhinderedAt b tenant (r, reply) → IsUnhinderedAt other tenant (r, also)
      → (reply ≡ also) × AreAlike tenant after left
  pub next :
      (tenant : List ℕ) (b : PlainBook) (r : Request) (now : ℕ) (reply : Reply) (after : PlainBook)
      → HasEachPart b → is_of tenant r ≡ true → IsStep b r now reply after
      → next_of after tenant ≡ next_after (next_of b tenant) reply
  pub others :
      (tenant : List ℕ) (b : PlainBook) (r : Request) (now : ℕ) (reply : Reply) (after : PlainBook)
      → is_of tenant r ≡ false → IsStep b r now reply after
      → part_of after tenant ≡ part_of b tenant
  pub swept :
      (tenant : List ℕ) (b : PlainBook) (now : ℕ)
      → part_of (book_after_sweep b now) tenant ≡ option_map (part_after_sweep now) (part_of b tenant)

-- None of a tenant's requests is refused for what all tenants share. Its next upload gets this id before the first of
-- them, and the one that each reply tells after it.
abbrev pub AllUnhindered : Numbers → ℕ → List (Request × Reply) → Type 0
AllUnhindered n next [] = ⊤
AllUnhindered n next (exchange ∷ exchanges) =
    IsUnhindered n next exchange × AllUnhindered n (next_after next exchange.1) exchanges

-- the same of a tenant's requests among events from an opening book on, where its first upload gets the id 1
abbrev pub AreUnhindered : Settings → List ℕ → List Event → List Reply → Type 0
AreUnhindered s tenant events replies = AllUnhindered s.numbers 1 (exchanges_of tenant events replies)

-- Leave out all requests of other tenants: the replies to a tenant's requests stay the same, unless one of them is
-- refused for what all tenants share.
abbrev pub OwnEvents : Type 0
OwnEvents =
    (s : Settings) (tenant : List ℕ) (events : List Event) (replies alone : List Reply) (after left : PlainBook)
    → IsHistory (opening_book s) events replies after
    → IsHistory (opening_book s) (own_events tenant events) alone left
    → AreUnhindered s tenant events replies → AreUnhindered s tenant (own_events tenant events) alone
    → replies_to tenant events replies ≡ alone

-- the quota of the tenant of a name, if there is one
abbrev pub quota_of : Settings → List ℕ → Option ℕ
quota_of s tenant = option_and_then (slice_get (map {A = TenantQuota} {B = ℕ} (λ t. t.quota) s.tenants)) (tenant_place s tenant)

-- Put other tenants with other quotas and other requests around a tenant: the replies to its requests stay the same,
-- unless one of them is refused for what all tenants share.
abbrev pub OtherNeighbours : Type 0
OtherNeighbours =
    (s other : Settings) (tenant : List ℕ) (events others : List Event) (replies also : List Reply) (after left : PlainBook)
    → s.numbers ≡ other.numbers → quota_of s tenant ≡ quota_of other tenant
    → IsHistory (opening_book s) events replies after → IsHistory (opening_book other) others also left
    → own_events tenant events ≡ own_events tenant others
    → AreUnhindered s tenant events replies → AreUnhindered other tenant others also
    → replies_to tenant events replies ≡ replies_to tenant others also
