-- What happens at a server, one event after another, and what of it is one tenant's own.
use Rattle.std.specs.Prelude.{◌≡◌, ℕ, ◌+◌, Bool, true, false, ◌||◌, nat_le, List, [], ◌∷◌, filter, map, Option, option_map, bytes_eq, if◌then◌else◌}
use Rattle.std.specs.Option.{option_map_or}
use Rattle.upload_book.specs.declared.refusal.Refusal.TheVariants as refusal
use Rattle.upload_book.specs.declared.settings.Numbers.{Numbers}
use Rattle.upload_book.specs.PlainBook.{PlainBook, tenant_book}
use Rattle.upload_book.specs.Settings.{tenant_place}
use Rattle.upload_book.specs.Sweep.{book_after_sweep}
use Rattle.upload_book.specs.TenantBook.{TenantBook}
use Rattle.tus_steps.specs.declared.reply.Reply.{Reply}
use Rattle.tus_steps.specs.declared.reply.Reply.TheVariants.{Created, Refused}
use Rattle.tus_steps.specs.Method.{is_patch}
use Rattle.tus_steps.specs.Request.{Request}
use Rattle.tus_steps.specs.Route.{tenant_name}
use Rattle.tus_steps.specs.Step.{IsStep}

-- an event: a request, or a sweep of all tenants, each at its moment
pub data Event : Type 0 where
  request : Request → ℕ → Event
  sweep : ℕ → Event

-- requests at their moments, as events
abbrev pub requests_at : List (Request × ℕ) → List Event
requests_at turns = map {A = Request × ℕ} {B = Event} (λ turn. request turn.0 turn.1) turns

-- The events happen to a book, one after another. The requests get these replies, one each and in their order, and the
-- book is the last one in the end.
abbrev pub IsHistory : PlainBook → List Event → List Reply → PlainBook → Type 0
IsHistory b [] [] after = after ≡ b
IsHistory b [] (reply ∷ replies) after = ⊥
IsHistory b (request r now ∷ events) [] after = ⊥
IsHistory b (request r now ∷ events) (reply ∷ replies) after =
    (middle : PlainBook) × IsStep b r now reply middle × IsHistory middle events replies after
IsHistory b (sweep now ∷ events) replies after = IsHistory (book_after_sweep b now) events replies after

-- the request is the tenant's: its path names it
abbrev pub is_of : List ℕ → Request → Bool
is_of tenant r = option_map_or (λ name. bytes_eq name tenant) (tenant_name r.path) false

-- the event is the tenant's own: a request of it, or a sweep
abbrev pub is_own : List ℕ → Event → Bool
is_own tenant (request r now) = is_of tenant r
is_own tenant (sweep now) = true

-- a tenant's own events: its requests, and all sweeps
abbrev pub own_events : List ℕ → List Event → List Event
own_events tenant events = filter (is_own tenant) events

-- a tenant's requests, each with its reply, of the replies to all
abbrev pub exchanges_of : List ℕ → List Event → List Reply → List (Request × Reply)
exchanges_of tenant (request r now ∷ events) (reply ∷ replies) =
    if is_of tenant r then (r, reply) ∷ exchanges_of tenant events replies else exchanges_of tenant events replies
exchanges_of tenant (sweep now ∷ events) replies = exchanges_of tenant events replies
exchanges_of tenant _ _ = []

-- the replies to a tenant's requests
abbrev pub replies_to : List ℕ → List Event → List Reply → List Reply
replies_to tenant events replies = map {A = Request × Reply} {B = Reply} (λ exchange. exchange.1) (exchanges_of tenant events replies)

-- The request is refused for what all tenants share, by the numbers of the settings and the id that the tenant's next
-- upload would get: for memory, or for the blocks that they may be charged in all. A PATCH is refused as spent for these
-- alone. A creation may be so for the tenant's own ids too; but then it has none left, and this is no such refusal.
abbrev pub lacks_shared : Numbers → ℕ → Request → Reply → Bool
lacks_shared n next r (Refused refusal.Memory head at expires) = true
lacks_shared n next r (Refused refusal.Spent head at expires) = is_patch r.method || nat_le next n.last_id
lacks_shared n next r _ = false

-- the part of the tenant of a name, if there is one
abbrev pub part_of : PlainBook → List ℕ → Option TenantBook
part_of b tenant = option_map (tenant_book b) (tenant_place b.settings tenant)

-- the id that the tenant's next upload gets: 1 where there is no such tenant, which never gets one
abbrev pub next_of : PlainBook → List ℕ → ℕ
next_of b tenant = option_map_or (λ (part : TenantBook). part.next) (part_of b tenant) 1

-- the same after a reply to a request of the tenant: a creation tells its id, and the next one follows it
abbrev pub next_after : ℕ → Reply → ℕ
next_after next (Created tenant id offset expires) = id + 1
next_after next _ = next
