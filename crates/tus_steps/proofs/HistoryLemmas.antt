-- What happens to a server, event after event, as far as one tenant sees it.
use Rattle.std.proofs.Common.{◌≡◌, ℕ, ◌+◌, ◌<◌, true, false, List, [], ◌∷◌, ◌++◌, length, map, get_or, take, Option, Some, None, inl, inr, refl, sym, ap, ◌∙◌, subst}
use Rattle.std.specs.List.{slice_get}
use Rattle.std.specs.Option.{option_and_then, option_map, option_map_or}
use Rattle.std.proofs.lemmas.Bool.{cases_Bool}
use Rattle.std.proofs.lemmas.List.{length-map, map_more}
use Rattle.std.proofs.lemmas.Option.{get_or_from_slice_get, slice_get-map}
use Rattle.upload_book.specs.declared.settings.Numbers.{Numbers}
use Rattle.upload_book.specs.declared.settings.TenantQuota.{TenantQuota}
use Rattle.upload_book.specs.PlainBook.{PlainBook, opening_book, tenant_book}
use Rattle.upload_book.specs.Settings.{Settings, tenant_place}
use Rattle.upload_book.specs.Sweep.{book_after_sweep, part_after_sweep}
use Rattle.upload_book.specs.TenantBook.{TenantBook, opening_part}
use Rattle.tus_steps.specs.declared.reply.Reply.{Reply}
use Rattle.tus_steps.specs.History.{Event, request, sweep, IsHistory, exchanges_of, is_of, next_after, next_of, own_events, part_of, replies_to, requests_at}
use Rattle.tus_steps.specs.Isolation.{AllUnhindered, AreAlike, IsUnhindered, IsUnhinderedAt, quota_of}
use Rattle.tus_steps.specs.Request.{Request}
use Rattle.tus_steps.specs.Step.{IsStep}
use Rattle.tus_steps.proofs.NextLemmas.{own-tells, swept-next}
use Rattle.tus_steps.proofs.OwnLemmas.{Leaves, others-step, own-step}
use Rattle.tus_steps.proofs.PlaceLemmas.{part_of-swept, place-at}

-- one more request at the end
pub history-next : (b : PlainBook) (events : List Event) (replies : List Reply) (middle : PlainBook) (r : Request) (now : ℕ) (told : Reply) (after : PlainBook) → IsHistory b events replies middle → IsStep middle r now told after → IsHistory b (events ++ request r now ∷ []) (replies ++ told ∷ []) after
history-next b [] [] middle r now told after is step = (after, subst (λ (b : PlainBook). IsStep b r now told after) is step, refl)
history-next b [] (t ∷ replies) middle r now told after is step = absurd is
history-next b (request q at ∷ events) [] middle r now told after is step = absurd is
history-next b (request q at ∷ events) (t ∷ replies) middle r now told after is step =
    (is.0, is.1, history-next is.0 events replies middle r now told after is.2 step)
history-next b (sweep at ∷ events) replies middle r now told after is step =
    history-next (book_after_sweep b at) events replies middle r now told after is step

-- one more of the requests in a list
pub history-turn : (b : PlainBook) (turns : List (Request × ℕ)) (i : ℕ) (turn : Request × ℕ) (replies : List Reply) (middle : PlainBook) (told : Reply) (after : PlainBook) (more : List Reply) → i < length turns → turn ≡ get_or turns i turn → more ≡ replies ++ told ∷ []
    → IsHistory b (requests_at (take i turns)) replies middle → IsStep middle turn.0 turn.1 told after → IsHistory b (requests_at (take (i + 1) turns)) more after
history-turn b turns i turn replies middle told after more within is added so_far step =
    let next = history-next b (requests_at (take i turns)) replies middle turn.0 turn.1 told after so_far step in
    let events : requests_at (take (i + 1) turns) ≡ requests_at (take i turns) ++ request turn.0 turn.1 ∷ [] =
    map_more (λ (t : Request × ℕ). request t.0 t.1) turns i turn within ∙ ap (λ (t : Request × ℕ). requests_at (take i turns) ++ request t.0 t.1 ∷ []) (sym is) in
    rw (events, added) next

-- the first request of what happens
record First (b : PlainBook) (r : Request) (now : ℕ) (events : List Event) (replies : List Reply) (after : PlainBook) : Type 0 where
  told : Reply
  rest : List Reply
  middle : PlainBook
  are : replies ≡ told ∷ rest
  step : IsStep b r now told middle
  later : IsHistory middle events rest after

first-request : (b : PlainBook) (r : Request) (now : ℕ) (events : List Event) (replies : List Reply) (after : PlainBook) → IsHistory b (request r now ∷ events) replies after → First b r now events replies after
first-request b r now events [] after is = absurd is
first-request b r now events (told ∷ replies) after is =
    record { told = told; rest = replies; middle = is.0; are = refl; step = is.1; later = is.2 }

-- two books stay alike to a tenant while one of them serves another
alike-others : (tenant : List ℕ) (b other after : PlainBook) → AreAlike tenant b other → Leaves tenant other after → AreAlike tenant b after
alike-others tenant b other after alike leaves = record {
  numbers = alike.numbers ∙ ap (λ (s : Settings). s.numbers) (sym leaves.settings);
  part = alike.part ∙ sym leaves.part;
  each = alike.each;
  other_each = leaves.count ∙ alike.other_each ∙ ap (λ (s : Settings). length s.tenants) (sym leaves.settings);
}

alike-turned : (tenant : List ℕ) (b other : PlainBook) → AreAlike tenant b other → AreAlike tenant other b
alike-turned tenant b other alike =
    record { numbers = sym alike.numbers; part = sym alike.part; each = alike.other_each; other_each = alike.each }

-- and while a sweep ends what has expired on both
alike-swept : (tenant : List ℕ) (b other : PlainBook) (now : ℕ) → AreAlike tenant b other → AreAlike tenant (book_after_sweep b now) (book_after_sweep other now)
alike-swept tenant b other now alike = record {
  numbers = alike.numbers;
  part = part_of-swept tenant b now ∙ ap (option_map (part_after_sweep now)) alike.part ∙ sym (part_of-swept tenant other now);
  each = length-map b.tenants (part_after_sweep now) ∙ alike.each;
  other_each = length-map other.tenants (part_after_sweep now) ∙ alike.other_each;
}

-- no reply is the tenant's where no event is its own
no-replies : (tenant : List ℕ) (b : PlainBook) (events : List Event) (replies : List Reply) (after : PlainBook) → IsHistory b events replies after → own_events tenant events ≡ [] → replies_to tenant events replies ≡ []
no-replies tenant b [] replies after is none = refl
no-replies tenant b (request r now ∷ events) [] after is none = absurd is
no-replies tenant b (request r now ∷ events) (told ∷ replies) after is none = elim (cases_Bool (is_of tenant r)) [
  | inl own ↦ absurd (let bad = rw own at none in cc)
  | inr other ↦ rw other (no-replies tenant is.0 events replies after is.2 (rw other at none))
]
no-replies tenant b (sweep now ∷ events) replies after is none = absurd cc

-- what happens from the tenant's next own event on, on a book that is still alike
record Reaches (tenant : List ℕ) (b : PlainBook) (all : List Event) (to_all : List Reply) (after : PlainBook) (own : Event) (rest : List Event) : Type 0 where
  book : PlainBook
  later : List Event
  told : List Reply
  alike : AreAlike tenant b book
  history : IsHistory book (own ∷ later) told after
  events : own_events tenant later ≡ rest
  exchanges : exchanges_of tenant all to_all ≡ exchanges_of tenant (own ∷ later) told

reaches-here : (tenant : List ℕ) (b other : PlainBook) (event : Event) (events : List Event) (replies : List Reply) (after : PlainBook) (own : Event) (rest : List Event) → AreAlike tenant b other → IsHistory other (event ∷ events) replies after → event ∷ own_events tenant events ≡ own ∷ rest → Reaches tenant b (event ∷ events) replies after own rest
reaches-here tenant b other event events replies after own rest alike is same =
    let this : event ≡ own = cc in
    record {
      book = other;
      later = events;
      told = replies;
      alike = alike;
      history = subst (λ (e : Event). IsHistory other (e ∷ events) replies after) this is;
      events = cc;
      exchanges = ap (λ (e : Event). exchanges_of tenant (e ∷ events) replies) this;
    }

reaches-later : (tenant : List ℕ) (b : PlainBook) (r : Request) (now : ℕ) (told : Reply) (events : List Event) (replies : List Reply) (after : PlainBook) (own : Event) (rest : List Event) → is_of tenant r ≡ false → Reaches tenant b events replies after own rest → Reaches tenant b (request r now ∷ events) (told ∷ replies) after own rest
reaches-later tenant b r now told events replies after own rest other reaches = record {
  book = reaches.book;
  later = reaches.later;
  told = reaches.told;
  alike = reaches.alike;
  history = reaches.history;
  events = reaches.events;
  exchanges = rw other reaches.exchanges;
}

reaches : (tenant : List ℕ) (b other : PlainBook) (events : List Event) (replies : List Reply) (after : PlainBook) (own : Event) (rest : List Event) → AreAlike tenant b other → IsHistory other events replies after → own_events tenant events ≡ own ∷ rest → Reaches tenant b events replies after own rest
reaches tenant b other [] replies after own rest alike is same = absurd cc
reaches tenant b other (request r now ∷ events) [] after own rest alike is same = absurd is
reaches tenant b other (request r now ∷ events) (told ∷ replies) after own rest alike is same = elim (cases_Bool (is_of tenant r)) [
  | inl this ↦ reaches-here tenant b other (request r now) events (told ∷ replies) after own rest alike is (rw this at same)
  | inr not_own ↦
      let still = alike-others tenant b other is.0 alike (others-step tenant other r now told is.0 not_own is.1) in
      reaches-later tenant b r now told events replies after own rest not_own (reaches tenant b is.0 events replies after own rest still is.2 (rw not_own at same))
]
reaches tenant b other (sweep now ∷ events) replies after own rest alike is same =
    reaches-here tenant b other (sweep now) events replies after own rest alike is same

joined : (a b : Reply) (xs ys all : List Reply) → a ≡ b → xs ≡ ys → all ≡ b ∷ ys → a ∷ xs ≡ all
joined a b xs ys all first rest are = cc

-- the replies of exchanges
replies-alike : (xs ys : List (Request × Reply)) → xs ≡ ys → map {A = Request × Reply} {B = Reply} (λ exchange. exchange.1) xs ≡ map {A = Request × Reply} {B = Reply} (λ exchange. exchange.1) ys
replies-alike xs ys same = ap (map {A = Request × Reply} {B = Reply} (λ exchange. exchange.1)) same

-- the tenant's first request with its reply, and the later ones
first-exchange : (tenant : List ℕ) (told : List (Request × Reply)) (r : Request) (now : ℕ) (events : List Event) (replies : List Reply) (first : Reply) (rest : List Reply) → told ≡ exchanges_of tenant (request r now ∷ events) replies → replies ≡ first ∷ rest → is_of tenant r ≡ true
    → told ≡ (r, first) ∷ exchanges_of tenant events rest
first-exchange tenant told r now events replies first rest is are own = rw (is, are, own) refl

-- what leaves the tenant's part leaves its next id
left-next : (tenant : List ℕ) (b after : PlainBook) → Leaves tenant b after → next_of after tenant ≡ next_of b tenant
left-next tenant b after leaves =
    ap (λ (part : Option TenantBook). option_map_or (λ (part : TenantBook). part.next) part 1) leaves.part

-- a request is not refused at a book for what all share, by its numbers and the tenant's next id there
at-book : (tenant : List ℕ) (b : PlainBook) (n : Numbers) (next : ℕ) (exchange : Request × Reply) → b.settings.numbers ≡ n → next_of b tenant ≡ next → IsUnhindered n next exchange → IsUnhinderedAt b tenant exchange
at-book tenant b n next exchange numbers from unhindered =
    subst (λ (n : Numbers). IsUnhindered n (next_of b tenant) exchange) (sym numbers) (subst (λ (next : ℕ). IsUnhindered n next exchange) (sym from) unhindered)

-- On two books that are alike to a tenant its own events give the same replies, whatever other events there are.
pub same-replies : (tenant : List ℕ) (b other : PlainBook) (events others : List Event) (replies told : List Reply) (after left : PlainBook) → AreAlike tenant b other → IsHistory b events replies after → IsHistory other others told left → own_events tenant events ≡ own_events tenant others
    → (n : Numbers) (next : ℕ) → b.settings.numbers ≡ n → next_of b tenant ≡ next → AllUnhindered n next (exchanges_of tenant events replies) → AllUnhindered n next (exchanges_of tenant others told) → replies_to tenant events replies ≡ replies_to tenant others told
same-replies tenant b other [] others replies told after left alike is also same n next numbers from unhindered also_unhindered =
    sym (no-replies tenant other others told left also (sym same))
same-replies tenant b other (request r now ∷ events) others [] told after left alike is also same n next numbers from unhindered also_unhindered = absurd is
same-replies tenant b other (request r now ∷ events) others (t ∷ replies) told after left alike is also same n next numbers from unhindered also_unhindered = elim (cases_Bool (is_of tenant r)) [
  | inl own ↦
      let reached = reaches tenant b other others told left (request r now) (own_events tenant events) alike also (sym (rw own at same)) in
      let first = first-request reached.book r now reached.later reached.told left reached.history in
      let are = first-exchange tenant (exchanges_of tenant others told) r now reached.later reached.told first.told first.rest reached.exchanges first.are own in
      let here = rw own at unhindered in
      let there = rw are at also_unhindered in
      let tells = own-tells tenant b r now t is.0 alike.each own is.1 in
      let step = own-step tenant b reached.book r now t first.told is.0 first.middle reached.alike own is.1 first.step (at-book tenant b n next (r, t) numbers from here.0) (at-book tenant b n next (r, first.told) numbers from there.0) in
      let rest = same-replies tenant is.0 first.middle events reached.later replies first.rest after left step.alike is.2 first.later (sym reached.events) n (next_after next t)
      (ap (λ (s : Settings). s.numbers) tells.settings ∙ numbers) (tells.next ∙ ap (λ (k : ℕ). next_after k t) from) here.1 (rw step.told there.1) in
      rw own (joined t first.told (replies_to tenant events replies) (replies_to tenant reached.later first.rest) (replies_to tenant others told) step.told rest (replies-alike _ _ are))
  | inr not_own ↦
      let leaves = others-step tenant b r now t is.0 not_own is.1 in
      let still = alike-turned tenant other is.0 (alike-others tenant other b is.0 (alike-turned tenant b other alike) leaves) in
      rw not_own (same-replies tenant is.0 other events others replies told after left still is.2 also (rw not_own at same) n next
      (ap (λ (s : Settings). s.numbers) leaves.settings ∙ numbers) (left-next tenant b is.0 leaves ∙ from) (rw not_own at unhindered) also_unhindered)
]
same-replies tenant b other (sweep now ∷ events) others replies told after left alike is also same n next numbers from unhindered also_unhindered =
    let reached = reaches tenant b other others told left (sweep now) (own_events tenant events) alike also (sym same) in
    let swept = alike-swept tenant b reached.book now reached.alike in
    let rest = same-replies tenant (book_after_sweep b now) (book_after_sweep reached.book now) events reached.later replies reached.told after left swept is reached.history (sym reached.events) n next numbers (swept-next tenant b now ∙ from) unhindered (rw reached.exchanges at also_unhindered) in
    rest ∙ sym (replies-alike _ _ reached.exchanges)

-- a tenant's part at the start is that of its quota
opening-part-at : (s : Settings) (tenant : List ℕ) (place : Option ℕ) → tenant_place s tenant ≡ place → option_map (tenant_book (opening_book s)) place ≡ option_map opening_part (option_and_then (slice_get (map {A = TenantQuota} {B = ℕ} (λ t. t.quota) s.tenants)) place)
opening-part-at s tenant None is = refl
opening-part-at s tenant (Some t) is =
    let there = place-at s tenant t is in
    let part = slice_get-map {A = TenantQuota} {B = TenantBook} (λ t. opening_part t.quota) s.tenants t ∙ ap (option_map (λ (t : TenantQuota). opening_part t.quota)) there.there in
    let quota = slice_get-map {A = TenantQuota} {B = ℕ} (λ t. t.quota) s.tenants t ∙ ap (option_map (λ (t : TenantQuota). t.quota)) there.there in
    rw quota (ap Some (get_or_from_slice_get _ t _ (opening_part 0) part))

pub opening-part : (s : Settings) (tenant : List ℕ) → part_of (opening_book s) tenant ≡ option_map opening_part (quota_of s tenant)
opening-part s tenant = opening-part-at s tenant (tenant_place s tenant) refl

pub opening-alike : (s other : Settings) (tenant : List ℕ) → s.numbers ≡ other.numbers → quota_of s tenant ≡ quota_of other tenant → AreAlike tenant (opening_book s) (opening_book other)
opening-alike s other tenant numbers quota = record {
  numbers = numbers;
  part = opening-part s tenant ∙ ap (option_map opening_part) quota ∙ sym (opening-part other tenant);
  each = length-map s.tenants (λ (t : TenantQuota). opening_part t.quota);
  other_each = length-map other.tenants (λ (t : TenantQuota). opening_part t.quota);
}

-- a tenant's own events are all its own
pub own-twice : (tenant : List ℕ) (events : List Event) → own_events tenant (own_events tenant events) ≡ own_events tenant events
own-twice tenant [] = refl
own-twice tenant (request r now ∷ events) = elim (cases_Bool (is_of tenant r)) [
  | inl own ↦ rw (own, own) (ap (λ (es : List Event). request r now ∷ es) (own-twice tenant events))
  | inr other ↦ rw other (own-twice tenant events)
]
own-twice tenant (sweep now ∷ events) = ap (λ (es : List Event). sweep now ∷ es) (own-twice tenant events)

-- and so are the replies to them
pub own-replies : (tenant : List ℕ) (b : PlainBook) (events : List Event) (replies : List Reply) (after : PlainBook) → IsHistory b (own_events tenant events) replies after → replies_to tenant (own_events tenant events) replies ≡ replies
own-replies tenant b [] [] after is = refl
own-replies tenant b [] (told ∷ replies) after is = absurd is
own-replies tenant b (request r now ∷ events) replies after is = elim (cases_Bool (is_of tenant r)) [
  | inl own ↦
      let first = first-request b r now (own_events tenant events) replies after (rw own at is) in
      rw (own, first.are, own) (ap (λ (rest : List Reply). first.told ∷ rest) (own-replies tenant first.middle events first.rest after first.later))
  | inr other ↦ rw other (own-replies tenant b events replies after (rw other at is))
]
own-replies tenant b (sweep now ∷ events) replies after is = own-replies tenant (book_after_sweep b now) events replies after is
