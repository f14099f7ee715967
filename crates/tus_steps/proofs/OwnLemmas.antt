-- One step, as far as one tenant sees it.
use Rattle.std.proofs.Common.{◌≡◌, ◌≢◌, ◌⊎◌, ℕ, ◌<◌, Bool, true, false, List, [], ◌∷◌, ◌++◌, drop, length, take, Option, Some, None, Result, Ok, Err, IfOk, inl, inr, refl, sym, ap, ◌∙◌, subst}
use Rattle.std.specs.Option.{option_map, option_map_or}
use Rattle.std.specs.Prelude.{◌||◌, nat_le, nat_lt}
use Rattle.std.specs.Str.{bytes_eq}
use Rattle.std.proofs.lemmas.Bool.{cases_Bool, false≢true, le-leb, ltb-false}
use Rattle.std.proofs.lemmas.List.{get_or-set_same, length-set}
use Rattle.std.proofs.lemmas.Slice.Eq.{bytes_eq-Decides}
use Rattle.upload_book.specs.Account.{account_in, account_with, blocks_added}
use Rattle.upload_book.specs.Append.{append_answer, append_refusal, append_tests, part_after_append}
use Rattle.upload_book.specs.Chunk.{Chunk, count_all}
use Rattle.upload_book.specs.Concat.{concat_answer, concat_refusal, part_after_concat}
use Rattle.upload_book.specs.Content.{content_answer}
use Rattle.upload_book.specs.Create.{create_answer, create_empty_answer, created_upload, creation_refusal, creation_tests, part_after_create, part_after_create_empty}
use Rattle.upload_book.specs.declared.create.Created.{Created}
use Rattle.upload_book.specs.Operation.{Operation}
use Rattle.upload_book.specs.Operation as operation
use Rattle.upload_book.specs.declared.refusal.Refusal.{Refusal}
use Rattle.upload_book.specs.declared.refusal.Refusal.TheVariants as refusal
use Rattle.upload_book.specs.declared.settings.Numbers.{Numbers}
use Rattle.upload_book.specs.FirstChunk.{FirstChunk, count_all_first, no_chunk}
use Rattle.upload_book.specs.Look.{look_answer}
use Rattle.upload_book.specs.NewUpload.{NewUpload}
use Rattle.upload_book.specs.PlainBook.{PlainBook, tenant_book, with_tenant_book}
use Rattle.upload_book.specs.Refusal.{first_that_holds, unless}
use Rattle.upload_book.specs.Settings.{Settings, tenant_place}
use Rattle.upload_book.specs.TenantBook.{TenantBook, opening_part, visible_upload}
use Rattle.upload_book.specs.Terminate.{part_after_terminate, terminate_answer}
use Rattle.upload_book.specs.Upload.{Upload, head_row_of}
use Rattle.tus_steps.specs.declared.reply.Reply.{Reply}
use Rattle.tus_steps.specs.declared.reply.Reply.TheVariants as reply
use Rattle.tus_steps.specs.History.{lacks_shared, is_of, part_of}
use Rattle.tus_steps.specs.Isolation.{AreAlike, HasEachPart, IsUnhindered, IsUnhinderedAt}
use Rattle.tus_steps.specs.Method.{is_options, is_patch}
use Rattle.tus_steps.specs.Operation.{has_version, operation_of}
use Rattle.tus_steps.specs.Reply.{append_reply, content_reply, creation_reply, deletion_reply, head_reply, refusing}
use Rattle.tus_steps.specs.Request.{Request}
use Rattle.tus_steps.specs.Route.{tenant_name}
use Rattle.tus_steps.specs.Step.{IsOperationStep, IsStep, IsStepBy}
use Rattle.tus_steps.proofs.ApartLemmas.{AppendsByPatch, asks-for, moved, moved_to, route-apart}
use Rattle.tus_steps.proofs.AskLemmas.{asks}
use Rattle.tus_steps.proofs.PlaceLemmas.{part_of-other, place-within}

-- the reply to an operation of the tenant at a place with this part, where so many blocks were charged
abbrev pub reply_on : ℕ → Numbers → TenantBook → ℕ → Request → ℕ → Operation → Reply
reply_on t n part charged r now (operation.Create u new) = creation_reply r None (create_empty_answer t new now n part)
reply_on t n part charged r now (operation.CreateWith u new first) =
    creation_reply r (Some (length first.bytes)) (create_answer t new first now charged n part)
reply_on t n part charged r now (operation.Concat u new) = creation_reply r None (concat_answer t new now n part)
reply_on t n part charged r now (operation.Look name) = head_reply (look_answer name.id now n part)
reply_on t n part charged r now (operation.Content name) = content_reply r (look_answer name.id now n part) (content_answer name.id now n part)
reply_on t n part charged r now (operation.Append name chunk) = append_reply r (append_answer name.id chunk now charged n part)
reply_on t n part charged r now (operation.Terminate name) = deletion_reply r (terminate_answer name.id now n part)

-- and the part after it
abbrev pub part_on : Numbers → TenantBook → ℕ → ℕ → Operation → TenantBook
part_on n part charged now (operation.Create u new) = part_after_create_empty new now n part
part_on n part charged now (operation.CreateWith u new first) = part_after_create new first now charged n part
part_on n part charged now (operation.Concat u new) = part_after_concat new now n part
part_on n part charged now (operation.Look name) = part
part_on n part charged now (operation.Content name) = part
part_on n part charged now (operation.Append name chunk) = part_after_append name.id chunk now charged n part
part_on n part charged now (operation.Terminate name) = part_after_terminate name.id now n part

-- a book after a step that at most changed the part at a place to this one
pub record Changes (b after : PlainBook) (t : ℕ) (part : TenantBook) : Type 0 where
  pub settings : after.settings ≡ b.settings
  pub count : length after.tenants ≡ length b.tenants
  pub own : tenant_book after t ≡ part

pub changes-with : (b after : PlainBook) (t : ℕ) (part : TenantBook) → t < length b.tenants → after ≡ with_tenant_book b t part → Changes b after t part
changes-with b after t part within is = rw is (record {
  settings = refl;
  count = length-set b.tenants t part;
  own = get_or-set_same b.tenants t part (opening_part 0) within;
})

pub changes-none : (b after : PlainBook) (t : ℕ) → after ≡ b → Changes b after t (tenant_book b t)
changes-none b after t is = rw is (record { settings = refl; count = refl; own = refl })

-- the step of an operation that is not refused for what all share
record Steps (b : PlainBook) (t : ℕ) (r : Request) (now : ℕ) (op : Operation) (reply : Reply) (left : PlainBook) : Type 0 where
  told : reply ≡ reply_on t b.settings.numbers (tenant_book b t) b.charged r now op
  after : Changes b left t (part_on b.settings.numbers (tenant_book b t) b.charged now op)

hindered : (n : Numbers) (next : ℕ) (r : Request) (told : Reply) (why : Reply) (A : Type 0) → told ≡ why → lacks_shared n next r why ≡ true → IsUnhindered n next (r, told) → A
hindered n next r told why A is shared unhindered = absurd (false≢true (sym unhindered ∙ ap (lacks_shared n next r) is ∙ shared))

steps : (b : PlainBook) (t : ℕ) (r : Request) (now : ℕ) (op : Operation) (told : Reply) (after : PlainBook) (n : Numbers) (next : ℕ) → t < length b.tenants → IsOperationStep b r now (moved t op) told after → IsUnhindered n next (r, told) → Steps b t r now op told after
steps b t r now (operation.Create u new) told after n next within (inl step) unhindered = record { told = step.0; after = changes-with b after t _ within step.1 }
steps b t r now (operation.Create u new) told after n next within (inr step) unhindered = hindered n next r told _ _ step.1 refl unhindered
steps b t r now (operation.CreateWith u new first) told after n next within (inl step) unhindered = record { told = step.0; after = changes-with b after t _ within step.1 }
steps b t r now (operation.CreateWith u new first) told after n next within (inr step) unhindered = hindered n next r told _ _ step.1 refl unhindered
steps b t r now (operation.Concat u new) told after n next within (inl step) unhindered = record { told = step.0; after = changes-with b after t _ within step.1 }
steps b t r now (operation.Concat u new) told after n next within (inr step) unhindered = hindered n next r told _ _ step.1 refl unhindered
steps b t r now (operation.Look name) told after n next within (inl step) unhindered = record { told = step.0; after = changes-none b after t step.1 }
steps b t r now (operation.Look name) told after n next within (inr step) unhindered = absurd step.0
steps b t r now (operation.Content name) told after n next within (inl step) unhindered = record { told = step.0; after = changes-none b after t step.1 }
steps b t r now (operation.Content name) told after n next within (inr step) unhindered = hindered n next r told _ _ step.1 refl unhindered
steps b t r now (operation.Append name chunk) told after n next within (inl step) unhindered = record { told = step.0; after = changes-with b after t _ within step.1 }
steps b t r now (operation.Append name chunk) told after n next within (inr step) unhindered = hindered n next r told _ _ step.1 refl unhindered
steps b t r now (operation.Terminate name) told after n next within (inl step) unhindered = record { told = step.0; after = changes-with b after t _ within step.1 }
steps b t r now (operation.Terminate name) told after n next within (inr step) unhindered = absurd step.0

-- tests that differ in the one for what is spent alone give the same, where neither finds that one
same-unspent : (first : List (Bool × Refusal)) (spent also_spent : Bool) (later : List (Bool × Refusal)) → first_that_holds (first ++ (spent, refusal.Spent) ∷ later) ≢ Some refusal.Spent → first_that_holds (first ++ (also_spent, refusal.Spent) ∷ later) ≢ Some refusal.Spent
    → first_that_holds (first ++ (spent, refusal.Spent) ∷ later) ≡ first_that_holds (first ++ (also_spent, refusal.Spent) ∷ later)
same-unspent [] true also_spent later apart also = absurd (apart refl)
same-unspent [] false true later apart also = absurd (also refl)
same-unspent [] false false later apart also = refl
same-unspent ((true, why) ∷ first) spent also_spent later apart also = refl
same-unspent ((false, why) ∷ first) spent also_spent later apart also = same-unspent first spent also_spent later apart also

-- the blocks are spent that a PATCH of an upload adds
abbrev is_spent : Numbers → TenantBook → ℕ → Upload → Chunk → Bool
is_spent n part charged u chunk =
    nat_lt n.last_total (account_with (account_in n part charged) (blocks_added n (head_row_of u).offset (count_all chunk))).charged

-- a PATCH is refused for the same reason, however many blocks were charged, unless they are spent
same-refusal : (n : Numbers) (part : TenantBook) (c d : ℕ) (u : Upload) (chunk : Chunk) → append_refusal n (account_in n part c) (head_row_of u) chunk ≢ Some refusal.Spent → append_refusal n (account_in n part d) (head_row_of u) chunk ≢ Some refusal.Spent
    → append_refusal n (account_in n part c) (head_row_of u) chunk ≡ append_refusal n (account_in n part d) (head_row_of u) chunk
same-refusal n part c d u chunk apart also =
    let tests = append_tests n (account_in n part c) (head_row_of u) chunk in
    same-unspent (take 7 tests) (is_spent n part c u chunk) (is_spent n part d u chunk) (drop 8 tests) apart also

-- ids are spent, or the blocks that the bytes of a creation add
abbrev is_spent_creating : Numbers → TenantBook → ℕ → FirstChunk → Bool
is_spent_creating n part charged first =
    nat_lt n.last_id part.next || nat_lt n.last_total (account_with (account_in n part charged) (blocks_added n 0 (count_all_first first))).charged

-- so is a creation, and it is spent however many were charged where the tenant has no id left
same-creation_refusal : (n : Numbers) (part : TenantBook) (c d : ℕ) (new : NewUpload) (first : FirstChunk) (none_left : Bool) → nat_lt n.last_id part.next ≡ none_left → (none_left ≡ false → creation_refusal n (account_in n part c) part new first ≢ Some refusal.Spent) → (none_left ≡ false → creation_refusal n (account_in n part d) part new first ≢ Some refusal.Spent)
    → creation_refusal n (account_in n part c) part new first ≡ creation_refusal n (account_in n part d) part new first
same-creation_refusal n part c d new first true is apart also = rw is refl
same-creation_refusal n part c d new first false is apart also =
    let tests = creation_tests n (account_in n part c) part new first in
    same-unspent (take 5 tests) (is_spent_creating n part c first) (is_spent_creating n part d first) (drop 6 tests) (apart refl) (also refl)

-- what is refused as spent is so for what all share
abbrev IsShared : Numbers → ℕ → Request → Type 0
IsShared n next r = (is_patch r.method || nat_le next n.last_id) ≡ true

-- of a PATCH
shared-patch : (n : Numbers) (next : ℕ) (r : Request) → is_patch r.method ≡ true → IsShared n next r
shared-patch n next r patch = rw patch refl

-- and where the tenant has an id left
shared-left : (n : Numbers) (next : ℕ) (r : Request) → nat_lt n.last_id next ≡ false → IsShared n next r
shared-left n next r left = elim (cases_Bool (is_patch r.method)) [
  | inl patch ↦ rw patch refl
  | inr other ↦ rw other (le-leb next n.last_id (ltb-false n.last_id next left))
]

-- then a request that is not refused for what all share is not spent
not-spent : (n : Numbers) (next : ℕ) (r : Request) (why : Option Refusal) (expires : Option ℕ) (told : Reply) → IsShared n next r → ((refused : Refusal) → why ≡ Some refused → told ≡ refusing r refused expires) → IsUnhindered n next (r, told) → why ≢ Some refusal.Spent
not-spent n next r why expires told shared is unhindered spent =
    hindered n next r told (refusing r refusal.Spent expires) _ (is refusal.Spent spent) shared unhindered

-- the answers to a PATCH and the parts after it, where so many and so many blocks were charged
record SameAppends (r : Request) (id : ℕ) (chunk : Chunk) (now c d : ℕ) (n : Numbers) (part : TenantBook) : Type 0 where
  told : append_reply r (append_answer id chunk now c n part) ≡ append_reply r (append_answer id chunk now d n part)
  after : part_after_append id chunk now c n part ≡ part_after_append id chunk now d n part

same-appends : (r : Request) (id : ℕ) (chunk : Chunk) (now c d : ℕ) (n : Numbers) (part : TenantBook) (seen : Result Upload Refusal) → visible_upload part id now ≡ seen → is_patch r.method ≡ true
    → IsUnhindered n part.next (r, append_reply r (append_answer id chunk now c n part)) → IsUnhindered n part.next (r, append_reply r (append_answer id chunk now d n part)) → SameAppends r id chunk now c d n part
same-appends r id chunk now c d n part (Err why) is patch one other = record { told = rw is refl; after = rw is refl }
same-appends r id chunk now c d n part (Ok u) is patch one other =
    let same = same-refusal n part c d u chunk
    (not-spent n part.next r _ u.expires _ (shared-patch n part.next r patch) (λ refused found. rw (is, found) refl) one)
    (not-spent n part.next r _ u.expires _ (shared-patch n part.next r patch) (λ refused found. rw (is, found) refl) other) in
    record { told = rw (is, same) refl; after = rw (is, same) refl }

-- a creation's reply tells the id, the offset and the expiry alone
created-told : (r : Request) (offset : Option ℕ) (refused : Option Refusal) (a b : Created) → a.name.id ≡ b.name.id → a.expires ≡ b.expires → creation_reply r offset (unless refused a) ≡ creation_reply r offset (unless refused b)
created-told r offset None a b id expires = rw (id, expires) refl
created-told r offset (Some why) a b id expires = refl

-- what an operation gives, wherever its tenant stands and whatever was charged
record Same (t u c d : ℕ) (n : Numbers) (part : TenantBook) (r : Request) (now : ℕ) (op : Operation) : Type 0 where
  told : reply_on t n part c r now op ≡ reply_on u n part d r now op
  after : part_on n part c now op ≡ part_on n part d now op

same-creations : (t u v c d : ℕ) (n : Numbers) (part : TenantBook) (r : Request) (now : ℕ) (new : NewUpload) (first : FirstChunk) → IsUnhindered n part.next (r, reply_on t n part c r now (operation.CreateWith v new first)) → IsUnhindered n part.next (r, reply_on u n part d r now (operation.CreateWith v new first)) → Same t u c d n part r now (operation.CreateWith v new first)
same-creations t u v c d n part r now new first one other =
    let same = same-creation_refusal n part c d new first (nat_lt n.last_id part.next) refl
    (λ left. not-spent n part.next r _ None _ (shared-left n part.next r left) (λ refused found. rw found refl) one)
    (λ left. not-spent n part.next r _ None _ (shared-left n part.next r left) (λ refused found. rw found refl) other) in
    let offset = Some (length first.bytes) in
    let created : Created = record { name = record { tenant = t; id = part.next }; expires = (created_upload n new first.bytes now).expires } in
    record {
      told = ap (λ why. creation_reply r offset (unless why created)) same ∙ created-told r offset (creation_refusal n (account_in n part d) part new first) created _ refl refl;
      after = rw same refl;
    }

same : (t u c d : ℕ) (n : Numbers) (part : TenantBook) (r : Request) (now : ℕ) (op : Operation) → AppendsByPatch r op → IsUnhindered n part.next (r, reply_on t n part c r now op) → IsUnhindered n part.next (r, reply_on u n part d r now op) → Same t u c d n part r now op
same t u c d n part r now (operation.Create v new) at one other =
    record { told = created-told r None (creation_refusal n (account_in n part 0) part new no_chunk) _ _ refl refl; after = refl }
same t u c d n part r now (operation.CreateWith v new first) at one other =
    same-creations t u v c d n part r now new first one other
same t u c d n part r now (operation.Concat v new) at one other =
    record { told = created-told r None (concat_refusal n part new now) _ _ refl refl; after = refl }
same t u c d n part r now (operation.Look name) at one other = record { told = refl; after = refl }
same t u c d n part r now (operation.Content name) at one other = record { told = refl; after = refl }
same t u c d n part r now (operation.Append name chunk) at one other =
    let both = same-appends r name.id chunk now c d n part (visible_upload part name.id now) refl at one other in
    record { told = both.told; after = both.after }
same t u c d n part r now (operation.Terminate name) at one other = record { told = refl; after = refl }

-- the tenant that a request of its own names
pub is_of-named : (tenant : List ℕ) (name : Option (List ℕ)) → option_map_or (λ n. bytes_eq n tenant) name false ≡ true → name ≡ Some tenant
is_of-named tenant None is = absurd (false≢true is)
is_of-named tenant (Some n) is = ap Some ((bytes_eq-Decides n tenant).0 is)

-- equal parts are none, or stand at a place each
same-parts : (f g : ℕ → TenantBook) (x y : Option ℕ) → option_map f x ≡ option_map g y → ((x ≡ None) × (y ≡ None)) ⊎ ((t : ℕ) × (u : ℕ) × (x ≡ Some t) × (y ≡ Some u) × (f t ≡ g u))
same-parts f g None None is = inl (refl, refl)
same-parts f g None (Some u) is = absurd cc
same-parts f g (Some t) None is = absurd cc
same-parts f g (Some t) (Some u) is = inr (t, u, refl, refl, cc)

-- a tenant that is not in the settings
pub refused-none : (r : Request) (name : List ℕ) → tenant_name r.path ≡ Some name → (why : Refusal) × ((s : Settings) → tenant_place s name ≡ None → operation_of s r ≡ Err why)
refused-none r name named = elim (cases_Bool (has_version r)) [
  | inl version ↦ (refusal.Tenant, λ s none. rw (version, named, none) refl)
  | inr other ↦ (refusal.Version, λ s none. rw other refl)
]

-- the same reply, and books that are alike afterwards
pub record GoAlike (tenant : List ℕ) (reply also : Reply) (after left : PlainBook) : Type 0 where
  pub told : reply ≡ also
  pub alike : AreAlike tenant after left

stay : (tenant : List ℕ) (b other after left : PlainBook) (told also x : Reply) → AreAlike tenant b other → told ≡ x → also ≡ x → after ≡ b → left ≡ other → GoAlike tenant told also after left
stay tenant b other after left told also x alike is also_is stays also_stays =
    record { told = is ∙ sym also_is; alike = rw (stays, also_stays) alike }

refused-alike : (tenant : List ℕ) (b other : PlainBook) (r : Request) (now : ℕ) (told also : Reply) (after left : PlainBook) (why : Refusal) → AreAlike tenant b other → operation_of b.settings r ≡ Err why → operation_of other.settings r ≡ Err why
    → IsStepBy b r now (operation_of b.settings r) told after → IsStepBy other r now (operation_of other.settings r) also left → GoAlike tenant told also after left
refused-alike tenant b other r now told also after left why alike is also_is step also_step =
    let one = rw is at step in
    let two = rw also_is at also_step in
    stay tenant b other after left told also (refusing r why None) alike one.0 two.0 one.1 two.1

part_of-changed : (b after : PlainBook) (tenant : List ℕ) (t : ℕ) (part : TenantBook) → Changes b after t part → tenant_place b.settings tenant ≡ Some t → part_of after tenant ≡ Some part
part_of-changed b after tenant t part changes is = rw (changes.settings, is) (ap Some changes.own)

each-changed : (b after : PlainBook) (t : ℕ) (part : TenantBook) → Changes b after t part → HasEachPart b → HasEachPart after
each-changed b after t part changes each = changes.count ∙ each ∙ ap (λ (s : Settings). length s.tenants) (sym changes.settings)

changed-alike : (tenant : List ℕ) (b other after left : PlainBook) (t u : ℕ) (part : TenantBook) → AreAlike tenant b other → tenant_place b.settings tenant ≡ Some t → tenant_place other.settings tenant ≡ Some u → Changes b after t part → Changes other left u part → AreAlike tenant after left
changed-alike tenant b other after left t u part alike is also_is changes also_changes = record {
  numbers = ap (λ (s : Settings). s.numbers) changes.settings ∙ alike.numbers ∙ ap (λ (s : Settings). s.numbers) (sym also_changes.settings);
  part = part_of-changed b after tenant t part changes is ∙ sym (part_of-changed other left tenant u part also_changes also_is);
  each = each-changed b after t part changes alike.each;
  other_each = each-changed other left u part also_changes alike.other_each;
}

-- the steps of one operation at two places, whose parts are the same
steps-alike : (tenant : List ℕ) (b other : PlainBook) (t u : ℕ) (r : Request) (now : ℕ) (op : Operation) (told also : Reply) (after left : PlainBook) → AreAlike tenant b other → tenant_place b.settings tenant ≡ Some t → tenant_place other.settings tenant ≡ Some u → tenant_book b t ≡ tenant_book other u → AppendsByPatch r op
    → Steps b t r now op told after → Steps other u r now op also left → IsUnhindered b.settings.numbers (tenant_book b t).next (r, told) → IsUnhindered b.settings.numbers (tenant_book b t).next (r, also) → GoAlike tenant told also after left
steps-alike tenant b other t u r now op told also after left alike is also_is part at one two unhindered also_unhindered =
    let n = b.settings.numbers in
    let p = tenant_book b t in
    let also_told : also ≡ reply_on u n p other.charged r now op = rw (alike.numbers, part) two.told in
    let also_after : Changes other left u (part_on n p other.charged now op) = rw (alike.numbers, part) two.after in
    let both = same t u b.charged other.charged n p r now op at (subst (λ (told : Reply). IsUnhindered n p.next (r, told)) one.told unhindered) (subst (λ (told : Reply). IsUnhindered n p.next (r, told)) also_told also_unhindered) in
    record {
      told = one.told ∙ both.told ∙ sym also_told;
      alike = changed-alike tenant b other after left t u (part_on n p other.charged now op) alike is also_is (rw (← both.after) one.after) also_after;
    }

asked-alike : (tenant : List ℕ) (b other : PlainBook) (t u : ℕ) (r : Request) (now : ℕ) (asked : Result Operation Refusal) (told also : Reply) (after left : PlainBook) → AreAlike tenant b other → tenant_place b.settings tenant ≡ Some t → tenant_place other.settings tenant ≡ Some u → tenant_book b t ≡ tenant_book other u → IfOk asked (AppendsByPatch r)
    → operation_of b.settings r ≡ moved_to t asked → operation_of other.settings r ≡ moved_to u asked
    → IsStepBy b r now (operation_of b.settings r) told after → IsStepBy other r now (operation_of other.settings r) also left → IsUnhindered b.settings.numbers (tenant_book b t).next (r, told) → IsUnhindered b.settings.numbers (tenant_book b t).next (r, also) → GoAlike tenant told also after left
asked-alike tenant b other t u r now (Err why) told also after left alike is also_is part at asks also_asks step also_step unhindered also_unhindered =
    refused-alike tenant b other r now told also after left why alike asks also_asks step also_step
asked-alike tenant b other t u r now (Ok op) told also after left alike is also_is part at asks also_asks step also_step unhindered also_unhindered =
    steps-alike tenant b other t u r now op told also after left alike is also_is part at
    (steps b t r now op told after b.settings.numbers (tenant_book b t).next (place-within b tenant t alike.each is) (rw asks at step) unhindered)
    (steps other u r now op also left b.settings.numbers (tenant_book b t).next (place-within other tenant u alike.other_each also_is) (rw also_asks at also_step) also_unhindered)
    unhindered also_unhindered

by-alike : (tenant : List ℕ) (b other : PlainBook) (r : Request) (now : ℕ) (told also : Reply) (after left : PlainBook) → AreAlike tenant b other → is_of tenant r ≡ true
    → IsStepBy b r now (operation_of b.settings r) told after → IsStepBy other r now (operation_of other.settings r) also left → IsUnhinderedAt b tenant (r, told) → IsUnhinderedAt b tenant (r, also) → GoAlike tenant told also after left
by-alike tenant b other r now told also after left alike own step also_step unhindered also_unhindered =
    let named = is_of-named tenant (tenant_name r.path) own in
    elim (same-parts (tenant_book b) (tenant_book other) (tenant_place b.settings tenant) (tenant_place other.settings tenant) alike.part) [
      | inl none ↦
          let refused = refused-none r tenant named in
          refused-alike tenant b other r now told also after left refused.0 alike (refused.1 b.settings none.0) (refused.1 other.settings none.1) step also_step
      | inr there ↦
          let asked = asks-for r tenant named in
          asked-alike tenant b other there.0 there.1 r now asked.of told also after left alike there.2 there.3 there.4 asked.at (asked.each b.settings there.0 there.2) (asked.each other.settings there.1 there.3) step also_step (rw there.2 at unhindered) (rw there.2 at also_unhindered)
    ]

-- a request of the tenant gets the same reply on both, and leaves them alike
pub own-step : (tenant : List ℕ) (b other : PlainBook) (r : Request) (now : ℕ) (told also : Reply) (after left : PlainBook) → AreAlike tenant b other → is_of tenant r ≡ true
    → IsStep b r now told after → IsStep other r now also left → IsUnhinderedAt b tenant (r, told) → IsUnhinderedAt b tenant (r, also) → GoAlike tenant told also after left
own-step tenant b other r now told also after left alike own step also_step unhindered also_unhindered = elim (cases_Bool (is_options r.method)) [
  | inl options ↦
      let one = rw options at step in
      let two = rw options at also_step in
      stay tenant b other after left told also _ alike one.0 (two.0 ∙ ap (λ (n : Numbers). reply.Options n.max_size) (sym alike.numbers)) one.1 two.1
  | inr other_method ↦ by-alike tenant b other r now told also after left alike own (rw other_method at step) (rw other_method at also_step) unhindered also_unhindered
]

-- a step leaves the book, or changes the part at one place
changes-one : (b : PlainBook) (t : ℕ) (r : Request) (now : ℕ) (op : Operation) (told : Reply) (after : PlainBook) → IsOperationStep b r now (moved t op) told after → (after ≡ b) ⊎ ((part : TenantBook) × (after ≡ with_tenant_book b t part))
changes-one b t r now (operation.Create u new) told after (inl step) = inr (_, step.1)
changes-one b t r now (operation.CreateWith u new first) told after (inl step) = inr (_, step.1)
changes-one b t r now (operation.Concat u new) told after (inl step) = inr (_, step.1)
changes-one b t r now (operation.Look name) told after (inl step) = inl step.1
changes-one b t r now (operation.Content name) told after (inl step) = inl step.1
changes-one b t r now (operation.Append name chunk) told after (inl step) = inr (_, step.1)
changes-one b t r now (operation.Terminate name) told after (inl step) = inr (_, step.1)
changes-one b t r now op told after (inr lacks) = inl lacks.2

-- what a step leaves of a tenant that it does not name
pub record Leaves (tenant : List ℕ) (b after : PlainBook) : Type 0 where
  pub settings : after.settings ≡ b.settings
  pub count : length after.tenants ≡ length b.tenants
  pub part : part_of after tenant ≡ part_of b tenant

leaves-all : (tenant : List ℕ) (b after : PlainBook) → after ≡ b → Leaves tenant b after
leaves-all tenant b after is = rw is (record { settings = refl; count = refl; part = refl })

leaves-one : (tenant name : List ℕ) (t : ℕ) (b after : PlainBook) → tenant_place b.settings name ≡ Some t → bytes_eq name tenant ≡ false → (after ≡ b) ⊎ ((part : TenantBook) × (after ≡ with_tenant_book b t part)) → Leaves tenant b after
leaves-one tenant name t b after is differ (inl stays) = leaves-all tenant b after stays
leaves-one tenant name t b after is differ (inr changed) = rw changed.1 (record {
  settings = refl;
  count = length-set b.tenants t changed.0;
  part = part_of-other b tenant name t changed.0 is differ;
})

is-moved : (t : ℕ) (of : Option Operation) (op : Operation) → option_map (moved t) of ≡ Some op → (o : Operation) × (op ≡ moved t o)
is-moved t None op is = absurd cc
is-moved t (Some o) op is = (o, cc)

by-leaves : (tenant : List ℕ) (b : PlainBook) (r : Request) (now : ℕ) (asked : Result Operation Refusal) (told : Reply) (after : PlainBook) → operation_of b.settings r ≡ asked → is_of tenant r ≡ false → IsStepBy b r now asked told after → Leaves tenant b after
by-leaves tenant b r now (Err why) told after is other step = leaves-all tenant b after step.1
by-leaves tenant b r now (Ok op) told after is other step =
    let by = asks b.settings r op is in
    let apart = route-apart r by.on by.route in
    let o = is-moved by.tenant apart.of op (sym (apart.each by.tenant) ∙ by.operation) in
    leaves-one tenant by.name by.tenant b after by.place (rw by.named at other) (changes-one b by.tenant r now o.0 told after (subst (λ (op : Operation). IsOperationStep b r now op told after) o.1 step))

-- a request of another tenant, or of none, leaves the tenant's part
pub others-step : (tenant : List ℕ) (b : PlainBook) (r : Request) (now : ℕ) (told : Reply) (after : PlainBook) → is_of tenant r ≡ false → IsStep b r now told after → Leaves tenant b after
others-step tenant b r now told after other step = elim (cases_Bool (is_options r.method)) [
  | inl options ↦ leaves-all tenant b after ((rw options at step).1)
  | inr other_method ↦ by-leaves tenant b r now (operation_of b.settings r) told after refl other (rw other_method at step)
]
