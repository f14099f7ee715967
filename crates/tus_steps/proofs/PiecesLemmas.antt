-- The pieces of a PATCH, with nothing between, are its whole step.
use Rattle.std.proofs.Common.{◌≡◌, ℕ, ◌+◌, ◌-◌, ◌^◌, ◌<◌, ◌≤◌, true, false, List, [], ◌∷◌, length, min, take, drop, Option, Some, None, Result, Ok, Err, refl, inl, inr, sym, ap, ◌∙◌, subst, arith}
use Rattle.std.specs.List.{All}
use Rattle.std.specs.Option.{option_and_then, option_map}
use Rattle.std.specs.Result.{IsOk}
use Rattle.std.proofs.lemmas.List.{length-drop, length-map, length-take-le, take-append-drop}
use Rattle.std.proofs.lemmas.List.Elements.{All-head, All-tail}
use Rattle.tus_text.specs.declared.path.Path.{Path}
use Rattle.tus_text.specs.declared.path.Path.TheVariants as path
use Rattle.upload_book.specs.Append.{append_answer, part_after_append}
use Rattle.upload_book.specs.Chunk.{Chunk}
use Rattle.upload_book.specs.declared.append.Appended.{Appended}
use Rattle.upload_book.specs.declared.append.Refused.{Refused}
use Rattle.upload_book.specs.declared.head_row.Name.{Name}
use Rattle.upload_book.specs.Operation.{Operation}
use Rattle.upload_book.specs.Operation as operation
use Rattle.upload_book.specs.declared.settings.Numbers.{Numbers}
use Rattle.upload_book.specs.laws.Steps.{LastFinishes, later_part}
use Rattle.upload_book.specs.Lawful.{IsLawful}
use Rattle.upload_book.specs.laws.PiecedPatch.{first_piece}
use Rattle.upload_book.specs.PlainBook.{PlainBook, answer_of, book_after}
use Rattle.upload_book.specs.declared.refusal.Refusal.{Refusal}
use Rattle.upload_book.specs.declared.settings.TenantQuota.{TenantQuota}
use Rattle.upload_book.specs.Settings.{Settings, tenant_place}
use Rattle.upload_book.specs.TenantBook.{TenantBook}
use Rattle.upload_book.proofs.PiecesOfBookLemmas.{BookGoesOn, BookGoesOn-first}
use Rattle.tus_steps.specs.declared.method.Method.{Method}
use Rattle.tus_steps.specs.declared.method.Method.TheVariants as method
use Rattle.tus_steps.specs.declared.reply.Reply.{Reply}
use Rattle.tus_steps.specs.declared.reply.Reply.TheVariants as reply
use Rattle.tus_steps.specs.Route.{Route, Append, route, tenant_name}
use Rattle.tus_steps.specs.Field.{absent, number_in, optional_number_in}
use Rattle.tus_steps.specs.InPieces.{HaveBytes, IsPlainPatch, PieceAt, Takes, count_pieces, first_of, is_patched, is_taken, rest_of}
use Rattle.tus_steps.specs.Isolation.{HasEachPart}
use Rattle.tus_steps.specs.Method.{is_options, is_patch}
use Rattle.tus_steps.specs.Operation.{chunk_at, chunk_in, has_version, operation_of, operation_on}
use Rattle.tus_steps.specs.Reply.{append_reply}
use Rattle.tus_steps.specs.Request.{Request}
use Rattle.tus_steps.specs.Step.{IsOperationStep, IsStep, IsStepBy}
use Rattle.tus_steps.proofs.AskLemmas.{asks}
use Rattle.tus_steps.proofs.PlaceLemmas.{place-within}
use Rattle.tus_steps.proofs.StepLemmas.{step-by}

-- ---- what a PATCH asks for

-- a request with other bytes of its body
abbrev pub with_body : Request → List ℕ → ℕ → ℕ → Request
with_body r body given more = record r { body = body; given = given; more = more }

-- a PATCH that reaches the book, by its head: it is one of this upload with any bytes of its body
record Patches (s : Settings) (r : Request) : Type 0 where
  name : Name
  offset : ℕ
  told : Option ℕ
  tenant : List ℕ
  place : tenant_place s tenant ≡ Some name.tenant
  other : is_options r.method ≡ false
  appends : (body : List ℕ) (given more : ℕ) → operation_of s (with_body r body given more) ≡ Ok (operation.Append name (chunk_at (with_body r body given more) offset told None))

not_options : (m : Method) → is_patch m ≡ true → is_options m ≡ false
not_options method.Patch is = refl
not_options method.Post is = refl
not_options method.Head is = refl
not_options method.Get is = refl
not_options method.Delete is = refl
not_options method.Options is = absurd cc
not_options method.Other is = refl

route-patch : (p : Path) (m : Method) (on : Route) → is_patch m ≡ true → route p m ≡ Some on → (id : ℕ) × (on ≡ Append id)
route-patch (path.Upload tenant id) method.Patch on patch is = (id, cc)
route-patch (path.Create tenant) method.Patch on patch is = absurd cc
route-patch path.Other method.Patch on patch is = absurd cc
route-patch p method.Post on patch is = absurd cc
route-patch p method.Head on patch is = absurd cc
route-patch p method.Get on patch is = absurd cc
route-patch p method.Delete on patch is = absurd cc
route-patch p method.Options on patch is = absurd cc
route-patch p method.Other on patch is = absurd cc

pub map-Some : {A B : Type 0} (f : A → B) (found : Option A) (y : B) → option_map f found ≡ Some y → (x : A) × (found ≡ Some x)
map-Some f None y is = absurd cc
map-Some f (Some x) y is = (x, refl)

pub and_then-Some : {A B : Type 0} (f : A → Option B) (found : Option A) (y : B) → option_and_then f found ≡ Some y → (x : A) × (found ≡ Some x) × (f x ≡ Some y)
and_then-Some f None y is = absurd cc
and_then-Some f (Some x) y is = (x, refl, is)

-- what its head tells is what it asks for, with any bytes of its body
appends-any : (s : Settings) (r : Request) (tenant : List ℕ) (t id offset : ℕ) (told : Option ℕ) → has_version r ≡ true → tenant_name r.path ≡ Some tenant → tenant_place s tenant ≡ Some t
    → route r.path r.method ≡ Some (Append id) → number_in r.fields.offset ≡ Some offset → optional_number_in r.fields.length ≡ Some told → r.fields.checksum ≡ absent
    → (body : List ℕ) (given more : ℕ) → operation_of s (with_body r body given more) ≡ Ok (operation.Append (record { tenant = t; id = id }) (chunk_at (with_body r body given more) offset told None))
appends-any s r tenant t id offset told version named place on at length unchecked body given more = rw (version, named, place, on, at, length, unchecked) refl

patches : (s : Settings) (r : Request) (op : Operation) → IsPlainPatch r → operation_of s r ≡ Ok op → Patches s r
patches s r op plain is =
    let a = asks s r op is in
    let on = route-patch r.path r.method a.on plain.method a.route in
    let there : option_map (λ chunk. operation.Append (record { tenant = a.tenant; id = on.0 }) chunk) (chunk_in r) ≡ Some op = subst (λ route. operation_on r a.tenant route ≡ Some op) on.1 a.operation in
    let chunk = map-Some (λ chunk. operation.Append (record { tenant = a.tenant; id = on.0 }) chunk) (chunk_in r) op there in
    let offset = and_then-Some _ (number_in r.fields.offset) chunk.0 chunk.1 in
    let told = and_then-Some _ (optional_number_in r.fields.length) chunk.0 offset.2 in
    record {
      name = record { tenant = a.tenant; id = on.0 };
      offset = offset.0;
      told = told.0;
      tenant = a.name;
      place = a.place;
      other = not_options r.method plain.method;
      appends = appends-any s r a.name a.tenant on.0 offset.0 told.0 a.version a.named a.place (a.route ∙ ap Some on.1) offset.1 told.1 plain.unchecked;
    }

-- ---- a PATCH that is accepted

-- the bytes of its body, whichever, were accepted, and this is the book then
record Accepted (b : PlainBook) (name : Name) (chunk : Chunk) (r : Request) (now : ℕ) (reply : Reply) (after : PlainBook) : Type 0 where
  made : IsOk (answer_of b name.tenant (append_answer name.id chunk now b.charged))
  told : reply ≡ append_reply r (answer_of b name.tenant (append_answer name.id chunk now b.charged))
  leaves : after ≡ book_after b name.tenant (part_after_append name.id chunk now b.charged)

answer-Ok : (r : Request) (answer : Result Appended Refused) → is_patched (append_reply r answer) ≡ true → IsOk answer
answer-Ok r (Ok appended) is = refl
answer-Ok r (Err why) is = absurd cc

patched-Ok : (r : Request) (answer : Result Appended Refused) → IsOk answer → is_patched (append_reply r answer) ≡ true
patched-Ok r (Ok appended) is = refl
patched-Ok r (Err why) is = absurd cc

-- the reply is that to any bytes of the body
same-reply : (r : Request) (body : List ℕ) (given more : ℕ) (answer : Result Appended Refused) → append_reply (with_body r body given more) answer ≡ append_reply r answer
same-reply r body given more (Ok appended) = refl
same-reply r body given more (Err why) = refl

by-step : (b : PlainBook) (name : Name) (chunk : Chunk) (r : Request) (now : ℕ) (reply : Reply) (after : PlainBook) → IsOperationStep b r now (operation.Append name chunk) reply after → is_patched reply ≡ true → Accepted b name chunk r now reply after
by-step b name chunk r now reply after (inl step) is = record {
  made = answer-Ok r (answer_of b name.tenant (append_answer name.id chunk now b.charged)) (rw step.0 at is);
  told = step.0;
  leaves = step.1;
}
by-step b name chunk r now reply after (inr lacks) is = absurd (refused (rw lacks.1 at is))
  where
    refused : false ≡ true → ⊥
    refused same = absurd cc

accepted : (b : PlainBook) (r : Request) (patch : Patches b.settings r) (body : List ℕ) (given more now : ℕ) (reply : Reply) (after : PlainBook) → IsStep b (with_body r body given more) now reply after → is_patched reply ≡ true
    → Accepted b patch.name (chunk_at (with_body r body given more) patch.offset patch.told None) (with_body r body given more) now reply after
accepted b r patch body given more now reply after step is =
    by-step b patch.name (chunk_at (with_body r body given more) patch.offset patch.told None) (with_body r body given more) now reply after (rw (patch.other, patch.appends body given more) at step) is

-- a step that is accepted reaches the book
reaches : (b : PlainBook) (r : Request) (now : ℕ) (reply : Reply) (after : PlainBook) → IsPlainPatch r → IsStep b r now reply after → is_patched reply ≡ true → Patches b.settings r
reaches b r now reply after plain step is =
    by-result (operation_of b.settings r) refl (rw (not_options r.method plain.method) at step)
  where
    refused : false ≡ true → ⊥
    refused same = absurd cc

    by-result : (asked : Result Operation Refusal) → operation_of b.settings r ≡ asked → IsStepBy b r now asked reply after → Patches b.settings r
    by-result (Ok op) asks by = patches b.settings r op plain asks
    by-result (Err why) asks by = absurd (refused (rw by.0 at is))

-- ---- its first piece, and what is left

-- what is left of a PATCH whose piece was taken
abbrev pub patch_rest : Request → ℕ → Request
patch_rest r k = record r { body = drop k r.body; given = r.given + k }

pub rest-patch : (r : Request) (k : ℕ) (reply : Reply) → is_patched reply ≡ true → rest_of r k reply ≡ patch_rest r k
rest-patch r k (reply.Options max_size) is = absurd cc
rest-patch r k (reply.Created tenant id offset expires) is = absurd cc
rest-patch r k (reply.Head row) is = absurd cc
rest-patch r k (reply.Content bytes extent metadata) is = absurd cc
rest-patch r k (reply.Unsatisfiable len) is = absurd cc
rest-patch r k (reply.Patched offset expires) is = refl
rest-patch r k reply.Deleted is = absurd cc
rest-patch r k (reply.Refused why head at expires) is = absurd cc

-- its reply tells whether the bytes were taken
pub taken-patch : (r : Request) (reply : Reply) → IsPlainPatch r → is_taken r reply ≡ is_patched reply
taken-patch r reply plain = rw plain.method refl

-- a chunk by what a piece changes
abbrev with_part : Chunk → ℕ → List ℕ → ℕ → Chunk
with_part chunk offset bytes more = record chunk { offset = offset; bytes = bytes; more = more }

same-part : (chunk : Chunk) (bytes : List ℕ) (offset offset' more more' : ℕ) → offset ≡ offset' → more ≡ more' → with_part chunk offset bytes more ≡ with_part chunk offset' bytes more'
same-part chunk bytes offset offset' more more' is ends = rw (is, ends) refl

first-chunk : (r : Request) (k offset : ℕ) (told : Option ℕ) → chunk_at (first_of r k) offset told None ≡ first_piece (chunk_at r offset told None) (take k r.body) (drop k r.body)
first-chunk r k offset told =
    same-part (chunk_at r offset told None) (take k r.body) _ _ (r.more + (length r.body - k)) (length (drop k r.body) + r.more) refl (omega (arith, length-drop k r.body))

-- a place within a file is no greater than the greatest number
place_of-min : (place count k : ℕ) → k ≤ count → min place (2 ^ 64 - 1) + count < 2 ^ 64 → min (place + k) (2 ^ 64 - 1) ≡ min place (2 ^ 64 - 1) + k
place_of-min place count k le small = omega arith

rest-chunk : (r : Request) (k offset : ℕ) (told : Option ℕ) → k ≤ length r.body → min (offset + r.given) (2 ^ 64 - 1) + length r.body < 2 ^ 64
    → chunk_at (patch_rest r k) offset told None ≡ later_part (chunk_at r offset told None) (take k r.body) (drop k r.body)
rest-chunk r k offset told le small =
    let place : min (offset + (r.given + k)) (2 ^ 64 - 1) ≡ min (offset + r.given) (2 ^ 64 - 1) + k =
    ap (λ n. min n (2 ^ 64 - 1)) (omega arith) ∙ place_of-min (offset + r.given) (length r.body) k le small in
    same-part (chunk_at r offset told None) (drop k r.body) _ _ r.more r.more (place ∙ ap (λ n. min (offset + r.given) (2 ^ 64 - 1) + n) (sym (length-take-le k r.body le))) refl

-- what is known after the first piece
record Goes (b : PlainBook) (r : Request) (k early now : ℕ) (reply : Reply) (after : PlainBook) : Type 0 where
  middle : PlainBook
  first : Reply
  step : IsStep b (first_of r k) early first middle
  taken : is_patched first ≡ true
  lawful : IsLawful middle
  numbers : middle.settings.numbers ≡ b.settings.numbers
  rest : IsStep middle (patch_rest r k) now reply after
  only : (c : PlainBook) (other : Reply) → IsStep b (first_of r k) early other c → is_patched other ≡ true → c ≡ middle

goes : (b : PlainBook) (r : Request) (k early now : ℕ) (reply : Reply) (after : PlainBook) → IsLawful b → IsPlainPatch r → k ≤ length r.body → early ≤ now
    → LastFinishes b.settings.numbers (length (take k r.body)) (length r.body) → IsStep b r now reply after → is_patched reply ≡ true → Goes b r k early now reply after
goes b r k early now reply after lawful plain le earlier finishes step is = record {
  middle = middle;
  first = append_reply (first_of r k) (answer_of b name.tenant (append_answer name.id one early b.charged));
  step =
      step-by b (first_of r k) early (operation.Append name one) _ middle patch.other (patch.appends (take k r.body) r.given (r.more + (length r.body - k)) ∙ ap (λ chunk. Ok (operation.Append name chunk)) (first-chunk r k patch.offset patch.told))
      (inl (refl, refl));
  taken = patched-Ok (first_of r k) (answer_of b name.tenant (append_answer name.id one early b.charged)) on.accepted;
  lawful = on.lawful;
  numbers = refl;
  rest =
      step-by middle (patch_rest r k) now (operation.Append name two) reply after patch.other (patch.appends (drop k r.body) (r.given + k) r.more ∙ ap (λ chunk. Ok (operation.Append name chunk)) (rest-chunk r k patch.offset patch.told le on.ends))
      (inl (whole.told ∙ ap (append_reply r) (sym on.answer) ∙ sym (same-reply r (drop k r.body) (r.given + k) r.more (answer_of middle name.tenant (append_answer name.id two now middle.charged))), whole.leaves ∙ sym on.last));
  only = λ c other at taken.
      (accepted b r patch (take k r.body) r.given (r.more + (length r.body - k)) early other c at taken).leaves
      ∙ ap (λ chunk. book_after b name.tenant (part_after_append name.id chunk early b.charged)) (first-chunk r k patch.offset patch.told);
}
  where
    patch : Patches b.settings r
    patch = reaches b r now reply after plain step is

    name : Name
    name = patch.name

    chunk : Chunk
    chunk = chunk_at r patch.offset patch.told None

    whole : Accepted b name chunk r now reply after
    whole = accepted b r patch r.body r.given r.more now reply after step is

    one : Chunk
    one = first_piece chunk (take k r.body) (drop k r.body)

    two : Chunk
    two = later_part chunk (take k r.body) (drop k r.body)

    middle : PlainBook
    middle = book_after b name.tenant (part_after_append name.id one early b.charged)

    each : HasEachPart b
    each = sym (length-map b.tenants (λ (part : TenantBook). part.quota)) ∙ ap length lawful.quotas ∙ length-map b.settings.tenants (λ (t : TenantQuota). t.quota)

    within : name.tenant < length b.tenants
    within = place-within b patch.tenant name.tenant each patch.place

    on : BookGoesOn b name chunk (take k r.body) (drop k r.body) early now
    on = BookGoesOn-first b name chunk (take k r.body) (drop k r.body) early now lawful within earlier (sym (take-append-drop k r.body)) finishes whole.made

-- ---- all pieces

-- where the rest finishes what the whole does, what is left does so behind the first piece,
pub finishes-first : (n : Numbers) (k others : ℕ) (body : List ℕ) → LastFinishes n (k + others) (length body) → LastFinishes n (length (take k body)) (length body)
finishes-first n k others body (inl stay) = inl stay
finishes-first n k others body (inr some) = inr (omega (arith, some, length-take-le k body (omega (arith, some))))

-- and the rest behind the others
pub finishes-on : (n m : Numbers) (k others : ℕ) (body : List ℕ) → m ≡ n → LastFinishes n (k + others) (length body) → LastFinishes m others (length (drop k body))
finishes-on n m k others body same (inl stay) = inl (ap (λ (n : Numbers). n.finished_lifetime) same ∙ stay)
finishes-on n m k others body same (inr some) = inr (omega (arith, some, length-drop k body))

-- what is left of a PATCH is one
pub plain-rest : (r : Request) (k : ℕ) → IsPlainPatch r → IsPlainPatch (patch_rest r k)
plain-rest r k plain = record { method = plain.method; unchecked = plain.unchecked }

pub taken : (b : PlainBook) (r : Request) (pieces : List PieceAt) (now : ℕ) (reply : Reply) (after : PlainBook) → IsLawful b → IsPlainPatch r
    → HaveBytes pieces → count_pieces pieces ≤ length r.body → All (λ (q : PieceAt). q.now ≤ now) pieces
    → LastFinishes b.settings.numbers (count_pieces pieces) (length r.body) → IsStep b r now reply after → is_patched reply ≡ true
    → (between : PlainBook) × (left : Request) × Takes IsStep b r pieces between left × IsStep between left now reply after
taken b r [] now reply after lawful plain some few moments finishes step is = (b, r, (refl, refl), step)
taken b r (q ∷ pieces) now reply after lawful plain some few moments finishes step is =
    let le : q.len ≤ length r.body = omega (arith, few) in
    let g = goes b r q.len q.now now reply after lawful plain le (All-head (λ (q : PieceAt). q.now ≤ now) q pieces moments) (finishes-first b.settings.numbers q.len (count_pieces pieces) r.body finishes) step is in
    let count : count_pieces pieces ≤ length (drop q.len r.body) = omega (arith, few, length-drop q.len r.body) in
    let others = taken g.middle (patch_rest r q.len) pieces now reply after g.lawful (plain-rest r q.len plain) (All-tail (λ (q : PieceAt). 0 < q.len) q pieces some) count (All-tail (λ (q : PieceAt). q.now ≤ now) q pieces moments) (finishes-on b.settings.numbers g.middle.settings.numbers q.len (count_pieces pieces) r.body g.numbers finishes) g.rest is in (
      others.0,
      others.1,
      (
        g.middle,
        g.first,
        All-head (λ (q : PieceAt). 0 < q.len) q pieces some,
        le,
        g.step,
        taken-patch r g.first plain ∙ g.taken,
        subst (λ rest. Takes IsStep g.middle rest pieces others.0 others.1) (sym (rest-patch r q.len g.first g.taken)) others.2,
      ),
      others.3,
    )

pub same : (b : PlainBook) (r : Request) (pieces : List PieceAt) (now : ℕ) (reply : Reply) (after : PlainBook) → IsLawful b → IsPlainPatch r
    → All (λ (q : PieceAt). q.now ≤ now) pieces → LastFinishes b.settings.numbers (count_pieces pieces) (length r.body)
    → IsStep b r now reply after → is_patched reply ≡ true
    → (between : PlainBook) (left : Request) (last : Reply) (end : PlainBook) → Takes IsStep b r pieces between left → IsStep between left now last end
    → is_patched last ≡ true → (last ≡ reply) × (end ≡ after)
same b r [] now reply after lawful plain moments finishes step is between left last end takes ends also =
    let patch = reaches b r now reply after plain step is in
    let whole = accepted b r patch r.body r.given r.more now reply after step is in
    let again = accepted b r patch r.body r.given r.more now last end (subst (λ book. IsStep book r now last end) takes.0 (subst (λ request. IsStep between request now last end) takes.1 ends)) also in
    (again.told ∙ sym whole.told, again.leaves ∙ sym whole.leaves)
same b r (q ∷ pieces) now reply after lawful plain moments finishes step is between left last end (c, other, some, le, at, other_taken, takes) ends also =
    let g = goes b r q.len q.now now reply after lawful plain le (All-head (λ (q : PieceAt). q.now ≤ now) q pieces moments) (finishes-first b.settings.numbers q.len (count_pieces pieces) r.body finishes) step is in
    let is_patch = sym (taken-patch r other plain) ∙ other_taken in
    same g.middle (patch_rest r q.len) pieces now reply after g.lawful (plain-rest r q.len plain) (All-tail (λ (q : PieceAt). q.now ≤ now) q pieces moments) (finishes-on b.settings.numbers g.middle.settings.numbers q.len (count_pieces pieces) r.body g.numbers finishes) g.rest is between left last end
    (subst (λ book. Takes IsStep book (patch_rest r q.len) pieces between left) (g.only c other at is_patch)
    (subst (λ rest. Takes IsStep c rest pieces between left) (rest-patch r q.len other is_patch) takes)) ends also
