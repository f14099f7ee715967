-- The pieces of a creation, with nothing between, are its whole step.
use Rattle.std.proofs.Common.{◌≡◌, ℕ, ◌+◌, ◌-◌, ◌^◌, ◌<◌, ◌≤◌, Bool, true, false, List, [], ◌∷◌, length, min, take, drop, Option, Some, None, Result, Ok, Err, refl, inl, inr, sym, ap, ◌∙◌, subst, arith, lt-ltb, eqb}
use Rattle.std.specs.List.{All}
use Rattle.std.specs.Option.{option_and_then, option_map}
use Rattle.std.specs.Prelude.{IsTrue, codes, is_some, if◌then◌else◌, ◌&&◌}
use Rattle.std.specs.Result.{IsOk}
use Rattle.std.proofs.lemmas.Bool.Decides.{nat_tests}
use Rattle.std.proofs.lemmas.List.{length-drop, length-map, length-take-le}
use Rattle.std.proofs.lemmas.List.Elements.{All-head, All-tail}
use Rattle.tus_text.specs.Concat.{concat_of}
use Rattle.tus_text.specs.Number.{number_of}
use Rattle.tus_text.specs.declared.concat.Concat.{Concat}
use Rattle.tus_text.specs.declared.concat.Concat.TheVariants.{Partial, Final}
use Rattle.tus_text.specs.declared.path.Path.{Path}
use Rattle.tus_text.specs.declared.path.Path.TheVariants as path
use Rattle.upload_book.specs.Account.{account_in}
use Rattle.upload_book.specs.Chunk.{Chunk}
use Rattle.upload_book.specs.Create.{create_answer, created_upload, creation_refusal, new_kind, part_after_create}
use Rattle.upload_book.specs.declared.create.Created.{Created}
use Rattle.upload_book.specs.Operation.{Operation}
use Rattle.upload_book.specs.Operation as operation
use Rattle.upload_book.specs.declared.refusal.Refusal.{Refusal}
use Rattle.upload_book.specs.declared.settings.TenantQuota.{TenantQuota}
use Rattle.upload_book.specs.Expiry.{lifetime_end}
use Rattle.upload_book.specs.FirstChunk.{FirstChunk}
use Rattle.upload_book.specs.Lawful.{IsConcatText, IsLawful, is_kept_metadata}
use Rattle.upload_book.specs.NewUpload.{NewUpload}
use Rattle.upload_book.specs.laws.Steps.{LastFinishes}
use Rattle.upload_book.specs.laws.PiecedCreation.{begun_with, ended_by}
use Rattle.upload_book.specs.PlainBook.{PlainBook, answer_of, book_after, tenant_book}
use Rattle.upload_book.specs.Refusal.{unless}
use Rattle.upload_book.specs.Settings.{Settings, tenant_place}
use Rattle.upload_book.specs.TenantBook.{TenantBook}
use Rattle.upload_book.proofs.Lawful.LawfulCreate.{HasLawfulTexts}
use Rattle.upload_book.proofs.PiecedCreationOfBookLemmas as pieced
use Rattle.tus_steps.specs.Creation.{concat_creation, creation_by, creation_in, creation_of, first_chunk, new_upload, new_upload_in}
use Rattle.tus_steps.specs.declared.method.Method.{Method}
use Rattle.tus_steps.specs.declared.method.Method.TheVariants as method
use Rattle.tus_steps.specs.declared.reply.Reply.{Reply}
use Rattle.tus_steps.specs.declared.reply.Reply.TheVariants as replied
use Rattle.tus_steps.specs.Route.{Route, Create, route, tenant_name}
use Rattle.tus_steps.specs.Field.{FieldText, absent, one, many, is_absent, is_just, metadata_in, number_in, optional_number_in}
use Rattle.tus_steps.specs.InPieces.{HaveBytes, IsPlainCreation, IsPlainPatch, PieceAt, PiecesAreTheRequest, Takes, behind, count_pieces, created_in, first_of, is_taken, reply_to_all, rest_of, upload_path}
use Rattle.tus_steps.specs.Isolation.{HasEachPart}
use Rattle.tus_steps.specs.Method.{is_options, is_post}
use Rattle.tus_steps.specs.Operation.{chunk_at, has_version, operation_of, operation_on}
use Rattle.tus_steps.specs.Reply.{append_reply, creation_reply}
use Rattle.tus_steps.specs.Request.{Request}
use Rattle.tus_steps.specs.Step.{IsOperationStep, IsStep, IsStepBy}
use Rattle.tus_steps.proofs.AskLemmas.{asks}
use Rattle.tus_steps.proofs.PiecesLemmas.{and_then-Some, finishes-on, patch_rest, rest-patch, same, taken, taken-patch, with_body}
use Rattle.tus_steps.proofs.PlaceLemmas.{place-within}
use Rattle.tus_steps.proofs.StepLemmas.{step-by}

-- ---- what a creation asks for

post-is : (m : Method) → is_post m ≡ true → m ≡ method.Post
post-is method.Post is = refl
post-is method.Head is = absurd cc
post-is method.Get is = absurd cc
post-is method.Patch is = absurd cc
post-is method.Delete is = absurd cc
post-is method.Options is = absurd cc
post-is method.Other is = absurd cc

-- where a POST may go, and what is there
route-post : (p : Path) (on : Route) → route p method.Post ≡ Some on → (tenant : List ℕ) × (p ≡ path.Create tenant) × (on ≡ Create)
route-post (path.Create tenant) on is = (tenant, refl, cc)
route-post (path.Upload tenant id) on is = absurd cc
route-post path.Other on is = absurd cc

-- the length that a creation tells by these fields is one that a PATCH may tell again
abbrev told_by : FieldText → FieldText → Option (Option ℕ)
told_by length defer =
    if is_absent defer then option_map Some (number_in length)
    else (if is_absent length && is_just (codes "1") defer then Some None else None)

told-again : (length defer : FieldText) (told : Option ℕ) → told_by length defer ≡ Some told → optional_number_in length ≡ Some told
told-again absent absent told is = absurd cc
told-again absent (one value) told is = by (is_just (codes "1") (one value)) is
  where
    by : (just : Bool) → (if just then Some None else None) ≡ Some told → optional_number_in absent ≡ Some told
    by true is = is
    by false is = absurd cc
told-again absent many told is = absurd cc
told-again (one value) absent told is = is
told-again (one value) (one other) told is = absurd cc
told-again (one value) many told is = absurd cc
told-again many absent told is = absurd cc
told-again many (one other) told is = absurd cc
told-again many many told is = absurd cc

-- metadata that was told is kept
kept-metadata : (field : FieldText) (metadata : List ℕ) → metadata_in field ≡ Some metadata → IsTrue (is_kept_metadata metadata)
kept-metadata absent metadata is = subst (λ (m : List ℕ). IsTrue (is_kept_metadata m)) (let same : [] ≡ metadata = cc in same) refl
kept-metadata (one value) metadata is = by (is_kept_metadata value) refl is
  where
    by : (kept : Bool) → is_kept_metadata value ≡ kept → (if kept then Some value else None) ≡ Some metadata → IsTrue (is_kept_metadata metadata)
    by true kept is = subst (λ (m : List ℕ). IsTrue (is_kept_metadata m)) (let same : value ≡ metadata = cc in same) kept
    by false kept is = absurd cc
kept-metadata many metadata is = absurd cc

-- a creation that reaches the book with bytes, by its head: it is one of this upload with any bytes of its body
record Creates (s : Settings) (r : Request) : Type 0 where
  name : List ℕ
  tenant : ℕ
  new : NewUpload
  at : r.path ≡ path.Create name
  place : tenant_place s name ≡ Some tenant
  version : is_just (codes "1.0.0") r.fields.version ≡ true
  texts : HasLawfulTexts new
  told : optional_number_in r.fields.length ≡ Some new.length
  creates : (body : List ℕ) (given more : ℕ) → 0 < length body → operation_of s (with_body r body given more) ≡ Ok (operation.CreateWith tenant new (first_chunk (with_body r body given more) None))

map-made : {A B : Type 0} (f : A → B) (found : Option A) (y : B) → option_map f found ≡ Some y → (x : A) × (found ≡ Some x) × (f x ≡ y)
map-made f None y is = absurd cc
map-made f (Some x) y is = (x, refl, cc)

-- the texts of a new upload, and its length, as the fields tell them
new-told : (r : Request) (partial : Bool) (concat : List ℕ) (new : NewUpload) → IsConcatText (new_kind partial) concat → new_upload_in r partial concat ≡ Some new → HasLawfulTexts new × (optional_number_in r.fields.length ≡ Some new.length)
new-told r partial concat new text is =
    let told = and_then-Some (λ told. option_map (new_upload partial concat told) (metadata_in r.fields.metadata)) (told_by r.fields.length r.fields.defer) new is in
    let made = map-made (new_upload partial concat told.0) (metadata_in r.fields.metadata) new told.2 in
    subst (λ (new : NewUpload). HasLawfulTexts new × (optional_number_in r.fields.length ≡ Some new.length)) made.2
    (record { metadata = kept-metadata r.fields.metadata made.0 made.1; concat = text }, told-again r.fields.length r.fields.defer told.0 told.1)

some_bytes : (n : ℕ) → 0 < n → eqb n 0 ≡ false
some_bytes n some = grind (arith, nat_tests)

-- what a creation with bytes asks for, by what Upload-Concat says
record FindsUpload (r : Request) (t : ℕ) (c : FieldText) : Type 0 where
  new : NewUpload
  texts : HasLawfulTexts new
  told : optional_number_in r.fields.length ≡ Some new.length
  creates : (body : List ℕ) (given more : ℕ) → 0 < length body → creation_by (with_body r body given more) t c ≡ Some (operation.CreateWith t new (first_chunk (with_body r body given more) None))

creation-any : (r : Request) (t : ℕ) (new : NewUpload) (body : List ℕ) (given more : ℕ) → r.fields.checksum ≡ absent → 0 < length body
    → creation_of (with_body r body given more) t new ≡ Some (operation.CreateWith t new (first_chunk (with_body r body given more) None))
creation-any r t new body given more unchecked some = rw (lt-ltb 0 (length body) some, unchecked) refl

finds : (r : Request) (t : ℕ) (op : Operation) (c : FieldText) → r.fields.checksum ≡ absent → 0 < length r.body → creation_by r t c ≡ Some op → FindsUpload r t c
finds r t op absent unchecked some is =
    let found = and_then-Some (creation_of r t) (new_upload_in r false []) op is in
    let told = new-told r false [] found.0 refl found.1 in
    record {
      new = found.0;
      texts = told.0;
      told = told.1;
      creates = λ body given more some. ap (option_and_then (creation_of (with_body r body given more) t)) found.1 ∙ creation-any r t found.0 body given more unchecked some;
    }
finds r t op (one text) unchecked some is =
    let said = and_then-Some (concat_creation r t text) (concat_of text) op is in
    by said.0 said.1 said.2
  where
    by : (concat : Concat) → concat_of text ≡ Some concat → concat_creation r t text concat ≡ Some op → FindsUpload r t (one text)
    by Partial said is =
        let found = and_then-Some (creation_of r t) (new_upload_in r true (codes "partial")) op is in
        let told = new-told r true (codes "partial") found.0 refl found.1 in
        record {
          new = found.0;
          texts = told.0;
          told = told.1;
          creates = λ body given more some.
              ap (option_and_then (concat_creation (with_body r body given more) t text)) said ∙ ap (option_and_then (creation_of (with_body r body given more) t)) found.1 ∙ creation-any r t found.0 body given more unchecked some;
        }
    by (Final parts) said is = absurd (let none : None ≡ Some op = rw (some_bytes (length r.body) some) at is in cc)
finds r t op many unchecked some is = absurd cc

creates-any : (s : Settings) (r : Request) (name : List ℕ) (t : ℕ) (new : NewUpload) → has_version r ≡ true → tenant_name r.path ≡ Some name → tenant_place s name ≡ Some t → route r.path r.method ≡ Some Create
    → (body : List ℕ) (given more : ℕ) → creation_in (with_body r body given more) t ≡ Some (operation.CreateWith t new (first_chunk (with_body r body given more) None))
    → operation_of s (with_body r body given more) ≡ Ok (operation.CreateWith t new (first_chunk (with_body r body given more) None))
creates-any s r name t new version named place on body given more found = rw (version, named, place, on, found) refl

reaches : (b : PlainBook) (r : Request) (now : ℕ) (reply : Reply) (after : PlainBook) → IsPlainCreation r → 0 < length r.body → IsStep b r now reply after → is_some (created_in reply) ≡ true → Creates b.settings r
reaches b r now reply after plain some step is = by-result (operation_of b.settings r) refl (rw (other) at step)
  where
    post : r.method ≡ method.Post
    post = post-is r.method plain.method

    other : is_options r.method ≡ false
    other = ap is_options post

    refused : false ≡ true → ⊥
    refused same = absurd cc

    by-result : (asked : Result Operation Refusal) → operation_of b.settings r ≡ asked → IsStepBy b r now asked reply after → Creates b.settings r
    by-result (Ok op) asked by =
        let a = asks b.settings r op asked in
        let on = route-post r.path a.on (ap (route r.path) (sym post) ∙ a.route) in
        let named : Some on.0 ≡ Some a.name = ap tenant_name (sym on.1) ∙ a.named in
        let name : on.0 ≡ a.name = cc in
        let found = finds r a.tenant op r.fields.concat plain.unchecked some (subst (λ (at : Route). operation_on r a.tenant at ≡ Some op) on.2 a.operation) in
        let place : tenant_place b.settings on.0 ≡ Some a.tenant = ap (tenant_place b.settings) name ∙ a.place in
        let version : is_just (codes "1.0.0") r.fields.version ≡ true = rw post at a.version in
        record {
          name = on.0;
          tenant = a.tenant;
          new = found.new;
          at = on.1;
          place = place;
          version = version;
          texts = found.texts;
          told = found.told;
          creates = λ body given more some. creates-any b.settings r a.name a.tenant found.new a.version a.named a.place (a.route ∙ ap Some on.2) body given more (found.creates body given more some);
        }
    by-result (Err why) asked by = absurd (refused (rw by.0 at is))

-- ---- a creation that is accepted

record Accepted (b : PlainBook) (t : ℕ) (new : NewUpload) (first : FirstChunk) (r : Request) (now : ℕ) (reply : Reply) (after : PlainBook) : Type 0 where
  made : IsOk (answer_of b t (create_answer t new first now b.charged))
  told : reply ≡ creation_reply r (Some (length first.bytes)) (answer_of b t (create_answer t new first now b.charged))
  leaves : after ≡ book_after b t (part_after_create new first now b.charged)

answer-Ok : (r : Request) (offset : Option ℕ) (answer : Result Created Refusal) → is_some (created_in (creation_reply r offset answer)) ≡ true → IsOk answer
answer-Ok r offset (Ok created) is = refl
answer-Ok r offset (Err why) is = absurd cc

by-step : (b : PlainBook) (t : ℕ) (new : NewUpload) (first : FirstChunk) (r : Request) (now : ℕ) (reply : Reply) (after : PlainBook) → IsOperationStep b r now (operation.CreateWith t new first) reply after → is_some (created_in reply) ≡ true
    → Accepted b t new first r now reply after
by-step b t new first r now reply after (inl step) is = record {
  made = answer-Ok r (Some (length first.bytes)) (answer_of b t (create_answer t new first now b.charged)) (rw step.0 at is);
  told = step.0;
  leaves = step.1;
}
by-step b t new first r now reply after (inr lacks) is = absurd (refused (rw lacks.1 at is))
  where
    refused : false ≡ true → ⊥
    refused same = absurd cc

accepted : (b : PlainBook) (r : Request) (c : Creates b.settings r) (now : ℕ) (reply : Reply) (after : PlainBook) → is_options r.method ≡ false → 0 < length r.body → IsStep b r now reply after → is_some (created_in reply) ≡ true
    → Accepted b c.tenant c.new (first_chunk r None) r now reply after
accepted b r c now reply after other some step is =
    by-step b c.tenant c.new (first_chunk r None) r now reply after (rw (other, c.creates r.body r.given r.more some) at step) is

-- the answer to one that is accepted
answer-is : (b : PlainBook) (t : ℕ) (new : NewUpload) (first : FirstChunk) (now : ℕ) → IsOk (answer_of b t (create_answer t new first now b.charged))
    → answer_of b t (create_answer t new first now b.charged)
    ≡ Ok (record { name = record { tenant = t; id = (tenant_book b t).next }; expires = (created_upload b.settings.numbers new first.bytes now).expires })
answer-is b t new first now made = by (creation_refusal b.settings.numbers (account_in b.settings.numbers (tenant_book b t) b.charged) (tenant_book b t) new first) made
  where
    value : Created
    value = record { name = record { tenant = t; id = (tenant_book b t).next }; expires = (created_upload b.settings.numbers new first.bytes now).expires }

    by : (why : Option Refusal) → IsOk (unless why value) → unless why value ≡ Ok value
    by None made = refl
    by (Some why) made = absurd cc

-- ---- its first piece, and what is left

same-first : (first : FirstChunk) (bytes : List ℕ) (more more' : ℕ) → more ≡ more' → record first { check = None; bytes = bytes; more = more } ≡ record first { check = None; bytes = bytes; more = more' }
same-first first bytes more more' is = rw is refl

begun-chunk : (r : Request) (k : ℕ) → first_chunk (first_of r k) None ≡ begun_with (first_chunk r None) k
begun-chunk r k = same-first (first_chunk r None) (take k r.body) _ _ (omega (arith, length-drop k r.body))

-- what is left of a creation whose first piece created this upload
abbrev creation_rest : Request → ℕ → ℕ → Request
creation_rest r k id = record (behind (Some id) r) { body = drop k r.body; given = r.given + k }

same-chunk : (chunk : Chunk) (offset offset' : ℕ) (length' : Option ℕ) (typed : Bool) → offset ≡ offset' → chunk.length ≡ length' → chunk.typed ≡ typed → record chunk { offset = offset } ≡ record chunk { offset = offset'; length = length'; typed = typed }
same-chunk chunk offset offset' length' typed is told kind = rw (is, told, kind) refl

-- the PATCH of what is left keeps its method and its path
keeps : (a : PlainBook) (r : Request) (pieces : List PieceAt) (b : PlainBook) (left : Request) → IsPlainPatch r → Takes IsStep a r pieces b left → (left.method ≡ r.method) × (left.path ≡ r.path)
keeps a r [] b left plain takes = (ap (λ (r : Request). r.method) takes.1, ap (λ (r : Request). r.path) takes.1)
keeps a r (q ∷ pieces) b left plain (c, first, some, le, at, is_taken, takes) =
    let rest = rest-patch r q.len first (sym (taken-patch r first plain) ∙ is_taken) in
    keeps c (patch_rest r q.len) pieces b left (record { method = plain.method; unchecked = plain.unchecked }) (subst (λ (rest : Request). Takes IsStep c rest pieces b left) rest takes)

-- by the reply to the rest the creation is told
told-all : (r left : Request) (name : List ℕ) (id offset : ℕ) (expires : Option ℕ) → r.method ≡ method.Post → left.method ≡ method.Patch → left.path ≡ path.Upload name id
    → reply_to_all r left (replied.Patched offset expires) ≡ replied.Created name id (Some offset) expires
told-all r left name id offset expires post patch at = rw (patch, post, at) refl

told-created : (r : Request) (name : List ℕ) (t id n : ℕ) (expires : Option ℕ) (answer : Result Created Refusal) → answer ≡ Ok (record { name = record { tenant = t; id = id }; expires = expires }) → r.path ≡ path.Create name
    → creation_reply r (Some n) answer ≡ replied.Created name id (Some n) expires
told-created r name t id n expires answer is at = rw (is, at) refl

taken-created : (r : Request) (reply : Reply) (id : ℕ) → r.method ≡ method.Post → created_in reply ≡ Some id → is_taken r reply ≡ true
taken-created r reply id post made = rw (post, made) refl

zero-offset : number_of (codes "0") ≡ Some 0
unfolding number_of
zero-offset = refl

-- what is left is a PATCH of the upload
asks-rest : (s : Settings) (r : Request) (name : List ℕ) (t id k : ℕ) (told : Option ℕ) → is_just (codes "1.0.0") r.fields.version ≡ true → r.path ≡ path.Create name → tenant_place s name ≡ Some t
    → optional_number_in r.fields.length ≡ Some told → r.fields.checksum ≡ absent
    → operation_of s (creation_rest r k id) ≡ Ok (operation.Append (record { tenant = t; id = id }) (chunk_at (creation_rest r k id) 0 told None))
asks-rest s r name t id k told version at place again unchecked = rw (version, at, place, again, unchecked, zero-offset) refl

created : (b : PlainBook) (r : Request) (q : PieceAt) (pieces : List PieceAt) (now : ℕ) (reply : Reply) (after : PlainBook) → IsLawful b → IsPlainCreation r
    → HaveBytes (q ∷ pieces) → count_pieces (q ∷ pieces) ≤ length r.body → All (λ (p : PieceAt). p.now ≤ now) (q ∷ pieces) → now < lifetime_end b.settings.numbers q.now
    → LastFinishes b.settings.numbers (count_pieces (q ∷ pieces)) (length r.body) → IsStep b r now reply after → is_some (created_in reply) ≡ true
    → (between : PlainBook) × (left : Request) × (last : Reply) × Takes IsStep b r (q ∷ pieces) between left × IsStep between left now last after
    × (reply_to_all r left last ≡ reply)
created b r q pieces now reply after lawful plain some few moments lasts finishes step is = (
  others.0,
  others.1,
  last,
  (
    middle,
    first,
    begun,
    le,
    first_step,
    first_taken,
    subst (λ (left : Request). Takes IsStep middle left pieces others.0 others.1) (sym is_rest) others.2,
  ),
  others.3,
  told,
)
  where
    post : r.method ≡ method.Post
    post = post-is r.method plain.method

    other : is_options r.method ≡ false
    other = ap is_options post

    begun : 0 < q.len
    begun = All-head (λ (p : PieceAt). 0 < p.len) q pieces some

    le : q.len ≤ length r.body
    le = omega (arith, few)

    nonempty : 0 < length r.body
    nonempty = omega (arith, begun, le)

    c : Creates b.settings r
    c = reaches b r now reply after plain nonempty step is

    t : ℕ
    t = c.tenant

    chunk : FirstChunk
    chunk = first_chunk r None

    whole : Accepted b t c.new chunk r now reply after
    whole = accepted b r c now reply after other nonempty step is

    each : HasEachPart b
    each = sym (length-map b.tenants (λ (part : TenantBook). part.quota)) ∙ ap length lawful.quotas ∙ length-map b.settings.tenants (λ (t : TenantQuota). t.quota)

    within : t < length b.tenants
    within = place-within b c.name t each c.place

    earlier : q.now ≤ now
    earlier = All-head (λ (p : PieceAt). p.now ≤ now) q pieces moments

    -- the rest behind the first piece finishes what the whole does
    ahead : LastFinishes b.settings.numbers q.len (length r.body)
    ahead = of finishes where
      of : LastFinishes b.settings.numbers (count_pieces (q ∷ pieces)) (length r.body) → LastFinishes b.settings.numbers q.len (length r.body)
      of (inl stay) = inl stay
      of (inr some) = inr (omega (arith, some))

    id : ℕ
    id = (tenant_book b t).next

    middle : PlainBook
    middle = pieced.after b t c.new chunk q.len q.now now lawful within earlier lasts ahead whole.made

    -- the first piece creates the upload
    made : IsOk (answer_of b t (create_answer t c.new (begun_with chunk q.len) q.now b.charged))
    made = pieced.book_begun b t c.new chunk q.len q.now now lawful within earlier lasts ahead whole.made

    first : Reply
    first = creation_reply (first_of r q.len) (Some (length (take q.len r.body))) (answer_of b t (create_answer t c.new (begun_with chunk q.len) q.now b.charged))

    first_some : 0 < length (take q.len r.body)
    first_some = omega (arith, begun, length-take-le q.len r.body le)

    first_step : IsStep b (first_of r q.len) q.now first middle
    first_step =
        step-by b (first_of r q.len) q.now (operation.CreateWith t c.new (begun_with chunk q.len)) first middle other
        (c.creates (take q.len r.body) r.given (r.more + (length r.body - q.len)) first_some ∙ ap (λ (chunk : FirstChunk). Ok (operation.CreateWith t c.new chunk)) (begun-chunk r q.len)) (inl (refl, refl))

    first_created : created_in first ≡ Some id
    first_created = ap (λ (answer : Result Created Refusal). created_in (creation_reply (first_of r q.len) (Some (length (take q.len r.body))) answer)) (answer-is b t c.new (begun_with chunk q.len) q.now made)

    first_taken : is_taken r first ≡ true
    first_taken = taken-created r first id post first_created

    is_rest : rest_of r q.len first ≡ creation_rest r q.len id
    is_rest = ap (λ (made : Option ℕ). record (behind made r) { body = drop q.len r.body; given = r.given + q.len }) first_created

    rest : Request
    rest = creation_rest r q.len id

    plain_rest : IsPlainPatch rest
    plain_rest = record { method = refl; unchecked = plain.unchecked }

    -- the rest is a PATCH of it
    place_of : min (0 + (r.given + q.len)) (2 ^ 64 - 1) ≡ length (take q.len r.body)
    place_of = omega (arith, plain.whole, le, length-take-le q.len r.body le, pieced.ends b t c.new chunk q.len q.now now lawful within earlier lasts ahead whole.made)

    rest_chunk : chunk_at rest 0 c.new.length None ≡ ended_by c.new chunk q.len
    rest_chunk = same-chunk (chunk_at rest 0 c.new.length None) _ _ c.new.length true place_of refl (pieced.typed b t c.new chunk q.len q.now now lawful within earlier lasts ahead whole.made)

    asks_rest : operation_of b.settings rest ≡ Ok (operation.Append (record { tenant = t; id = id }) (ended_by c.new chunk q.len))
    asks_rest =
        asks-rest b.settings r c.name t id q.len c.new.length c.version c.at c.place c.told plain.unchecked ∙ ap (λ (chunk : Chunk). Ok (operation.Append (record { tenant = t; id = id }) chunk)) rest_chunk

    last : Reply
    last = replied.Patched (length r.body) (created_upload b.settings.numbers c.new r.body now).expires

    rest_step : IsStep middle rest now last after
    rest_step =
        step-by middle rest now (operation.Append (record { tenant = t; id = id }) (ended_by c.new chunk q.len)) last after refl asks_rest
        (inl (
          sym (ap (append_reply rest) (pieced.book_answered b t c.new chunk q.len q.now now lawful within earlier lasts ahead whole.made)),
          whole.leaves ∙ sym (pieced.book_left b t c.new chunk q.len q.now now lawful within earlier lasts ahead whole.made),
        ))

    count : count_pieces pieces ≤ length (drop q.len r.body)
    count = omega (arith, few, length-drop q.len r.body)

    others : (between : PlainBook) × (left : Request) × Takes IsStep middle rest pieces between left × IsStep between left now last after
    others =
        taken middle rest pieces now last after (pieced.after_lawful b t c.new chunk q.len q.now now lawful within earlier lasts ahead whole.made c.texts) plain_rest (All-tail (λ (p : PieceAt). 0 < p.len) q pieces some) count
        (All-tail (λ (p : PieceAt). p.now ≤ now) q pieces moments) (finishes-on b.settings.numbers middle.settings.numbers q.len (count_pieces pieces) r.body refl finishes) rest_step refl

    kept : (others.1.method ≡ rest.method) × (others.1.path ≡ rest.path)
    kept = keeps middle rest pieces others.0 others.1 plain_rest others.2

    told : reply_to_all r others.1 last ≡ reply
    told =
        told-all r others.1 c.name id (length r.body) (created_upload b.settings.numbers c.new r.body now).expires post kept.0 (kept.1 ∙ ap (λ (at : Path). upload_path at id) c.at)
        ∙ sym (whole.told ∙ told-created r c.name t id (length r.body) (created_upload b.settings.numbers c.new r.body now).expires _ (answer-is b t c.new chunk now whole.made) c.at)

pub pieces_are_the_request : PiecesAreTheRequest
pieces_are_the_request = record { taken = taken; same = same; created = created }
