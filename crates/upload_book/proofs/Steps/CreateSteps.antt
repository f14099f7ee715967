-- What a book over a store keeps and tells where a creation is not refused.
use Rattle.std.proofs.Common.{◌≡◌, ℕ, ◌+◌, ◌-◌, ◌<◌, ◌≤◌, Bool, false, ◌∷◌, ◌++◌, drop, length, set, take, Option, None, unwrap_or, Result, Ok, Err, OnOk, OnErr, inl, inr, refl, ap, ap₂, sym, subst, ◌∙◌, arith}
use Rattle.std.specs.List.{sum_by}
use Rattle.std.specs.Prelude.{◌||◌, nat_lt}
use Rattle.std.proofs.lemmas.Bool.Decides.{nat_tests}
use Rattle.std.proofs.Math.ListN.{length-map}
use Rattle.std.specs.Result.{IsOk}
use Rattle.block_pool.specs.Blocks.{size_of}
use Rattle.block_bodies.specs.Changes.{SameSizes}
use Rattle.block_bodies.specs.Bodies.{blocks_for}
use Rattle.upload_book.specs.Account.{account_in, blocks_added, blocks_between}
use Rattle.upload_book.specs.Append.{is_too_long}
use Rattle.upload_book.specs.Book.{StoredBook, IsBook, plain_of}
use Rattle.upload_book.specs.Charge.{charge_in, charge_with}
use Rattle.upload_book.specs.Create.{creation_refusal, creation_tests, create_answer, create_empty_answer, created_upload, part_after_create, part_after_create_empty, TakesMemory, TakesTexts}
use Rattle.upload_book.specs.declared.create.Created.{Created}
use Rattle.upload_book.specs.Operation.{Create, CreateWith, MayLackMemory}
use Rattle.upload_book.specs.declared.refusal.Refusal.{Refusal}
use Rattle.upload_book.specs.declared.refusal.Refusal.TheVariants.{Memory, Spent}
use Rattle.upload_book.specs.declared.settings.Numbers.{Numbers}
use Rattle.upload_book.specs.FirstChunk.{FirstChunk, count_all_first, no_chunk}
use Rattle.upload_book.specs.Lawful.{IsLawful}
use Rattle.upload_book.specs.NewUpload.{NewUpload}
use Rattle.upload_book.specs.PlainBook.{PlainBook, answer_of, book_after, tenant_book, with_tenant_book}
use Rattle.upload_book.specs.Refusal.{IsAnswer, first_that_holds}
use Rattle.upload_book.specs.BlockStore.{BlockStore, plain_in, part_at, stored_tenant_at}
use Rattle.upload_book.specs.Stored.{entry_of}
use Rattle.upload_book.specs.TenantBook.{TenantBook, with_new}
use Rattle.upload_book.specs.Upload.{Upload}
use Rattle.upload_book.proofs.Steps.BookLemmas.{book_after-stays, book_with, IsLawful-create, IsTenantOf-book, with_tenant_book-more}
use Rattle.upload_book.specs.ExpiryList.{ExpiryList}
use Rattle.upload_book.proofs.Expiries.BookEnds.{HasEnd-new}
use Rattle.upload_book.proofs.Expiries.ExpirySteps.{IsRenewed, ids-below, next-none}
use Rattle.upload_book.proofs.Steps.BookSteps.{Follows, IsBook-follows, IsIndex, part-plain, part-within, plain-follows, stored_with}
use Rattle.upload_book.proofs.Charge.ChargeLemmas.{charge-create}
use Rattle.upload_book.proofs.Lawful.LawfulAppend.{fewer_blocks, not_above}
use Rattle.upload_book.proofs.Lawful.LawfulCreate.{HasLawfulTexts, IsCreatable, IsCreatable-from_none}
use Rattle.upload_book.proofs.Lawful.Outcomes.{create_answer-none, part_after_create-none, part_after_create-refused}
use Rattle.upload_book.proofs.Steps.PatchSteps.{account_at}
use Rattle.upload_book.proofs.Charge.RoomLemmas.{room-within}
use Rattle.upload_book.proofs.Lawful.SettingsLemmas.{last_id-within}

-- a creation that is not refused
pub record IsCreation (b : StoredBook) (t : ℕ) (new : NewUpload) (first : FirstChunk) : Type 0 where
  pub kept : IsBook b
  pub within : t < length b.store.stored_tenants
  pub texts : HasLawfulTexts new
  pub none : creation_refusal b.settings.numbers (account_at b t) (tenant_book (plain_of b) t) new first ≡ None

-- what fits is within the greatest size
fits_within : (n : Numbers) (most count : ℕ) → is_too_long n most count ≡ false → count ≤ n.max_size
fits_within n most count fits = grind (arith, nat_tests)

module _ (b : StoredBook) (t : ℕ) (new : NewUpload) (first : FirstChunk) (now : ℕ) (is : IsCreation b t new first) where
  abbrev part : TenantBook
  part = tenant_book (plain_of b) t

  abbrev made : Upload
  made = created_upload b.settings.numbers new first.bytes now

  -- how many blocks its bytes take
  abbrev pub create_blocks : ℕ
  create_blocks = blocks_added b.settings.numbers 0 (length first.bytes)

  -- and with all that are to come behind them
  abbrev pub all_create_blocks : ℕ
  all_create_blocks = blocks_added b.settings.numbers 0 (count_all_first first)

  can : IsCreatable b.settings.numbers (account_at b t) part new first
  can = IsCreatable-from_none b.settings.numbers (account_at b t) part new first is.none

  -- the same by the size of the pool's blocks
  pub create-taken : (taken : ℕ) → taken ≡ blocks_between b.store.pool.block_size 0 (length first.bytes) → taken ≡ create_blocks
  create-taken taken at = at ∙ ap (λ size. blocks_between size 0 (length first.bytes)) is.kept.size

  pub all_create-taken : (taken : ℕ) → taken ≡ blocks_between b.store.pool.block_size 0 (count_all_first first) → taken ≡ all_create_blocks
  all_create-taken taken at = at ∙ ap (λ size. blocks_between size 0 (count_all_first first)) is.kept.size

  -- there is room for all,
  pub all_create-blocks : sum_by (charge_with b.store.pool.block_size) (plain_in b.store) + blocks_between b.store.pool.block_size 0 (count_all_first first) ≤ size_of b.store.pool
  all_create-blocks =
      let room = room-within (plain_of b) t all_create_blocks is.kept.lawful (part-within b t is.within) can.all_paid in
      let same : sum_by (charge_with b.store.pool.block_size) (plain_in b.store) + blocks_between b.store.pool.block_size 0 (count_all_first first) ≡ sum_by (charge_in b.settings.numbers) (plain_in b.store) + all_create_blocks =
      ap (λ size. sum_by (charge_with size) (plain_in b.store) + blocks_between size 0 (count_all_first first)) is.kept.size in
      omega (arith, room, same, is.kept.blocks)

  -- and so for the first,
  pub create-blocks : sum_by (charge_with b.store.pool.block_size) (plain_in b.store) + blocks_between b.store.pool.block_size 0 (length first.bytes) ≤ size_of b.store.pool
  create-blocks = omega (arith, all_create-blocks, fewer_blocks b.store.pool.block_size 0 (length first.bytes) first.more)

  -- all that is to come is within the greatest size,
  pub all_create-fits : count_all_first first ≤ b.settings.numbers.max_size
  all_create-fits = fits_within b.settings.numbers (unwrap_or new.length b.settings.numbers.max_size) (count_all_first first) can.all_fit

  -- what is charged stays within its bound,
  pub create-charged : b.charged + create_blocks ≤ b.settings.numbers.last_total
  create-charged = can.unspent

  -- there is a next id,
  pub create-next : (part_at b.store t).next + 1 < 18446744073709551616
  create-next =
      let same : (part_at b.store t).next ≡ part.next = ap (λ (part : TenantBook). part.next) (sym (part-plain b t)) in
      omega (arith, same, can.id, last_id-within b.settings is.kept.lawful.settings)

  -- and room for one more upload
  pub create-room : length (stored_tenant_at b.store t).uploads < b.store.room
  create-room =
      let same : length (part_at b.store t).uploads ≡ length part.uploads = ap (λ (part : TenantBook). length part.uploads) (sym (part-plain b t)) in
      omega (arith, same, length-map (stored_tenant_at b.store t).uploads (entry_of b.store.pool), can.room, is.kept.room)

  -- the store with the upload
  pub create-follows : (s : BlockStore) → plain_in s ≡ set (plain_in b.store) t (with_new (part_at b.store t) made) → SameSizes b.store.pool s.pool → s.room ≡ b.store.room → Follows b s t (with_new part made)
  create-follows s plain sizes room = record {
    plain = plain ∙ ap (λ part. set (plain_in b.store) t (with_new part made)) (sym (part-plain b t));
    sizes = sizes;
    room = room;
  }

  create-totals : (charged : ℕ) → charged ≡ b.charged + create_blocks → with_tenant_book (plain_of b) t (with_new part made) ≡ book_with (plain_of b) (set (plain_in b.store) t (with_new part made)) charged b.released
  create-totals charged at =
      with_tenant_book-more (plain_of b) t create_blocks (with_new part made) (charge-create b.settings.numbers part new first.bytes now (IsTenantOf-book (plain_of b) t is.kept.lawful (part-within b t is.within)))
      ∙ ap (λ charged. book_with (plain_of b) (set (plain_in b.store) t (with_new part made)) charged b.released) (sym at)

  -- the upload gets its end
  pub create-renewed : IsRenewed (plain_of b) b.expiries.list t part.next (with_new part made) None made.expires
  create-renewed =
      let below = ids-below b.settings.numbers part (IsTenantOf-book (plain_of b) t is.kept.lawful (part-within b t is.within)) in
      record {
        lawful = is.kept.lawful;
        are = is.kept.expiries;
        within = part-within b t is.within;
        was = next-none part below;
        has = HasEnd-new part made below;
        after = IsLawful-create (plain_of b) t new first now is.kept.lawful (part-within b t is.within) is.none is.texts;
      }

  -- makes a book
  pub IsBook-create : (s : BlockStore) (charged : ℕ) (e : ExpiryList) → Follows b s t (with_new part made) → charged ≡ b.charged + create_blocks → IsIndex b t (with_new part made) e → IsBook (record (stored_with b s charged b.released) { expiries = e })
  IsBook-create s charged e follows at index =
      IsBook-follows b s t (with_new part made) charged b.released e is.kept follows (create-totals charged at) create-renewed.after index

  -- which is the plain book after the creation
  pub plain-create : (s : BlockStore) (charged : ℕ) → Follows b s t (with_new part made) → charged ≡ b.charged + create_blocks → plain_of (stored_with b s charged b.released) ≡ book_after (plain_of b) t (part_after_create new first now b.charged)
  plain-create s charged follows at =
      plain-follows b s t (with_new part made) charged b.released follows (create-totals charged at)
      ∙ ap (with_tenant_book (plain_of b) t) (sym (part_after_create-none b.settings.numbers part new first now b.charged is.none))

  -- the answer
  pub create-answer : (id : ℕ) (expires : Option ℕ) → id ≡ (part_at b.store t).next → expires ≡ made.expires → create_answer t new first now b.charged b.settings.numbers part ≡ Ok (record { name = record { tenant = t; id = id }; expires = expires })
  create-answer id expires next end =
      let told : ℕ → Option ℕ → Created = λ id expires. record { name = record { tenant = t; id = id }; expires = expires } in
      let given : id ≡ part.next = next ∙ ap (λ (part : TenantBook). part.next) (sym (part-plain b t)) in
      create_answer-none t b.settings.numbers part new first now b.charged is.none
      ∙ ap₂ (λ id expires. Ok (told id expires)) (sym given) (sym end)

  -- where memory is taken for it, it may lack
  pub create-lacks : TakesMemory b.settings.numbers first → IsOk (create_answer t new first now b.charged b.settings.numbers part) × TakesMemory b.settings.numbers first
  create-lacks some = (subst IsOk (sym (create-answer (part_at b.store t).next made.expires refl refl)) refl, some)

-- the book after a creation, which a refusal leaves as it was
pub after-create : (b : PlainBook) (t : ℕ) (new : NewUpload) (first : FirstChunk) (now : ℕ) (result : Result Created Refusal) (after : PlainBook) → result ≡ answer_of b t (create_answer t new first now b.charged)
    → OnOk result (after ≡ book_after b t (part_after_create new first now b.charged)) → OnErr result (after ≡ b) → after ≡ book_after b t (part_after_create new first now b.charged)
after-create b t new first now (Ok told) after is accepted refused = accepted
after-create b t new first now (Err why) after is accepted refused =
    refused ∙ sym (book_after-stays b t (part_after_create new first now b.charged) (part_after_create-refused t b.settings.numbers (tenant_book b t) new first now b.charged why (sym is)))

-- no bytes take no block
pub none-added : (size : ℕ) → blocks_between size 0 0 ≡ 0
none-added size = itself (blocks_for size 0)
  where
    itself : (blocks : ℕ) → blocks - blocks ≡ 0
    itself blocks = omega arith

-- why a creation without bytes is refused, by whether more was charged than may be
abbrev empty_refusal : Numbers → TenantBook → NewUpload → Bool → Option Refusal
empty_refusal n part new over =
    let tests = creation_tests n (account_in n part 0) part new no_chunk in
    first_that_holds (take 5 tests ++ (nat_lt n.last_id part.next || over, Spent) ∷ drop 6 tests)

within-unspent : (n : Numbers) (charged : ℕ) → charged ≤ n.last_total → nat_lt n.last_total (charged + blocks_added n 0 0) ≡ false
within-unspent n charged within = not_above n.last_total _ (omega (arith, within, none-added n.block_size))

-- a creation without bytes is refused for the same reason, whatever was charged
empty-refusal : (n : Numbers) (part : TenantBook) (new : NewUpload) (charged : ℕ) → charged ≤ n.last_total → creation_refusal n (account_in n part charged) part new no_chunk ≡ creation_refusal n (account_in n part 0) part new no_chunk
empty-refusal n part new charged within =
    ap (empty_refusal n part new) (within-unspent n charged within ∙ sym (within-unspent n 0 (omega arith)))

answered-alike : (t : ℕ) (n : Numbers) (part : TenantBook) (new : NewUpload) (first : FirstChunk) (now c d : ℕ) → creation_refusal n (account_in n part c) part new first ≡ creation_refusal n (account_in n part d) part new first → create_answer t new first now c n part ≡ create_answer t new first now d n part
answered-alike t n part new first now c d same = rw same refl

left-alike : (n : Numbers) (part : TenantBook) (new : NewUpload) (first : FirstChunk) (now c d : ℕ) → creation_refusal n (account_in n part c) part new first ≡ creation_refusal n (account_in n part d) part new first → part_after_create new first now c n part ≡ part_after_create new first now d n part
left-alike n part new first now c d same = rw same refl

-- so its answer is the one that it has without what was charged,
module _ (b : PlainBook) (t : ℕ) (new : NewUpload) (now : ℕ) (lawful : IsLawful b) where
  pub same_answer : answer_of b t (create_answer t new no_chunk now b.charged) ≡ answer_of b t (create_empty_answer t new now)
  same_answer = answered-alike t b.settings.numbers (tenant_book b t) new no_chunk now b.charged 0 (empty-refusal b.settings.numbers (tenant_book b t) new b.charged lawful.last)

  -- and so is the book after it
  pub same_after : book_after b t (part_after_create new no_chunk now b.charged) ≡ book_after b t (part_after_create_empty new now)
  same_after = ap (with_tenant_book b t) (left-alike b.settings.numbers (tenant_book b t) new no_chunk now b.charged 0 (empty-refusal b.settings.numbers (tenant_book b t) new b.charged lawful.last))

  -- its bytes take no memory
  texts-alone : TakesMemory b.settings.numbers no_chunk → TakesTexts b.settings.numbers
  texts-alone (inl some) = absurd (omega (arith, some, none-added b.settings.numbers.block_size))
  texts-alone (inr texts) = texts

  pub empty-lacks : MayLackMemory b (CreateWith t new no_chunk) now → MayLackMemory b (Create t new) now
  empty-lacks may = (subst IsOk same_answer may.0, texts-alone may.1)

  pub empty-answer : (result : Result Created Refusal) → IsAnswer (answer_of b t (create_answer t new no_chunk now b.charged)) (MayLackMemory b (CreateWith t new no_chunk) now) (Err Memory) result
      → IsAnswer (answer_of b t (create_empty_answer t new now)) (MayLackMemory b (Create t new) now) (Err Memory) result
  empty-answer result (inl is) = inl (is ∙ same_answer)
  empty-answer result (inr lacks) = inr (empty-lacks lacks.0, lacks.1)

  pub after-empty : (result : Result Created Refusal) (after : PlainBook) → OnOk result (after ≡ book_after b t (part_after_create new no_chunk now b.charged)) → OnOk result (after ≡ book_after b t (part_after_create_empty new now))
  after-empty (Ok told) after accepted = accepted ∙ same_after
  after-empty (Err why) after accepted = accepted
