-- A creation that comes in pieces.
use Rattle.std.proofs.Common.{◌≡◌, ℕ, ◌+◌, ◌<◌, ◌≤◌, Bool, true, false, true≢false, not, eqb, ltb, List, [], ◌∷◌, ◌++◌, length, take, drop, Option, Some, None, Ok, Err, unwrap_or, refl, inl, inr, sym, ap, ap₂, subst, ◌∙◌, arith, append-nil, length-append, length-take}
use Rattle.std.specs.List.{All}
use Rattle.std.specs.Result.{IsOk}
use Rattle.std.proofs.lemmas.Bool.{eq-eqb}
use Rattle.std.proofs.lemmas.Bool.Decides.{eqb_tells, nat_tests}
use Rattle.std.proofs.lemmas.List.{take-append-drop}
use Rattle.std.proofs.lemmas.List.Elements.{All-head, All-tail}
use Rattle.upload_book.specs.Account.{account_in, account_with, blocks_added}
use Rattle.upload_book.specs.Append.{append_answer, differ, is_too_long, or_else, part_after_append, upload_with}
use Rattle.upload_book.specs.Charge.{charge_in}
use Rattle.upload_book.specs.Chunk.{Chunk, count_all}
use Rattle.upload_book.specs.Create.{create_answer, created_upload, creation_refusal, new_kind, part_after_create}
use Rattle.upload_book.specs.declared.board_line.Account.{Account}
use Rattle.upload_book.specs.declared.refusal.Refusal.{Refusal}
use Rattle.upload_book.specs.declared.settings.Numbers.{Numbers}
use Rattle.upload_book.specs.Expiry.{finished_end, has_expired, lifetime_end, renewed}
use Rattle.upload_book.specs.FirstChunk.{FirstChunk, count_all_first}
use Rattle.upload_book.specs.laws.Steps.{LastFinishes, charged_after}
use Rattle.upload_book.specs.Lawful.{IsTenantOf}
use Rattle.upload_book.specs.NewUpload.{NewUpload}
use Rattle.upload_book.specs.laws.PiecedCreation.{PiecedCreation, begun_with, ended_by}
use Rattle.upload_book.specs.TenantBook.{Entry, TenantBook, visible_upload, with_changed, with_kept, with_new}
use Rattle.upload_book.specs.Upload.{Upload, content_of, is_reached, offset_of}
use Rattle.upload_book.proofs.Charge.ChargeLemmas.{charge-create, new-own}
use Rattle.upload_book.proofs.Charge.PriceLemmas.{blocks_between-two}
use Rattle.upload_book.proofs.Expiries.BookEnds.{kept_in-added}
use Rattle.upload_book.proofs.Expiries.ExpirySteps.{ids-below}
use Rattle.upload_book.proofs.Lawful.LawfulAppend.{IsAppendable, complete_later}
use Rattle.upload_book.proofs.Lawful.LawfulCreate.{IsCreatable, IsCreatable-from_none, creation_refusal-none}
use Rattle.upload_book.proofs.Lawful.Outcomes.{create_answer-none, part_after_create-none, unless-Err}
use Rattle.upload_book.proofs.LawsLemmas.{account_more, answer_accepted, answer_of_upload, no-end-ahead, part_accepted, renewed-later}

-- an accepted creation is refused by nothing
unrefused : (tenant : ℕ) (n : Numbers) (part : TenantBook) (new : NewUpload) (first : FirstChunk) (now charged : ℕ) → IsOk (create_answer tenant new first now charged n part) → creation_refusal n (account_in n part charged) part new first ≡ None
unrefused tenant n part new first now charged accepted = by (creation_refusal n (account_in n part charged) part new first) refl
  where
    by : (why : Option Refusal) → creation_refusal n (account_in n part charged) part new first ≡ why → creation_refusal n (account_in n part charged) part new first ≡ None
    by None is = is
    by (Some why) is = absurd (true≢false (sym (rw is at accepted)))

-- a length that is told again is no other
or_else-same : (known : Option ℕ) → or_else known known ≡ known
or_else-same None = refl
or_else-same (Some most) = refl

differ-same : (known : Option ℕ) → differ known known ≡ false
differ-same None = refl
differ-same (Some most) = rw (eq-eqb most most refl) refl

-- what stands under the id that was given last, changed
with_kept-added : (entries : List (Entry Upload)) (id : ℕ) (u w : Upload) → All (λ (e : Entry Upload). e.id < id) entries
    → with_kept (entries ++ record { id = id; kept = u } ∷ []) id w ≡ entries ++ record { id = id; kept = w } ∷ []
with_kept-added [] id u w below = rw (eq-eqb id id refl) refl
with_kept-added (e ∷ entries) id u w below = elim (eqb_tells e.id id) [
  | inl same ↦ absurd (omega (arith, same.1, All-head (λ (e : Entry Upload). e.id < id) e entries below))
  | inr apart ↦ rw apart.0 (ap (λ rest. e ∷ rest) (with_kept-added entries id u w (All-tail (λ (e : Entry Upload). e.id < id) e entries below)))
]

-- an id that is given is above 0 and below the next
above_zero : (id : ℕ) → 0 < id → ltb 0 id ≡ true
above_zero id some = grind (arith, nat_tests)

below_next : (id : ℕ) → ltb id (id + 1) ≡ true
below_next id = grind (arith, nat_tests)

same_offset : (a b : ℕ) → b ≡ a → not (eqb a b) ≡ false
same_offset a b is = grind (arith, nat_tests)

-- a new upload is seen while its lifetime lasts, where no bytes that finish it give it an end
fresh-new : (n : Numbers) (partial complete : Bool) (early now : ℕ) → now < lifetime_end n early → (complete ≡ true → finished_end n early ≡ None) → has_expired now (renewed n (new_kind partial) false complete None early) ≡ false
fresh-new n true complete early now before none = grind (arith, nat_tests)
fresh-new n false true early now before none = rw (none refl) refl
fresh-new n false false early now before none = grind (arith, nat_tests)

module _ (n : Numbers) (part : TenantBook) (tenant charged : ℕ) (new : NewUpload) (first : FirstChunk) (k early now : ℕ) (sound : IsTenantOf n part) (le : early ≤ now) (lasts : now < lifetime_end n early) (finishes : LastFinishes n k (length first.bytes)) (accepted : IsOk (create_answer tenant new first now charged n part)) where
  abbrev pub account : Account
  account = account_in n part charged

  abbrev pub begun : FirstChunk
  begun = begun_with first k

  abbrev pub rest : Chunk
  rest = ended_by new first k

  abbrev pub bytes : List ℕ
  bytes = take k first.bytes

  abbrev pub later : List ℕ
  later = drop k first.bytes

  whole : bytes ++ later ≡ first.bytes
  whole = take-append-drop k first.bytes

  count : length bytes + length later ≡ length first.bytes
  count = sym (length-append bytes later) ∙ ap (length {A = ℕ}) whole

  none : creation_refusal n account part new first ≡ None
  none = unrefused tenant n part new first now charged accepted

  pub can : IsCreatable n account part new first
  can = IsCreatable-from_none n account part new first none

  all : count_all_first begun ≡ count_all_first first
  all = omega (arith, count)

  -- the first piece is accepted
  pub none-begun : creation_refusal n account part new begun ≡ None
  none-begun = creation_refusal-none n account part new begun can.typed (rw all can.all_fit) refl refl can.room can.id (rw all can.all_unspent) (rw all can.all_paid)

  abbrev pub v : Upload
  v = created_upload n new bytes early

  abbrev pub middle : TenantBook
  middle = with_new part v

  pub is_middle : part_after_create new begun early charged n part ≡ middle
  is_middle = part_after_create-none n part new begun early charged none-begun

  abbrev pub more : ℕ
  more = charged_after n charged part middle

  pays : charge_in n middle ≡ charge_in n part + blocks_added n 0 (length bytes)
  pays = charge-create n part new bytes early sound

  account_is : account_in n middle more ≡ account_with account (blocks_added n 0 (length bytes))
  account_is = account_more n part middle charged (blocks_added n 0 (length bytes)) refl pays

  start : offset_of v ≡ length bytes
  start = ap (length {A = ℕ}) (append-nil bytes)

  behind : offset_of v ≡ 0 + length bytes
  behind = omega (arith, start)

  end : offset_of v + length later ≡ length first.bytes
  end = omega (arith, start, count)

  all_end : offset_of v + count_all rest ≡ count_all_first first
  all_end = omega (arith, start, count)

  -- the first bytes finish it only where finished ones have no end
  none-ahead : is_reached new.length (length bytes) ≡ true → (now : ℕ) → finished_end n now ≡ None
  none-ahead is now =
      no-end-ahead n new.length (length bytes) (length bytes) (length later) now (subst (LastFinishes n (length bytes)) (sym count) (ahead finishes))
      (subst (λ all. is_too_long n (unwrap_or new.length n.max_size) all ≡ false) (sym count) can.fits) is
    where
      ahead : LastFinishes n k (length first.bytes) → LastFinishes n (length bytes) (length first.bytes)
      ahead (inl stay) = inl stay
      ahead (inr some) = inr (omega (arith, some, length-take k first.bytes))

  -- the upload is seen
  seen : visible_upload middle part.next now ≡ Ok v
  seen =
      let there = kept_in-added part.uploads part.next v (ids-below n part sound) in
      let fresh = fresh-new n new.partial (is_reached new.length (length bytes)) early now lasts (λ is. none-ahead is early) in
      rw (above_zero part.next sound.first, below_next part.next, there, fresh) refl

  added : blocks_added n 0 (length bytes) + blocks_added n (offset_of v) (length later) ≡ blocks_added n 0 (length first.bytes)
  added =
      ap (λ offset. blocks_added n 0 (length bytes) + blocks_added n offset (length later)) behind ∙ blocks_between-two n.block_size 0 (length bytes) (length later) ∙ ap (blocks_added n 0) count

  all_added : blocks_added n 0 (length bytes) + blocks_added n (offset_of v) (count_all rest) ≡ blocks_added n 0 (count_all_first first)
  all_added =
      ap (λ offset. blocks_added n 0 (length bytes) + blocks_added n offset (count_all rest)) behind ∙ blocks_between-two n.block_size 0 (length bytes) (count_all rest)
      ∙ ap (blocks_added n 0) (omega (arith, count))

  -- the part pays more, and then as much as for the whole
  pub grows : charge_in n part ≤ charge_in n middle
  grows = omega (arith, pays)

  pub grows_on : charge_in n middle ≤ charge_in n (part_after_create new first now charged n part)
  grows_on = rw (part_after_create-none n part new first now charged none) (omega (arith, pays, added, charge-create n part new first.bytes now sound))

  -- and the rest is accepted
  can_rest : IsAppendable n (account_in n middle more) v rest
  can_rest = subst (λ account. IsAppendable n account v rest) (sym account_is) (record {
    own = new-own new.partial;
    typed = refl;
    offset = same_offset (length bytes) (offset_of v) start;
    fixed = differ-same new.length;
    fits = rw (or_else-same new.length, end) can.fits;
    known = refl;
    same = refl;
    unspent = omega (arith, added, can.unspent);
    paid = omega (arith, added, can.paid);
    all_fit = rw (or_else-same new.length, all_end) can.all_fit;
    all_unspent = omega (arith, all_added, can.all_unspent);
    all_paid = omega (arith, all_added, can.all_paid);
  })

  abbrev pub w : Upload
  w = created_upload n new first.bytes now

  -- the upload is as one that was created whole
  same_upload : upload_with n v rest now ≡ w
  same_upload = rw (or_else-same new.length, content) (ap (λ expires. record w { expires = expires }) expiry)
    where
      content : content_of v ++ later ≡ first.bytes
      content = ap (λ l. l ++ later) (append-nil bytes) ∙ whole

      last : Bool
      last = is_reached new.length (length first.bytes)

      expiry : renewed n (new_kind new.partial) (is_reached new.length (offset_of v)) (is_reached new.length (offset_of v + length later)) v.expires now ≡ w.expires
      expiry =
          ap₂ (λ was complete. renewed n (new_kind new.partial) was complete v.expires now) (ap (is_reached new.length) start) (ap (is_reached new.length) end)
          ∙ renewed-later n (new_kind new.partial) false (is_reached new.length (length bytes)) last None early now le (λ was. absurd (true≢false (sym was)))
          (complete_later n new.length (length bytes) (length first.bytes) (omega (arith, count)) can.fits) none-ahead

  answered : append_answer part.next rest now more n middle ≡ Ok (record { offset = length first.bytes; expires = w.expires })
  unfolding answer_of_upload
  answered =
      answer_accepted n middle part.next rest now more v seen can_rest ∙ ap answer_of_upload same_upload
      ∙ ap (λ offset. Ok (record { offset = offset; expires = w.expires })) (ap (length {A = ℕ}) (append-nil first.bytes))

  left : part_after_append part.next rest now more n middle ≡ part_after_create new first now charged n part
  left =
      part_accepted n middle part.next rest now more v seen can_rest
      ∙ ap (with_changed middle part.next) same_upload
      ∙ ap (λ uploads. record middle { uploads = uploads }) (with_kept-added part.uploads part.next v w (ids-below n part sound))
      ∙ sym (part_after_create-none n part new first now charged none)

  pub begun_accepted : IsOk (create_answer tenant new begun early charged n part)
  begun_accepted = rw (create_answer-none tenant n part new begun early charged none-begun) refl

  pub rest_answered : append_answer part.next rest now (charged_after n charged part (part_after_create new begun early charged n part)) n (part_after_create new begun early charged n part) ≡ Ok (record { offset = length first.bytes; expires = w.expires })
  rest_answered = ap (λ m. append_answer part.next rest now (charged_after n charged part m) n m) is_middle ∙ answered

  pub rest_left : part_after_append part.next rest now (charged_after n charged part (part_after_create new begun early charged n part)) n (part_after_create new begun early charged n part) ≡ part_after_create new first now charged n part
  rest_left = ap (λ m. part_after_append part.next rest now (charged_after n charged part m) n m) is_middle ∙ left

-- without a checksum the first bytes are refused for what the whole is
same_refusal : (n : Numbers) (account : Account) (part : TenantBook) (new : NewUpload) (first : FirstChunk) (k : ℕ) → first.check ≡ None → creation_refusal n account part new (begun_with first k) ≡ creation_refusal n account part new first
same_refusal n account part new first k unchecked =
    let all : length (take k first.bytes) + (length (drop k first.bytes) + first.more) ≡ length first.bytes + first.more =
    omega (arith, length-append (take k first.bytes) (drop k first.bytes), ap (length {A = ℕ}) (take-append-drop k first.bytes)) in
    rw (unchecked, all) refl

refused : (n : Numbers) (part : TenantBook) (tenant charged : ℕ) (new : NewUpload) (first : FirstChunk) (k now : ℕ) (why : Refusal) → first.check ≡ None
    → create_answer tenant new first now charged n part ≡ Err why
    → (create_answer tenant new (begun_with first k) now charged n part ≡ Err why) × (part_after_create new (begun_with first k) now charged n part ≡ part)
refused n part tenant charged new first k now why unchecked is =
    let account = account_in n part charged in
    let same = same_refusal n account part new first k unchecked in
    let by : creation_refusal n account part new first ≡ Some why =
    unless-Err (creation_refusal n account part new first) (record { name = record { tenant = tenant; id = part.next }; expires = (created_upload n new first.bytes now).expires }) why is in
    (rw (same, by) refl, rw (same, by) refl)

pub pieced_creation : PiecedCreation
pieced_creation = record {
  accepted = λ n part tenant charged new first k early now sound le lasts finishes accepted. (
    begun_accepted n part tenant charged new first k early now sound le lasts finishes accepted,
    rest_answered n part tenant charged new first k early now sound le lasts finishes accepted,
    rest_left n part tenant charged new first k early now sound le lasts finishes accepted,
  );
  refused = refused;
}
