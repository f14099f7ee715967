-- A PATCH that is sent in two, and the rows that follow a PATCH.
use Rattle.std.proofs.Common.{◌≡◌, ℕ, ◌+◌, ◌-◌, ◌≤◌, not, eqb, Bool, true, false, true≢false, List, [], ◌∷◌, ◌++◌, length, Option, Some, None, unwrap_or, Result, Ok, Err, refl, inl, inr, sym, ap, subst, ◌∙◌, arith, append_assoc, length-append}
use Rattle.std.specs.Result.{IsOk}
use Rattle.std.proofs.lemmas.Bool.Decides.{nat_tests}
use Rattle.upload_book.specs.Account.{account_in, account_with, blocks_added}
use Rattle.upload_book.specs.Charge.{charge_in}
use Rattle.upload_book.specs.declared.board_line.Account.{Account}
use Rattle.upload_book.specs.Append.{or_else, differ, is_too_long, append_refusal, append_answer, appended_upload, part_after_append, row_with, telling, told, upload_with}
use Rattle.upload_book.specs.Chunk.{Chunk, count_all}
use Rattle.upload_book.specs.declared.append.Appended.{Appended}
use Rattle.upload_book.specs.declared.append.Refused.{Refused}
use Rattle.upload_book.specs.declared.head_row.HeadRow.{HeadRow}
use Rattle.upload_book.specs.declared.head_row.Kind.{Kind}
use Rattle.upload_book.specs.declared.head_row.Kind.TheVariants.{Plain, Partial, Final}
use Rattle.upload_book.specs.declared.refusal.Refusal.{Refusal}
use Rattle.upload_book.specs.declared.settings.Numbers.{Numbers}
use Rattle.upload_book.specs.Expiry.{finished_end, has_expired, may_end, renewed}
use Rattle.upload_book.specs.laws.Steps.{AccountsFollow, LastFinishes, ResumedPatch, RowsFollow, charged_after, first_part, later_part, row_in}
use Rattle.upload_book.specs.Lawful.{IsUploadOf}
use Rattle.upload_book.specs.Look.{row_of}
use Rattle.upload_book.specs.Refusal.{unless}
use Rattle.upload_book.specs.TenantBook.{TenantBook, kept_in, visible_upload, with_changed}
use Rattle.upload_book.specs.Upload.{Upload, content_of, offset_of, is_complete, is_reached, head_row_of}
use Rattle.upload_book.proofs.Lawful.Entries.{kept_in-All, visible_in-changed, visible_in-fresh, visible_in-Ok, with_kept-twice}
use Rattle.upload_book.proofs.Charge.ChargeLemmas.{charge-append}
use Rattle.upload_book.proofs.Charge.PriceLemmas.{blocks_between-two}
use Rattle.upload_book.proofs.Lawful.LawfulAppend.{IsAppendable, IsAppendable-from_none, append_refusal-none, complete_known, complete_later, content_of-append, fewer_blocks, fewer_fit, offset_of-append}

pub or_else-twice : (known told : Option ℕ) → or_else (or_else known told) told ≡ or_else known told
or_else-twice None None = refl
or_else-twice None (Some most) = refl
or_else-twice (Some most) told = refl

differ-told : (known told : Option ℕ) → differ known told ≡ false → differ (or_else known told) told ≡ false
differ-told None None same = refl
differ-told None (Some most) same = grind (arith, nat_tests)
differ-told (Some most) told same = same

moved : (offset start more : ℕ) → not (eqb offset start) ≡ false → not (eqb (offset + more) (start + more)) ≡ false
moved offset start more same = grind (arith, nat_tests)

-- the first part is accepted
pub IsAppendable-first : (n : Numbers) (account : Account) (u : Upload) (chunk : Chunk) (first later : List ℕ) → chunk.bytes ≡ first ++ later → IsAppendable n account u chunk → IsAppendable n account u (first_part chunk first)
IsAppendable-first n account u chunk first later whole can =
    let count = ap length whole ∙ length-append first later in
    let all : count_all chunk ≡ length first + chunk.more + length later = omega (arith, count) in
    let fewer_all : blocks_added n (offset_of u) (length first + chunk.more) ≤ blocks_added n (offset_of u) (count_all chunk) =
    rw all (fewer_blocks n.block_size (offset_of u) (length first + chunk.more) (length later)) in
    let added : blocks_added n (offset_of u) (length chunk.bytes) ≡ blocks_added n (offset_of u) (length first + length later) = ap (blocks_added n (offset_of u)) count in
    record {
      own = can.own;
      typed = can.typed;
      offset = can.offset;
      fixed = can.fixed;
      fits = fewer_fit n (unwrap_or (or_else u.declared chunk.length) n.max_size) (offset_of u + length first) (offset_of u + length chunk.bytes) (omega (arith, count)) can.fits;
      known = refl;
      same = refl;
      unspent = omega (arith, fewer_blocks n.block_size (offset_of u) (length first) (length later), added, can.unspent);
      paid = omega (arith, fewer_blocks n.block_size (offset_of u) (length first) (length later), added, can.paid);
      all_fit = fewer_fit n (unwrap_or (or_else u.declared chunk.length) n.max_size) (offset_of u + (length first + chunk.more)) (offset_of u + count_all chunk) (omega (arith, count)) can.all_fit;
      all_unspent = omega (arith, fewer_all, can.all_unspent);
      all_paid = omega (arith, fewer_all, can.all_paid);
    }

-- then the later part is
pub IsAppendable-later : (n : Numbers) (account : Account) (u : Upload) (chunk : Chunk) (first later : List ℕ) (now : ℕ) → chunk.bytes ≡ first ++ later → IsAppendable n account u chunk
    → IsAppendable n (account_with account (blocks_added n (offset_of u) (length first))) (upload_with n u (first_part chunk first) now) (later_part chunk first later)
IsAppendable-later n account u chunk first later now whole can =
    let count = ap length whole ∙ length-append first later in
    let start = offset_of-append n u (first_part chunk first) now in
    let after = upload_with n u (first_part chunk first) now in
    let end : offset_of after + length later ≡ offset_of u + length chunk.bytes = omega (arith, count, start) in
    let added : blocks_added n (offset_of u) (length chunk.bytes) ≡ blocks_added n (offset_of u) (length first + length later) = ap (blocks_added n (offset_of u)) count in
    let more : blocks_added n (offset_of u) (length first) + blocks_added n (offset_of after) (length later) ≡ blocks_added n (offset_of u) (length first + length later) =
    ap (λ offset. blocks_added n (offset_of u) (length first) + blocks_added n offset (length later)) start ∙ blocks_between-two n.block_size (offset_of u) (length first) (length later) in
    let all : count_all chunk ≡ length first + (length later + chunk.more) = omega (arith, count) in
    let all_end : offset_of after + (length later + chunk.more) ≡ offset_of u + count_all chunk = omega (arith, count, start) in
    let all_added : blocks_added n (offset_of u) (count_all chunk) ≡ blocks_added n (offset_of u) (length first + (length later + chunk.more)) = ap (blocks_added n (offset_of u)) all in
    let all_more : blocks_added n (offset_of u) (length first) + blocks_added n (offset_of after) (length later + chunk.more) ≡ blocks_added n (offset_of u) (length first + (length later + chunk.more)) =
    ap (λ offset. blocks_added n (offset_of u) (length first) + blocks_added n offset (length later + chunk.more)) start ∙ blocks_between-two n.block_size (offset_of u) (length first) (length later + chunk.more) in
    record {
      own = can.own;
      typed = can.typed;
      offset = rw start (moved chunk.offset (offset_of u) (length first) can.offset);
      fixed = differ-told u.declared chunk.length can.fixed;
      fits = rw (or_else-twice u.declared chunk.length, end) can.fits;
      known = refl;
      same = refl;
      unspent = both _ _ _ _ _ _ added more can.unspent;
      paid = both _ _ _ _ _ _ added more can.paid;
      all_fit = rw (or_else-twice u.declared chunk.length, all_end) can.all_fit;
      all_unspent = both _ _ _ _ _ _ all_added all_more can.all_unspent;
      all_paid = both _ _ _ _ _ _ all_added all_more can.all_paid;
    }
  where
    both : (before first second all one limit : ℕ) → all ≡ one → first + second ≡ one → before + all ≤ limit → before + first + second ≤ limit
    both before first second all one limit same two fits = omega arith

-- ---- moments

-- where the rest of the bytes is some, those ahead of it do not finish an upload
none-ahead : (n : Numbers) (declared : Option ℕ) (start more : ℕ) → is_too_long n (unwrap_or declared n.max_size) (start + more) ≡ false → is_reached declared start ≡ true → more ≡ 0
none-ahead n None start more fits is = absurd (true≢false (sym is))
none-ahead n (Some most) start more fits is = grind (arith, nat_tests)

-- where finished uploads stay, none has an end
none-finished : (n : Numbers) (now : ℕ) → n.finished_lifetime ≡ 0 → finished_end n now ≡ None
none-finished n now stay = rw stay refl

-- so bytes ahead that finish an upload give it no end
pub no-end-ahead : (n : Numbers) (declared : Option ℕ) (start ahead more now : ℕ) → LastFinishes n ahead (ahead + more) → is_too_long n (unwrap_or declared n.max_size) (start + more) ≡ false → is_reached declared start ≡ true → finished_end n now ≡ None
no-end-ahead n declared start ahead more now (inl stay) fits is = none-finished n now stay
no-end-ahead n declared start ahead more now (inr some) fits is = absurd (omega (arith, some, none-ahead n declared start more fits is))

-- an end that is told later stands in place of one that was told before
pub renewed-later : (n : Numbers) (kind : Kind) (was early late : Bool) (before : Option ℕ) (first last : ℕ) → first ≤ last → (was ≡ true → early ≡ true) → (early ≡ true → late ≡ true)
    → (early ≡ true → (now : ℕ) → finished_end n now ≡ None)
    → renewed n kind early late (renewed n kind was early before first) last ≡ renewed n kind was late before last
renewed-later n Plain true true late before first last le stays grows none = refl
renewed-later n Plain true false late before first last le stays grows none = absurd (true≢false (sym (stays refl)))
renewed-later n Plain false true true before first last le stays grows none = none refl first ∙ sym (none refl last)
renewed-later n Plain false true false before first last le stays grows none = absurd (true≢false (sym (grows refl)))
renewed-later n Plain false false true before first last le stays grows none = refl
renewed-later n Plain false false false before first last le stays grows none = ap (λ end. Some end) (omega (arith, le))
renewed-later n Partial was early late before first last le stays grows none = ap (λ end. Some end) (omega (arith, le))
renewed-later n Final was early late before first last le stays grows none = refl

-- the two leave the same upload
pub upload_with-two : (n : Numbers) (account : Account) (u : Upload) (chunk : Chunk) (first later : List ℕ) (early now : ℕ) → early ≤ now → chunk.bytes ≡ first ++ later → LastFinishes n (length first) (length chunk.bytes) → IsAppendable n account u chunk
    → upload_with n (upload_with n u (first_part chunk first) early) (later_part chunk first later) now ≡ upload_with n u chunk now
upload_with-two n account u chunk first later early now le whole finishes can =
    rw (or_else-twice u.declared chunk.length, content, end) (ap (λ e. record grown { expires = e }) (reached ∙ expiry))
  where
    declared : Option ℕ
    declared = or_else u.declared chunk.length

    after : Upload
    after = upload_with n u (first_part chunk first) early

    grown : Upload
    grown = record u { declared = declared; segments = (content_of u ++ chunk.bytes) ∷ [] }

    content : content_of after ++ later ≡ content_of u ++ chunk.bytes
    content =
        ap (λ l. l ++ later) (content_of-append n u (first_part chunk first) early) ∙ append_assoc (content_of u) first later ∙ ap (λ l. content_of u ++ l) (sym whole)

    count : length chunk.bytes ≡ length first + length later
    count = ap length whole ∙ length-append first later

    start : offset_of after ≡ offset_of u + length first
    start = offset_of-append n u (first_part chunk first) early

    end : offset_of after + length later ≡ offset_of u + length chunk.bytes
    end = omega (arith, count, start)

    last : Bool
    last = is_reached declared (offset_of u + length chunk.bytes)

    reached : renewed n u.kind (is_reached declared (offset_of after)) last after.expires now ≡ renewed n u.kind (is_reached declared (offset_of u + length first)) last after.expires now
    reached = ap (λ offset. renewed n u.kind (is_reached declared offset) last after.expires now) start

    none : is_reached declared (offset_of u + length first) ≡ true → (now : ℕ) → finished_end n now ≡ None
    none is now =
        no-end-ahead n declared (offset_of u + length first) (length first) (length later) now (subst (LastFinishes n (length first)) count finishes)
        (subst (λ all. is_too_long n (unwrap_or declared n.max_size) all ≡ false) (let all : offset_of u + length chunk.bytes ≡ offset_of u + length first + length later = omega (arith, count) in all) can.fits) is

    expiry : renewed n u.kind (is_reached declared (offset_of u + length first)) last after.expires now ≡ renewed n u.kind (is_complete u) last u.expires now
    expiry =
        renewed-later n u.kind (is_complete u) (is_reached declared (offset_of u + length first)) last u.expires early now le
        (λ was. complete_later n declared (offset_of u) (offset_of u + length first) (omega arith) (fewer_fit n (unwrap_or declared n.max_size) (offset_of u + length first) (offset_of u + length chunk.bytes) (omega (arith, count)) can.fits)
        (complete_known u.declared chunk.length (offset_of u) was))
        (complete_later n declared (offset_of u + length first) (offset_of u + length chunk.bytes) (omega (arith, count)) can.fits)
        none

-- an upload that is renewed has not expired, if it had not, where no bytes that finish it give it an end
pub fresh_after : (n : Numbers) (kind : Kind) (was complete : Bool) (before : Option ℕ) (early now : ℕ) → has_expired now before ≡ false → may_end n kind was before ≡ true
    → (complete ≡ true → finished_end n early ≡ None) → has_expired now (renewed n kind was complete before early) ≡ false
fresh_after n Plain true complete before early now fresh had none = fresh
fresh_after n Plain false true before early now fresh had none = rw (none refl) refl
fresh_after n Plain false false None early now fresh had none = absurd (true≢false (sym had))
fresh_after n Plain false false (Some e) early now fresh had none = grind (arith, nat_tests)
fresh_after n Partial was complete None early now fresh had none = absurd (true≢false (sym had))
fresh_after n Partial was complete (Some e) early now fresh had none = grind (arith, nat_tests)
fresh_after n Final was complete before early now fresh had none = fresh

-- a piece of a PATCH of an upload that is seen at a later moment leaves one that is seen then
pub fresh_append : (n : Numbers) (account : Account) (part : TenantBook) (u : Upload) (chunk : Chunk) (first later : List ℕ) (early now : ℕ) → IsAppendable n account u chunk → chunk.bytes ≡ first ++ later
    → LastFinishes n (length first) (length chunk.bytes) → IsUploadOf n part u → has_expired now u.expires ≡ false → has_expired now (upload_with n u (first_part chunk first) early).expires ≡ false
fresh_append n account part u chunk first later early now can whole finishes sound fresh =
    let declared = or_else u.declared chunk.length in
    let count : length chunk.bytes ≡ length first + length later = ap length whole ∙ length-append first later in
    let all : offset_of u + length chunk.bytes ≡ offset_of u + length first + length later = omega (arith, count) in
    fresh_after n u.kind (is_complete u) (is_reached declared (offset_of u + length first)) u.expires early now fresh sound.ends
    (no-end-ahead n declared (offset_of u + length first) (length first) (length later) early (subst (LastFinishes n (length first)) count finishes)
    (subst (λ all. is_too_long n (unwrap_or declared n.max_size) all ≡ false) all can.fits))

-- the end of an upload that is visible
abbrev pub end_of : Upload → Option ℕ
end_of u = u.expires

-- the row of an upload with bytes at its end is its row with the bytes
row-with : (n : Numbers) (u : Upload) (chunk : Chunk) (now : ℕ) → head_row_of (upload_with n u chunk now) ≡ row_with n (head_row_of u) chunk now
row-with n u chunk now =
    ap (λ offset. record (row_with n (head_row_of u) chunk now) { offset = offset }) (offset_of-append n u chunk now)

-- an account by its numbers
record_account : ℕ → ℕ → ℕ → Account
record_account charge quota charged = record { charge = charge; quota = quota; charged = charged }

row_of-unless : (why : Option Refusal) (u : Upload) (row : HeadRow) (account : Account) → head_row_of u ≡ row → row_of (unless why u) ≡ row_in (unless why (row, account))
row_of-unless None u row account is = ap Ok is
row_of-unless (Some why) u row account is = refl

-- what a HEAD tells after a PATCH
pub rows_follow : RowsFollow
rows_follow n account u chunk now =
    row_of-unless (append_refusal n account (head_row_of u) chunk) (upload_with n u chunk now) (row_with n (head_row_of u) chunk now) (account_with account (blocks_added n (offset_of u) (length chunk.bytes))) (row-with n u chunk now)

-- what was charged after a part pays so many more
charged_more : (charged before after added : ℕ) → after ≡ before + added → charged + (after - before) ≡ charged + added
charged_more charged before after added is = omega arith

same_accounts : (charge charge' charged charged' quota : ℕ) → charge ≡ charge' → charged ≡ charged' → record_account charge quota charged ≡ record_account charge' quota charged'
unfolding record_account
same_accounts charge charge' charged charged' quota is total = rw (is, total) refl

-- the account of a part that pays so many more
pub account_more : (n : Numbers) (before after : TenantBook) (charged added : ℕ) → after.quota ≡ before.quota → charge_in n after ≡ charge_in n before + added
    → account_in n after (charged_after n charged before after) ≡ account_with (account_in n before charged) added
unfolding record_account
account_more n before after charged added quota is =
    ap (λ quota. record_account (charge_in n after) quota (charged_after n charged before after)) quota ∙ same_accounts _ _ _ _ before.quota is (charged_more charged (charge_in n before) (charge_in n after) added is)

-- the account after a PATCH follows from that before it
pub accounts_follow : AccountsFollow
unfolding record_account
accounts_follow n part id charged u chunk now sound there none =
    let is = charge-append n (account_in n part charged) part id u chunk now sound there none in
    same_accounts _ _ _ _ part.quota is (charged_more charged (charge_in n part) _ (blocks_added n (offset_of u) (length chunk.bytes)) is)

-- a PATCH that is accepted sees an upload, and no refusal applies
unrefused_answer : (why : Option Refusal) (u : Upload) (expires : Option ℕ) → IsOk (told (telling expires (unless why u))) → why ≡ None
unrefused_answer None u expires accepted = refl
unrefused_answer (Some why) u expires accepted = absurd (true≢false (sym accepted))

-- what is told of a PATCH that sees this, and none is refused
pub record Accepts (n : Numbers) (part : TenantBook) (id : ℕ) (chunk : Chunk) (now charged : ℕ) : Type 0 where
  pub u : Upload
  pub visible : visible_upload part id now ≡ Ok u
  pub none : append_refusal n (account_in n part charged) (head_row_of u) chunk ≡ None

-- the answer, by what is visible
unfoldable pub answer_where : Numbers → Account → Chunk → ℕ → Result Upload Refusal → Result Appended Refused
answer_where n account chunk now (Ok u) = told (telling u.expires (appended_upload n account u chunk now))
answer_where n account chunk now (Err why) = Err (record { refusal = why; expires = None })

pub append_answer-where : (n : Numbers) (part : TenantBook) (id : ℕ) (chunk : Chunk) (now charged : ℕ) (seen : Result Upload Refusal) → visible_upload part id now ≡ seen → append_answer id chunk now charged n part ≡ answer_where n (account_in n part charged) chunk now seen
unfolding answer_where
append_answer-where n part id chunk now charged (Ok u) is = rw is refl
append_answer-where n part id chunk now charged (Err why) is = rw is refl

accepted_where : (n : Numbers) (part : TenantBook) (id : ℕ) (chunk : Chunk) (now charged : ℕ) (seen : Result Upload Refusal) → visible_upload part id now ≡ seen → IsOk (answer_where n (account_in n part charged) chunk now seen) → Accepts n part id chunk now charged
unfolding answer_where
accepted_where n part id chunk now charged (Ok u) is accepted =
    record { u = u; visible = is; none = unrefused_answer (append_refusal n (account_in n part charged) (head_row_of u) chunk) _ u.expires accepted }
accepted_where n part id chunk now charged (Err why) is accepted = absurd (true≢false (sym accepted))

pub Accepts-from_ok : (n : Numbers) (part : TenantBook) (id : ℕ) (chunk : Chunk) (now charged : ℕ) → IsOk (append_answer id chunk now charged n part) → Accepts n part id chunk now charged
Accepts-from_ok n part id chunk now charged accepted =
    accepted_where n part id chunk now charged (visible_upload part id now) refl (rw (append_answer-where n part id chunk now charged (visible_upload part id now) refl) at accepted)

-- the answer and the part then
unfoldable pub answer_of_upload : Upload → Result Appended Refused
answer_of_upload u = Ok (record { offset = offset_of u; expires = u.expires })

pub answer_accepted : (n : Numbers) (part : TenantBook) (id : ℕ) (chunk : Chunk) (now charged : ℕ) (u : Upload) → visible_upload part id now ≡ Ok u → IsAppendable n (account_in n part charged) u chunk → append_answer id chunk now charged n part ≡ answer_of_upload (upload_with n u chunk now)
unfolding answer_of_upload
answer_accepted n part id chunk now charged u is can = rw (is, append_refusal-none n (account_in n part charged) u chunk can) refl

pub part_accepted : (n : Numbers) (part : TenantBook) (id : ℕ) (chunk : Chunk) (now charged : ℕ) (u : Upload) → visible_upload part id now ≡ Ok u → IsAppendable n (account_in n part charged) u chunk → part_after_append id chunk now charged n part ≡ with_changed part id (upload_with n u chunk now)
part_accepted n part id chunk now charged u is can = rw (is, append_refusal-none n (account_in n part charged) u chunk can) refl

-- a PATCH that is accepted may be sent in two
pub resumed_patch : ResumedPatch
unfolding answer_of_upload
resumed_patch n part id charged chunk first later now sound whole finishes accepted =
    (rw answer_one refl, answer_two ∙ sym answer_whole, part_two ∙ sym part_whole)
  where
    account : Account
    account = account_in n part charged

    found : Accepts n part id chunk now charged
    found = Accepts-from_ok n part id chunk now charged accepted

    u : Upload
    u = found.u

    one : Chunk
    one = first_part chunk first

    two : Chunk
    two = later_part chunk first later

    can : IsAppendable n account u chunk
    can = IsAppendable-from_none n account u chunk found.none

    can_one : IsAppendable n account u one
    can_one = IsAppendable-first n account u chunk first later whole can

    after : Upload
    after = upload_with n u one now

    middle : TenantBook
    middle = with_changed part id after

    there : kept_in part.uploads id ≡ Some u
    there = visible_in-Ok end_of part id now u found.visible

    more : ℕ
    more = charged_after n charged part middle

    follows : account_in n middle more ≡ account_with account (blocks_added n (offset_of u) (length first))
    follows = accounts_follow n part id charged u one now sound there (append_refusal-none n account u one can_one)

    can_two : IsAppendable n (account_in n middle more) after two
    can_two = subst (λ account. IsAppendable n account after two) (sym follows) (IsAppendable-later n account u chunk first later now whole can)

    is_middle : part_after_append id one now charged n part ≡ middle
    is_middle = part_accepted n part id one now charged u found.visible can_one

    sound_u : IsUploadOf n part u
    sound_u = kept_in-All (IsUploadOf n part) part.uploads id u sound.uploads there

    sees : visible_upload middle id now ≡ Ok after
    sees =
        visible_in-changed end_of part id now u after found.visible (fresh_append n account part u chunk first later now now can whole finishes sound_u (visible_in-fresh end_of part id now u found.visible).1)

    same : upload_with n after two now ≡ upload_with n u chunk now
    same = upload_with-two n account u chunk first later now now (omega arith) whole finishes can

    answer_one : append_answer id one now charged n part ≡ answer_of_upload (upload_with n u one now)
    answer_one = answer_accepted n part id one now charged u found.visible can_one

    answer_whole : append_answer id chunk now charged n part ≡ answer_of_upload (upload_with n u chunk now)
    answer_whole = answer_accepted n part id chunk now charged u found.visible can

    answer_two : append_answer id two now (charged_after n charged part (part_after_append id one now charged n part)) n (part_after_append id one now charged n part) ≡ answer_of_upload (upload_with n u chunk now)
    answer_two =
        ap (λ part'. append_answer id two now (charged_after n charged part part') n part') is_middle
        ∙ answer_accepted n middle id two now more after sees can_two
        ∙ ap answer_of_upload same

    part_whole : part_after_append id chunk now charged n part ≡ with_changed part id (upload_with n u chunk now)
    part_whole = part_accepted n part id chunk now charged u found.visible can

    part_two : part_after_append id two now (charged_after n charged part (part_after_append id one now charged n part)) n (part_after_append id one now charged n part) ≡ with_changed part id (upload_with n u chunk now)
    part_two =
        ap (λ part'. part_after_append id two now (charged_after n charged part part') n part') is_middle
        ∙ part_accepted n middle id two now more after sees can_two
        ∙ rw (same, with_kept-twice part.uploads id after (upload_with n u chunk now)) refl
