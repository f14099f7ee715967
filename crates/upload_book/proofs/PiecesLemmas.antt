-- A PATCH that comes in pieces.
use Rattle.std.proofs.Common.{◌≡◌, ℕ, ◌+◌, ◌≤◌, true, false, true≢false, List, [], ◌∷◌, ◌++◌, length, take, drop, Option, Some, None, Result, Ok, Err, refl, sym, ap, subst, ◌∙◌, arith, length-append, inl, inr, length-take, length-drop}
use Rattle.std.specs.List.{All}
use Rattle.std.specs.Result.{IsOk}
use Rattle.std.proofs.lemmas.Bool.Decides.{nat_tests}
use Rattle.std.proofs.lemmas.List.{take-append-drop}
use Rattle.std.proofs.lemmas.List.Sums.{sum_by-cons}
use Rattle.std.proofs.lemmas.List.Elements.{All-head, All-tail}
use Rattle.upload_book.specs.Account.{account_in, account_with, blocks_added}
use Rattle.upload_book.specs.declared.board_line.Account.{Account}
use Rattle.upload_book.specs.Append.{append_refusal, append_answer, part_after_append, telling, told, upload_with}
use Rattle.upload_book.specs.Charge.{charge_in}
use Rattle.upload_book.specs.Chunk.{Chunk, count_all}
use Rattle.upload_book.specs.declared.append.Appended.{Appended}
use Rattle.upload_book.specs.declared.append.Refused.{Refused}
use Rattle.upload_book.specs.declared.head_row.HeadRow.{HeadRow}
use Rattle.upload_book.specs.declared.refusal.Refusal.{Refusal}
use Rattle.upload_book.specs.declared.settings.Numbers.{Numbers}
use Rattle.upload_book.specs.Expiry.{has_expired}
use Rattle.upload_book.specs.laws.Steps.{LastFinishes, charged_after, later_part}
use Rattle.upload_book.specs.Lawful.{IsTenantOf, IsUploadOf}
use Rattle.upload_book.specs.laws.PiecedPatch.{Patched, Piece, PiecedPatch, ahead_in, as_one, first_piece, goes_on, in_pieces}
use Rattle.upload_book.specs.Refusal.{unless}
use Rattle.upload_book.specs.TenantBook.{TenantBook, kept_in, visible_upload, with_changed}
use Rattle.upload_book.specs.Upload.{Upload, offset_of, head_row_of}
use Rattle.upload_book.proofs.Charge.ChargeLemmas.{charge-append}
use Rattle.upload_book.proofs.LawsLemmas.{Accepts, Accepts-from_ok, IsAppendable-first, IsAppendable-later, accounts_follow, answer_accepted, answer_of_upload, answer_where, append_answer-where, end_of, fresh_append, part_accepted, upload_with-two}
use Rattle.upload_book.proofs.Lawful.AppendLemmas.{part_after_append-refused}
use Rattle.upload_book.proofs.Lawful.Entries.{kept_in-All, visible_in-changed, visible_in-fresh, visible_in-Ok, with_kept-twice}
use Rattle.upload_book.proofs.Lawful.LawfulAppend.{IsAppendable, IsAppendable-from_none, IsTenantOf-append, append_refusal-none, fewer_blocks}

-- ---- moments

-- what has not expired had not expired before
unexpired-earlier : (early now : ℕ) (expires : Option ℕ) → early ≤ now → has_expired now expires ≡ false → has_expired early expires ≡ false
unexpired-earlier early now None le fresh = refl
unexpired-earlier early now (Some end) le fresh = grind (arith, nat_tests)

-- and what is visible was visible
visible-earlier : (part : TenantBook) (id early now : ℕ) (u : Upload) → early ≤ now → visible_upload part id now ≡ Ok u → visible_upload part id early ≡ Ok u
visible-earlier part id early now u le is =
    let fresh = visible_in-fresh end_of part id now u is in
    rw (fresh.0, visible_in-Ok end_of part id now u is, unexpired-earlier early now u.expires le fresh.1) refl

-- ---- the first piece, at an earlier moment

-- the first piece has as many bytes in all
count-piece : (chunk : Chunk) (first later : List ℕ) → chunk.bytes ≡ first ++ later → length first + (length later + chunk.more) ≡ count_all chunk
count-piece chunk first later whole = omega (arith, ap length whole ∙ length-append first later)

-- where the whole is accepted, so is the first piece
IsAppendable-piece : (n : Numbers) (account : Account) (u : Upload) (chunk : Chunk) (first later : List ℕ) → chunk.bytes ≡ first ++ later → IsAppendable n account u chunk → IsAppendable n account u (first_piece chunk first later)
IsAppendable-piece n account u chunk first later whole can =
    let count = count-piece chunk first later whole in
    let one = IsAppendable-first n account u chunk first later whole can in
    record {
      own = can.own;
      typed = can.typed;
      offset = can.offset;
      fixed = can.fixed;
      fits = one.fits;
      known = refl;
      same = refl;
      unspent = one.unspent;
      paid = one.paid;
      all_fit = rw count can.all_fit;
      all_unspent = rw count can.all_unspent;
      all_paid = rw count can.all_paid;
    }

-- what is known after the first piece of a PATCH that would be accepted as one at a later moment
pub record GoesOn (n : Numbers) (part : TenantBook) (id charged : ℕ) (chunk : Chunk) (first later : List ℕ) (early now : ℕ) : Type 0 where
  pub accepted : IsOk (append_answer id (first_piece chunk first later) early charged n part)
  pub sound : IsTenantOf n (part_after_append id (first_piece chunk first later) early charged n part)
  pub answer : let middle = part_after_append id (first_piece chunk first later) early charged n part in
      append_answer id (later_part chunk first later) now (charged_after n charged part middle) n middle ≡ append_answer id chunk now charged n part
  pub after : let middle = part_after_append id (first_piece chunk first later) early charged n part in
      part_after_append id (later_part chunk first later) now (charged_after n charged part middle) n middle ≡ part_after_append id chunk now charged n part
  pub upload : Upload
  pub there : kept_in part.uploads id ≡ Some upload
  pub unrefused : append_refusal n (account_in n part charged) (head_row_of upload) (first_piece chunk first later) ≡ None
  pub made : part_after_append id (first_piece chunk first later) early charged n part ≡ with_changed part id (upload_with n upload (first_piece chunk first later) early)
  pub grows : charge_in n part ≤ charge_in n (part_after_append id (first_piece chunk first later) early charged n part)
  pub grows_on : charge_in n (part_after_append id (first_piece chunk first later) early charged n part) ≤ charge_in n (part_after_append id chunk now charged n part)

pub GoesOn-first : (n : Numbers) (part : TenantBook) (id charged : ℕ) (chunk : Chunk) (first later : List ℕ) (early now : ℕ) → IsTenantOf n part → early ≤ now → chunk.bytes ≡ first ++ later
    → LastFinishes n (length first) (length chunk.bytes) → IsOk (append_answer id chunk now charged n part) → GoesOn n part id charged chunk first later early now
unfolding answer_of_upload
GoesOn-first n part id charged chunk first later early now sound le whole finishes accepted = record {
  accepted = rw (answer_accepted n part id one early charged u seen can_one) refl;
  sound = subst (IsTenantOf n) (sym is_middle) (IsTenantOf-append n account part id u one early there none_one sound);
  answer = answer_two ∙ sym (answer_accepted n part id chunk now charged u found.visible can);
  after = part_two ∙ sym (part_accepted n part id chunk now charged u found.visible can);
  upload = u;
  there = there;
  unrefused = none_one;
  made = is_middle;
  grows = rw is_middle (omega (arith, pays_one));
  grows_on = rw (is_middle, part_accepted n part id chunk now charged u found.visible can) (omega (arith, pays_one, pays_all, fewer));
}
  where
    account : Account
    account = account_in n part charged

    found : Accepts n part id chunk now charged
    found = Accepts-from_ok n part id chunk now charged accepted

    u : Upload
    u = found.u

    seen : visible_upload part id early ≡ Ok u
    seen = visible-earlier part id early now u le found.visible

    one : Chunk
    one = first_piece chunk first later

    two : Chunk
    two = later_part chunk first later

    can : IsAppendable n account u chunk
    can = IsAppendable-from_none n account u chunk found.none

    can_one : IsAppendable n account u one
    can_one = IsAppendable-piece n account u chunk first later whole can

    none_one : append_refusal n account (head_row_of u) one ≡ None
    none_one = append_refusal-none n account u one can_one

    after : Upload
    after = upload_with n u one early

    middle : TenantBook
    middle = with_changed part id after

    there : kept_in part.uploads id ≡ Some u
    there = visible_in-Ok end_of part id now u found.visible

    more : ℕ
    more = charged_after n charged part middle

    follows : account_in n middle more ≡ account_with account (blocks_added n (offset_of u) (length first))
    follows = accounts_follow n part id charged u one early sound there none_one

    can_two : IsAppendable n (account_in n middle more) after two
    can_two = subst (λ account. IsAppendable n account after two) (sym follows) (IsAppendable-later n account u chunk first later early whole can)

    is_middle : part_after_append id one early charged n part ≡ middle
    is_middle = part_accepted n part id one early charged u seen can_one

    pays_one : charge_in n middle ≡ charge_in n part + blocks_added n (offset_of u) (length first)
    pays_one = charge-append n account part id u one early sound there none_one

    pays_all : charge_in n (with_changed part id (upload_with n u chunk now)) ≡ charge_in n part + blocks_added n (offset_of u) (length chunk.bytes)
    pays_all = charge-append n account part id u chunk now sound there found.none

    fewer : blocks_added n (offset_of u) (length first) ≤ blocks_added n (offset_of u) (length chunk.bytes)
    fewer = rw (ap length whole ∙ length-append first later) (fewer_blocks n.block_size (offset_of u) (length first) (length later))

    sound_u : IsUploadOf n part u
    sound_u = kept_in-All (IsUploadOf n part) part.uploads id u sound.uploads there

    sees : visible_upload middle id now ≡ Ok after
    sees =
        visible_in-changed end_of part id now u after found.visible (fresh_append n account part u chunk first later early now can whole finishes sound_u (visible_in-fresh end_of part id now u found.visible).1)

    same : upload_with n after two now ≡ upload_with n u chunk now
    same = upload_with-two n account u chunk first later early now le whole finishes can

    answer_two : append_answer id two now (charged_after n charged part (part_after_append id one early charged n part)) n (part_after_append id one early charged n part) ≡ answer_of_upload (upload_with n u chunk now)
    answer_two =
        ap (λ part'. append_answer id two now (charged_after n charged part part') n part') is_middle
        ∙ answer_accepted n middle id two now more after sees can_two
        ∙ ap answer_of_upload same

    part_two : part_after_append id two now (charged_after n charged part (part_after_append id one early charged n part)) n (part_after_append id one early charged n part) ≡ with_changed part id (upload_with n u chunk now)
    part_two =
        ap (λ part'. part_after_append id two now (charged_after n charged part part') n part') is_middle
        ∙ part_accepted n middle id two now more after sees can_two
        ∙ rw (same, with_kept-twice part.uploads id after (upload_with n u chunk now)) refl

-- ---- piece by piece

-- it goes on where the piece is accepted
pub goes_on-accepted : (made : Result Appended Refused) (middle : TenantBook) (rest : Patched) → IsOk made → goes_on made middle rest ≡ rest
goes_on-accepted (Ok b) middle rest accepted = refl
goes_on-accepted (Err why) middle rest accepted = absurd (true≢false (sym accepted))

-- what a PATCH comes to, of its parts
abbrev patched : Result Appended Refused → TenantBook → Patched
patched answer part = record { answer = answer; part = part }

as_one-same : (answer answer' : Result Appended Refused) (part part' : TenantBook) → answer ≡ answer' → part ≡ part' → patched answer part ≡ patched answer' part'
as_one-same answer answer' part part' is after = rw (is, after) refl

-- where the last bytes finish the upload, they do so behind the first piece,
pub finishes-first : (n : Numbers) (p : Piece) (pieces : List Piece) (bytes : List ℕ) → LastFinishes n (ahead_in (p ∷ pieces)) (length bytes) → LastFinishes n (length (take p.len bytes)) (length bytes)
finishes-first n p pieces bytes (inl stay) = inl stay
finishes-first n p pieces bytes (inr some) = inr (omega (arith, some, sum_by-cons (λ (p : Piece). p.len) p pieces, length-take p.len bytes))

-- and behind the others
pub finishes-on : (n : Numbers) (p : Piece) (pieces : List Piece) (bytes : List ℕ) → LastFinishes n (ahead_in (p ∷ pieces)) (length bytes) → LastFinishes n (ahead_in pieces) (length (drop p.len bytes))
finishes-on n p pieces bytes (inl stay) = inl stay
finishes-on n p pieces bytes (inr some) = inr (omega (arith, some, sum_by-cons (λ (p : Piece). p.len) p pieces, length-drop p.len bytes))

-- however it is cut
all_accepted : (n : Numbers) (part : TenantBook) (id charged : ℕ) (chunk : Chunk) (pieces : List Piece) (now : ℕ) → IsTenantOf n part
    → All (λ (p : Piece). p.now ≤ now) pieces → LastFinishes n (ahead_in pieces) (length chunk.bytes)
    → IsOk (append_answer id chunk now charged n part)
    → in_pieces id chunk pieces now charged n part ≡ as_one id chunk now charged n part
all_accepted n part id charged chunk [] now sound moments finishes accepted = refl
all_accepted n part id charged chunk (p ∷ pieces) now sound moments finishes accepted =
    goes_on-accepted
    (append_answer id (first_piece chunk first later) p.now charged n part) middle
    (in_pieces id two pieces now (charged_after n charged part middle) n middle)
    on.accepted
    ∙ all_accepted n middle id (charged_after n charged part middle) two pieces now on.sound (All-tail (λ (p : Piece). p.now ≤ now) p pieces moments) (finishes-on n p pieces chunk.bytes finishes) (subst IsOk (sym on.answer) accepted)
    ∙ as_one-same _ _ _ _ on.answer on.after
  where
    first : List ℕ
    first = take p.len chunk.bytes

    later : List ℕ
    later = drop p.len chunk.bytes

    two : Chunk
    two = later_part chunk first later

    middle : TenantBook
    middle = part_after_append id (first_piece chunk first later) p.now charged n part

    on : GoesOn n part id charged chunk first later p.now now
    on = GoesOn-first n part id charged chunk first later p.now now sound (All-head (λ (p : Piece). p.now ≤ now) p pieces moments) (sym (take-append-drop p.len chunk.bytes)) (finishes-first n p pieces chunk.bytes finishes) accepted

-- ---- what is refused

-- a refusal is the same for as many bytes, where no checksum came
refusal-piece : (n : Numbers) (account : Account) (row : HeadRow) (chunk : Chunk) (first later : List ℕ) → chunk.check ≡ None → chunk.bytes ≡ first ++ later
    → append_refusal n account row (first_piece chunk first later) ≡ append_refusal n account row chunk
refusal-piece n account row chunk first later unchecked whole = rw (count-piece chunk first later whole, unchecked) refl

-- what is refused tells of no upload
told-refused : (refusal : Option Refusal) (u v : Upload) (expires : Option ℕ) (why : Refused) → told (telling expires (unless refusal u)) ≡ Err why → told (telling expires (unless refusal v)) ≡ Err why
told-refused None u v expires why is = absurd (cc)
told-refused (Some refusal) u v expires why is = is

same_refusal : (n : Numbers) (account : Account) (chunk other : Chunk) (now : ℕ) (seen : Result Upload Refusal) (why : Refused) → ((row : HeadRow) → append_refusal n account row other ≡ append_refusal n account row chunk)
    → answer_where n account chunk now seen ≡ Err why → answer_where n account other now seen ≡ Err why
unfolding answer_where
same_refusal n account chunk other now (Ok u) why same is =
    rw (same (head_row_of u)) (told-refused (append_refusal n account (head_row_of u) chunk) (upload_with n u chunk now) (upload_with n u other now) u.expires why is)
same_refusal n account chunk other now (Err e) why same is = is

refused_at_once : (n : Numbers) (part : TenantBook) (id charged : ℕ) (chunk : Chunk) (p : Piece) (pieces : List Piece) (now : ℕ) (why : Refused) → chunk.check ≡ None
    → append_answer id chunk p.now charged n part ≡ Err why
    → in_pieces id chunk (p ∷ pieces) now charged n part ≡ record { answer = Err why; part = part }
refused_at_once n part id charged chunk p pieces now why unchecked is =
    rw refused (ap (patched (Err why)) (part_after_append-refused id one p.now charged n part why refused))
  where
    first : List ℕ
    first = take p.len chunk.bytes

    later : List ℕ
    later = drop p.len chunk.bytes

    one : Chunk
    one = first_piece chunk first later

    seen : Result Upload Refusal
    seen = visible_upload part id p.now

    refused : append_answer id one p.now charged n part ≡ Err why
    refused =
        append_answer-where n part id one p.now charged seen refl
        ∙ same_refusal n (account_in n part charged) chunk one p.now seen why
        (λ row. refusal-piece n (account_in n part charged) row chunk first later unchecked (sym (take-append-drop p.len chunk.bytes)))
        (sym (append_answer-where n part id chunk p.now charged seen refl) ∙ is)

pub pieced_patch : PiecedPatch
pieced_patch = record { accepted = all_accepted; refused = refused_at_once }
