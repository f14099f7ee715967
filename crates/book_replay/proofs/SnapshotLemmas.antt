-- The records of a snapshot, as they are put one after another, and the book that is made of them.
use Rattle.std.proofs.Common.{◌≡◌, ℕ, suc, ◌+◌, ◌<◌, ◌≤◌, List, [], ◌∷◌, ◌++◌, map, length, get_or, take, drop, Option, Some, None, IsSome, option_map, Result, Ok, Err, OnOk, inl, inr, refl, sym, ap, subst, ◌∙◌, append_assoc, append-nil, add-zero, arith}
use Rattle.std.specs.Result.{IsOk}
use Rattle.std.specs.List.{AllByRecursion, slice_get}
use Rattle.std.proofs.lemmas.List.{length-map, length-take, map-append, take_all, take_more}
use Rattle.std.proofs.lemmas.Option.{slice_get_cases}
use Rattle.journal_frames.specs.Frames.{Fits}
use Rattle.journal_records.specs.Records.{record_bytes}
use Rattle.upload_book.specs.Change.{change_answer}
use Rattle.upload_book.specs.declared.change.Change.TheVariants.{Restore}
use Rattle.upload_book.specs.declared.head_row.Kind.{Kind}
use Rattle.upload_book.specs.declared.head_row.Kind.TheVariants.{Plain, Partial, Final}
use Rattle.upload_book.specs.declared.restored.Restored.{Restored}
use Rattle.upload_book.specs.declared.restored.Restored.TheVariants.{Upload, Next, Totals}
use Rattle.upload_book.specs.declared.settings.TenantQuota.{TenantQuota}
use Rattle.upload_book.specs.Events.{book_after_all}
use Rattle.upload_book.specs.Lawful.{IsLawful}
use Rattle.upload_book.specs.PlainBook.{PlainBook, opening_book, tenant_book}
use Rattle.upload_book.specs.Settings.{Settings}
use Rattle.upload_book.specs.snapshot.Restore.{CanBePutBack, HasSegments, book_after_piece, piece_refusal}
use Rattle.upload_book.specs.snapshot.Restored.{RestoredSegment, RestoredUpload}
use Rattle.upload_book.specs.snapshot.Snapshot.{AreAccepted, book_after_pieces, parts_kept, snapshot_of, upload_kept, uploads_kept}
use Rattle.upload_book.specs.TenantBook.{Entry, TenantBook, opening_part}
use Rattle.upload_book.specs.Upload.{Upload as PlainUpload}
use Rattle.upload_book.proofs.Restoring.BooksBack.{snapshots_restore}
use Rattle.upload_book.proofs.Restoring.PieceSteps.{piece-settings, piece-tenants}
use Rattle.book_replay.specs.Replay.{AllHappen, record_of, records_of, replayed}
use Rattle.book_replay.specs.Snapshot.{ArePut, HasNumbers, IsSnapshot, behind_room, piece_event, piece_records, snapshot_records}
use Rattle.book_replay.proofs.ReplayLemmas.{all-replayed}

-- ---- what holds of each

pub all-append : {X : Type 0} (P : X → Type 0) (xs ys : List X) → AllByRecursion P xs → AllByRecursion P ys → AllByRecursion P (xs ++ ys)
all-append P [] ys all others = others
all-append P (x ∷ xs) ys all others = (all.0, all-append P xs ys all.1 others)

-- of one element more
pub all-more : {X : Type 0} (P : X → Type 0) (xs : List X) (k : ℕ) (x : X) → k < length xs → ((d : X) → x ≡ get_or xs k d) → AllByRecursion P (take k xs) → P x → AllByRecursion P (take (k + 1) xs)
all-more {X} P xs k x within read all one =
    let further : take (k + 1) xs ≡ take k xs ++ x ∷ [] = take_more xs k x within ∙ ap (λ (y : X). take k xs ++ y ∷ []) (sym (read x)) in
    subst (AllByRecursion P) (sym further) (all-append P (take k xs) (x ∷ []) all (one, tt))

-- an upload of its form has few segments
pub few-segments : (kind : Kind) (id : ℕ) (segments : List RestoredSegment) → HasSegments kind id segments → length segments ≤ 32
few-segments Plain id segments own = omega (arith, ap (length {A = RestoredSegment}) own.1)
few-segments Partial id segments own = omega (arith, ap (length {A = RestoredSegment}) own.1)
few-segments Final id segments joined = joined.1

-- ---- what is put

piece_records-append : (now : ℕ) (some more : List Restored) → piece_records now (some ++ more) ≡ piece_records now some ++ piece_records now more
piece_records-append now some more =
    ap records_of (map-append (piece_event now) some more) ∙ map-append record_of (map (piece_event now) some) (map (piece_event now) more)

pub none-put : (now : ℕ) (before : List (List ℕ)) → ArePut now [] before before
none-put now before = record { records = sym (append-nil before); fits = tt; numbers = tt }

pub one-put : (now : ℕ) (piece : Restored) (room : List ℕ) (before after : List (List ℕ)) → room ≡ behind_room (record_bytes now (Restore piece)) → after ≡ before ++ room ∷ [] → Fits (drop 24 room) → HasNumbers piece → ArePut now (piece ∷ []) before after
one-put now piece room before after is put fits numbers = record {
  records = put ∙ ap (λ (r : List ℕ). before ++ r ∷ []) is;
  fits = (subst Fits (ap (drop 24) is) fits, tt);
  numbers = (numbers, tt);
}

pub put-then : (now : ℕ) (some more : List Restored) (before between after : List (List ℕ)) → ArePut now some before between → ArePut now more between after → ArePut now (some ++ more) before after
put-then now some more before between after first then = record {
  records =
      then.records
      ∙ ap (λ (l : List (List ℕ)). l ++ map behind_room (piece_records now more)) first.records
      ∙ append_assoc before (map behind_room (piece_records now some)) (map behind_room (piece_records now more))
      ∙ ap (λ (l : List (List ℕ)). before ++ l) (sym (ap (map behind_room) (piece_records-append now some more) ∙ map-append behind_room (piece_records now some) (piece_records now more)));
  fits = subst (AllByRecursion Fits) (sym (piece_records-append now some more)) (all-append Fits (piece_records now some) (piece_records now more) first.fits then.fits);
  numbers = all-append HasNumbers some more first.numbers then.numbers;
}

-- the same of a call that may fail

pub one-put_ok : {T E : Type 0} (r : Result T E) (now : ℕ) (piece : Restored) (room : List ℕ) (before after : List (List ℕ)) → room ≡ behind_room (record_bytes now (Restore piece)) → HasNumbers piece
    → OnOk r (after ≡ before ++ room ∷ []) → OnOk r (Fits (drop 24 room)) → OnOk r (ArePut now (piece ∷ []) before after)
one-put_ok (Ok x) now piece room before after is numbers put fits = one-put now piece room before after is put fits numbers
one-put_ok (Err e) now piece room before after is numbers put fits = tt

pub put-then_ok : {T E : Type 0} (r : Result T E) (now : ℕ) (some more : List Restored) (before between after : List (List ℕ)) → ArePut now some before between → OnOk r (ArePut now more between after) → OnOk r (ArePut now (some ++ more) before after)
put-then_ok (Ok x) now some more before between after first then = put-then now some more before between after first then
put-then_ok (Err e) now some more before between after first then = tt

pub fits_ok : {T E : Type 0} (r : Result T E) (payload : List ℕ) → Fits payload → OnOk r (Fits payload)
fits_ok (Ok x) payload fits = fits
fits_ok (Err e) payload fits = tt

-- a next id by another name
pub next-put : (now tenant id next : ℕ) (before after : List (List ℕ)) → id ≡ next → ArePut now (Next tenant id ∷ []) before after → ArePut now (Next tenant next ∷ []) before after
next-put now tenant id next before after is put = subst (λ (n : ℕ). ArePut now (Next tenant n ∷ []) before after) is put

pub next-put_ok : {T E : Type 0} (r : Result T E) (now tenant id next : ℕ) (before after : List (List ℕ)) → id ≡ next → OnOk r (ArePut now (Next tenant id ∷ []) before after) → OnOk r (ArePut now (Next tenant next ∷ []) before after)
next-put_ok (Ok x) now tenant id next before after is put = next-put now tenant id next before after is put
next-put_ok (Err e) now tenant id next before after is put = tt

-- ---- uploads

-- the pieces of one upload
abbrev one_kept : ℕ → List (Entry PlainUpload) → Entry PlainUpload → List Restored
one_kept tenant before e = Next tenant e.id ∷ Upload tenant (upload_kept before e) ∷ []

-- one upload more
uploads-more : (tenant : ℕ) (before some : List (Entry PlainUpload)) (e : Entry PlainUpload) → uploads_kept tenant before (some ++ e ∷ []) ≡ uploads_kept tenant before some ++ one_kept tenant (before ++ some) e
uploads-more tenant before [] e = ap (λ (l : List (Entry PlainUpload)). one_kept tenant l e) (sym (append-nil before))
uploads-more tenant before (a ∷ some) e =
    ap (λ (l : List Restored). Next tenant a.id ∷ Upload tenant (upload_kept before a) ∷ l)
    (uploads-more tenant (before ++ a ∷ []) some e
    ∙ ap (λ (l : List (Entry PlainUpload)). uploads_kept tenant (before ++ a ∷ []) some ++ one_kept tenant l e) (append_assoc before (a ∷ []) some))

-- the upload at a place, as a book lends it
abbrev pub lent_at : List (Entry PlainUpload) → ℕ → Option RestoredUpload
lent_at uploads place = option_map (λ (e : Entry PlainUpload). upload_kept (take place uploads) e) (slice_get uploads place)

-- there is one at each place before their number
pub lent-there : (uploads : List (Entry PlainUpload)) (place : ℕ) (lent : Option RestoredUpload) → place < length uploads → lent ≡ lent_at uploads place → IsSome lent
lent-there uploads place lent within is =
    elim (slice_get_cases uploads place).1 [
      | inl there ↦ subst (IsSome {T = RestoredUpload}) (sym (is ∙ ap (option_map (λ (e : Entry PlainUpload). upload_kept (take place uploads) e)) there.2)) refl
      | inr past ↦ absurd (omega (arith, past.0, within))
    ]

some_is : (r s : RestoredUpload) → Some r ≡ Some s → r ≡ s
some_is r s is = cc

not_none : (r : RestoredUpload) → Some r ≡ None → ⊥
not_none r is = cc

pub upload-put : (now tenant : ℕ) (uploads : List (Entry PlainUpload)) (place : ℕ) (r : RestoredUpload) (before between after : List (List ℕ)) → Some r ≡ lent_at uploads place
    → ArePut now (uploads_kept tenant [] (take place uploads)) before between → ArePut now (Next tenant r.id ∷ Upload tenant r ∷ []) between after
    → ArePut now (uploads_kept tenant [] (take (place + 1) uploads)) before after
upload-put now tenant uploads place r before between after is so_far more =
    elim (slice_get_cases uploads place).1 [
      | inl there ↦
          let e = there.0 in
          let lent : Some r ≡ Some (upload_kept (take place uploads) e) = is ∙ ap (option_map (λ (e : Entry PlainUpload). upload_kept (take place uploads) e)) there.2 in
          let kept : r ≡ upload_kept (take place uploads) e = some_is r (upload_kept (take place uploads) e) lent in
          let further : take (place + 1) uploads ≡ take place uploads ++ e ∷ [] = take_more uploads place e there.1 ∙ ap (λ (x : Entry PlainUpload). take place uploads ++ x ∷ []) there.3 in
          let all : uploads_kept tenant [] (take (place + 1) uploads) ≡ uploads_kept tenant [] (take place uploads) ++ one_kept tenant (take place uploads) e =
          ap (uploads_kept tenant []) further ∙ uploads-more tenant [] (take place uploads) e in
          subst (λ (pieces : List Restored). ArePut now pieces before after) (sym all)
          (put-then now (uploads_kept tenant [] (take place uploads)) (one_kept tenant (take place uploads) e) before between after so_far
          (subst (λ (r : RestoredUpload). ArePut now (Next tenant r.id ∷ Upload tenant r ∷ []) between after) kept more))
      | inr past ↦
          absurd (not_none r (is ∙ ap (option_map (λ (e : Entry PlainUpload). upload_kept (take place uploads) e)) past.1))
    ]

-- past the last of them, all are put
pub uploads-put : (now tenant : ℕ) (uploads : List (Entry PlainUpload)) (place : ℕ) (before after : List (List ℕ)) → length uploads ≤ place → ArePut now (uploads_kept tenant [] (take place uploads)) before after → ArePut now (uploads_kept tenant [] uploads) before after
uploads-put now tenant uploads place before after past so_far =
    subst (λ (l : List (Entry PlainUpload)). ArePut now (uploads_kept tenant [] l) before after) (take_all place uploads past) so_far

-- ---- parts

-- the pieces of a tenant's part
abbrev pub part_kept : ℕ → TenantBook → List Restored
part_kept tenant part = uploads_kept tenant [] part.uploads ++ Next tenant part.next ∷ []

-- one part more
parts-more : (tenant : ℕ) (some : List TenantBook) (part : TenantBook) → parts_kept tenant (some ++ part ∷ []) ≡ parts_kept tenant some ++ part_kept (tenant + length some) part
parts-more tenant [] part = ap (λ (t : ℕ). part_kept t part) (sym (add-zero tenant))
parts-more tenant (a ∷ some) part =
    ap (λ (l : List Restored). uploads_kept tenant [] a.uploads ++ Next tenant a.next ∷ l) (parts-more (tenant + 1) some part ∙ ap (λ (t : ℕ). parts_kept (tenant + 1) some ++ part_kept t part) (place tenant (length some)))
    ∙ sym (append_assoc (uploads_kept tenant [] a.uploads) (Next tenant a.next ∷ parts_kept (tenant + 1) some) (part_kept (tenant + suc (length some)) part))
  where
    place : (t n : ℕ) → t + 1 + n ≡ t + suc n
    place t n = omega arith

pub part-put : (now tenant : ℕ) (b : PlainBook) (before between after : List (List ℕ)) → tenant < length b.tenants
    → ArePut now (parts_kept 0 (take tenant b.tenants)) before between → ArePut now (part_kept tenant (tenant_book b tenant)) between after
    → ArePut now (parts_kept 0 (take (tenant + 1) b.tenants)) before after
part-put now tenant b before between after within so_far more =
    let parts = b.tenants in
    let part = tenant_book b tenant in
    let count : 0 + length (take tenant parts) ≡ tenant = omega (arith, length-take tenant parts, within) in
    let all : parts_kept 0 (take (tenant + 1) parts) ≡ parts_kept 0 (take tenant parts) ++ part_kept tenant part =
    ap (parts_kept 0) (take_more parts tenant (opening_part 0) within) ∙ parts-more 0 (take tenant parts) part ∙ ap (λ (t : ℕ). parts_kept 0 (take tenant parts) ++ part_kept t part) count in
    subst (λ (pieces : List Restored). ArePut now pieces before after) (sym all)
    (put-then now (parts_kept 0 (take tenant parts)) (part_kept tenant part) before between after so_far more)

-- past the last tenant, all are put
pub parts-put : (now tenant : ℕ) (b : PlainBook) (before after : List (List ℕ)) → length b.tenants ≤ tenant → ArePut now (parts_kept 0 (take tenant b.tenants)) before after → ArePut now (parts_kept 0 b.tenants) before after
parts-put now tenant b before after past so_far =
    subst (λ (l : List TenantBook). ArePut now (parts_kept 0 l) before after) (take_all tenant b.tenants past) so_far

-- ---- what is made

-- a piece that is not refused is a change that is accepted
piece-answered : (b : PlainBook) (piece : Restored) (now : ℕ) → piece_refusal b piece ≡ None → IsOk (change_answer b (Restore piece) now)
piece-answered b piece now none = rw none refl

-- pieces that a book accepts, one after another, happen to it, where records hold their numbers
pieces-happen : (now : ℕ) (b : PlainBook) (pieces : List Restored) → now ≤ 253402300799 → length b.tenants ≡ length b.settings.tenants → AreAccepted b pieces → AllByRecursion HasNumbers pieces → AllHappen b (map (piece_event now) pieces)
pieces-happen now b [] moment each accepted numbers = tt
pieces-happen now b (piece ∷ pieces) moment each accepted numbers =
    let asked : CanBePutBack (length b.settings.tenants) piece = subst (λ (n : ℕ). CanBePutBack n piece) each accepted.0 in
    let after : length (book_after_piece b piece).tenants ≡ length (book_after_piece b piece).settings.tenants = piece-tenants b piece ∙ each ∙ ap (λ (s : Settings). length s.tenants) (sym (piece-settings b piece)) in (
      record {
        asked = asked;
        accepted = piece-answered b piece now accepted.1;
        moment = moment;
        fits = numbers.0 (length b.settings.tenants) asked;
      },
      pieces-happen now (book_after_piece b piece) pieces moment after accepted.2 numbers.1,
    )

-- and leave what they leave as pieces
after-pieces : (now : ℕ) (b : PlainBook) (pieces : List Restored) → book_after_all b (map (piece_event now) pieces) ≡ book_after_pieces b pieces
after-pieces now b [] = refl
after-pieces now b (piece ∷ pieces) = after-pieces now (book_after_piece b piece) pieces

-- the records of a lawful book's snapshot make that book
pub snapshot-made : (now number : ℕ) (b : PlainBook) → now ≤ 253402300799 → IsLawful b → AllByRecursion HasNumbers (snapshot_of b) → replayed number (opening_book b.settings) (snapshot_records now b) ≡ Ok b
snapshot-made now number b moment lawful numbers =
    let opening = opening_book b.settings in
    let each : length opening.tenants ≡ length b.settings.tenants = length-map b.settings.tenants (λ (t : TenantQuota). opening_part t.quota) in
    all-replayed number opening (map (piece_event now) (snapshot_of b)) (pieces-happen now opening (snapshot_of b) moment each (snapshots_restore.accepted b lawful) numbers)
    ∙ ap Ok (after-pieces now opening (snapshot_of b) ∙ snapshots_restore.restored b lawful)

-- all are put
pub snapshot-put : (now : ℕ) (b : PlainBook) (released : ℕ) (before between after : List (List ℕ)) → before ≡ [] → released ≡ b.released → now ≤ 253402300799 → IsLawful b
    → ArePut now (parts_kept 0 b.tenants) before between → ArePut now (Totals released ∷ []) between after → IsSnapshot now b after
snapshot-put now b released before between after none back moment lawful parts totals =
    let last : ArePut now (Totals b.released ∷ []) between after = subst (λ (n : ℕ). ArePut now (Totals n ∷ []) between after) back totals in
    let all : ArePut now (snapshot_of b) before after = put-then now (parts_kept 0 b.tenants) (Totals b.released ∷ []) before between after parts last in
    record {
      records = all.records ∙ ap (λ (l : List (List ℕ)). l ++ map behind_room (snapshot_records now b)) none;
      fits = all.fits;
      made = λ number. snapshot-made now number b moment lawful all.numbers;
    }
