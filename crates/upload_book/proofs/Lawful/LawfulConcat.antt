-- A concatenation leaves a lawful part lawful, and what its tenant pays.
use Rattle.std.proofs.Common.{◌≡◌, ℕ, ◌<◌, ◌≤◌, Bool, true, false, ◌&&◌, cond, not, ltb, leb, List, [], ◌∷◌, map, length, get_or, Option, Some, None, Result, Ok, Err, IfSome, IsTrue, true≢false, refl, inl, inr, sym, ap, ◌∙◌, subst, arith}
use Rattle.std.specs.List.{All, Contains, cons_option, filter_map, flat_map, zip}
use Rattle.std.proofs.Math.ListN.{length-map, length-append}
use Rattle.std.proofs.lemmas.Bool.{and_parts, eqb-true, leb-false, ltb-false, ltb-true, not-false}
use Rattle.std.proofs.lemmas.Bool.Decides.{eqb_tells}
use Rattle.std.proofs.lemmas.List.Elements.{All-cons, All-contains, All-head, All-map, All-nil, All-tail}
use Rattle.std.proofs.lemmas.List.Sums.{sum_by-cons}
use Rattle.block_bodies.specs.Bodies.{blocks_for}
use Rattle.upload_book.specs.Append.{is_final}
use Rattle.upload_book.specs.Charge.{Source, price, sources_of, charge_in}
use Rattle.upload_book.specs.Expiry.{finished_end}
use Rattle.upload_book.specs.Concat.{are_complete, are_there, concat_refusal, final_upload, is_partial, joined_len, joined_upload, part_named, partial_seen, parts_found, rows_of}
use Rattle.upload_book.specs.declared.head_row.HeadRow.{HeadRow}
use Rattle.upload_book.specs.declared.head_row.Kind.{Kind}
use Rattle.upload_book.specs.declared.head_row.Kind.TheVariants.{Plain, Partial, Final}
use Rattle.upload_book.specs.declared.refusal.Refusal.{Refusal}
use Rattle.upload_book.specs.declared.settings.Numbers.{Numbers}
use Rattle.upload_book.specs.Lawful.{HasParts, IsTenantOf, IsUploadOf, IsGivenIn, IsSegmentOf, IsConcatText, is_kept_metadata, joined_in}
use Rattle.upload_book.specs.NewFinal.{NewFinal}
use Rattle.upload_book.specs.TenantBook.{Entry, TenantBook, is_given, kept_in, visible_upload, with_new}
use Rattle.upload_book.specs.Upload.{Upload, content_of, offset_of, is_complete, IsComplete, head_row_of}
use Rattle.upload_book.proofs.Charge.ChargeLemmas.{sources-given}
use Rattle.upload_book.proofs.Charge.InUse.{Contains-mapped}
use Rattle.upload_book.proofs.Lawful.Entries.{kept_in-All, kept_in-contains, kept_in-push, visible_in-fresh, visible_in-Ok}
use Rattle.upload_book.proofs.Lawful.FirstRefusal.{test-passed}
use Rattle.upload_book.proofs.Lawful.LawfulAppend.{IsWhole-from_kind, complete_tells, may-finished}
use Rattle.upload_book.proofs.Lawful.LawfulSteps.{HasSharedParts, IsTenantOf-with_new}
use Rattle.upload_book.proofs.Lawful.SharedLemmas.{joined-stand}
use Rattle.upload_book.proofs.Charge.PriceLemmas.{charge-stays, price-entry, sources-own}

All-cons_option : {Y : Type 0} (P : Y → Type 0) (first : Option Y) (rest : List Y) → IfSome first P → All P rest → All P (cons_option first rest)
All-cons_option P None rest here all = all
All-cons_option P (Some y) rest here all = All-cons P y rest here all

-- what holds of whatever an element gives holds of all that the elements give
pub All-filter_map : {X Y : Type 0} (P : Y → Type 0) (h : X → Option Y) (xs : List X) → ((x : X) → IfSome (h x) P) → All P (filter_map h xs)
All-filter_map P h [] each = All-nil P
All-filter_map P h (x ∷ xs) each =
    All-cons_option P (h x) (filter_map h xs) (each x) (All-filter_map P h xs each)

-- a part that was found: a partial upload that the tenant has, under an id that was given
pub record IsFound (part : TenantBook) (e : Entry Upload) : Type 0 where
  pub partial : e.kept.kind ≡ Partial
  pub there : kept_in part.uploads e.id ≡ Some e.kept
  pub given : IsGivenIn part e.id

-- an id that passes the test was given
given-from_test : (part : TenantBook) (id : ℕ) → is_given part id ≡ true → IsGivenIn part id
given-from_test part id test =
    let both = and_parts (ltb 0 id) (ltb id part.next) test in
    (ltb-true 0 id both.0, ltb-true id part.next both.1)

found-kind : (part : TenantBook) (id : ℕ) (u : Upload) (kind : Kind) → u.kind ≡ kind → kept_in part.uploads id ≡ Some u → IsGivenIn part id → IfSome (cond (is_partial kind) (Some (record { id = id; kept = u })) None) (IsFound part)
found-kind part id u Plain is there given = tt
found-kind part id u Partial is there given = record { partial = is; there = there; given = given }
found-kind part id u Final is there given = tt

found-seen : (part : TenantBook) (id now : ℕ) (seen : Result Upload Refusal) → visible_upload part id now ≡ seen → IfSome (partial_seen (λ (u : Upload). u.kind) id seen) (IsFound part)
found-seen part id now (Ok u) is =
    let expires : Upload → Option ℕ = λ (u : Upload). u.expires in
    found-kind part id u u.kind refl (visible_in-Ok expires part id now u is) (given-from_test part id (visible_in-fresh expires part id now u is).0)
found-seen part id now (Err why) is = tt

found-named : (part : TenantBook) (now : ℕ) (named : Option ℕ) → IfSome (part_named (λ (u : Upload). u.kind) (λ (u : Upload). u.expires) part now named) (IsFound part)
found-named part now None = tt
found-named part now (Some id) = found-seen part id now _ refl

-- whatever stands for the parts that are named was found
pub IsFound-parts : (part : TenantBook) (now : ℕ) (named : List (Option ℕ)) → All (IsFound part) (parts_found part now named)
IsFound-parts part now named =
    All-filter_map (IsFound part) (part_named (λ (u : Upload). u.kind) (λ (u : Upload). u.expires) part now) named (found-named part now)

pub complete-from_test : (u : Upload) → is_complete u ≡ true → IsComplete u
complete-from_test u test = elim (complete_tells u) [
  | inl complete ↦ complete.1
  | inr open' ↦ absurd (true≢false (sym test ∙ open'.0))
]

-- the parts whose rows tell so have all of their bytes
are_complete-each : (found : List (Entry Upload)) → are_complete (rows_of found) ≡ true → All (λ e. IsComplete e.kept) found
are_complete-each [] test = All-nil (λ (e : Entry Upload). IsComplete e.kept)
are_complete-each (e ∷ found) test =
    let both = and_parts (is_complete e.kept) (are_complete (rows_of found)) test in
    All-cons (λ (e : Entry Upload). IsComplete e.kept) e found (complete-from_test e.kept both.0) (are_complete-each found both.1)

-- what is known of a concatenation that is not refused
pub record IsJoinable (n : Numbers) (part : TenantBook) (new : NewFinal) (now : ℕ) : Type 0 where
  pub there : length (parts_found part now new.parts) ≡ length new.parts
  pub found : All (IsFound part) (parts_found part now new.parts)
  pub complete : All (λ e. IsComplete e.kept) (parts_found part now new.parts)
  pub small : joined_len (rows_of (parts_found part now new.parts)) ≤ n.max_size
  pub room : length part.uploads < n.uploads
  pub unspent : part.next ≤ n.last_id

-- it is known where no refusal applies
pub IsJoinable-from_none : (n : Numbers) (part : TenantBook) (new : NewFinal) (now : ℕ) → concat_refusal n part new now ≡ None → IsJoinable n part new now
IsJoinable-from_none n part new now none =
    let found : List (Entry Upload) = parts_found part now new.parts in
    let rows : List HeadRow = rows_of found in
    let small = test-passed (are_there new.parts rows && are_complete rows && ltb n.max_size (joined_len rows)) _ _ none in
    let there = test-passed (not (are_there new.parts rows)) _ _ small.1 in
    let complete = test-passed (not (are_complete rows)) _ _ there.1 in
    let room = test-passed (leb n.uploads (length part.uploads)) _ _ complete.1 in
    let unspent = test-passed (ltb n.last_id part.next) _ _ room.1 in
    let all_there = not-false (are_there new.parts rows) there.0 in
    let all_complete = not-false (are_complete rows) complete.0 in
    record {
      there = sym (length-map found (λ e. head_row_of e.kept)) ∙ eqb-true (length rows) (length new.parts) all_there;
      found = IsFound-parts part now new.parts;
      complete = are_complete-each found all_complete;
      small = within (are_there new.parts rows) (are_complete rows) n.max_size (joined_len rows) all_there all_complete small.0;
      room = leb-false n.uploads (length part.uploads) room.0;
      unspent = ltb-false n.last_id part.next unspent.0;
    }
  where
    within : (there complete : Bool) (most len : ℕ) → there ≡ true → complete ≡ true → (there && complete && ltb most len) ≡ false → len ≤ most
    within there complete most len is_there is_complete test = ltb-false most len (rw (is_there, is_complete) at test)

-- the parts and the texts of a new final upload are of their forms
pub record HasLawfulParts (new : NewFinal) : Type 0 where
  pub some : 0 < length new.parts
  pub few : length new.parts ≤ 32
  pub metadata : IsTrue (is_kept_metadata new.metadata)
  pub concat : IsConcatText Final new.concat

-- a final upload has as many bytes as its parts together
pub offset_of-final : (found : List (Entry Upload)) (new : NewFinal) (expires : Option ℕ) → offset_of (final_upload found new expires) ≡ joined_len (rows_of found)
offset_of-final [] new expires = refl
offset_of-final (e ∷ found) new expires =
    omega (
      arith,
      length-append (content_of e.kept) (content_of (final_upload found new expires)),
      offset_of-final found new expires,
      sum_by-cons (λ (row : HeadRow). row.offset) (head_row_of e.kept) (rows_of found),
    )

-- what each element gives, in pairs
zip-maps : {X Y Z : Type 0} (f : X → Y) (g : X → Z) (xs : List X) → zip (map f xs) (map g xs) ≡ map {A = X} {B = Y × Z} (λ x. (f x, g x)) xs
zip-maps f g [] = refl
zip-maps f g (x ∷ xs) = ap (λ rest. (f x, g x) ∷ rest) (zip-maps f g xs)

-- a part that was found stands for its segment, where one more upload is
IsSegmentOf-found : (part : TenantBook) (u : Upload) (e : Entry Upload) → IsFound part e → IsComplete e.kept → IsSegmentOf (with_new part u) e.id (content_of e.kept)
IsSegmentOf-found part u e found complete =
    rw (kept_in-push part.uploads (record { id = part.next; kept = u }) e.id (omega (arith, found.given.1)), found.there) (found.partial, complete, refl)

-- a new final upload has the parts that were found
HasParts-final : (part : TenantBook) (found : List (Entry Upload)) (new : NewFinal) (expires : Option ℕ) → 0 < length found → length found ≤ 32 → All (IsFound part) found → All (λ e. IsComplete e.kept) found
    → HasParts (with_new part (final_upload found new expires)) (final_upload found new expires)
HasParts-final part found new expires some few each complete =
    let u : Upload = final_upload found new expires in
    let later : TenantBook = with_new part u in
    let id : Entry Upload → ℕ = λ (e : Entry Upload). e.id in
    let content : Entry Upload → List ℕ = λ (e : Entry Upload). content_of e.kept in
    let P : ℕ × List ℕ → Type 0 = λ (p : ℕ × List ℕ). IsSegmentOf later p.0 p.1 in
    record {
      some = omega (arith, length-map found id);
      few = omega (arith, length-map found id);
      given = All-map (IsGivenIn later) id found (λ k d within. let given = (each k d within).given in (given.0, omega (arith, given.1)));
      each = length-map found content ∙ sym (length-map found id);
      same = subst (λ pairs. All P pairs) (sym (zip-maps id content found)) (All-map P (λ e. (id e, content e)) found (λ k d within. IsSegmentOf-found part u (get_or found k d) (each k d within) (complete k d within)));
    }

-- it is as it should be
IsUploadOf-final : (n : Numbers) (part : TenantBook) (new : NewFinal) (now : ℕ) → IsJoinable n part new now → HasLawfulParts new → let u = joined_upload n part new now in IsUploadOf n (with_new part u) u
IsUploadOf-final n part new now can asked =
    let found : List (Entry Upload) = parts_found part now new.parts in
    let end : Option ℕ = finished_end n now in
    let len : offset_of (final_upload found new end) ≡ joined_len (rows_of found) = offset_of-final found new end in
    record {
      within = (omega (arith, len), can.small);
      size = omega (arith, len, can.small);
      kind = (HasParts-final part found new end (omega (arith, can.there, asked.some)) (omega (arith, can.there, asked.few)) can.found can.complete, ap Some (sym len));
      ends = may-finished n now;
      metadata = asked.metadata;
      concat = asked.concat;
    }

-- the segment of a part that was found
abbrev found_segment : Entry Upload → ℕ × List ℕ
found_segment e = (e.id, content_of e.kept)

-- a segment of a new final upload is that of its part, which stands
found-segments : (part : TenantBook) (found : List (Entry Upload)) (a : ℕ × List ℕ) → All (IsFound part) found → Contains (map {A = Entry Upload} {B = ℕ × List ℕ} found_segment found) a
    → (u : Upload) × (kept_in part.uploads a.0 ≡ Some u) × (content_of u ≡ a.1)
found-segments part found a each there =
    let e = Contains-mapped found_segment found a there in
    let is = All-contains (IsFound part) found e.0 each e.1 in
    let id : e.0.id ≡ a.0 = ap (λ (s : ℕ × List ℕ). s.0) e.2 in
    let content : content_of e.0.kept ≡ a.1 = ap (λ (s : ℕ × List ℕ). s.1) e.2 in
    (e.0.kept, ap (kept_in part.uploads) (sym id) ∙ is.there, content)

-- the parts of a new final upload are earlier, and others that have them have the same bytes of them
HasSharedParts-final : (n : Numbers) (part : TenantBook) (found : List (Entry Upload)) (new : NewFinal) (expires : Option ℕ) → All (IsFound part) found → IsTenantOf n part → HasSharedParts part part.next (final_upload found new expires)
HasSharedParts-final n part found new expires each sound = record {
  earlier = All-map (λ p. p < part.next) (λ (e : Entry Upload). e.id) found (λ k d within. (each k d within).given.1);
  same = λ a b in_a in_b same.
      let own = found-segments part found a each (subst (λ l. Contains l a) (zip-maps (λ (e : Entry Upload). e.id) (λ (e : Entry Upload). content_of e.kept) found) in_a) in
      elim in_b [
        | inl before ↦
            let other : IsSegmentOf part b.0 b.1 = All-contains (λ (s : ℕ × List ℕ). IsSegmentOf part s.0 s.1) (joined_in part.uploads) b (joined-stand n part sound.uploads) before in
            let seen = rw (← same, own.1) at other in
            sym own.2 ∙ seen.2
        | inr here ↦
            let again = found-segments part found b each (subst (λ l. Contains l b) (zip-maps (λ (e : Entry Upload). e.id) (λ (e : Entry Upload). content_of e.kept) found) here) in
            let both : Some own.0 ≡ Some again.0 = sym own.1 ∙ ap (kept_in part.uploads) same ∙ again.1 in
            let one : own.0 ≡ again.0 = (cc) in
            sym own.2 ∙ ap content_of one ∙ again.2
      ];
}

-- a concatenation that is not refused leaves the tenant's part as it should be
pub IsTenantOf-concat : (n : Numbers) (part : TenantBook) (new : NewFinal) (now : ℕ) → concat_refusal n part new now ≡ None → HasLawfulParts new → IsTenantOf n part → IsTenantOf n (with_new part (joined_upload n part new now))
IsTenantOf-concat n part new now none asked sound =
    let can = IsJoinable-from_none n part new now none in
    IsTenantOf-with_new n part (joined_upload n part new now) can.room can.unspent (IsUploadOf-final n part new now can asked) (HasSharedParts-final n part (parts_found part now new.parts) new (finished_end n now) can.found sound) sound

-- the segment of an upload that is not final
abbrev own_source : Entry Upload → Source
own_source e = record { origin = e.id; len = offset_of e.kept }

-- the segments of a final upload are those of its parts
sources-final : (id : ℕ) (found : List (Entry Upload)) (new : NewFinal) (expires : Option ℕ) → sources_of (record { id = id; kept = final_upload found new expires }) ≡ map {A = Entry Upload} {B = Source} own_source found
sources-final id [] new expires = refl
sources-final id (e ∷ found) new expires = ap (λ rest. own_source e ∷ rest) (sources-final id found new expires)

-- segments of which none costs more than its origin cost no more
price-within : (size : ℕ) (ys xs : List Source) (origin : ℕ) → All (λ s. blocks_for size s.len ≤ price size xs s.origin) ys → price size ys origin ≤ price size xs origin
price-within size [] xs origin paid = omega arith
price-within size (y ∷ ys) xs origin paid =
    let P : Source → Type 0 = λ (s : Source). blocks_for size s.len ≤ price size xs s.origin in
    let rest : price size ys origin ≤ price size xs origin = price-within size ys xs origin (All-tail P y ys paid) in
    elim (eqb_tells y.origin origin) [
      | inl same ↦ rw same.0 (omega (arith, rest, All-head P y ys paid, ap (price size xs) same.1))
      | inr differs ↦ rw differs.0 rest
    ]

-- one segment costs its blocks
price-one : (size : ℕ) (s : Source) → price size (s ∷ []) s.origin ≡ blocks_for size s.len
price-one size s = elim (eqb_tells s.origin s.origin) [ inl same ↦ rw same.0 (omega arith) | inr differs ↦ absurd (differs.1 refl) ]

-- the segment of a part that was found is one that the tenant pays
found-paid : (n : Numbers) (part : TenantBook) (e : Entry Upload) → IsTenantOf n part → IsFound part e → blocks_for n.block_size (offset_of e.kept) ≤ price n.block_size (flat_map sources_of part.uploads) e.id
found-paid n part e sound found =
    let place = kept_in-contains part.uploads e.id e.kept found.there in
    let lawful : IsUploadOf n part e.kept = kept_in-All (IsUploadOf n part) part.uploads e.id e.kept sound.uploads found.there in
    let own : is_final e.kept.kind ≡ false = ap is_final found.partial in
    let sources : sources_of (get_or part.uploads place.0 e) ≡ own_source e ∷ [] = ap sources_of place.2 ∙ sources-own e own (IsWhole-from_kind part e.kept.kind e.kept own lawful.kind).segment in
    let paid : price n.block_size (sources_of (get_or part.uploads place.0 e)) e.id ≡ blocks_for n.block_size (offset_of e.kept) =
    ap (λ l. price n.block_size l e.id) sources ∙ price-one n.block_size (own_source e) in
    omega (arith, paid, price-entry n.block_size part.uploads place.0 e e.id place.1)

-- a final upload of parts that were found costs its tenant nothing
pub charge-final : (n : Numbers) (part : TenantBook) (found : List (Entry Upload)) (new : NewFinal) (expires : Option ℕ) → IsTenantOf n part → All (IsFound part) found → charge_in n (with_new part (final_upload found new expires)) ≡ charge_in n part
charge-final n part found new expires sound each =
    charge-stays n.block_size part.next part.uploads e (sources-given n part sound) same
  where
    e : Entry Upload
    e = record { id = part.next; kept = final_upload found new expires }

    paid : All (λ s. blocks_for n.block_size s.len ≤ price n.block_size (flat_map sources_of part.uploads) s.origin) (sources_of e)
    paid =
        let P : Source → Type 0 = λ (s : Source). blocks_for n.block_size s.len ≤ price n.block_size (flat_map sources_of part.uploads) s.origin in
        subst (λ l. All P l) (sym (sources-final part.next found new expires)) (All-map P own_source found (λ k d within. found-paid n part (get_or found k d) sound (each k d within)))

    same : (origin : ℕ) → price n.block_size (sources_of e) origin ≤ price n.block_size (flat_map sources_of part.uploads) origin
    same origin = price-within n.block_size (sources_of e) (flat_map sources_of part.uploads) origin paid

-- nor does a concatenation
pub charge-concat : (n : Numbers) (part : TenantBook) (new : NewFinal) (now : ℕ) → IsTenantOf n part → charge_in n (with_new part (joined_upload n part new now)) ≡ charge_in n part
charge-concat n part new now sound =
    charge-final n part (parts_found part now new.parts) new (finished_end n now) sound (IsFound-parts part now new.parts)
