-- What segments cost, and what a tenant pays after a step.
use Rattle.std.proofs.Common.{◌≡◌, ◌≢◌, ◌⊎◌, ℕ, zero, suc, ◌+◌, ◌-◌, ◌<◌, ◌≤◌, max, Bool, true, false, cond, eqb, List, [], ◌∷◌, ◌++◌, map, length, get_or, set, refl, inl, inr, ap, ap₂, sym, subst, ◌∙◌, arith, append-nil}
use Rattle.std.specs.List.{All, filter, flat_map, remove, zip}
use Rattle.std.proofs.lemmas.Bool.Decides.{nat_tests, eqb_tells}
use Rattle.std.proofs.lemmas.List.{get_or-set_same, take-set-le, drop-set-lt}
use Rattle.std.proofs.lemmas.List.Concat.{flat_map-append}
use Rattle.std.proofs.lemmas.List.Elements.{All-append, All-cons, All-nil, All-head, All-tail, All-map}
use Rattle.std.proofs.lemmas.Slice.Zip.{length-zip, get_or-zip}
use Rattle.std.proofs.Math.ListN.{length-set}
use Rattle.block_bodies.specs.Bodies.{blocks_for}
use Rattle.block_bodies.proofs.BlocksFor.{blocks_for-suffice, blocks_for-least}
use Rattle.upload_book.specs.Account.{blocks_between}
use Rattle.upload_book.specs.Append.{is_final}
use Rattle.upload_book.specs.Charge.{Source, sum_below, price, charge_of, origins, sources_of, charge_in}
use Rattle.upload_book.specs.declared.head_row.Kind.{Kind}
use Rattle.upload_book.specs.declared.head_row.Kind.TheVariants.{Plain, Partial, Final}
use Rattle.upload_book.specs.declared.settings.Numbers.{Numbers}
use Rattle.upload_book.specs.TenantBook.{Entry, TenantBook}
use Rattle.upload_book.specs.Upload.{Upload, offset_of}
use Rattle.upload_book.proofs.Charge.SumsBelow.{sum_below-same, sum_below-add, sum_below-one}

-- no byte takes no block
pub blocks_for-zero : (size : ℕ) → blocks_for size 0 ≡ 0
blocks_for-zero size = omega arith

-- more bytes take no fewer blocks
pub blocks_for-more : (size n m : ℕ) → n ≤ m → blocks_for size n ≤ blocks_for size m
blocks_for-more zero n m more = omega arith
blocks_for-more (suc k) n m more =
    blocks_for-least (suc k) n (blocks_for (suc k) m) (omega arith) (omega (arith, blocks_for-suffice (suc k) m (omega arith)))

-- the blocks that bytes take after an offset are those of all bytes without those before
pub blocks_between-adds : (size offset more : ℕ) → blocks_for size (offset + more) ≡ blocks_for size offset + blocks_between size offset more
blocks_between-adds size offset more =
    let less : blocks_for size offset ≤ blocks_for size (offset + more) = blocks_for-more size offset (offset + more) (omega arith) in
    exact _ _ less
  where
    exact : (a b : ℕ) → a ≤ b → b ≡ a + (b - a)
    exact a b less = omega arith

-- bytes in two pieces take the blocks of all of them
pub blocks_between-two : (size offset first later : ℕ) → blocks_between size offset first + blocks_between size (offset + first) later ≡ blocks_between size offset (first + later)
blocks_between-two size offset first later =
    let whole : offset + first + later ≡ offset + (first + later) = omega arith in
    two _ _ _ _ _ _ _ (blocks_between-adds size offset first) (blocks_between-adds size (offset + first) later) (blocks_between-adds size offset (first + later)) (ap (blocks_for size) whole)
  where
    two : (a b c d e f g : ℕ) → b ≡ a + d → c ≡ b + e → g ≡ a + f → c ≡ g → d + e ≡ f
    two a b c d e f g one more all same = omega arith

-- terms that are no more have a sum that is no more
pub sum_below-le : (n : ℕ) (f g : ℕ → ℕ) → ((b : ℕ) → b < n → f b ≤ g b) → sum_below n f ≤ sum_below n g
sum_below-le zero f g less = omega arith
sum_below-le (suc n) f g less =
    let rest : sum_below n f ≤ sum_below n g = sum_below-le n f g (λ b l. less b (omega arith)) in
    omega (arith, rest, less n (omega arith))

joined_step : (t : Bool) (b x y : ℕ) → cond t (max b (max x y)) (max x y) ≡ max (cond t (max b x) x) y
joined_step true b x y = omega arith
joined_step false b x y = refl

-- of two lists of segments the dearer one counts
pub price-append : (size : ℕ) (xs ys : List Source) (origin : ℕ) → price size (xs ++ ys) origin ≡ max (price size xs origin) (price size ys origin)
price-append size [] ys origin = omega arith
price-append size (x ∷ xs) ys origin =
    let rest : price size (xs ++ ys) origin ≡ max (price size xs origin) (price size ys origin) = price-append size xs ys origin in
    ap (λ r. cond (eqb x.origin origin) (max (blocks_for size x.len) r) r) rest
    ∙ joined_step (eqb x.origin origin) (blocks_for size x.len) (price size xs origin) (price size ys origin)

-- an origin of no segment costs nothing
pub price-none : (size : ℕ) (xs : List Source) (origin : ℕ) → All (λ s. s.origin ≢ origin) xs → price size xs origin ≡ 0
price-none size [] origin none = refl
price-none size (x ∷ xs) origin none =
    elim (eqb_tells x.origin origin) [
      | inl same ↦ absurd (All-head (λ s. s.origin ≢ origin) x xs none same.1)
      | inr differs ↦ rw differs.0 (price-none size xs origin (All-tail (λ s. s.origin ≢ origin) x xs none))
    ]

-- the price of a tenant's segments is that of one upload's and of the others'
pub price-entry : (size : ℕ) (entries : List (Entry Upload)) (i : ℕ) (d : Entry Upload) (origin : ℕ) → i < length entries
    → price size (flat_map sources_of entries) origin ≡ max (price size (sources_of (get_or entries i d)) origin) (price size (flat_map sources_of (remove entries i)) origin)
price-entry size [] i d origin within = absurd (omega arith)
price-entry size (e ∷ entries) zero d origin within = price-append size (sources_of e) (flat_map sources_of entries) origin
price-entry size (e ∷ entries) (suc i) d origin within =
    moved _ _ _ _ _ _ (price-append size (sources_of e) (flat_map sources_of entries) origin) (price-entry size entries i d origin (omega arith)) (price-append size (sources_of e) (flat_map sources_of (remove entries i)) origin)
  where
    moved : (all rest here there others both : ℕ) → all ≡ max here rest → rest ≡ max there others → both ≡ max here others → all ≡ max there both
    moved all rest here there others both e f g = omega arith

-- so too where another upload stands in its place
price-set : (size : ℕ) (entries : List (Entry Upload)) (i : ℕ) (e : Entry Upload) (origin : ℕ) → i < length entries
    → price size (flat_map sources_of (set entries i e)) origin ≡ max (price size (sources_of e) origin) (price size (flat_map sources_of (remove entries i)) origin)
price-set size entries i e origin within =
    let inside : i < length (set entries i e) = omega (arith, length-set entries i e) in
    let here : get_or (set entries i e) i e ≡ e = get_or-set_same entries i e e within in
    let rest : remove (set entries i e) i ≡ remove entries i = rw (take-set-le i entries i e (omega arith), drop-set-lt (suc i) entries i e (omega arith)) refl in
    price-entry size (set entries i e) i e origin inside
    ∙ ap (λ s. max (price size (sources_of s) origin) (price size (flat_map sources_of (remove (set entries i e) i)) origin)) here
    ∙ ap (λ l. max (price size (sources_of e) origin) (price size (flat_map sources_of l) origin)) rest

-- what holds of the first ones holds of the first ones in pairs
pub All-zip_left : {A B : Type 0} (P : A → Type 0) (ks : List A) (vs : List B) → All P ks → All (λ p. P p.0) (zip ks vs)
All-zip_left P ks vs all = λ k d within.
    let long = length-zip ks vs in
    let in_ks : k < length ks = omega arith in
    let in_vs : k < length vs = omega arith in
    rw (get_or-zip ks vs k d in_ks in_vs) (all k d.0 in_ks)

-- what holds of all in each list holds of all in the joined list
pub All-flat_map : {X A : Type 0} (P : A → Type 0) (f : X → List A) (xs : List X) → All (λ x. All P (f x)) xs → All P (flat_map f xs)
All-flat_map P f [] all = All-nil P
All-flat_map P f (x ∷ xs) all =
    All-append P (f x) (flat_map f xs) (All-head (λ x. All P (f x)) x xs all) (All-flat_map P f xs (All-tail (λ x. All P (f x)) x xs all))

origins-All : (P : ℕ → Type 0) (kind : Kind) (id : ℕ) (parts : List ℕ) → P id → (kind ≡ Final → All P parts) → All P (origins kind id parts)
origins-All P Plain id parts own given = All-cons P id [] own (All-nil P)
origins-All P Partial id parts own given = All-cons P id [] own (All-nil P)
origins-All P Final id parts own given = given refl

-- what holds of an upload's id, and of its parts where it is final, holds of the origins of its segments
pub sources-All : (P : ℕ → Type 0) (e : Entry Upload) → P e.id → (e.kept.kind ≡ Final → All P e.kept.parts) → All (λ s. P s.origin) (sources_of e)
sources-All P e own given =
    let source : ℕ × List ℕ → Source = λ (p : ℕ × List ℕ). record { origin = p.0; len = length p.1 } in
    All-map (λ (s : Source). P s.origin) source (zip (origins e.kept.kind e.id e.kept.parts) e.kept.segments) (All-zip_left P (origins e.kept.kind e.id e.kept.parts) e.kept.segments (origins-All P e.kept.kind e.id e.kept.parts own given))

own_sources : (kind : Kind) (id : ℕ) (parts : List ℕ) (segments : List (List ℕ)) → is_final kind ≡ false → length segments ≡ 1
    → map {A = ℕ × List ℕ} {B = Source} (λ p. record { origin = p.0; len = length p.1 }) (zip (origins kind id parts) segments) ≡ record { origin = id; len = length (flat_map (λ s. s) segments) } ∷ []
own_sources Final id parts segments own one = absurd (cc)
own_sources kind id parts [] own one = absurd (omega arith)
own_sources kind id parts (s ∷ t ∷ segments) own one = absurd (omega arith)
own_sources Plain id parts (s ∷ []) own one = rw (append-nil s) refl
own_sources Partial id parts (s ∷ []) own one = rw (append-nil s) refl

-- an upload that is not final has its bytes as its one segment
pub sources-own : (e : Entry Upload) → is_final e.kept.kind ≡ false → length e.kept.segments ≡ 1 → sources_of e ≡ record { origin = e.id; len = offset_of e.kept } ∷ []
sources-own e own one = own_sources e.kept.kind e.id e.kept.parts e.kept.segments own one

-- what two tenants' segments cost where one upload has more bytes, and either they take no more blocks or nobody else has its bytes
dearer_by : (t : Bool) (after before added r : ℕ) → after ≡ before + added → (t ≡ true → (added ≡ 0) ⊎ (r ≡ 0)) → max (cond t (max after 0) 0) r ≡ max (cond t (max before 0) 0) r + cond t added 0
dearer_by true after before added r is alone = elim (alone refl) [ inl same ↦ omega arith | inr none ↦ omega arith ]
dearer_by false after before added r is alone = omega arith

-- the price of one origin, summed
pub sum_of_one : (next id added : ℕ) → id < next → sum_below next (λ origin. cond (eqb id origin) added 0) ≡ added
sum_of_one next id added within =
    sum_below-one next id added (λ origin. cond (eqb id origin) added 0) within (here id added) (λ b other. there id b added other)
  where
    here : (id added : ℕ) → cond (eqb id id) added 0 ≡ added
    here id added = grind (arith, nat_tests)

    there : (id b added : ℕ) → b ≢ id → cond (eqb id b) added 0 ≡ 0
    there id b added other = grind (arith, nat_tests)

-- more bytes of an upload that is not final cost the blocks that they take, where nobody else has its bytes or
-- they take none
pub charge-more : (size next : ℕ) (entries : List (Entry Upload)) (i : ℕ) (e later : Entry Upload) (added : ℕ) → i < length entries → get_or entries i e ≡ e → e.id < next
    → sources_of e ≡ record { origin = e.id; len = offset_of e.kept } ∷ []
    → sources_of later ≡ record { origin = e.id; len = offset_of later.kept } ∷ []
    → blocks_for size (offset_of later.kept) ≡ blocks_for size (offset_of e.kept) + added
    → (added ≡ 0) ⊎ All (λ s. s.origin ≢ e.id) (flat_map sources_of (remove entries i))
    → charge_of size next (flat_map sources_of (set entries i later)) ≡ charge_of size next (flat_map sources_of entries) + added
charge-more size next entries i e later added within there given own own_later more alone =
    sum_below-add next (price size (flat_map sources_of (set entries i later))) (price size (flat_map sources_of entries)) (λ origin. cond (eqb e.id origin) added 0) (λ origin below. each origin)
    ∙ ap (λ k. charge_of size next (flat_map sources_of entries) + k) (sum_of_one next e.id added given)
  where
    others : ℕ → ℕ
    others origin = price size (flat_map sources_of (remove entries i)) origin

    same_id : (a b : ℕ) → eqb a b ≡ true → a ≡ b
    same_id a b test = grind (arith, nat_tests)

    free : (origin : ℕ) → eqb e.id origin ≡ true → (added ≡ 0) ⊎ (others origin ≡ 0)
    free origin same = elim alone [
      | inl none ↦ inl none
      | inr apart ↦
          let is : e.id ≡ origin = same_id e.id origin same in
          inr (price-none size (flat_map sources_of (remove entries i)) origin (subst (λ o. All (λ (s : Source). s.origin ≢ o) (flat_map sources_of (remove entries i))) is apart))
    ]

    each : (origin : ℕ) → price size (flat_map sources_of (set entries i later)) origin ≡ price size (flat_map sources_of entries) origin + cond (eqb e.id origin) added 0
    each origin =
        price-set size entries i later origin within
        ∙ ap (λ l. max (price size l origin) (others origin)) own_later
        ∙ dearer_by (eqb e.id origin) _ _ added (others origin) more (free origin)
        ∙ ap (λ l. max (price size l origin) (others origin) + cond (eqb e.id origin) added 0) (sym own)
        ∙ ap (λ (s : Entry Upload). max (price size (sources_of s) origin) (others origin) + cond (eqb e.id origin) added 0) (sym there)
        ∙ ap (λ k. k + cond (eqb e.id origin) added 0) (sym (price-entry size entries i e origin within))

-- an upload at the end adds its segments to those before it
price-end : (size : ℕ) (entries : List (Entry Upload)) (e : Entry Upload) (origin : ℕ)
    → price size (flat_map sources_of (entries ++ e ∷ [])) origin ≡ max (price size (flat_map sources_of entries) origin) (price size (sources_of e) origin)
price-end size entries e origin =
    ap (λ l. price size l origin) (flat_map-append sources_of entries (e ∷ []) ∙ ap (λ l. flat_map sources_of entries ++ l) (append-nil (sources_of e)))
    ∙ price-append size (flat_map sources_of entries) (sources_of e) origin

-- where they cost no more it leaves the price of each origin
price-push : (size : ℕ) (entries : List (Entry Upload)) (e : Entry Upload) (origin : ℕ) → price size (sources_of e) origin ≤ price size (flat_map sources_of entries) origin
    → price size (flat_map sources_of (entries ++ e ∷ [])) origin ≡ price size (flat_map sources_of entries) origin
price-push size entries e origin less = price-end size entries e origin ∙ dearer _ _ less
  where
    dearer : (a b : ℕ) → b ≤ a → max a b ≡ a
    dearer a b less = omega arith

-- so it leaves what all cost, under an id that nobody has
pub charge-stays : (size next : ℕ) (entries : List (Entry Upload)) (e : Entry Upload) → All (λ s. s.origin < next) (flat_map sources_of entries)
    → ((origin : ℕ) → price size (sources_of e) origin ≤ price size (flat_map sources_of entries) origin)
    → charge_of size (next + 1) (flat_map sources_of (entries ++ e ∷ [])) ≡ charge_of size next (flat_map sources_of entries)
charge-stays size next entries e below less =
    let one_more : next + 1 ≡ suc next = omega arith in
    let last : price size (flat_map sources_of entries) next ≡ 0 = price-none size (flat_map sources_of entries) next (λ k d within same. omega (arith, below k d within)) in
    ap (λ end. charge_of size end (flat_map sources_of (entries ++ e ∷ []))) one_more
    ∙ sum_below-same (suc next) (price size (flat_map sources_of (entries ++ e ∷ []))) (price size (flat_map sources_of entries)) (λ origin l. price-push size entries e origin (less origin))
    ∙ drop_none _ _ last
  where
    drop_none : (a b : ℕ) → b ≡ 0 → a + b ≡ a
    drop_none a b none = omega arith

-- a new upload adds what its bytes cost
pub charge-new : (size next len : ℕ) (entries : List (Entry Upload)) (e : Entry Upload) → sources_of e ≡ record { origin = next; len = len } ∷ [] → All (λ s. s.origin < next) (flat_map sources_of entries)
    → charge_of size (next + 1) (flat_map sources_of (entries ++ e ∷ [])) ≡ charge_of size next (flat_map sources_of entries) + blocks_for size len
charge-new size next len entries e own below =
    let one_more : next + 1 ≡ suc next = omega arith in
    let none : price size (flat_map sources_of entries) next ≡ 0 = price-none size (flat_map sources_of entries) next (λ k d within same. omega (arith, below k d within)) in
    ap (λ end. charge_of size end (flat_map sources_of (entries ++ e ∷ []))) one_more
    ∙ ap₂ (λ (a b : ℕ). a + b)
    (sum_below-same next (price size (flat_map sources_of (entries ++ e ∷ []))) (price size (flat_map sources_of entries)) (λ origin less. price-push size entries e origin (rw own (elsewhere origin (blocks_for size len) (price size (flat_map sources_of entries) origin) next less))))
    (price-end size entries e next ∙ ap (λ l. max (price size (flat_map sources_of entries) next) (price size l next)) own ∙ here _ _ none)
  where
    elsewhere : (origin b r next : ℕ) → origin < next → cond (eqb next origin) (max b 0) 0 ≤ r
    elsewhere origin b r next less = grind (arith, nat_tests)

    here : (r b : ℕ) → r ≡ 0 → max r (cond (eqb next next) (max b 0) 0) ≡ b
    here r b none = grind (arith, nat_tests)

fewer_step : (t : Bool) (size origin : ℕ) (e : Entry Upload) (kept rest : List (Entry Upload)) → price size (flat_map sources_of kept) origin ≤ price size (flat_map sources_of rest) origin
    → price size (flat_map sources_of (cond t (e ∷ kept) kept)) origin ≤ max (price size (sources_of e) origin) (price size (flat_map sources_of rest) origin)
fewer_step true size origin e kept rest less = omega (arith, price-append size (sources_of e) (flat_map sources_of kept) origin)
fewer_step false size origin e kept rest less = omega arith

-- fewer uploads cost no more
pub price-filter : (size : ℕ) (p : Entry Upload → Bool) (entries : List (Entry Upload)) (origin : ℕ) → price size (flat_map sources_of (filter p entries)) origin ≤ price size (flat_map sources_of entries) origin
price-filter size p [] origin = omega arith
price-filter size p (e ∷ entries) origin =
    let rest : price size (flat_map sources_of (filter p entries)) origin ≤ price size (flat_map sources_of entries) origin = price-filter size p entries origin in
    rw (price-append size (sources_of e) (flat_map sources_of entries) origin) (fewer_step (p e) size origin e (filter p entries) entries rest)

-- so a tenant with fewer pays no more
pub charge-filter : (n : Numbers) (p : Entry Upload → Bool) (part : TenantBook) → charge_in n (record part { uploads = filter p part.uploads }) ≤ charge_in n part
charge-filter n p part =
    sum_below-le part.next (price n.block_size (flat_map sources_of (filter p part.uploads))) (price n.block_size (flat_map sources_of part.uploads)) (λ origin l. price-filter n.block_size p part.uploads origin)
