-- What a tenant will pay once uploads have ended.
use Rattle.std.proofs.Common.{◌≡◌, ℕ, suc, ◌+◌, ◌-◌, ◌<◌, ◌≤◌, max, Bool, true, false, cond, eqb, List, [], ◌∷◌, ◌++◌, drop, get_or, length, take, Option, None, refl, inl, inr, ap, sym, ◌∙◌, arith}
use Rattle.std.specs.List.{flat_map, remove}
use Rattle.std.proofs.lemmas.Bool.Decides.{eqb_tells}
use Rattle.std.proofs.lemmas.List.{append-nil, append_assoc, drop_all, drop_more, map-append, take-append-drop, take_all, take_more}
use Rattle.std.proofs.lemmas.List.Concat.{flat_map-append}
use Rattle.std.proofs.lemmas.List.Elements.{filter-append}
use Rattle.block_bodies.specs.Bodies.{blocks_for}
use Rattle.upload_book.specs.Charge.{Source, charge_of, price}
use Rattle.upload_book.specs.declared.pieces.Piece.{Piece}
use Rattle.upload_book.specs.inside.ChargeAfter.{cost_of, is_left, left, left_beside, left_to, sources_in, sources_kept}
use Rattle.upload_book.specs.Stored.{StoredUpload}
use Rattle.upload_book.specs.TenantBook.{Entry}
use Rattle.upload_book.proofs.Charge.InUse.{paid}
use Rattle.upload_book.proofs.Store.Pieces.{kept_pieces}
use Rattle.upload_book.proofs.Charge.PriceLemmas.{price-append, sum_below-le, sum_of_one}
use Rattle.upload_book.proofs.Charge.SumsBelow.{sum_below-add, sum_below-same}

-- a segment in front of others costs the blocks that it takes beyond those of its origin
pub charge-first : (size next : ℕ) (s : Source) (rest : List Source) → s.origin < next → charge_of size next (s ∷ rest) ≡ charge_of size next rest + (blocks_for size s.len - price size rest s.origin)
charge-first size next s rest given =
    sum_below-add next (price size (s ∷ rest)) (price size rest) (λ origin. cond (eqb s.origin origin) (blocks_for size s.len - price size rest s.origin) 0) (λ origin below. first origin)
    ∙ ap (λ k. charge_of size next rest + k) (sum_of_one next s.origin (blocks_for size s.len - price size rest s.origin) given)
  where
    beyond : (m here there : ℕ) → here ≡ there → max m there ≡ there + (m - here)
    beyond m here there same = omega arith

    first : (origin : ℕ) → price size (s ∷ rest) origin ≡ price size rest origin + cond (eqb s.origin origin) (blocks_for size s.len - price size rest s.origin) 0
    first origin = elim (eqb_tells s.origin origin) [
      | inl same ↦ rw same.0 (beyond (blocks_for size s.len) (price size rest s.origin) (price size rest origin) (ap (price size rest) same.1))
      | inr differs ↦ rw differs.0 (omega arith)
    ]

-- the order of lists of segments makes no difference to what they cost
charge-moved : (size next : ℕ) (front here later : List Source) → charge_of size next (front ++ (here ++ later)) ≡ charge_of size next (here ++ (front ++ later))
charge-moved size next front here later =
    sum_below-same next (price size (front ++ (here ++ later))) (price size (here ++ (front ++ later))) (λ origin below.
    dearest _ _ _ _ _ _ _ (price-append size front (here ++ later) origin) (price-append size here later origin) (price-append size here (front ++ later) origin) (price-append size front later origin))
  where
    dearest : (f h l hl all fl moved : ℕ) → all ≡ max f hl → hl ≡ max h l → moved ≡ max h fl → fl ≡ max f l → all ≡ moved
    dearest f h l hl all fl moved is is_hl is_moved is_fl = omega arith

-- the segments of uploads in two lists
pub sources-append : (xs ys : List (Entry StoredUpload)) → sources_kept (xs ++ ys) ≡ sources_kept xs ++ sources_kept ys
sources-append xs ys = ap sources_in (flat_map-append kept_pieces xs ys) ∙ map-append paid (flat_map kept_pieces xs) (flat_map kept_pieces ys)

-- and those of one in front of others
pub sources-first : (e : Entry StoredUpload) (entries : List (Entry StoredUpload)) → sources_kept (e ∷ entries) ≡ sources_in e.kept.pieces ++ sources_kept entries
sources-first e entries = map-append paid e.kept.pieces (flat_map kept_pieces entries)

-- the upload at a place is put in front of those that are left beside it
pub cost-apart : (size next : ℕ) (swept : Option ℕ) (entries : List (Entry StoredUpload)) (place : ℕ) (e : Entry StoredUpload) → place < length entries → e ≡ get_or entries place e
    → charge_of size next (sources_in e.kept.pieces ++ sources_kept (left_beside swept entries place)) ≡ cost_of size next (left_to swept entries place)
cost-apart size next swept entries place e within read =
    let front : List (Entry StoredUpload) = left swept (take place entries) in
    let later : List (Entry StoredUpload) = drop (place + 1) entries in
    let here : drop place entries ≡ e ∷ drop (place + 1) entries = drop_more entries place e within ∙ ap (λ x. x ∷ drop (place + 1) entries) (sym read) in
    sym (ap (λ rest. cost_of size next (left swept (take place entries) ++ rest)) here
    ∙ ap (charge_of size next) (sources-append (left swept (take place entries)) (e ∷ drop (place + 1) entries))
    ∙ ap (λ rest. charge_of size next (sources_kept (left swept (take place entries)) ++ rest)) (sources-first e (drop (place + 1) entries))
    ∙ charge-moved size next (sources_kept (left swept (take place entries))) (sources_in e.kept.pieces) (sources_kept (drop (place + 1) entries))
    ∙ ap (λ rest. charge_of size next (sources_in e.kept.pieces ++ rest)) (sym (sources-append (left swept (take place entries)) (drop (place + 1) entries))))

-- So many blocks were found to be released with the pieces before a place: with what the others cost, and all beside
-- them, they are what all cost.
abbrev pub IsReleasedTo : ℕ → ℕ → List Piece → List Source → ℕ → ℕ → Type 0
IsReleasedTo size next pieces others place released =
    released + charge_of size next (sources_in (drop place pieces) ++ others) ≡ charge_of size next (sources_in pieces ++ others)

-- with one piece more, the blocks are those that it takes beyond what its origin costs in the rest
pub released-more : (size next : ℕ) (pieces : List Piece) (others : List Source) (place released blocks later beside : ℕ) (x : Piece) → place < length pieces → x ≡ get_or pieces place x → x.origin < next → blocks ≡ blocks_for size x.chain.len
    → later ≡ price size (sources_in (drop (place + 1) pieces)) x.origin → beside ≡ price size others x.origin
    → IsReleasedTo size next pieces others place released → IsReleasedTo size next pieces others (place + 1) (released + (blocks - max later beside))
released-more size next pieces others place released blocks later beside x within read given takes is_later is_beside so_far =
    let rest : List Source = sources_in (drop (place + 1) pieces) ++ others in
    let here : drop place pieces ≡ x ∷ drop (place + 1) pieces = drop_more pieces place x within ∙ ap (λ y. y ∷ drop (place + 1) pieces) (sym read) in
    more _ _ _ _ _ _ _ _ _ so_far (ap (λ pieces. charge_of size next (sources_in pieces ++ others)) here) (charge-first size next (paid x) (sources_in (drop (place + 1) pieces) ++ others) given) (price-append size (sources_in (drop (place + 1) pieces)) others x.origin) takes is_later is_beside
  where
    more : (released before with_first after held m l b all : ℕ) → released + before ≡ all → before ≡ with_first → with_first ≡ after + (m - held) → held ≡ max l b → blocks ≡ m → later ≡ l → beside ≡ b → released + (blocks - max later beside) + after ≡ all
    more released before with_first after held m l b all is e f g takes is_later is_beside = omega arith

-- at the end all were
pub released-all : (size next : ℕ) (pieces : List Piece) (others : List Source) (place released : ℕ) → length pieces ≤ place → IsReleasedTo size next pieces others place released → charge_of size next others + released ≡ charge_of size next (sources_in pieces ++ others)
released-all size next pieces others place released past is =
    omega (arith, is, ap (λ pieces. charge_of size next (sources_in pieces ++ others)) (drop_all place pieces past))

-- uploads of which each is left
pub left-none : (entries : List (Entry StoredUpload)) → left None entries ≡ entries
left-none [] = refl
left-none (e ∷ entries) = ap (λ rest. e ∷ rest) (left-none entries)

left-more : (swept : Option ℕ) (entries : List (Entry StoredUpload)) (place : ℕ) (e : Entry StoredUpload) → place < length entries → e ≡ get_or entries place e → left swept (take (place + 1) entries) ≡ left swept (take place entries) ++ left swept (e ∷ [])
left-more swept entries place e within read =
    ap (left swept) (take_more entries place e within ∙ ap (λ x. take place entries ++ x ∷ []) (sym read))
    ∙ filter-append (λ (e : Entry StoredUpload). is_left swept e.kept.expires) (take place entries) (e ∷ [])

-- one that passes an upload which stays leaves as many,
pub left_to-stays : (swept : Option ℕ) (entries : List (Entry StoredUpload)) (place : ℕ) (e : Entry StoredUpload) → place < length entries → e ≡ get_or entries place e → is_left swept e.kept.expires ≡ true → left_to swept entries (place + 1) ≡ left_to swept entries place
left_to-stays swept entries place e within read stays =
    let one : left swept (e ∷ []) ≡ e ∷ [] = rw stays refl in
    let here : drop place entries ≡ e ∷ drop (place + 1) entries = drop_more entries place e within ∙ ap (λ x. x ∷ drop (place + 1) entries) (sym read) in
    ap (λ front. front ++ drop (place + 1) entries) (left-more swept entries place e within read ∙ ap (λ last. left swept (take place entries) ++ last) one)
    ∙ append_assoc (left swept (take place entries)) (e ∷ []) (drop (place + 1) entries)
    ∙ ap (λ rest. left swept (take place entries) ++ rest) (sym here)

-- and one that ends it leaves those beside it
pub left_to-ends : (swept : Option ℕ) (entries : List (Entry StoredUpload)) (place : ℕ) (e : Entry StoredUpload) → place < length entries → e ≡ get_or entries place e → is_left swept e.kept.expires ≡ false → left_to swept entries (place + 1) ≡ left_beside swept entries place
left_to-ends swept entries place e within read ends =
    let none : left swept (e ∷ []) ≡ [] = rw ends refl in
    ap (λ front. front ++ drop (place + 1) entries) (left-more swept entries place e within read ∙ ap (λ last. left swept (take place entries) ++ last) none ∙ append-nil (left swept (take place entries)))

-- at the end those are left that a sweep leaves
pub left_to-end : (swept : Option ℕ) (entries : List (Entry StoredUpload)) (place : ℕ) → length entries ≤ place → left_to swept entries place ≡ left swept entries
left_to-end swept entries place past =
    ap (λ front. left swept front ++ drop place entries) (take_all place entries past) ∙ ap (λ rest. left swept entries ++ rest) (drop_all place entries past) ∙ append-nil (left swept entries)

-- where there is no sweep, all are left, and the others beside one
pub left_to-none : (entries : List (Entry StoredUpload)) (place : ℕ) → left_to None entries place ≡ entries
left_to-none entries place = ap (λ front. front ++ drop place entries) (left-none (take place entries)) ∙ take-append-drop place entries

pub left_beside-none : (entries : List (Entry StoredUpload)) (place : ℕ) → left_beside None entries place ≡ remove entries place
left_beside-none entries place =
    let next : place + 1 ≡ suc place = omega arith in
    ap (λ front. front ++ drop (place + 1) entries) (left-none (take place entries)) ∙ ap (λ n. take place entries ++ drop n entries) next

-- what is left costs no more
left-le_step : (test : Bool) (size origin : ℕ) (e : Entry StoredUpload) (few many : List (Entry StoredUpload)) → price size (sources_kept few) origin ≤ price size (sources_kept many) origin
    → price size (sources_kept (cond test (e ∷ few) few)) origin ≤ price size (sources_kept (e ∷ many)) origin
left-le_step true size origin e few many less =
    dearer _ _ _ _ _
    (ap (λ sources. price size sources origin) (sources-first e few) ∙ price-append size (sources_in e.kept.pieces) (sources_kept few) origin)
    (ap (λ sources. price size sources origin) (sources-first e many) ∙ price-append size (sources_in e.kept.pieces) (sources_kept many) origin) less
  where
    dearer : (here few many later all : ℕ) → later ≡ max here few → all ≡ max here many → few ≤ many → later ≤ all
    dearer here few many later all is is_all less = omega arith
left-le_step false size origin e few many less =
    beside _ _ _ _ (ap (λ sources. price size sources origin) (sources-first e many) ∙ price-append size (sources_in e.kept.pieces) (sources_kept many) origin) less
  where
    beside : (here few many all : ℕ) → all ≡ max here many → few ≤ many → few ≤ all
    beside here few many all is less = omega arith

left-le : (size : ℕ) (swept : Option ℕ) (entries : List (Entry StoredUpload)) (origin : ℕ) → price size (sources_kept (left swept entries)) origin ≤ price size (sources_kept entries) origin
left-le size swept [] origin = omega arith
left-le size swept (e ∷ entries) origin = left-le_step (is_left swept e.kept.expires) size origin e (left swept entries) entries (left-le size swept entries origin)

-- nor does what a sweep leaves that came to a place
pub left_to-le : (size next : ℕ) (swept : Option ℕ) (entries : List (Entry StoredUpload)) (place : ℕ) → cost_of size next (left_to swept entries place) ≤ cost_of size next entries
left_to-le size next swept entries place =
    sum_below-le next (price size (sources_kept (left_to swept entries place))) (price size (sources_kept entries)) (λ origin below.
    both _ _ _ _ _
    (ap (λ sources. price size sources origin) (sources-append (left swept (take place entries)) (drop place entries)) ∙ price-append size (sources_kept (left swept (take place entries))) (sources_kept (drop place entries)) origin)
    (ap (λ entries. price size (sources_kept entries) origin) (sym (take-append-drop place entries)) ∙ ap (λ sources. price size sources origin) (sources-append (take place entries) (drop place entries)) ∙ price-append size (sources_kept (take place entries)) (sources_kept (drop place entries)) origin)
    (left-le size swept (take place entries) origin))
  where
    both : (front few later some all : ℕ) → some ≡ max few later → all ≡ max front later → few ≤ front → some ≤ all
    both front few later some all is is_all less = omega arith

-- The most that a piece of an origin takes so far, and what the origin costs in the rest of those that are left, are what it
-- costs in all: with one more upload that is left, and with one that is not.
pub dearest_left-more : (size origin most here next all : ℕ) (swept : Option ℕ) (entries : List (Entry StoredUpload)) (place : ℕ) (e : Entry StoredUpload) → place < length entries → e ≡ get_or entries place e → is_left swept e.kept.expires ≡ true
    → here ≡ price size (sources_in e.kept.pieces) origin → next ≡ max most here → max most (price size (sources_kept (left swept (drop place entries))) origin) ≡ all
    → max next (price size (sources_kept (left swept (drop (place + 1) entries))) origin) ≡ all
dearest_left-more size origin most here next all swept entries place e within read stays takes dearest is =
    let first : drop place entries ≡ e ∷ drop (place + 1) entries = drop_more entries place e within ∙ ap (λ x. x ∷ drop (place + 1) entries) (sym read) in
    let kept : left swept (e ∷ drop (place + 1) entries) ≡ e ∷ left swept (drop (place + 1) entries) = rw stays refl in
    more _ _ _ _ _ _ _
    (ap (λ entries. price size (sources_kept entries) origin) (ap (left swept) first ∙ kept)
    ∙ ap (λ sources. price size sources origin) (sources-first e (left swept (drop (place + 1) entries)))
    ∙ price-append size (sources_in e.kept.pieces) (sources_kept (left swept (drop (place + 1) entries))) origin)
    takes dearest is
  where
    more : (most rest blocks m before next all : ℕ) → before ≡ max m rest → blocks ≡ m → next ≡ max most blocks → max most before ≡ all → max next rest ≡ all
    more most rest blocks m before next all is takes dearest so_far = omega arith

pub dearest_left-over : (size origin most all : ℕ) (swept : Option ℕ) (entries : List (Entry StoredUpload)) (place : ℕ) (e : Entry StoredUpload) → place < length entries → e ≡ get_or entries place e → is_left swept e.kept.expires ≡ false
    → max most (price size (sources_kept (left swept (drop place entries))) origin) ≡ all → max most (price size (sources_kept (left swept (drop (place + 1) entries))) origin) ≡ all
dearest_left-over size origin most all swept entries place e within read ends is =
    let first : drop place entries ≡ e ∷ drop (place + 1) entries = drop_more entries place e within ∙ ap (λ x. x ∷ drop (place + 1) entries) (sym read) in
    let kept : left swept (e ∷ drop (place + 1) entries) ≡ left swept (drop (place + 1) entries) = rw ends refl in
    ap (λ n. max most n) (sym (ap (λ entries. price size (sources_kept entries) origin) (ap (left swept) first ∙ kept))) ∙ is

-- what an origin costs beside an upload
pub price-beside : (size origin : ℕ) (swept : Option ℕ) (entries before later : List (Entry StoredUpload)) (place dearest_before dearest_later result : ℕ) → before ≡ take place entries → later ≡ drop (place + 1) entries
    → dearest_before ≡ price size (sources_kept (left swept before)) origin → dearest_later ≡ price size (sources_kept (left None later)) origin → result ≡ max dearest_before dearest_later
    → result ≡ price size (sources_kept (left_beside swept entries place)) origin
price-beside size origin swept entries before later place dearest_before dearest_later result front back is_before is_later is =
    both _ _ _ _ _ _ is
    (is_before ∙ ap (λ l. price size (sources_kept (left swept l)) origin) front)
    (is_later ∙ ap (λ l. price size (sources_kept l) origin) (left-none later ∙ back))
    (ap (λ sources. price size sources origin) (sources-append (left swept (take place entries)) (drop (place + 1) entries)) ∙ price-append size (sources_kept (left swept (take place entries))) (sources_kept (drop (place + 1) entries)) origin)
  where
    both : (result a b x y all : ℕ) → result ≡ max a b → a ≡ x → b ≡ y → all ≡ max x y → result ≡ all
    both result a b x y all is e f g = omega arith
