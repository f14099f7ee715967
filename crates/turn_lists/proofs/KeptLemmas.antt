-- What is noted for each key, as one is put, taken or leaves.
use Rattle.std.specs.Prelude.{◌≡◌, ◌≢◌, ℕ, ◌<◌, ◌++◌, true, false, Bool, not, ◌&&◌, ◌||◌, List, [], ◌∷◌, Option, Some, None, cond, drop, is_some, length, nat_eq, refl, slice_get, slice_index_or, slice_set}
use Rattle.std.specs.List.{IsDistinct}
use Rattle.std.proofs.Common.{◌∙◌, ap, arith, get_or-set_other, get_or-set_same, inl, inr, length-set, rules, subst, sym}
use Rattle.std.proofs.lemmas.Bool.{cases_eq, eq-eqb, false≢true, lt-ltb, ne_eqb}
use Rattle.turn_lists.specs.declared.lists.TurnList.{TurnList}
use Rattle.turn_lists.specs.declared.lists.TurnList.TheVariants.{HasMore, WaitsForTurn, WaitsForKeeping}
use Rattle.turn_lists.specs.declared.queues.Queues.{Queues}
use Rattle.turn_lists.specs.Lists.{IsEachOnce, Lists, is_on, keys_of, list_of, put_in, with_keys, without, without_key}
use Rattle.turn_lists.specs.inside.KeyQueues.{AreQueued, KeyQueue, queue_of}
use Rattle.turn_lists.specs.inside.Kept.{IsKept, IsNoted, is_noted}
use Rattle.turn_lists.specs.inside.Queues.{lists_in, queue_in, with_keys_in}
use Rattle.turn_lists.proofs.QueueLemmas.{first-gone, on-put, on-without, queued-put, queued-rest, queued-without}

noted-none : (list : TurnList) → is_noted list None ≡ false
noted-none HasMore = refl
noted-none WaitsForTurn = refl
noted-none WaitsForKeeping = refl

noted-itself : (list : TurnList) → is_noted list (Some list) ≡ true
noted-itself HasMore = refl
noted-itself WaitsForTurn = refl
noted-itself WaitsForKeeping = refl

-- what is noted after something else is noted for one key
noted-after : (stands : List (Option TurnList)) (list : TurnList) (x : Option TurnList) (key : ℕ) (is_there : ℕ → Bool)
    → key < length stands → is_there key ≡ is_noted list x
    → ((other : ℕ) → other ≢ key → is_there other ≡ is_noted list (slice_index_or stands other None))
    → (other : ℕ) → is_there other ≡ is_noted list (slice_index_or (slice_set stands key x) other None)
noted-after stands list x key is_there below here others other = elim (cases_eq other key) [
  | inl same ↦ subst (λ (n : ℕ). is_there n ≡ is_noted list (slice_index_or (slice_set stands key x) n None)) (sym same)
      (here ∙ ap (is_noted list) (sym (search (rules, get_or-set_same))))
  | inr apart ↦ others other apart ∙ ap (is_noted list) (sym (search (rules, get_or-set_other)))
]

noted-put : (stands : List (Option TurnList)) (list : TurnList) (q : KeyQueue) (key : ℕ)
    → IsNoted stands list q → slice_index_or stands key None ≡ None → key < length stands
    → IsNoted (slice_set stands key (Some list)) list (queue_of q.room (q.keys ++ key ∷ []))
noted-put stands list q key n vacant below = record {
  room = n.room ∙ sym (length-set stands key (Some list));
  tells = noted-after stands list (Some list) key (λ other. is_on other (q.keys ++ key ∷ [])) below
      (on-put q.keys key key ∙ or-yes (is_on key q.keys) (eq-eqb key key refl) ∙ sym (noted-itself list))
      (λ other apart. on-put q.keys key other ∙ or-no (is_on other q.keys) (ne_eqb other key apart) ∙ n.tells other);
  queued = queued-put q.room q.keys key n.queued (n.tells key ∙ ap (is_noted list) vacant ∙ noted-none list) (omega (arith, n.room));
}
  where
    or-yes : {c : Bool} (b : Bool) → c ≡ true → (b || c) ≡ true
    or-yes true e = refl
    or-yes false e = e

    or-no : {c : Bool} (b : Bool) → c ≡ false → (b || c) ≡ b
    or-no true e = refl
    or-no false e = e

-- a list that nothing is noted for, neither before nor after, stays
noted-other : (stands : List (Option TurnList)) (list : TurnList) (x : Option TurnList) (q : KeyQueue) (key : ℕ)
    → IsNoted stands list q → is_noted list (slice_index_or stands key None) ≡ false → is_noted list x ≡ false → key < length stands
    → IsNoted (slice_set stands key x) list q
noted-other stands list x q key n before after below = record {
  room = n.room ∙ sym (length-set stands key x);
  tells = noted-after stands list x key (λ other. is_on other q.keys) below (n.tells key ∙ before ∙ sym after) (λ other apart. n.tells other);
  queued = n.queued;
}

-- a key that has gone from its list is noted for none
noted-gone : (stands : List (Option TurnList)) (list : TurnList) (q : KeyQueue) (key : ℕ) (keys : List ℕ)
    → IsNoted stands list q → key < length stands → AreQueued q.room keys → is_on key keys ≡ false
    → ((other : ℕ) → other ≢ key → is_on other keys ≡ is_on other q.keys)
    → IsNoted (slice_set stands key None) list (queue_of q.room keys)
noted-gone stands list q key keys n below queued gone others = record {
  room = n.room ∙ sym (length-set stands key None);
  tells = noted-after stands list None key (λ other. is_on other keys) below (gone ∙ sym (noted-none list)) (λ other apart. others other apart ∙ n.tells other);
  queued = queued;
}

-- The queues after one of them has other keys: what holds of that one and of each other list.
kept-with : (stands : List (Option TurnList)) (queues : Queues) (list : TurnList) (keys : List ℕ)
    → IsNoted stands list (queue_of (queue_in queues list).room keys)
    → ((other : TurnList) → is_noted other (Some list) ≡ false → IsNoted stands other (queue_in queues other))
    → IsKept stands (with_keys_in queues list keys)
kept-with stands queues HasMore keys this others HasMore = this
kept-with stands queues HasMore keys this others WaitsForTurn = others WaitsForTurn refl
kept-with stands queues HasMore keys this others WaitsForKeeping = others WaitsForKeeping refl
kept-with stands queues WaitsForTurn keys this others HasMore = others HasMore refl
kept-with stands queues WaitsForTurn keys this others WaitsForTurn = this
kept-with stands queues WaitsForTurn keys this others WaitsForKeeping = others WaitsForKeeping refl
kept-with stands queues WaitsForKeeping keys this others HasMore = others HasMore refl
kept-with stands queues WaitsForKeeping keys this others WaitsForTurn = others WaitsForTurn refl
kept-with stands queues WaitsForKeeping keys this others WaitsForKeeping = this

pub kept-put : (stands : List (Option TurnList)) (queues : Queues) (list : TurnList) (key : ℕ)
    → IsKept stands queues → slice_index_or stands key None ≡ None → key < length stands
    → IsKept (slice_set stands key (Some list)) (with_keys_in queues list ((queue_in queues list).keys ++ key ∷ []))
kept-put stands queues list key kept vacant below =
    kept-with (slice_set stands key (Some list)) queues list ((queue_in queues list).keys ++ key ∷ [])
    (noted-put stands list (queue_in queues list) key (kept list) vacant below)
    (λ other apart. noted-other stands other (Some list) (queue_in queues other) key (kept other) (ap (is_noted other) vacant ∙ noted-none other) apart below)

-- Each list but the one that is noted for a key stays as the key goes from that one.
kept-gone : (stands : List (Option TurnList)) (queues : Queues) (list : TurnList) (key : ℕ) (keys : List ℕ)
    → IsKept stands queues → slice_index_or stands key None ≡ Some list → key < length stands
    → AreQueued (queue_in queues list).room keys → is_on key keys ≡ false
    → ((other : ℕ) → other ≢ key → is_on other keys ≡ is_on other (queue_in queues list).keys)
    → IsKept (slice_set stands key None) (with_keys_in queues list keys)
kept-gone stands queues list key keys kept stood below queued gone others =
    kept-with (slice_set stands key None) queues list keys
    (noted-gone stands list (queue_in queues list) key keys (kept list) below queued gone others)
    (λ other apart. noted-other stands other None (queue_in queues other) key (kept other) (ap (is_noted other) stood ∙ apart) (noted-none other) below)

-- the one list that is noted
noted-only : (list : TurnList) (x : Option TurnList) → is_noted list x ≡ true → x ≡ Some list
noted-only HasMore (Some HasMore) e = refl
noted-only WaitsForTurn (Some WaitsForTurn) e = refl
noted-only WaitsForKeeping (Some WaitsForKeeping) e = refl
noted-only HasMore None e = absurd (false≢true e)
noted-only HasMore (Some WaitsForTurn) e = absurd (false≢true e)
noted-only HasMore (Some WaitsForKeeping) e = absurd (false≢true e)
noted-only WaitsForTurn None e = absurd (false≢true e)
noted-only WaitsForTurn (Some HasMore) e = absurd (false≢true e)
noted-only WaitsForTurn (Some WaitsForKeeping) e = absurd (false≢true e)
noted-only WaitsForKeeping None e = absurd (false≢true e)
noted-only WaitsForKeeping (Some HasMore) e = absurd (false≢true e)
noted-only WaitsForKeeping (Some WaitsForTurn) e = absurd (false≢true e)

-- a key that stands on a list is below the bound, and noted for this list
pub stands-there : (stands : List (Option TurnList)) (queues : Queues) (list : TurnList) (key : ℕ) → IsKept stands queues
    → is_on key (queue_in queues list).keys ≡ true → (key < length stands) × (slice_index_or stands key None ≡ Some list)
stands-there stands queues list key kept on =
    (omega (arith, (kept list).queued.below key on, (kept list).room), noted-only list (slice_index_or stands key None) (sym ((kept list).tells key) ∙ on))

-- what is noted for a key tells on which list it stands
pub told : (stands : List (Option TurnList)) (queues : Queues) (most key : ℕ) → IsKept stands queues
    → list_of (lists_in most queues) key ≡ slice_index_or stands key None
told stands queues most key kept =
    by (slice_index_or stands key None) ((kept HasMore).tells key) ((kept WaitsForTurn).tells key) ((kept WaitsForKeeping).tells key)
  where
    by : {a b c : Bool} (x : Option TurnList) → a ≡ is_noted HasMore x → b ≡ is_noted WaitsForTurn x → c ≡ is_noted WaitsForKeeping x
        → cond a (Some HasMore) (cond b (Some WaitsForTurn) (cond c (Some WaitsForKeeping) None)) ≡ x
    by None ea eb ec = rw (ea, eb, ec) refl
    by (Some HasMore) ea eb ec = rw ea refl
    by (Some WaitsForTurn) ea eb ec = rw (ea, eb) refl
    by (Some WaitsForKeeping) ea eb ec = rw (ea, eb, ec) refl

-- the same where a part of the code has read it
pub told-read : (stands read : List (Option TurnList)) (queues : Queues) (most key : ℕ) (x : Option TurnList) → IsKept stands queues
    → read ≡ stands → x ≡ slice_index_or read key None → list_of (lists_in most queues) key ≡ x
told-read stands read queues most key x kept same is =
    told stands queues most key kept ∙ sym (is ∙ ap (λ (s : List (Option TurnList)). slice_index_or s key None) same)

pub each-once : (stands : List (Option TurnList)) (queues : Queues) (most : ℕ) → most ≡ length stands → IsKept stands queues → IsEachOnce (lists_in most queues)
each-once stands queues most same kept = record {
  once = by-cases (λ list keys. IsDistinct nat_eq keys) (λ list. (kept list).queued.distinct);
  no_other = by-cases (λ list keys. (key : ℕ) → is_on key keys ≡ true → list_of (lists_in most queues) key ≡ Some list)
      (λ list key on. told stands queues most key kept ∙ (stands-there stands queues list key kept on).1);
  below = by-cases (λ list keys. (key : ℕ) → is_on key keys ≡ true → key < most)
      (λ list key on. omega (arith, same, (stands-there stands queues list key kept on).0));
}
  where
    by-cases : (P : TurnList → List ℕ → Type 0) → ((list : TurnList) → P list (queue_in queues list).keys)
        → (list : TurnList) → P list (keys_of (lists_in most queues) list)
    by-cases P each HasMore = each HasMore
    by-cases P each WaitsForTurn = each WaitsForTurn
    by-cases P each WaitsForKeeping = each WaitsForKeeping

-- after the first key was taken off a list
pub kept-first : (stands : List (Option TurnList)) (queues : Queues) (list : TurnList) (key : ℕ)
    → IsKept stands queues → slice_get (queue_in queues list).keys 0 ≡ Some key
    → (key < length stands) × IsKept (slice_set stands key None) (with_keys_in queues list (drop 1 (queue_in queues list).keys))
kept-first stands queues list key kept first = by (queue_in queues list).keys refl
  where
    by : (keys : List ℕ) → (queue_in queues list).keys ≡ keys → (key < length stands) × IsKept (slice_set stands key None) (with_keys_in queues list (drop 1 keys))
    by [] same = absurd (cc)
    by (k ∷ keys) same =
        let is : k ≡ key = cc in
        let there = stands-there stands queues list key kept (ap (is_on key) same ∙ ap (λ (b : Bool). b || is_on key keys) (eq-eqb key k (sym is))) in
        let q = subst (AreQueued (queue_in queues list).room) same (kept list).queued in (
          there.0,
          kept-gone stands queues list key keys kept there.1 there.0
              (queued-rest (queue_in queues list).room (k ∷ keys) q)
              (subst (λ (n : ℕ). is_on n keys ≡ false) is (first-gone (queue_in queues list).room k keys q))
              (λ other apart. sym (ap (is_on other) same ∙ ap (λ (b : Bool). b || is_on other keys) (ne_eqb other k (λ e. apart (e ∙ is))))),
        )

-- where nobody stands on the list from which the first is to be taken
pub kept-empty : (stands : List (Option TurnList)) (queues : Queues) (list : TurnList)
    → IsKept stands queues → slice_get (queue_in queues list).keys 0 ≡ None
    → IsKept stands (with_keys_in queues list (drop 1 (queue_in queues list).keys))
kept-empty stands queues list kept empty = by (queue_in queues list).keys refl
  where
    by : (keys : List ℕ) → (queue_in queues list).keys ≡ keys → IsKept stands (with_keys_in queues list (drop 1 keys))
    by [] same = kept-with stands queues list [] (subst (λ (keys : List ℕ). IsNoted stands list (queue_of (queue_in queues list).room keys)) same (kept list)) (λ other apart. kept other)
    by (k ∷ keys) same = absurd (cc)

-- after a key has left the list that is noted for it
pub kept-left : (stands : List (Option TurnList)) (queues : Queues) (list : TurnList) (key : ℕ)
    → IsKept stands queues → slice_index_or stands key None ≡ Some list
    → IsKept (slice_set stands key None) (with_keys_in queues list (without_key key (queue_in queues list).keys))
kept-left stands queues list key kept stood =
    let q = queue_in queues list in
    let on : is_on key q.keys ≡ true = (kept list).tells key ∙ ap (is_noted list) stood ∙ noted-itself list in
    kept-gone stands queues list key (without_key key q.keys) kept stood (stands-there stands queues list key kept on).0
    (queued-without q.room key q.keys (kept list).queued)
    (on-without key key q.keys ∙ ap (λ (b : Bool). not b && is_on key q.keys) (eq-eqb key key refl))
    (λ other apart. on-without key other q.keys ∙ ap (λ (b : Bool). not b && is_on other q.keys) (ne_eqb other key apart))

-- the lists that the queues are, with other keys on one
lists-with : (most : ℕ) (queues : Queues) (list : TurnList) (keys : List ℕ) → lists_in most (with_keys_in queues list keys) ≡ with_keys (lists_in most queues) list keys
lists-with most queues HasMore keys = refl
lists-with most queues WaitsForTurn keys = refl
lists-with most queues WaitsForKeeping keys = refl

keys-in : (most : ℕ) (queues : Queues) (list : TurnList) → (queue_in queues list).keys ≡ keys_of (lists_in most queues) list
keys-in most queues HasMore = refl
keys-in most queues WaitsForTurn = refl
keys-in most queues WaitsForKeeping = refl

-- a key that stands on a list isn't put
pub put-stays : (lists : Lists) (key : ℕ) (list : TurnList) (x : Option TurnList) → list_of lists key ≡ x → is_some x ≡ true → lists ≡ put_in lists key list (list_of lists key)
put-stays lists key list None is e = absurd (false≢true e)
put-stays lists key list (Some other) is e = rw is refl

-- one that stands on none is
pub put-new : (most : ℕ) (queues : Queues) (key : ℕ) (list : TurnList) (x : Option TurnList)
    → key < most → list_of (lists_in most queues) key ≡ x → is_some x ≡ false
    → lists_in most (with_keys_in queues list ((queue_in queues list).keys ++ key ∷ [])) ≡ put_in (lists_in most queues) key list (list_of (lists_in most queues) key)
put-new most queues key list (Some other) below is e = absurd (false≢true (sym e))
put-new most queues key list None below is e =
    let lists = lists_in most queues in
    rw is
    (lists-with most queues list ((queue_in queues list).keys ++ key ∷ [])
    ∙ ap (λ (keys : List ℕ). with_keys lists list (keys ++ key ∷ [])) (keys-in most queues list)
    ∙ ap (λ (b : Bool). cond b (with_keys lists list (keys_of lists list ++ key ∷ [])) lists) (sym (lt-ltb key most below)))

-- nothing leaves where a key stands on no list
pub none-left : (lists : Lists) (key : ℕ) → list_of lists key ≡ None → lists ≡ without lists key (list_of lists key)
none-left lists key is = rw is refl

-- the lists after a key has left
pub left-new : (most : ℕ) (queues : Queues) (key : ℕ) (list : TurnList) → list_of (lists_in most queues) key ≡ Some list
    → lists_in most (with_keys_in queues list (without_key key (queue_in queues list).keys)) ≡ without (lists_in most queues) key (list_of (lists_in most queues) key)
left-new most queues key list is =
    rw is
    (lists-with most queues list (without_key key (queue_in queues list).keys)
    ∙ ap (λ (keys : List ℕ). with_keys (lists_in most queues) list (without_key key keys)) (keys-in most queues list))

pub no-list : (x : Option TurnList) → is_some x ≡ false → x ≡ None
no-list None e = refl
no-list (Some list) e = absurd (false≢true (sym e))
