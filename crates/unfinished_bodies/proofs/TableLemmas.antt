-- What the table keeps as a body enters, as it changes and as it leaves.
use Rattle.std.specs.Prelude.{◌≡◌, ◌≢◌, ℕ, zero, suc, ◌+◌, ◌*◌, ◌<◌, ◌≤◌, ◌^◌, List, [], ◌∷◌, Option, Some, None, refl, length, slice_set, count_by, is_some, IsSome}
use Rattle.std.proofs.Common.{sym, ◌∙◌, ap, subst, subst₂, inl, inr, arith, rules, get_or-set_same, get_or-set_other, length-set}
use Rattle.std.proofs.lemmas.Bool.{cases_eq}
use Rattle.std.proofs.lemmas.Bool.Decides.{eqb_tells}
use Rattle.std.proofs.lemmas.List.Sums.{sum_by-cons, sum_by-set, get_or-le-sum_by}
use mathlib.Core.Path.{fun_ext}
use mathlib.Core.Bool.{Bool, cond}
use Rattle.slab.specs.Slab.{Slab, Updates, get, slab_len}
use Rattle.unfinished_bodies.specs.declared.bodies.Entry.{Entry}
use Rattle.unfinished_bodies.specs.Table.{numbered, in_slot, held_in, held_by_all}
use Rattle.unfinished_bodies.specs.Chains.{IsChained, IsKept, NewestBelow, OldestAbove, bucket_at, bucket_in, bucket_of_name, heads_without, link_at, linked_at, number_at, number_in}
use Rattle.unfinished_bodies.proofs.ChainLemmas.{linked, unlinked}

held-cons : (x : Option Entry) (xs : List (Option Entry)) → held_by_all (x ∷ xs) ≡ held_in x + held_by_all xs
held-cons x xs = sum_by-cons held_in x xs

count-cons : (x : Option Entry) (xs : List (Option Entry)) → count_by is_some (x ∷ xs) ≡ cond (is_some x) 1 0 + count_by is_some xs
count-cons x xs = sum_by-cons (λ x'. cond (is_some x') 1 0) x xs

-- two lists that have the same in each slot hold the same
held-same : (xs ys : List (Option Entry)) → ((k : ℕ) → in_slot ys k ≡ in_slot xs k) → held_by_all ys ≡ held_by_all xs
held-same [] [] same = refl
held-same [] (y ∷ ys) same = omega (arith, held-cons y ys, ap held_in (same 0), held-same [] ys (λ k. same (suc k)))
held-same (x ∷ xs) [] same = omega (arith, held-cons x xs, ap held_in (same 0), held-same xs [] (λ k. same (suc k)))
held-same (x ∷ xs) (y ∷ ys) same = omega (arith, held-cons x xs, held-cons y ys, ap held_in (same 0), held-same xs ys (λ k. same (suc k)))

-- the bytes held change as those in the one slot in which two lists differ
pub held-change : (xs ys : List (Option Entry)) (p : ℕ) → ((k : ℕ) → k ≢ p → in_slot ys k ≡ in_slot xs k)
    → held_by_all ys + held_in (in_slot xs p) ≡ held_by_all xs + held_in (in_slot ys p)
held-change [] [] p same = refl
held-change [] (y ∷ ys) zero same =
    omega (arith, held-cons y ys, held-same [] ys (λ k. same (suc k) (λ e. omega arith)))
held-change [] (y ∷ ys) (suc p) same =
    omega (arith, held-cons y ys, ap held_in (same 0 (λ e. omega arith)), held-change [] ys p (λ k ne. same (suc k) (λ e. ne (omega arith))))
held-change (x ∷ xs) [] zero same =
    omega (arith, held-cons x xs, held-same xs [] (λ k. same (suc k) (λ e. omega arith)))
held-change (x ∷ xs) [] (suc p) same =
    omega (arith, held-cons x xs, ap held_in (same 0 (λ e. omega arith)), held-change xs [] p (λ k ne. same (suc k) (λ e. ne (omega arith))))
held-change (x ∷ xs) (y ∷ ys) zero same =
    omega (arith, held-cons x xs, held-cons y ys, held-same xs ys (λ k. same (suc k) (λ e. omega arith)))
held-change (x ∷ xs) (y ∷ ys) (suc p) same =
    omega (arith, held-cons x xs, held-cons y ys, ap held_in (same 0 (λ e. omega arith)), held-change xs ys p (λ k ne. same (suc k) (λ e. ne (omega arith))))

-- so many bodies hold at most so many times what each of them may
pub held-bounded : (slots : List (Option Entry)) (u : ℕ) → ((k : ℕ) → held_in (in_slot slots k) ≤ u) → held_by_all slots ≤ count_by is_some slots * u
held-bounded [] u small = omega arith
held-bounded (None ∷ slots) u small = omega (arith, held-cons None slots, ap (λ (n : ℕ). n * u) (count-cons None slots), held-bounded slots u (λ k. small (suc k)))
held-bounded (Some e ∷ slots) u small = omega (arith, held-cons (Some e) slots, ap (λ (n : ℕ). n * u) (count-cons (Some e) slots), small 0, held-bounded slots u (λ k. small (suc k)))

pub occupied : (buckets : ℕ) (o : Option Entry) → bucket_in buckets o < buckets → IsSome o
occupied buckets None below = absurd (omega arith)
occupied buckets (Some e) below = search rules

pub within-slots : (slots : List (Option Entry)) (p : ℕ) (e : Entry) → in_slot slots p ≡ Some e → p < length slots
within-slots [] p e is = absurd (cc)
within-slots (x ∷ slots) zero e is = omega arith
within-slots (x ∷ slots) (suc p) e is = omega (arith, within-slots slots p e is)

count-set : (slots : List (Option Entry)) (p : ℕ) (e f : Entry) → in_slot slots p ≡ Some e → count_by is_some (slice_set slots p (Some f)) ≡ count_by is_some slots
count-set slots p e f is =
    omega (
      arith,
      sum_by-set (λ x. cond (is_some x) 1 0) slots p (Some f) None (within-slots slots p e is),
      ap (λ (x : Option Entry). cond {A = ℕ} (is_some x) 1 0) is,
    )

-- links after one of them is written, or none
linked-here : (links : List (Option ℕ)) (r link : Option ℕ) → ((h : ℕ) → r ≡ Some h → h < length links)
    → (s : ℕ) → r ≡ Some s → link_at (linked_at links r link) s ≡ link
linked-here links None link within s is = absurd (cc)
linked-here links (Some h) link within s is =
    let same : h ≡ s = cc in
    subst (λ (n : ℕ). link_at (slice_set links h link) n ≡ link) same (get_or-set_same links h link None (within h refl))

linked-others : (links : List (Option ℕ)) (r link : Option ℕ) (q : ℕ) → r ≢ Some q → link_at (linked_at links r link) q ≡ link_at links q
linked-others links None link q ne = refl
linked-others links (Some h) link q ne = get_or-set_other links h q link None (λ e. ne (ap (λ (n : ℕ). Some n) (sym e)))

length-linked : (links : List (Option ℕ)) (r link : Option ℕ) → length (linked_at links r link) ≡ length links
length-linked links None link = refl
length-linked links (Some h) link = length-set links h link

-- the chains see of a body its number and its upload alone
chained-same : (buckets : ℕ) (num bucket num' bucket' : ℕ → ℕ) (head older newer : ℕ → Option ℕ) (entered : ℕ)
    → ((q : ℕ) → num' q ≡ num q) → ((q : ℕ) → bucket' q ≡ bucket q)
    → IsChained buckets num bucket head older newer entered → IsChained buckets num' bucket' head older newer entered
chained-same buckets num bucket num' bucket' head older newer entered n b c =
    subst₂ (λ (x y : ℕ → ℕ). IsChained buckets x y head older newer entered) (fun_ext (λ q. sym (n q))) (fun_ext (λ q. sym (b q))) c

-- the table after the body in a slot has changed what it holds, or was asked to be cut
pub kept-set : (slots : List (Option Entry)) (capacity most entered total after : ℕ) (heads older newer : List (Option ℕ)) (slot : ℕ) (e f : Entry)
    → in_slot slots slot ≡ Some e → f.number ≡ e.number → f.body.upload ≡ e.body.upload → f.body.held < 2 ^ 64
    → after + e.body.held ≡ total + f.body.held
    → IsKept slots capacity most entered total heads older newer
    → IsKept (slice_set slots slot (Some f)) capacity most entered after heads older newer
kept-set slots capacity most entered total after heads older newer slot e f is number upload small change k =
    let here : in_slot (slice_set slots slot (Some f)) slot ≡ Some f = get_or-set_same slots slot (Some f) None (within-slots slots slot e is) in
    let others : (q : ℕ) → q ≢ slot → in_slot (slice_set slots slot (Some f)) q ≡ in_slot slots q = λ q ne. get_or-set_other slots slot q (Some f) None ne in
    record {
      buckets = k.buckets;
      chained = chained-same (length heads) (number_at slots) (bucket_at (length heads) slots) (number_at (slice_set slots slot (Some f)))
          (bucket_at (length heads) (slice_set slots slot (Some f))) (link_at heads) (link_at older) (link_at newer) entered
          (λ q. elim (cases_eq q slot) [
            | inl at ↦ ap number_in (subst (λ (n : ℕ). in_slot (slice_set slots slot (Some f)) n ≡ Some f) (sym at) here) ∙ number ∙ sym (ap number_in (subst (λ (n : ℕ). in_slot slots n ≡ Some e) (sym at) is))
            | inr ne ↦ ap number_in (others q ne)
          ])
          (λ q. elim (cases_eq q slot) [
            | inl at ↦ ap (bucket_in (length heads)) (subst (λ (n : ℕ). in_slot (slice_set slots slot (Some f)) n ≡ Some f) (sym at) here)
                ∙ ap (bucket_of_name (length heads)) upload
                ∙ sym (ap (bucket_in (length heads)) (subst (λ (n : ℕ). in_slot slots n ≡ Some e) (sym at) is))
            | inr ne ↦ ap (bucket_in (length heads)) (others q ne)
          ])
          k.chained;
      within = λ q some. elim (cases_eq q slot) [
        | inl at ↦ k.within q (subst (λ (o : Option Entry). IsSome o) (sym (subst (λ (n : ℕ). in_slot slots n ≡ Some e) (sym at) is)) (search rules))
        | inr ne ↦ k.within q (subst (λ (o : Option Entry). IsSome o) (others q ne) some)
      ];
      few = omega (arith, count-set slots slot e f is, k.few);
      room = k.room;
      most_fits = k.most_fits;
      older_links = k.older_links;
      newer_links = k.newer_links;
      held = omega (arith, k.held, change, sum_by-set held_in slots slot (Some f) None (within-slots slots slot e is), ap held_in is);
      small = λ q. elim (cases_eq q slot) [
        | inl at ↦ omega (arith, small, ap held_in (subst (λ (n : ℕ). in_slot (slice_set slots slot (Some f)) n ≡ Some f) (sym at) here))
        | inr ne ↦ omega (arith, ap held_in (others q ne), k.small q)
      ];
    }

-- a first slot of a bucket holds a body, so it lies within the links
pub head-within : (slots : List (Option Entry)) (capacity most entered total : ℕ) (heads older newer : List (Option ℕ)) (b limit : ℕ) (r : Option ℕ)
    → IsKept slots capacity most entered total heads older newer → b < length heads
    → NewestBelow (number_at slots) (bucket_at (length heads) slots) b limit r
    → (h : ℕ) → r ≡ Some h → IsSome (in_slot slots h)
head-within slots capacity most entered total heads older newer b limit None k below f h is = absurd (cc)
head-within slots capacity most entered total heads older newer b limit (Some s) k below f h is =
    let same : s ≡ h = cc in
    subst (λ (n : ℕ). IsSome (in_slot slots n)) same (occupied (length heads) (in_slot slots s) (omega (arith, f.one.0)))

newer-within : (slots : List (Option Entry)) (capacity most entered total : ℕ) (heads older newer : List (Option ℕ)) (b limit : ℕ) (r : Option ℕ)
    → IsKept slots capacity most entered total heads older newer → b < length heads
    → OldestAbove (number_at slots) (bucket_at (length heads) slots) b limit r
    → (h : ℕ) → r ≡ Some h → IsSome (in_slot slots h)
newer-within slots capacity most entered total heads older newer b limit None k below f h is = absurd (cc)
newer-within slots capacity most entered total heads older newer b limit (Some s) k below f h is =
    let same : s ≡ h = cc in
    subst (λ (n : ℕ). IsSome (in_slot slots n)) same (occupied (length heads) (in_slot slots s) (omega (arith, f.one.0)))

apart-from-vacant : (slots : List (Option Entry)) (p q : ℕ) → in_slot slots p ≡ None → IsSome (in_slot slots q) → q ≢ p
apart-from-vacant slots p q vacant some e =
    let none : in_slot slots q ≡ None = subst (λ (n : ℕ). in_slot slots n ≡ None) (sym e) vacant in
    let none_is_some : IsSome {T = Entry} None = subst (λ (o : Option Entry). IsSome o) none some in
    cc

-- the table after a body has entered
pub kept-entered : (s s' : Slab Entry) (most entered total : ℕ) (heads older newer heads' older' newer' : List (Option ℕ)) (b slot : ℕ) (e : Entry)
    → IsKept s.slots s.capacity most entered total heads older newer
    → get s slot ≡ None → Updates s s' slot (Some e) → slab_len s' ≡ slab_len s + 1 → slot < s'.capacity → s'.capacity ≡ s.capacity
    → slab_len s < most → e.number ≡ entered + 1 → e.body.held < 2 ^ 64
    → b ≡ bucket_of_name (length heads) e.body.upload → b < length heads
    → heads' ≡ slice_set heads b (Some slot)
    → older' ≡ slice_set older slot (link_at heads b)
    → newer' ≡ linked_at (slice_set newer slot None) (link_at heads b) (Some slot)
    → IsKept s'.slots s'.capacity most (entered + 1) (total + e.body.held) heads' older' newer'
kept-entered s s' most entered total heads older newer heads' older' newer' b slot e k vacant updates count in_range capacity few number small bucket within hs os ns =
    let len : length heads' ≡ length heads = ap (length {A = Option ℕ}) hs ∙ length-set heads b (Some slot) in
    let slot_older : slot < length older = omega (arith, in_range, capacity, k.older_links) in
    let slot_newer : slot < length newer = omega (arith, in_range, capacity, k.newer_links) in
    let head_some : (h : ℕ) → link_at heads b ≡ Some h → IsSome (in_slot s.slots h) =
    head-within s.slots s.capacity most entered total heads older newer b (entered + 1) (link_at heads b) k within (k.chained.heads b within) in
    let head_below : (h : ℕ) → link_at heads b ≡ Some h → h < length (slice_set newer slot None) =
    λ h is. omega (arith, k.within h (head_some h is), k.newer_links, length-set newer slot None) in
    let head_apart : (h : ℕ) → link_at heads b ≡ Some h → h ≢ slot = λ h is. apart-from-vacant s.slots slot h vacant (head_some h is) in
    record {
      buckets = omega (arith, len, k.buckets);
      chained = subst (λ (n : ℕ). IsChained n (number_at s'.slots) (bucket_at n s'.slots) (link_at heads') (link_at older') (link_at newer') (entered + 1)) (sym len)
          (linked (length heads) (number_at s.slots) (bucket_at (length heads) s.slots) (link_at heads) (link_at older) (link_at newer)
          (number_at s'.slots) (bucket_at (length heads) s'.slots) (link_at heads') (link_at older') (link_at newer') entered b slot k.chained (record {
            within = within;
            vacant = ap (bucket_in (length heads)) vacant;
            num_here = ap number_in updates.changed ∙ number;
            num_others = λ q ne. ap number_in (updates.others q ne);
            bucket_here = ap (bucket_in (length heads)) updates.changed ∙ sym bucket;
            bucket_others = λ q ne. ap (bucket_in (length heads)) (updates.others q ne);
            head_here = rw hs (get_or-set_same heads b (Some slot) None within);
            head_others = λ c ne. rw hs (get_or-set_other heads b c (Some slot) None ne);
            older_here = rw os (get_or-set_same older slot (link_at heads b) None slot_older);
            older_others = λ q ne. rw os (get_or-set_other older slot q (link_at heads b) None ne);
            newer_here = rw ns (linked-others (slice_set newer slot None) (link_at heads b) (Some slot) slot (λ leads. head_apart slot leads refl) ∙ get_or-set_same newer slot None None slot_newer);
            newer_next = λ h is. rw ns (linked-here (slice_set newer slot None) (link_at heads b) (Some slot) head_below h is);
            newer_others = λ q ne other. rw ns (linked-others (slice_set newer slot None) (link_at heads b) (Some slot) q other ∙ get_or-set_other newer slot q None None ne);
          }));
      within = λ q some. elim (cases_eq q slot) [
        | inl at ↦ omega (arith, at, in_range)
        | inr ne ↦ omega (arith, capacity, k.within q (subst (λ (o : Option Entry). IsSome o) (updates.others q ne) some))
      ];
      few = omega (arith, count, few);
      room = omega (arith, capacity, k.room);
      most_fits = k.most_fits;
      older_links = ap (length {A = Option ℕ}) os ∙ length-set older slot (link_at heads b) ∙ k.older_links ∙ sym capacity;
      newer_links = ap (length {A = Option ℕ}) ns ∙ length-linked (slice_set newer slot None) (link_at heads b) (Some slot) ∙ length-set newer slot None ∙ k.newer_links ∙ sym capacity;
      held = omega (arith, k.held, held-change s.slots s'.slots slot updates.others, ap held_in vacant, ap held_in updates.changed);
      small = λ q. elim (cases_eq q slot) [
        | inl at ↦ omega (arith, small, ap held_in (subst (λ (n : ℕ). in_slot s'.slots n ≡ Some e) (sym at) updates.changed))
        | inr ne ↦ omega (arith, ap held_in (updates.others q ne), k.small q)
      ];
    }

head-last : (heads : List (Option ℕ)) (b : ℕ) (r older : Option ℕ) → b < length heads → r ≡ None → link_at (heads_without heads b r older) b ≡ older
head-last heads b None older within is = get_or-set_same heads b older None within
head-last heads b (Some s) older within is = absurd (cc)

head-kept : (heads : List (Option ℕ)) (b : ℕ) (r older : Option ℕ) (s : ℕ) → r ≡ Some s → link_at (heads_without heads b r older) b ≡ link_at heads b
head-kept heads b None older s is = absurd (cc)
head-kept heads b (Some x) older s is = refl

head-others : (heads : List (Option ℕ)) (b : ℕ) (r older : Option ℕ) (c : ℕ) → c ≢ b → link_at (heads_without heads b r older) c ≡ link_at heads c
head-others heads b None older c ne = get_or-set_other heads b c older None ne
head-others heads b (Some x) older c ne = refl

length-heads : (heads : List (Option ℕ)) (b : ℕ) (r older : Option ℕ) → length (heads_without heads b r older) ≡ length heads
length-heads heads b None older = length-set heads b older
length-heads heads b (Some x) older = refl

-- the table after a body has left
pub kept-left : (s s' : Slab Entry) (most entered total after : ℕ) (heads older newer heads' older' newer' : List (Option ℕ)) (b slot : ℕ) (e : Entry)
    → IsKept s.slots s.capacity most entered total heads older newer
    → get s slot ≡ Some e → Updates s s' slot None → slab_len s' + 1 ≡ slab_len s → s'.capacity ≡ s.capacity
    → after + e.body.held ≡ total
    → b ≡ bucket_of_name (length heads) e.body.upload → b < length heads
    → heads' ≡ heads_without heads b (link_at newer slot) (link_at older slot)
    → older' ≡ linked_at older (link_at newer slot) (link_at older slot)
    → newer' ≡ linked_at newer (link_at older slot) (link_at newer slot)
    → IsKept s'.slots s'.capacity most entered after heads' older' newer'
kept-left s s' most entered total after heads older newer heads' older' newer' b slot e k is updates count capacity sums bucket within hs os ns =
    let len : length heads' ≡ length heads = ap (length {A = Option ℕ}) hs ∙ length-heads heads b (link_at newer slot) (link_at older slot) in
    let at_slot : bucket_at (length heads) s.slots slot < length heads = omega (arith, ap (bucket_in (length heads)) is, bucket, within) in
    let newer_below : (h : ℕ) → link_at newer slot ≡ Some h → h < length older = λ h leads.
    omega (arith, k.older_links, k.within h (newer-within s.slots s.capacity most entered total heads older newer (bucket_at (length heads) s.slots slot) (number_at s.slots slot) (link_at newer slot) k at_slot (k.chained.newers slot at_slot) h leads)) in
    let older_below : (h : ℕ) → link_at older slot ≡ Some h → h < length newer = λ h leads.
    omega (arith, k.newer_links, k.within h (head-within s.slots s.capacity most entered total heads older newer (bucket_at (length heads) s.slots slot) (number_at s.slots slot) (link_at older slot) k at_slot (k.chained.olders slot at_slot) h leads)) in
    record {
      buckets = omega (arith, len, k.buckets);
      chained = subst (λ (n : ℕ). IsChained n (number_at s'.slots) (bucket_at n s'.slots) (link_at heads') (link_at older') (link_at newer') entered) (sym len)
          (unlinked (length heads) (number_at s.slots) (bucket_at (length heads) s.slots) (link_at heads) (link_at older) (link_at newer)
          (number_at s'.slots) (bucket_at (length heads) s'.slots) (link_at heads') (link_at older') (link_at newer') entered b slot k.chained (record {
            within = within;
            here = ap (bucket_in (length heads)) is ∙ sym bucket;
            num_here = omega (arith, ap number_in updates.changed);
            num_others = λ q ne. ap number_in (updates.others q ne);
            bucket_here = ap (bucket_in (length heads)) updates.changed;
            bucket_others = λ q ne. ap (bucket_in (length heads)) (updates.others q ne);
            head_last = λ none. rw hs (head-last heads b (link_at newer slot) (link_at older slot) within none);
            head_kept = λ n leads. rw hs (head-kept heads b (link_at newer slot) (link_at older slot) n leads);
            head_others = λ c ne. rw hs (head-others heads b (link_at newer slot) (link_at older slot) c ne);
            older_next = λ n leads. rw os (linked-here older (link_at newer slot) (link_at older slot) newer_below n leads);
            older_others = λ q ne. rw os (linked-others older (link_at newer slot) (link_at older slot) q ne);
            newer_next = λ n leads. rw ns (linked-here newer (link_at older slot) (link_at newer slot) older_below n leads);
            newer_others = λ q ne. rw ns (linked-others newer (link_at older slot) (link_at newer slot) q ne);
          }));
      within = λ q some. elim (cases_eq q slot) [
        | inl at ↦
            let none : in_slot s'.slots q ≡ None = subst (λ (n : ℕ). in_slot s'.slots n ≡ None) (sym at) updates.changed in
            let none_is_some : IsSome {T = Entry} None = subst (λ (o : Option Entry). IsSome o) none some in
            absurd (cc)
        | inr ne ↦ omega (arith, capacity, k.within q (subst (λ (o : Option Entry). IsSome o) (updates.others q ne) some))
      ];
      few = omega (arith, count, k.few);
      room = omega (arith, capacity, k.room);
      most_fits = k.most_fits;
      older_links = ap (length {A = Option ℕ}) os ∙ length-linked older (link_at newer slot) (link_at older slot) ∙ k.older_links ∙ sym capacity;
      newer_links = ap (length {A = Option ℕ}) ns ∙ length-linked newer (link_at older slot) (link_at newer slot) ∙ k.newer_links ∙ sym capacity;
      held = omega (arith, sums, k.held, held-change s.slots s'.slots slot updates.others, ap held_in is, ap held_in updates.changed);
      small = λ q. elim (cases_eq q slot) [
        | inl at ↦ omega (arith, ap held_in (subst (λ (n : ℕ). in_slot s'.slots n ≡ None) (sym at) updates.changed))
        | inr ne ↦ omega (arith, ap held_in (updates.others q ne), k.small q)
      ];
    }

-- a body holds no more than all do
pub held-le-all : (slots : List (Option Entry)) (slot : ℕ) (e : Entry) → in_slot slots slot ≡ Some e → e.body.held ≤ held_by_all slots
held-le-all slots slot e is = omega (arith, get_or-le-sum_by held_in slots slot None (within-slots slots slot e is), ap held_in is)

-- the bytes of all bodies and of one more can be counted in 128 bits
pub sum-fits : (slots : List (Option Entry)) (capacity most entered total more : ℕ) (heads older newer : List (Option ℕ))
    → IsKept slots capacity most entered total heads older newer → more < 2 ^ 64 → total + more < 2 ^ 128
sum-fits slots capacity most entered total more heads older newer k h =
    omega (arith, k.held, k.few, k.most_fits, held-bounded slots 18446744073709551615 (λ q. omega (arith, k.small q)))

-- what is found at a place lies in its slot, under its number
pub found-in-slot : (o : Option Entry) (n : ℕ) (e : Entry) → numbered n o ≡ Some e → (o ≡ Some e) × (e.number ≡ n)
found-in-slot None n e is = absurd (cc)
found-in-slot (Some x) n e is = elim (eqb_tells x.number n) [
  | inl has ↦
      let same : Some x ≡ Some e = sym (ap (λ (b : Bool). cond b (Some x) None) has.0) ∙ is in
      let at : x ≡ e = cc in
      (same, subst (λ (y : Entry). y.number ≡ n) at has.1)
  | inr lacks ↦
      let none : None ≡ Some e = sym (ap (λ (b : Bool). cond b (Some x) None) lacks.0) ∙ is in
      absurd (cc)
]
