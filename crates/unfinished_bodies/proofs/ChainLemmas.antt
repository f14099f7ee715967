-- A chain stays one as a slot is put before all others of its bucket, and as a slot is taken out.
use Rattle.std.specs.Prelude.{◌≡◌, ◌≢◌, ℕ, ◌+◌, ◌<◌, ◌≤◌, Option, Some, None, refl}
use Rattle.std.proofs.Common.{sym, ◌∙◌, ap, subst, inl, inr, arith}
use Rattle.std.proofs.lemmas.Bool.{cases_eq}
use Rattle.unfinished_bodies.specs.Chains.{FirstOf, NewestBelow, OldestAbove, IsChained}

-- the same first among the same slots under the same numbers
pub same-first : (before : ℕ → ℕ → Type 0) (num num' : ℕ → ℕ) (among among' : ℕ → Type 0) (r : Option ℕ)
    → ((q : ℕ) → among q → among' q) → ((q : ℕ) → among' q → among q) → ((q : ℕ) → among q → num' q ≡ num q)
    → FirstOf before num among r → FirstOf before num' among' r
same-first before num num' among among' None to from same none = λ q m. none q (from q m)
same-first before num num' among among' (Some p) to from same f = record {
  one = to p f.one;
  first = λ q m. subst (λ (n : ℕ). before n (num' q)) (sym (same p f.one))
      (subst (λ (n : ℕ). before (num p) n) (sym (same q (from q m))) (f.first q (from q m)));
}

-- the first stays as another slot goes
pub first-without : (before : ℕ → ℕ → Type 0) (num num' : ℕ → ℕ) (among among' : ℕ → Type 0) (r : Option ℕ) (p : ℕ)
    → ((q : ℕ) → among q → q ≢ p → among' q) → ((q : ℕ) → among' q → among q) → ((q : ℕ) → q ≢ p → num' q ≡ num q)
    → ((q : ℕ) → among' q → q ≢ p) → r ≢ Some p
    → FirstOf before num among r → FirstOf before num' among' r
first-without before num num' among among' None p to from same other ne none = λ q m. none q (from q m)
first-without before num num' among among' (Some s) p to from same other ne f =
    let apart : s ≢ p = λ e. ne (ap (λ (n : ℕ). Some n) e) in
    record {
      one = to s f.one apart;
      first = λ q m. subst (λ (n : ℕ). before n (num' q)) (sym (same s apart))
          (subst (λ (n : ℕ). before (num s) n) (sym (same q (other q m))) (f.first q (from q m)));
    }

-- what a slot that is put before all others of a bucket changes
pub record Links (buckets : ℕ) (num bucket : ℕ → ℕ) (head older newer : ℕ → Option ℕ) (num' bucket' : ℕ → ℕ) (head' older' newer' : ℕ → Option ℕ) (entered b p : ℕ) : Type 0 where
  pub within : b < buckets
  pub vacant : bucket p ≡ buckets
  pub num_here : num' p ≡ entered + 1
  pub num_others : (q : ℕ) → q ≢ p → num' q ≡ num q
  pub bucket_here : bucket' p ≡ b
  pub bucket_others : (q : ℕ) → q ≢ p → bucket' q ≡ bucket q
  pub head_here : head' b ≡ Some p
  pub head_others : (c : ℕ) → c ≢ b → head' c ≡ head c
  pub older_here : older' p ≡ head b
  pub older_others : (q : ℕ) → q ≢ p → older' q ≡ older q
  pub newer_here : newer' p ≡ None
  pub newer_next : (h : ℕ) → head b ≡ Some h → newer' h ≡ Some p
  pub newer_others : (q : ℕ) → q ≢ p → head b ≢ Some q → newer' q ≡ newer q

module _ (buckets : ℕ) (num bucket : ℕ → ℕ) (head older newer : ℕ → Option ℕ) (num' bucket' : ℕ → ℕ) (head' older' newer' : ℕ → Option ℕ) (entered b p : ℕ) where
  linked-numbers : IsChained buckets num bucket head older newer entered → Links buckets num bucket head older newer num' bucket' head' older' newer' entered b p
      → (q : ℕ) → num' q ≤ entered + 1
  linked-numbers c l q = elim (cases_eq q p) [
    | inl e ↦ rw e (omega (arith, l.num_here))
    | inr ne ↦ omega (arith, l.num_others q ne, c.numbers q)
  ]

  linked-heads : IsChained buckets num bucket head older newer entered → Links buckets num bucket head older newer num' bucket' head' older' newer' entered b p
      → (d : ℕ) → d < buckets → NewestBelow num' bucket' d (entered + 1 + 1) (head' d)
  linked-heads c l d below = elim (cases_eq d b) [
    | inl e ↦ rw (e, l.head_here) (record {
      one = (l.bucket_here, omega (arith, l.num_here));
      first = λ q m. omega (arith, l.num_here, linked-numbers c l q);
    })
    | inr ne ↦ rw (l.head_others d ne) (same-first (λ m n. n ≤ m) num num'
        (λ q. (bucket q ≡ d) × (num q < entered + 1)) (λ q. (bucket' q ≡ d) × (num' q < entered + 1 + 1)) (head d)
        (λ q m. let other : q ≢ p = λ e. omega (arith, m.0, l.vacant, ap bucket e) in
        (l.bucket_others q other ∙ m.0, omega (arith, m.1, l.num_others q other)))
        (λ q m. let other : q ≢ p = λ e. ne (sym m.0 ∙ ap bucket' e ∙ l.bucket_here) in
        (sym (l.bucket_others q other) ∙ m.0, omega (arith, c.numbers q)))
        (λ q m. l.num_others q (λ e. omega (arith, m.0, l.vacant, ap bucket e)))
        (c.heads d below))
  ]

  linked-olders : IsChained buckets num bucket head older newer entered → Links buckets num bucket head older newer num' bucket' head' older' newer' entered b p
      → (q : ℕ) → bucket' q < buckets → NewestBelow num' bucket' (bucket' q) (num' q) (older' q)
  linked-olders c l q below = elim (cases_eq q p) [
    | inl e ↦ rw (e, l.older_here, l.bucket_here, l.num_here) (same-first (λ m n. n ≤ m) num num'
        (λ x. (bucket x ≡ b) × (num x < entered + 1)) (λ x. (bucket' x ≡ b) × (num' x < entered + 1)) (head b)
        (λ x m. let other : x ≢ p = λ e. omega (arith, m.0, l.vacant, l.within, ap bucket e) in
        (l.bucket_others x other ∙ m.0, omega (arith, m.1, l.num_others x other)))
        (λ x m. let other : x ≢ p = λ e. omega (arith, m.1, l.num_here, ap num' e) in
        (sym (l.bucket_others x other) ∙ m.0, omega (arith, m.1, l.num_others x other)))
        (λ x m. l.num_others x (λ e. omega (arith, m.0, l.vacant, l.within, ap bucket e)))
        (c.heads b l.within))
    | inr ne ↦
        let here : bucket' q ≡ bucket q = l.bucket_others q ne in
        let at : num' q ≡ num q = l.num_others q ne in
        rw (l.older_others q ne) (same-first (λ m n. n ≤ m) num num'
        (λ x. (bucket x ≡ bucket q) × (num x < num q)) (λ x. (bucket' x ≡ bucket' q) × (num' x < num' q)) (older q)
        (λ x m. let other : x ≢ p = λ e. omega (arith, m.0, here, below, l.vacant, ap bucket e) in
        (l.bucket_others x other ∙ m.0 ∙ sym here, omega (arith, m.1, at, l.num_others x other)))
        (λ x m. let other : x ≢ p = λ e. omega (arith, m.1, at, c.numbers q, l.num_here, ap num' e) in
        (sym (l.bucket_others x other) ∙ m.0 ∙ here, omega (arith, m.1, at, l.num_others x other)))
        (λ x m. l.num_others x (λ e. omega (arith, m.0, here, below, l.vacant, ap bucket e)))
        (c.olders q (omega (arith, here, below))))
  ]

  -- the slot that was the newest of the bucket has the new one before it
  linked-second : IsChained buckets num bucket head older newer entered → Links buckets num bucket head older newer num' bucket' head' older' newer' entered b p
      → (q : ℕ) → q ≢ p → NewestBelow num bucket b (entered + 1) (Some q) → OldestAbove num' bucket' (bucket' q) (num' q) (Some p)
  linked-second c l q ne newest =
      let here : bucket' q ≡ b = l.bucket_others q ne ∙ newest.one.0 in
      let at : num' q ≡ num q = l.num_others q ne in
      record {
        one = (l.bucket_here ∙ sym here, omega (arith, at, l.num_here, c.numbers q));
        first = λ x m. elim (cases_eq x p) [
          | inl e ↦ omega (arith, ap num' e)
          | inr other ↦
              let old : bucket x ≡ b = sym (l.bucket_others x other) ∙ m.0 ∙ here in
              let is : num' x ≡ num x = l.num_others x other in
              let low : num x ≤ num q = newest.first x (old, omega (arith, c.numbers x)) in
              absurd (omega (arith, m.1, at, is, low))
        ];
      }

  -- a slot that is not the newest of its bucket has a newer one
  newest-above : IsChained buckets num bucket head older newer entered → (q : ℕ) → b < buckets → bucket q ≡ b
      → (r : Option ℕ) → r ≢ Some q → NewestBelow num bucket b (entered + 1) r
      → ((x : ℕ) → (bucket x ≡ bucket q) × (num q < num x) → ⊥) → ⊥
  newest-above c q within here None second newest none = newest q (here, omega (arith, c.numbers q))
  newest-above c q within here (Some h) second newest none =
      let apart : num h ≢ num q = λ e. second (ap (λ (n : ℕ). Some n) (c.apart h q (omega (arith, newest.one.0)) (omega (arith, here)) e)) in
      none h (newest.one.0 ∙ sym here, omega (arith, newest.first q (here, omega (arith, c.numbers q))))

  -- any other slot has before it what it had
  linked-newer : IsChained buckets num bucket head older newer entered → Links buckets num bucket head older newer num' bucket' head' older' newer' entered b p
      → (q : ℕ) → q ≢ p → bucket' q < buckets → head b ≢ Some q
      → (s : Option ℕ) → OldestAbove num bucket (bucket q) (num q) s → OldestAbove num' bucket' (bucket' q) (num' q) s
  linked-newer c l q ne below second None none = λ x m.
      let here : bucket' q ≡ bucket q = l.bucket_others q ne in
      let at : num' q ≡ num q = l.num_others q ne in
      elim (cases_eq x p) [
        | inl e ↦ newest-above c q l.within (sym here ∙ sym m.0 ∙ ap bucket' e ∙ l.bucket_here) (head b) second (c.heads b l.within) none
        | inr other ↦ none x (sym (l.bucket_others x other) ∙ m.0 ∙ here, omega (arith, m.1, at, l.num_others x other))
      ]
  linked-newer c l q ne below second (Some s) first =
      let here : bucket' q ≡ bucket q = l.bucket_others q ne in
      let at : num' q ≡ num q = l.num_others q ne in
      let apart : s ≢ p = λ e. omega (arith, first.one.0, here, below, l.vacant, ap bucket e) in
      record {
        one = (l.bucket_others s apart ∙ first.one.0 ∙ sym here, omega (arith, first.one.1, at, l.num_others s apart));
        first = λ x m. elim (cases_eq x p) [
          | inl e ↦ omega (arith, l.num_others s apart, c.numbers s, l.num_here, ap num' e)
          | inr other ↦ omega (
            arith,
            l.num_others s apart,
            l.num_others x other,
            first.first x (sym (l.bucket_others x other) ∙ m.0 ∙ here, omega (arith, m.1, at, l.num_others x other)),
          )
        ];
      }

  linked-newers-at : IsChained buckets num bucket head older newer entered → Links buckets num bucket head older newer num' bucket' head' older' newer' entered b p
      → (q : ℕ) → bucket' q < buckets → (r : Option ℕ) → head b ≡ r → NewestBelow num bucket b (entered + 1) r
      → OldestAbove num' bucket' (bucket' q) (num' q) (newer' q)
  linked-newers-at c l q below None is newest = elim (cases_eq q p) [
    | inl e ↦ rw (e, l.newer_here) (λ x m. omega (arith, m.1, l.num_here, linked-numbers c l x))
    | inr ne ↦
        let second : head b ≢ Some q = λ e. cc in
        rw (l.newer_others q ne second) (linked-newer c l q ne below second (newer q) (c.newers q (omega (arith, below, l.bucket_others q ne))))
  ]
  linked-newers-at c l q below (Some h) is newest = elim (cases_eq q p) [
    | inl e ↦ rw (e, l.newer_here) (λ x m. omega (arith, m.1, l.num_here, linked-numbers c l x))
    | inr ne ↦ elim (cases_eq h q) [
      | inl same ↦ rw (l.newer_next q (is ∙ ap (λ (n : ℕ). Some n) same))
          (linked-second c l q ne (subst (λ (n : ℕ). NewestBelow num bucket b (entered + 1) (Some n)) same newest))
      | inr other ↦
          let second : head b ≢ Some q = λ e. let both : Some h ≡ Some q = sym is ∙ e in other (cc) in
          rw (l.newer_others q ne second) (linked-newer c l q ne below second (newer q) (c.newers q (omega (arith, below, l.bucket_others q ne))))
    ]
  ]

  linked-apart : IsChained buckets num bucket head older newer entered → Links buckets num bucket head older newer num' bucket' head' older' newer' entered b p
      → (x y : ℕ) → bucket' x < buckets → bucket' y < buckets → num' x ≡ num' y → x ≡ y
  linked-apart c l x y bx by same = elim (cases_eq x p) [
    | inl ex ↦ elim (cases_eq y p) [
      | inl ey ↦ ex ∙ sym ey
      | inr ny ↦ absurd (omega (arith, ap num' ex, l.num_here, l.num_others y ny, c.numbers y))
    ]
    | inr nx ↦ elim (cases_eq y p) [
      | inl ey ↦ absurd (omega (arith, ap num' ey, l.num_here, l.num_others x nx, c.numbers x))
      | inr ny ↦ c.apart x y (omega (arith, l.bucket_others x nx)) (omega (arith, l.bucket_others y ny))
          (sym (l.num_others x nx) ∙ same ∙ l.num_others y ny)
    ]
  ]

  -- the chains after a slot was put before all others of a bucket
  pub linked : IsChained buckets num bucket head older newer entered → Links buckets num bucket head older newer num' bucket' head' older' newer' entered b p
      → IsChained buckets num' bucket' head' older' newer' (entered + 1)
  linked c l = record {
    heads = linked-heads c l;
    olders = linked-olders c l;
    newers = λ q below. linked-newers-at c l q below (head b) refl (c.heads b l.within);
    numbers = linked-numbers c l;
    apart = linked-apart c l;
  }

module _ (buckets : ℕ) (num bucket : ℕ → ℕ) (head older newer : ℕ → Option ℕ) (entered : ℕ) (c : IsChained buckets num bucket head older newer entered) where
  back-from-older : (x y : ℕ) → bucket x < buckets → NewestBelow num bucket (bucket x) (num x) (Some y)
      → (r : Option ℕ) → OldestAbove num bucket (bucket y) (num y) r → r ≡ Some x
  back-from-older x y below f None none = absurd (none x (sym f.one.0, f.one.1))
  back-from-older x y below f (Some s) o =
      let between : num s < num x → ⊥ = λ h. omega (arith, o.one.1, f.first s (o.one.0 ∙ f.one.0, h)) in
      ap (λ (n : ℕ). Some n) (c.apart s x (omega (arith, o.one.0, f.one.0)) below (omega (arith, between, o.one.1, o.first x (sym f.one.0, f.one.1))))

  back-from-newer : (x y : ℕ) → bucket x < buckets → OldestAbove num bucket (bucket x) (num x) (Some y)
      → (r : Option ℕ) → NewestBelow num bucket (bucket y) (num y) r → r ≡ Some x
  back-from-newer x y below f None none = absurd (none x (sym f.one.0, f.one.1))
  back-from-newer x y below f (Some s) o =
      let between : num x < num s → ⊥ = λ h. omega (arith, o.one.1, f.first s (o.one.0 ∙ f.one.0, h)) in
      ap (λ (n : ℕ). Some n) (c.apart s x (omega (arith, o.one.0, f.one.0)) below (omega (arith, between, o.one.1, o.first x (sym f.one.0, f.one.1))))

  -- a slot and the next older one lead to one another
  newer-of-older : (x y : ℕ) → bucket x < buckets → older x ≡ Some y → newer y ≡ Some x
  newer-of-older x y below leads =
      let f : NewestBelow num bucket (bucket x) (num x) (Some y) = subst (λ (o : Option ℕ). NewestBelow num bucket (bucket x) (num x) o) leads (c.olders x below) in
      back-from-older x y below f (newer y) (c.newers y (omega (arith, f.one.0)))

  older-of-newer : (x y : ℕ) → bucket x < buckets → newer x ≡ Some y → older y ≡ Some x
  older-of-newer x y below leads =
      let f : OldestAbove num bucket (bucket x) (num x) (Some y) = subst (λ (o : Option ℕ). OldestAbove num bucket (bucket x) (num x) o) leads (c.newers x below) in
      back-from-newer x y below f (older y) (c.olders y (omega (arith, f.one.0)))

-- what a slot that is taken out of its bucket changes
pub record Unlinks (buckets : ℕ) (num bucket : ℕ → ℕ) (head older newer : ℕ → Option ℕ) (num' bucket' : ℕ → ℕ) (head' older' newer' : ℕ → Option ℕ) (entered b p : ℕ) : Type 0 where
  pub within : b < buckets
  pub here : bucket p ≡ b
  pub num_here : num' p ≤ entered
  pub num_others : (q : ℕ) → q ≢ p → num' q ≡ num q
  pub bucket_here : bucket' p ≡ buckets
  pub bucket_others : (q : ℕ) → q ≢ p → bucket' q ≡ bucket q
  pub head_last : newer p ≡ None → head' b ≡ older p
  pub head_kept : (s : ℕ) → newer p ≡ Some s → head' b ≡ head b
  pub head_others : (c : ℕ) → c ≢ b → head' c ≡ head c
  pub older_next : (s : ℕ) → newer p ≡ Some s → older' s ≡ older p
  pub older_others : (q : ℕ) → newer p ≢ Some q → older' q ≡ older q
  pub newer_next : (s : ℕ) → older p ≡ Some s → newer' s ≡ newer p
  pub newer_others : (q : ℕ) → older p ≢ Some q → newer' q ≡ newer q

module _ (buckets : ℕ) (num bucket : ℕ → ℕ) (head older newer : ℕ → Option ℕ) (num' bucket' : ℕ → ℕ) (head' older' newer' : ℕ → Option ℕ) (entered b p : ℕ) where
  gone : Unlinks buckets num bucket head older newer num' bucket' head' older' newer' entered b p
      → (q : ℕ) → bucket' q < buckets → q ≢ p
  gone u q below e = omega (arith, below, u.bucket_here, ap bucket' e)

  -- what is below a limit above the slot that goes, where the slot is not the first below it
  unlinked-newest : Unlinks buckets num bucket head older newer num' bucket' head' older' newer' entered b p
      → (d limit : ℕ) → d < buckets → (r : Option ℕ) → r ≢ Some p
      → NewestBelow num bucket d limit r → NewestBelow num' bucket' d limit r
  unlinked-newest u d limit below r ne =
      first-without (λ m n. n ≤ m) num num' (λ x. (bucket x ≡ d) × (num x < limit)) (λ x. (bucket' x ≡ d) × (num' x < limit)) r p
      (λ x m other. (u.bucket_others x other ∙ m.0, omega (arith, m.1, u.num_others x other)))
      (λ x m. let other : x ≢ p = gone u x (omega (arith, m.0)) in
      (sym (u.bucket_others x other) ∙ m.0, omega (arith, m.1, u.num_others x other)))
      u.num_others (λ x m. gone u x (omega (arith, m.0))) ne

  unlinked-oldest : Unlinks buckets num bucket head older newer num' bucket' head' older' newer' entered b p
      → (d limit : ℕ) → d < buckets → (r : Option ℕ) → r ≢ Some p
      → OldestAbove num bucket d limit r → OldestAbove num' bucket' d limit r
  unlinked-oldest u d limit below r ne =
      first-without (λ m n. m ≤ n) num num' (λ x. (bucket x ≡ d) × (limit < num x)) (λ x. (bucket' x ≡ d) × (limit < num' x)) r p
      (λ x m other. (u.bucket_others x other ∙ m.0, omega (arith, m.1, u.num_others x other)))
      (λ x m. let other : x ≢ p = gone u x (omega (arith, m.0)) in
      (sym (u.bucket_others x other) ∙ m.0, omega (arith, m.1, u.num_others x other)))
      u.num_others (λ x m. gone u x (omega (arith, m.0))) ne

  -- what is below the slot that goes is what is below a limit, where the slot was the newest below it
  unlinked-to-older : IsChained buckets num bucket head older newer entered → Unlinks buckets num bucket head older newer num' bucket' head' older' newer' entered b p
      → (limit : ℕ) → NewestBelow num bucket b limit (Some p) → NewestBelow num' bucket' b limit (older p)
  unlinked-to-older c u limit f =
      same-first (λ m n. n ≤ m) num num' (λ x. (bucket x ≡ bucket p) × (num x < num p)) (λ x. (bucket' x ≡ b) × (num' x < limit)) (older p)
      (λ x m. let other : x ≢ p = λ e. omega (arith, m.1, ap num e) in
      (u.bucket_others x other ∙ m.0 ∙ u.here, omega (arith, m.1, f.one.1, u.num_others x other)))
      (λ x m. let other : x ≢ p = gone u x (omega (arith, m.0, u.within)) in
      let old : bucket x ≡ b = sym (u.bucket_others x other) ∙ m.0 in
      let apart : num x ≢ num p = λ e. other (c.apart x p (omega (arith, old, u.within)) (omega (arith, u.here, u.within)) e) in
      (old ∙ sym u.here, omega (arith, apart, f.first x (old, omega (arith, m.1, u.num_others x other)))))
      (λ x m. u.num_others x (λ e. omega (arith, m.1, ap num e)))
      (c.olders p (omega (arith, u.here, u.within)))

  unlinked-to-newer : IsChained buckets num bucket head older newer entered → Unlinks buckets num bucket head older newer num' bucket' head' older' newer' entered b p
      → (limit : ℕ) → OldestAbove num bucket b limit (Some p) → OldestAbove num' bucket' b limit (newer p)
  unlinked-to-newer c u limit f =
      same-first (λ m n. m ≤ n) num num' (λ x. (bucket x ≡ bucket p) × (num p < num x)) (λ x. (bucket' x ≡ b) × (limit < num' x)) (newer p)
      (λ x m. let other : x ≢ p = λ e. omega (arith, m.1, ap num e) in
      (u.bucket_others x other ∙ m.0 ∙ u.here, omega (arith, m.1, f.one.1, u.num_others x other)))
      (λ x m. let other : x ≢ p = gone u x (omega (arith, m.0, u.within)) in
      let old : bucket x ≡ b = sym (u.bucket_others x other) ∙ m.0 in
      let apart : num x ≢ num p = λ e. other (c.apart x p (omega (arith, old, u.within)) (omega (arith, u.here, u.within)) e) in
      (old ∙ sym u.here, omega (arith, apart, f.first x (old, omega (arith, m.1, u.num_others x other)))))
      (λ x m. u.num_others x (λ e. omega (arith, m.1, ap num e)))
      (c.newers p (omega (arith, u.here, u.within)))

  unlinked-heads : IsChained buckets num bucket head older newer entered → Unlinks buckets num bucket head older newer num' bucket' head' older' newer' entered b p
      → (d : ℕ) → d < buckets → (r : Option ℕ) → newer p ≡ r → OldestAbove num bucket (bucket p) (num p) r
      → NewestBelow num' bucket' d (entered + 1) (head' d)
  unlinked-heads c u d below None is none = elim (cases_eq d b) [
    | inl e ↦ rw (e, u.head_last is) (unlinked-to-older c u (entered + 1) (record {
      one = (u.here, omega (arith, c.numbers p));
      first = λ x m.
          let above : num p < num x → ⊥ = λ h. none x (m.0 ∙ sym u.here, h) in
          omega (arith, above);
    }))
    | inr ne ↦ rw (u.head_others d ne) (unlinked-newest u d (entered + 1) below (head d)
        (λ e. let f : NewestBelow num bucket d (entered + 1) (Some p) = subst (λ (o : Option ℕ). NewestBelow num bucket d (entered + 1) o) e (c.heads d below) in
        ne (sym f.one.0 ∙ u.here))
        (c.heads d below))
  ]
  unlinked-heads c u d below (Some s) is oldest = elim (cases_eq d b) [
    | inl e ↦ rw (e, u.head_kept s is) (unlinked-newest u b (entered + 1) u.within (head b)
        (λ leads. let f : NewestBelow num bucket b (entered + 1) (Some p) = subst (λ (o : Option ℕ). NewestBelow num bucket b (entered + 1) o) leads (c.heads b u.within) in
        omega (arith, oldest.one.1, f.first s (oldest.one.0 ∙ u.here, omega (arith, c.numbers s))))
        (c.heads b u.within))
    | inr ne ↦ rw (u.head_others d ne) (unlinked-newest u d (entered + 1) below (head d)
        (λ e. let f : NewestBelow num bucket d (entered + 1) (Some p) = subst (λ (o : Option ℕ). NewestBelow num bucket d (entered + 1) o) e (c.heads d below) in
        ne (sym f.one.0 ∙ u.here))
        (c.heads d below))
  ]

  -- the links of another slot, whether or not they led to the one that goes
  unlinked-older : IsChained buckets num bucket head older newer entered → Unlinks buckets num bucket head older newer num' bucket' head' older' newer' entered b p
      → (q : ℕ) → bucket q < buckets → (r : Option ℕ) → older q ≡ r → NewestBelow num bucket (bucket q) (num q) r
      → NewestBelow num' bucket' (bucket q) (num q) (older' q)
  unlinked-older c u q below None is none =
      let apart : newer p ≢ Some q = λ e. let back : older q ≡ Some p = older-of-newer buckets num bucket head older newer entered c p q (omega (arith, u.here, u.within)) e in cc in
      rw (u.older_others q apart, is) (unlinked-newest u (bucket q) (num q) below None (λ e. cc) none)
  unlinked-older c u q below (Some s) is newest = elim (cases_eq s p) [
    | inl e ↦
        let leads : older q ≡ Some p = is ∙ ap (λ (n : ℕ). Some n) e in
        let f : NewestBelow num bucket (bucket q) (num q) (Some p) = subst (λ (n : ℕ). NewestBelow num bucket (bucket q) (num q) (Some n)) e newest in
        let same : bucket q ≡ b = sym f.one.0 ∙ u.here in
        rw (u.older_next q (newer-of-older buckets num bucket head older newer entered c q p below leads), same)
        (unlinked-to-older c u (num q) (subst (λ (n : ℕ). NewestBelow num bucket n (num q) (Some p)) same f))
    | inr ne ↦
        let other : Some s ≢ Some p = λ e. ne (cc) in
        let apart : newer p ≢ Some q = λ e.
        let back : older q ≡ Some p = older-of-newer buckets num bucket head older newer entered c p q (omega (arith, u.here, u.within)) e in
        other (sym is ∙ back) in
        rw (u.older_others q apart, is) (unlinked-newest u (bucket q) (num q) below (Some s) other newest)
  ]

  unlinked-newer : IsChained buckets num bucket head older newer entered → Unlinks buckets num bucket head older newer num' bucket' head' older' newer' entered b p
      → (q : ℕ) → bucket q < buckets → (r : Option ℕ) → newer q ≡ r → OldestAbove num bucket (bucket q) (num q) r
      → OldestAbove num' bucket' (bucket q) (num q) (newer' q)
  unlinked-newer c u q below None is none =
      let apart : older p ≢ Some q = λ e. let back : newer q ≡ Some p = newer-of-older buckets num bucket head older newer entered c p q (omega (arith, u.here, u.within)) e in cc in
      rw (u.newer_others q apart, is) (unlinked-oldest u (bucket q) (num q) below None (λ e. cc) none)
  unlinked-newer c u q below (Some s) is oldest = elim (cases_eq s p) [
    | inl e ↦
        let leads : newer q ≡ Some p = is ∙ ap (λ (n : ℕ). Some n) e in
        let f : OldestAbove num bucket (bucket q) (num q) (Some p) = subst (λ (n : ℕ). OldestAbove num bucket (bucket q) (num q) (Some n)) e oldest in
        let same : bucket q ≡ b = sym f.one.0 ∙ u.here in
        rw (u.newer_next q (older-of-newer buckets num bucket head older newer entered c q p below leads), same)
        (unlinked-to-newer c u (num q) (subst (λ (n : ℕ). OldestAbove num bucket n (num q) (Some p)) same f))
    | inr ne ↦
        let other : Some s ≢ Some p = λ e. ne (cc) in
        let apart : older p ≢ Some q = λ e.
        let back : newer q ≡ Some p = newer-of-older buckets num bucket head older newer entered c p q (omega (arith, u.here, u.within)) e in
        other (sym is ∙ back) in
        rw (u.newer_others q apart, is) (unlinked-oldest u (bucket q) (num q) below (Some s) other oldest)
  ]

  -- the chains after a slot was taken out
  pub unlinked : IsChained buckets num bucket head older newer entered → Unlinks buckets num bucket head older newer num' bucket' head' older' newer' entered b p
      → IsChained buckets num' bucket' head' older' newer' entered
  unlinked c u = record {
    heads = λ d below. unlinked-heads c u d below (newer p) refl (c.newers p (omega (arith, u.here, u.within)));
    olders = λ q below.
        let ne : q ≢ p = gone u q below in
        let old : bucket q < buckets = omega (arith, below, u.bucket_others q ne) in
        rw (u.bucket_others q ne, u.num_others q ne) (unlinked-older c u q old (older q) refl (c.olders q old));
    newers = λ q below.
        let ne : q ≢ p = gone u q below in
        let old : bucket q < buckets = omega (arith, below, u.bucket_others q ne) in
        rw (u.bucket_others q ne, u.num_others q ne) (unlinked-newer c u q old (newer q) refl (c.newers q old));
    numbers = λ q. elim (cases_eq q p) [
      | inl e ↦ rw e u.num_here
      | inr ne ↦ omega (arith, u.num_others q ne, c.numbers q)
    ];
    apart = λ x y bx by same.
        let nx : x ≢ p = gone u x bx in
        let ny : y ≢ p = gone u y by in
        c.apart x y (omega (arith, u.bucket_others x nx)) (omega (arith, u.bucket_others y ny))
        (sym (u.num_others x nx) ∙ same ∙ u.num_others y ny);
  }
