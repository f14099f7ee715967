-- What a walk along a chain and a look at every slot find.
use Rattle.std.specs.Prelude.{◌≡◌, ◌≢◌, ℕ, zero, suc, ◌+◌, ◌<◌, ◌≤◌, List, [], ◌∷◌, slice_index_or, Option, Some, None, refl, length, IsSome}
use Rattle.std.proofs.Common.{sym, ◌∙◌, ap, subst, inl, inr, arith, rules}
use Rattle.std.proofs.lemmas.Bool.{cases_eq}
use Rattle.std.proofs.lemmas.Bool.Decides.{eqb_tells, leb_tells}
use mathlib.Core.Bool.{Bool, cond}
use Rattle.unfinished_bodies.specs.declared.bodies.Body.{Body}
use Rattle.unfinished_bodies.specs.declared.bodies.Entry.{Entry}
use Rattle.unfinished_bodies.specs.declared.bodies.Filled.{Filled}
use Rattle.unfinished_bodies.specs.declared.bodies.UploadName.{UploadName}
use Rattle.unfinished_bodies.specs.Table.{Table, IsNewestOf, HasNoneOf, numbered, in_slot, held_in}
use Rattle.unfinished_bodies.specs.Chains.{IsChained, NewestBelow, bucket_at, bucket_in, bucket_of_name, link_at, number_at, number_in}
use Rattle.unfinished_bodies.specs.Largest.{IsLargestBelow, larger_of}
use Rattle.unfinished_bodies.proofs.TableLemmas.{found-in-slot, occupied}

-- the walk has passed no body of this upload yet: all are below a limit, and the next slot is the newest below it
pub record IsOnWay (slots : List (Option Entry)) (buckets b : ℕ) (name : UploadName) (next : Option ℕ) : Type 0 where
  pub limit : ℕ
  pub newest : NewestBelow (number_at slots) (bucket_at buckets slots) b limit next
  pub ahead : (slot : ℕ) (e : Entry) → in_slot slots slot ≡ Some e → e.body.upload ≡ Some name → e.number < limit

-- how far the walk can go: its next number, and one more
abbrev pub way : List (Option Entry) → Option ℕ → ℕ
way slots None = 0
way slots (Some slot) = number_at slots slot + 1

-- an entry that lies in a slot is found at its place
found-there : (slot : ℕ) (o : Option Entry) (e : Entry) → o ≡ Some e → numbered e.number o ≡ Some e
found-there slot o e is = subst (λ (x : Option Entry). numbered e.number x ≡ Some e) (sym is) (elim (eqb_tells e.number e.number) [
  | inl has ↦ ap (λ (b : Bool). cond b (Some e) None) has.0
  | inr lacks ↦ absurd (lacks.1 refl)
])

-- a body that is found at a place lies in its slot
body-in-slot : (o : Option Entry) (n : ℕ) (body : Body) → Rattle.std.specs.Option.option_map (λ (e : Entry). e.body) (numbered n o) ≡ Some body
    → (e : Entry) × (o ≡ Some e) × (e.number ≡ n) × (e.body ≡ body)
body-in-slot o n body is = by (numbered n o) refl is where
  by : (x : Option Entry) → numbered n o ≡ x → Rattle.std.specs.Option.option_map (λ (e : Entry). e.body) x ≡ Some body
      → (e : Entry) × (o ≡ Some e) × (e.number ≡ n) × (e.body ≡ body)
  by None at here = absurd (cc)
  by (Some e) at here = let found = found-in-slot o n e at in (e, found.0, found.1, cc)

-- the walk goes on to the next older slot, where the body in this one is for another upload
pub on-way-next : (slots : List (Option Entry)) (heads older newer : List (Option ℕ)) (b entered : ℕ) (name : UploadName) (slot : ℕ) (e : Entry)
    → IsChained (length heads) (number_at slots) (bucket_at (length heads) slots) (link_at heads) (link_at older) (link_at newer) entered
    → b ≡ bucket_of_name (length heads) (Some name) → b < length heads
    → in_slot slots slot ≡ Some e → e.body.upload ≢ Some name
    → IsOnWay slots (length heads) b name (Some slot) → IsOnWay slots (length heads) b name (link_at older slot)
on-way-next slots heads older newer b entered name slot e c bucket within is other w =
    let here : bucket_at (length heads) slots slot ≡ b = w.newest.one.0 in
    record {
      limit = number_at slots slot;
      newest = subst (λ (n : ℕ). NewestBelow (number_at slots) (bucket_at (length heads) slots) n (number_at slots slot) (link_at older slot)) here
          (c.olders slot (omega (arith, here, within)));
      ahead = λ q f at named.
          let there : bucket_at (length heads) slots q ≡ b = ap (bucket_in (length heads)) at ∙ ap (bucket_of_name (length heads)) named ∙ sym bucket in
          let low : number_at slots q ≤ number_at slots slot = w.newest.first q (there, omega (arith, ap number_in at, w.ahead q f at named)) in
          let apart : number_at slots q ≢ number_at slots slot = λ same.
          let one : q ≡ slot = c.apart q slot (omega (arith, there, within)) (omega (arith, here, within)) same in
          let both : Some f ≡ Some e = sym at ∙ subst (λ (n : ℕ). in_slot slots n ≡ Some e) (sym one) is in
          let equal : f ≡ e = cc in
          other (sym (ap (λ (x : Entry). x.body.upload) equal) ∙ named) in
          omega (arith, low, apart, ap number_in at);
    }

-- the walk is shorter from there
pub way-shorter : (slots : List (Option Entry)) (heads older newer : List (Option ℕ)) (b entered : ℕ) (name : UploadName) (slot : ℕ)
    → IsChained (length heads) (number_at slots) (bucket_at (length heads) slots) (link_at heads) (link_at older) (link_at newer) entered
    → b < length heads
    → IsOnWay slots (length heads) b name (Some slot) → way slots (link_at older slot) < way slots (Some slot)
way-shorter slots heads older newer b entered name slot c within w =
    shorter (link_at older slot) (c.olders slot (omega (arith, w.newest.one.0, within))) where
      shorter : (r : Option ℕ) → NewestBelow (number_at slots) (bucket_at (length heads) slots) (bucket_at (length heads) slots slot) (number_at slots slot) r
          → way slots r < way slots (Some slot)
      shorter None f = omega arith
      shorter (Some s) f = omega (arith, f.one.1)

-- the walk begins at the newest slot of the bucket
pub on-way-first : (slots : List (Option Entry)) (heads older newer : List (Option ℕ)) (b entered : ℕ) (name : UploadName)
    → IsChained (length heads) (number_at slots) (bucket_at (length heads) slots) (link_at heads) (link_at older) (link_at newer) entered
    → b < length heads → IsOnWay slots (length heads) b name (link_at heads b)
on-way-first slots heads older newer b entered name c within = record {
  limit = entered + 1;
  newest = c.heads b within;
  ahead = λ q e at named. omega (arith, ap number_in at, c.numbers q);
}

-- the walk is at a slot in which a body lies
pub on-way-filled : (slots : List (Option Entry)) (buckets b : ℕ) (name : UploadName) (slot : ℕ)
    → b < buckets → IsOnWay slots buckets b name (Some slot) → IsSome (in_slot slots slot)
on-way-filled slots buckets b name slot within w = occupied buckets (in_slot slots slot) (omega (arith, w.newest.one.0))

-- at its end there is no body of the upload
pub on-way-end : (t : Table) (buckets b : ℕ) (name : UploadName) → b ≡ bucket_of_name buckets (Some name)
    → IsOnWay t.slots buckets b name None → HasNoneOf t name
on-way-end t buckets b name bucket w q other is named =
    let found = body-in-slot (in_slot t.slots q.slot) q.number other is in
    let upload : found.0.body.upload ≡ Some name = ap (λ (x : Body). x.upload) found.3 ∙ named in
    w.newest q.slot (
      ap (bucket_in buckets) found.1 ∙ ap (bucket_of_name buckets) upload ∙ sym bucket,
      omega (arith, ap number_in found.1, w.ahead q.slot found.0 found.1 upload),
    )

-- the first body of the upload that it comes to is the newest
pub on-way-found : (t : Table) (buckets b : ℕ) (name : UploadName) (slot : ℕ) (e : Entry) → b ≡ bucket_of_name buckets (Some name)
    → in_slot t.slots slot ≡ Some e → e.body.upload ≡ Some name
    → IsOnWay t.slots buckets b name (Some slot) → IsNewestOf t name (record { slot = slot; number = e.number }) e.body
on-way-found t buckets b name slot e bucket is named w = record {
  there = ap (Rattle.std.specs.Option.option_map (λ (x : Entry). x.body)) (found-there slot (in_slot t.slots slot) e is);
  named = named;
  newest = λ q other at also.
      let found = body-in-slot (in_slot t.slots q.slot) q.number other at in
      let upload : found.0.body.upload ≡ Some name = ap (λ (x : Body). x.upload) found.3 ∙ also in
      let low : number_at t.slots q.slot ≤ number_at t.slots slot =
      w.newest.first q.slot (
        ap (bucket_in buckets) found.1 ∙ ap (bucket_of_name buckets) upload ∙ sym bucket,
        omega (arith, ap number_in found.1, w.ahead q.slot found.0 found.1 upload),
      ) in
      omega (arith, low, ap number_in found.1, found.2, ap number_in is);
}

-- the largest so far, after one more slot
pub largest-more : (slots : List (Option Entry)) (end : ℕ) (first : Option Filled) (e : Entry) → in_slot slots end ≡ Some e
    → IsLargestBelow slots end first → IsLargestBelow slots (end + 1) (larger_of first end e.body.held)
largest-more slots end None e is none = record {
  filled = subst (λ (o : Option Entry). IsSome o) (sym is) (search rules);
  holds = ap held_in is;
  most = λ q below. elim (cases_eq q end) [
    | inl at ↦ omega (arith, ap held_in (subst (λ (n : ℕ). in_slot slots n ≡ Some e) (sym at) is))
    | inr ne ↦ omega (arith, ap held_in (none q (omega arith)))
  ];
}
largest-more slots end (Some x) e is l = elim (leb_tells e.body.held x.held) [
  | inl has ↦ subst (λ (b : Bool). IsLargestBelow slots (end + 1) (cond b (Some x) (Some (record { slot = end; held = e.body.held })))) (sym has.0) (record {
    filled = l.filled;
    holds = l.holds;
    most = λ q below. elim (cases_eq q end) [
      | inl at ↦ omega (arith, has.1, ap held_in (subst (λ (n : ℕ). in_slot slots n ≡ Some e) (sym at) is))
      | inr ne ↦ l.most q (omega arith)
    ];
  })
  | inr lacks ↦ subst (λ (b : Bool). IsLargestBelow slots (end + 1) (cond b (Some x) (Some (record { slot = end; held = e.body.held })))) (sym lacks.0) (record {
    filled = subst (λ (o : Option Entry). IsSome o) (sym is) (search rules);
    holds = ap held_in is;
    most = λ q below. elim (cases_eq q end) [
      | inl at ↦ omega (arith, ap held_in (subst (λ (n : ℕ). in_slot slots n ≡ Some e) (sym at) is))
      | inr ne ↦ omega (arith, lacks.1, l.most q (omega arith))
    ];
  })
]

pub largest-same : (slots : List (Option Entry)) (end : ℕ) (first : Option Filled) → in_slot slots end ≡ None
    → IsLargestBelow slots end first → IsLargestBelow slots (end + 1) first
largest-same slots end None is none = λ q below. elim (cases_eq q end) [
  | inl at ↦ subst (λ (n : ℕ). in_slot slots n ≡ None) (sym at) is
  | inr ne ↦ none q (omega arith)
]
largest-same slots end (Some x) is l = record {
  filled = l.filled;
  holds = l.holds;
  most = λ q below. elim (cases_eq q end) [
    | inl at ↦ omega (arith, ap held_in (subst (λ (n : ℕ). in_slot slots n ≡ None) (sym at) is))
    | inr ne ↦ l.most q (omega arith)
  ];
}

-- a link that is read within the links is the link there
pub read-link : (links : List (Option ℕ)) (slot : ℕ) (r : Option ℕ) → slot < length links → r ≡ slice_index_or links slot r → link_at links slot ≡ r
read-link [] slot r below is = absurd (omega arith)
read-link (x ∷ links) zero r below is = sym is
read-link (x ∷ links) (suc slot) r below is = read-link links slot r (omega arith) is
