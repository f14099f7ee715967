-- How bodies are found by name: a chain through the slots of each bucket, the newest body first.
use Rattle.std.specs.Prelude.{◌≡◌, ℕ, ◌+◌, ◌*◌, ◌%◌, ◌<◌, ◌≤◌, ◌^◌, ◌-◌, List, Option, Some, None, slice_index_or, slice_set, length, count_by, is_some, IsSome}
use Rattle.unfinished_bodies.specs.declared.bodies.Entry.{Entry}
use Rattle.unfinished_bodies.specs.declared.bodies.UploadName.{UploadName}
use Rattle.unfinished_bodies.specs.Table.{in_slot, held_in, held_by_all}

-- the bucket of a name, of so many buckets; bucket 0 is for bodies with no name
abbrev pub bucket_of_name : ℕ → Option UploadName → ℕ
bucket_of_name buckets None = 0
bucket_of_name buckets (Some name) = 1 + ((name.id + name.tenant * 2654435761) % 2 ^ 64) % (buckets - 1)

-- where the first link of a chain is written as a body goes: only where none newer is before it
abbrev pub heads_without : List (Option ℕ) → ℕ → Option ℕ → Option ℕ → List (Option ℕ)
heads_without heads bucket None older = slice_set heads bucket older
heads_without heads bucket (Some _) older = heads

-- the links with another one at the neighbour, where there is a neighbour
abbrev pub linked_at : List (Option ℕ) → Option ℕ → Option ℕ → List (Option ℕ)
linked_at links None link = links
linked_at links (Some slot) link = slice_set links slot link

-- the link at a place; past the last one it leads nowhere
abbrev pub link_at : List (Option ℕ) → ℕ → Option ℕ
link_at links slot = slice_index_or links slot None

-- the number of the body in a slot
abbrev pub number_in : Option Entry → ℕ
number_in None = 0
number_in (Some e) = e.number

-- its bucket; an empty slot is in none
abbrev pub bucket_in : ℕ → Option Entry → ℕ
bucket_in buckets None = buckets
bucket_in buckets (Some e) = bucket_of_name buckets e.body.upload

abbrev pub number_at : List (Option Entry) → ℕ → ℕ
number_at slots slot = number_in (in_slot slots slot)

abbrev pub bucket_at : ℕ → List (Option Entry) → ℕ → ℕ
bucket_at buckets slots slot = bucket_in buckets (in_slot slots slot)

-- a slot among some, whose number comes before that of each of them
pub record IsFirst (before : ℕ → ℕ → Type 0) (num : ℕ → ℕ) (among : ℕ → Type 0) (slot : ℕ) : Type 0 where
  pub one : among slot
  pub first : (other : ℕ) → among other → before (num slot) (num other)

-- the first of some slots, or nothing where there are none
abbrev pub FirstOf : (ℕ → ℕ → Type 0) → (ℕ → ℕ) → (ℕ → Type 0) → Option ℕ → Type 0
FirstOf before num among None = (slot : ℕ) → among slot → ⊥
FirstOf before num among (Some slot) = IsFirst before num among slot

-- the newest slot of a bucket whose number is below a limit
abbrev pub NewestBelow : (ℕ → ℕ) → (ℕ → ℕ) → ℕ → ℕ → Option ℕ → Type 0
NewestBelow num bucket b limit = FirstOf (λ m n. n ≤ m) num (λ slot. (bucket slot ≡ b) × (num slot < limit))

-- the oldest slot of a bucket whose number is above a limit
abbrev pub OldestAbove : (ℕ → ℕ) → (ℕ → ℕ) → ℕ → ℕ → Option ℕ → Type 0
OldestAbove num bucket b limit = FirstOf (λ m n. m ≤ n) num (λ slot. (bucket slot ≡ b) × (limit < num slot))

-- the links lead through each bucket's slots by falling numbers, and back
pub record IsChained (buckets : ℕ) (num bucket : ℕ → ℕ) (head older newer : ℕ → Option ℕ) (entered : ℕ) : Type 0 where
  pub heads : (b : ℕ) → b < buckets → NewestBelow num bucket b (entered + 1) (head b)
  pub olders : (slot : ℕ) → bucket slot < buckets → NewestBelow num bucket (bucket slot) (num slot) (older slot)
  pub newers : (slot : ℕ) → bucket slot < buckets → OldestAbove num bucket (bucket slot) (num slot) (newer slot)
  pub numbers : (slot : ℕ) → num slot ≤ entered
  pub apart : (p q : ℕ) → bucket p < buckets → bucket q < buckets → num p ≡ num q → p ≡ q

-- the slots, the chains through them and the numbers belong to one table
pub record IsKept (slots : List (Option Entry)) (capacity most entered total : ℕ) (heads older newer : List (Option ℕ)) : Type 0 where
  pub buckets : 2 ≤ length heads
  pub chained : IsChained (length heads) (number_at slots) (bucket_at (length heads) slots) (link_at heads) (link_at older) (link_at newer) entered
  pub within : (slot : ℕ) → IsSome (in_slot slots slot) → slot < capacity
  pub few : count_by is_some slots ≤ most
  pub room : most ≤ capacity
  pub most_fits : most < 2 ^ 64
  pub older_links : length older ≡ capacity
  pub newer_links : length newer ≡ capacity
  pub held : total ≡ held_by_all slots
  pub small : (slot : ℕ) → held_in (in_slot slots slot) < 2 ^ 64
