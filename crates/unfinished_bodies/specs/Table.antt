-- The table as a contract sees it: in each slot the body that lies there, or nothing.
use Rattle.std.specs.Prelude.{◌≡◌, ◌≢◌, ℕ, ◌+◌, ◌<◌, ◌≤◌, ◌^◌, ◌==◌, true, false, List, [], Option, Some, None, slice_index_or, slice_set, count_by, is_some, sum_by, if◌then◌else◌}
use Rattle.std.specs.Option.{option_map}
use Rattle.unfinished_bodies.specs.declared.bodies.Body.{Body}
use Rattle.unfinished_bodies.specs.declared.bodies.Entry.{Entry}
use Rattle.unfinished_bodies.specs.declared.bodies.BodyPlace.{BodyPlace}
use Rattle.unfinished_bodies.specs.declared.bodies.UploadName.{UploadName}

-- the slots with their entries, how many bodies may lie in them, and how many were ever entered
pub record Table : Type 0 where
  pub slots : List (Option Entry)
  pub most : ℕ
  pub entered : ℕ

-- no body is in it, and none ever was
abbrev pub empty_table : ℕ → Table
empty_table most = record { slots = []; most = most; entered = 0 }

-- the entry in a slot; past the last slot there is none
abbrev pub in_slot : List (Option Entry) → ℕ → Option Entry
in_slot slots slot = slice_index_or slots slot None

-- the entry, if it has this number
abbrev pub numbered : ℕ → Option Entry → Option Entry
numbered n None = None
numbered n (Some e) = if e.number == n then Some e else None

-- the entry at a place; none where its body has left, though another lies in the slot now
abbrev pub entry_at : List (Option Entry) → BodyPlace → Option Entry
entry_at slots p = numbered p.number (in_slot slots p.slot)

-- the body at a place
abbrev pub body_at : List (Option Entry) → BodyPlace → Option Body
body_at slots p = option_map (λ e. e.body) (entry_at slots p)

-- how many bodies are in the table
abbrev pub body_count : Table → ℕ
body_count t = count_by is_some t.slots

-- one more body may enter: fewer than the most are in it, and a number is left for it
pub record HasRoom (t : Table) : Type 0 where
  pub few : body_count t < t.most
  pub number_left : t.entered + 1 < 2 ^ 64

-- a body is new at a place, under the next number, and nobody has asked to cut it; all others stay
pub record Enters (old new : Table) (p : BodyPlace) (body : Body) : Type 0 where
  pub vacant : in_slot old.slots p.slot ≡ None
  pub number : p.number ≡ old.entered + 1
  pub there : in_slot new.slots p.slot ≡ Some (record { number = p.number; body = body; asked = false })
  pub others : (slot : ℕ) → slot ≢ p.slot → in_slot new.slots slot ≡ in_slot old.slots slot
  pub count : body_count new ≡ body_count old + 1
  pub entered : new.entered ≡ old.entered + 1
  pub most : new.most ≡ old.most

-- the slots with this in one of them
abbrev pub with_slot : Table → ℕ → Option Entry → Table
with_slot t slot entry = record t { slots = slice_set t.slots slot entry }

-- the entry whose body holds so many bytes
abbrev pub holding : ℕ → Entry → Entry
holding held e = record e { body = record e.body { held = held } }

-- the table after the body in a slot holds so many bytes, if there is one
abbrev pub held_to : Table → ℕ → ℕ → Option Entry → Table
held_to t slot held None = t
held_to t slot held (Some e) = with_slot t slot (Some (holding held e))

-- the table with a slot empty, if something was in it
abbrev pub without : Table → ℕ → Option Entry → Table
without t slot None = t
without t slot (Some _) = with_slot t slot None

-- the table after the body in a slot was asked to be cut, if there is one
abbrev pub asked_in : Table → ℕ → Option Entry → Table
asked_in t slot None = t
asked_in t slot (Some e) = with_slot t slot (Some (record e { asked = true }))

-- the newest body of those for one upload
pub record IsNewestOf (t : Table) (name : UploadName) (p : BodyPlace) (body : Body) : Type 0 where
  pub there : body_at t.slots p ≡ Some body
  pub named : body.upload ≡ Some name
  pub newest : (q : BodyPlace) (other : Body) → body_at t.slots q ≡ Some other → other.upload ≡ Some name → q.number ≤ p.number

-- no body is for this upload
abbrev pub HasNoneOf : Table → UploadName → Type 0
HasNoneOf t name = (q : BodyPlace) (other : Body) → body_at t.slots q ≡ Some other → other.upload ≢ Some name

-- a body than which none holds more
pub record IsLargest (t : Table) (p : BodyPlace) (body : Body) : Type 0 where
  pub there : body_at t.slots p ≡ Some body
  pub largest : (q : BodyPlace) (other : Body) → body_at t.slots q ≡ Some other → other.held ≤ body.held

-- no body is in the table
abbrev pub HasNone : Table → Type 0
HasNone t = (q : BodyPlace) → body_at t.slots q ≡ None

-- the bytes that the body in a slot holds
abbrev pub held_in : Option Entry → ℕ
held_in None = 0
held_in (Some e) = e.body.held

-- the bytes that all bodies hold together
abbrev pub held_by_all : List (Option Entry) → ℕ
held_by_all slots = sum_by held_in slots
