-- The moments that a clock tells. A clock is given by what it may tell in each of its states, and in which it is then.
use Rattle.std.specs.Prelude.{◌≡◌, ◌≤◌, ℕ, List, [], ◌∷◌, length}
use Rattle.http_wire.specs.declared.conversation.Ended.{Ended}
use Rattle.http_wire.specs.declared.conversation.Ended.TheVariants.{Moments}

module _ {C : Type 0} (tells : C → ℕ → C → Type 0) where
  -- The clock was asked once, and this holds at the moment that it told; or something failed before it was asked, which left
  -- it as it was, and this holds at every moment.
  pub data IsTimed (before after : C) (failed : Type 0) (holds : ℕ → Type 0) : Type 0 where
    asked : (now : ℕ) → tells before now after → holds now → IsTimed before after failed holds
    unasked : failed → after ≡ before → ((now : ℕ) → holds now) → IsTimed before after failed holds

  -- the clock was asked once for each of these moments, and told them in this order
  abbrev pub Tells : C → List ℕ → C → Type 0
  Tells before [] after = after ≡ before
  Tells before (now ∷ moments) after = (middle : C) × tells before now middle × Tells middle moments after

  -- The moments of a conversation that ended so: the clock told them, and there are no more than these many, and as many where
  -- that is how it ended.
  pub record AreTold (before after : C) (most : ℕ) (e : Ended) (moments : List ℕ) : Type 0 where
    pub told : Tells before moments after
    pub few : length moments ≤ most
    pub all : e ≡ Moments → length moments ≡ most
