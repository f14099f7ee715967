-- What passes between a client and what answers it.
use Rattle.std.specs.Prelude.{ℕ, List, ◌++◌}

-- this input comes in, this text goes out, and what answers is taken from one state to another
pub record Exchange (A : Type 0) : Type 0 where
  pub input : List ℕ
  pub text : List ℕ
  pub before : A
  pub after : A

module _ {A : Type 0} where
  -- the first part of an exchange, up to this text and this state
  abbrev pub first_part : Exchange A → List ℕ → A → Exchange A
  first_part x text b = record x { text = text; after = b }

  -- the part that follows, with the rest of the input
  abbrev pub last_part : Exchange A → List ℕ → A → List ℕ → Exchange A
  last_part x rest b text = record x { input = rest; text = text; before = b }

  -- the same with more input
  abbrev pub followed : Exchange A → List ℕ → Exchange A
  followed x rest = record x { input = x.input ++ rest }

  -- one exchange and another after it
  abbrev pub joined : Exchange A → Exchange A → Exchange A
  joined x y = record x { input = x.input ++ y.input; text = x.text ++ y.text; after = y.after }
