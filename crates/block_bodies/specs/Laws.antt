-- Laws above the bodies: a list of blocks is held, or given back, as its two parts are, one after the other.
use Rattle.std.specs.Prelude.{ℕ, ◌+◌, List, ◌++◌}
use Rattle.block_pool.specs.Blocks.{Blocks}
use Rattle.block_bodies.specs.Bodies.{IsHeld}
use Rattle.block_bodies.specs.Changes.{MayHold, Holds, GivesBack}

-- a list that may be held may be held in two parts
abbrev pub MayHoldInParts : Type 0
MayHoldInParts =
    (p q : Blocks) (xs ys : List ℕ) → MayHold p (xs ++ ys) → MayHold p xs × (Holds p xs q → MayHold q ys)

-- two parts that are held one after the other are held as one list
abbrev pub HoldsInParts : Type 0
HoldsInParts =
    (p q r : Blocks) (xs ys : List ℕ) → Holds p xs q → Holds q ys r → Holds p (xs ++ ys) r

-- a list that is held may be given back in two parts
abbrev pub IsHeldInParts : Type 0
IsHeldInParts =
    (p q : Blocks) (xs ys : List ℕ) (freed : ℕ) → IsHeld p (xs ++ ys)
    → IsHeld p xs × (GivesBack p xs freed q → IsHeld q ys)

-- two parts that are given back one after the other are given back as one list, and free as many blocks
abbrev pub GivesBackInParts : Type 0
GivesBackInParts =
    (p q r : Blocks) (xs ys : List ℕ) (m n : ℕ) → GivesBack p xs m q → GivesBack q ys n r
    → GivesBack p (xs ++ ys) (m + n) r
