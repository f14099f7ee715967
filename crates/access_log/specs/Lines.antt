-- Lines of a log that wait to be written, each of which ends with LF.
use Rattle.std.specs.Prelude.{◌≡◌, ◌<◌, ◌≤◌, ◌⊎◌, ◌++◌, ℕ, List, [], ◌∷◌, drop, filter, length, nat_eq, take}

-- how many lines end in a text
abbrev pub line_count : List ℕ → ℕ
line_count text = length (filter (λ byte. nat_eq byte 10) text)

-- a text ends with LF, or is empty
abbrev pub IsWhole : List ℕ → Type 0
IsWhole text = (text ≡ []) ⊎ ((front : List ℕ) × (text ≡ front ++ 10 ∷ []))

-- Of some lines the first ones, whole, and as many as have so many bytes together at most.
pub record FirstLines (most : ℕ) (lines put : List ℕ) : Type 0 where
  pub fits : length put ≤ most
  pub first : put ≡ take (length put) lines
  pub whole : IsWhole put
  pub no_more : line_count (drop (length put) (take most lines)) ≡ 0

-- So many bytes of some lines were put: the first lines for which there is room, or none where these need more memory than is
-- spare.
abbrev pub HasPut : ℕ → ℕ → List ℕ → ℕ → Type 0
HasPut room spare lines put = FirstLines room lines (take put lines) ⊎ ((put ≡ 0) × (spare < length lines))

-- so many lines are lost: those that stand behind some first whole lines
abbrev pub LosesLast : List ℕ → ℕ → Type 0
LosesLast lines lost = (put : ℕ) × (put ≤ length lines) × IsWhole (take put lines) × (lost ≡ line_count (drop put lines))
