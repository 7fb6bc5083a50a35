-- Cycles of a relation on the numbers below a limit.
use Rattle.std.specs.Prelude.{◌≡◌, ℕ, ◌<◌, ◌≤◌, List, [], ◌∷◌, Bool, true, false, length, slice_index, slice_index_or, nat_eq, All}
use Rattle.std.specs.List.{IsDistinct}
use Rattle.reading_order.specs.Lexical.{IsLexicallyAtMost}

-- From the first number over each of the list to the last one, each is before the next.
abbrev pub Leads : (ℕ → ℕ → Type 0) → ℕ → List ℕ → ℕ → Type 0
Leads before from [] to = before from to
Leads before from (x ∷ xs) to = before from x × Leads before x xs to

-- Each is before the next, and the last is before the first.
abbrev pub IsRing : (ℕ → ℕ → Type 0) → List ℕ → Type 0
IsRing before [] = ⊥
IsRing before (x ∷ xs) = Leads before x xs x

pub record IsCycle (before : ℕ → ℕ → Type 0) (limit : ℕ) (cycle : List ℕ) : Type 0 where
  pub ring : IsRing before cycle
  pub distinct : IsDistinct nat_eq cycle
  pub within : All (λ x. x < limit) cycle

-- Two cycles that start at one number.
abbrev pub StartAlike : List ℕ → List ℕ → Type 0
StartAlike xs ys = slice_index xs 0 ≡ slice_index ys 0

-- From the least number on any cycle, a shortest one from there, and the first of these in a dictionary.
pub record IsLeastCycle (before : ℕ → ℕ → Type 0) (limit : ℕ) (cycle : List ℕ) : Type 0 where
  pub is_cycle : IsCycle before limit cycle
  pub start : (other : List ℕ) → IsCycle before limit other → All (λ x. slice_index cycle 0 ≤ x) other
  pub shortest : (other : List ℕ) → IsCycle before limit other → StartAlike cycle other → length cycle ≤ length other
  pub least : (other : List ℕ) → IsCycle before limit other → StartAlike cycle other → length cycle ≡ length other
      → IsLexicallyAtMost cycle other

-- No cycle starts at a number.
abbrev pub StartsNoCycle : (ℕ → ℕ → Type 0) → ℕ → ℕ → Type 0
StartsNoCycle before limit x = (cycle : List ℕ) → IsCycle before limit cycle → slice_index cycle 0 ≡ x → ⊥

-- No cycle starts at a number that is flagged.
abbrev pub AreOnNone : (ℕ → ℕ → Type 0) → ℕ → List Bool → Type 0
AreOnNone before limit flags =
    (x : ℕ) → x < limit → slice_index_or flags x false ≡ true → StartsNoCycle before limit x
