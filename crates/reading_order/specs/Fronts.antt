-- The numbers that are taken one by one, each the least one that is free.
use Rattle.std.specs.Prelude.{◌≡◌, ℕ, ◌<◌, List, ◌++◌, true, false, length, take, slice_index, nat_eq, ◌⊎◌}
use Rattle.std.specs.List.{range_with_len, list_any}
use Rattle.std.specs.List.Sorted.{IsPermutation}
use Rattle.reading_order.specs.Lexical.{IsLexicallyAtMost}
use Rattle.reading_order.specs.Orders.{IsTopologicalOrder}

-- a number that was not taken is before this one
pub record IsBlocked (before : ℕ → ℕ → Type 0) (limit : ℕ) (taken : List ℕ) (x : ℕ) : Type 0 where
  pub earlier : ℕ
  pub low : earlier < limit
  pub is_before : before earlier x
  pub out : list_any (nat_eq earlier) taken ≡ false

-- taken already, or not to be taken yet
abbrev pub IsTakenOrBlocked : (ℕ → ℕ → Type 0) → ℕ → List ℕ → ℕ → Type 0
IsTakenOrBlocked before limit taken x = (list_any (nat_eq x) taken ≡ true) ⊎ IsBlocked before limit taken x

-- the numbers taken, and those that are left
pub record IsFront (before : ℕ → ℕ → Type 0) (limit : ℕ) (taken left : List ℕ) : Type 0 where
  pub whole : IsPermutation (range_with_len 0 limit) (taken ++ left)
  pub settled : (a j : ℕ) → a < limit → j < length taken → before a (slice_index taken j)
      → list_any (nat_eq a) (take j taken) ≡ true
  pub least : (other : List ℕ) → IsTopologicalOrder before limit other → IsLexicallyAtMost taken other

-- each was the least free number when it was taken, and now none is free
pub record IsGreedy (before : ℕ → ℕ → Type 0) (limit : ℕ) (taken : List ℕ) : Type 0 where
  pub left : List ℕ
  pub front : IsFront before limit taken left
  pub stuck : (x : ℕ) → x < limit → IsTakenOrBlocked before limit taken x
