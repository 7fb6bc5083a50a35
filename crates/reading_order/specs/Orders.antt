-- The orders of the numbers below a limit that obey a relation.
use Rattle.std.specs.Prelude.{ℕ, ◌<◌, List, length, slice_index}
use Rattle.std.specs.List.{range_with_len}
use Rattle.std.specs.List.Sorted.{IsPermutation}
use Rattle.reading_order.specs.Lexical.{IsLexicallyAtMost}

-- each number below the limit stands once, and behind all that are before it
pub record IsTopologicalOrder (before : ℕ → ℕ → Type 0) (limit : ℕ) (order : List ℕ) : Type 0 where
  pub whole : IsPermutation (range_with_len 0 limit) order
  pub obeys : (i j : ℕ) → i < length order → j < length order → before (slice_index order i) (slice_index order j) → i < j

-- the first of these orders in a dictionary
pub record IsLeastTopologicalOrder (before : ℕ → ℕ → Type 0) (limit : ℕ) (order : List ℕ) : Type 0 where
  pub is_order : IsTopologicalOrder before limit order
  pub least : (other : List ℕ) → IsTopologicalOrder before limit other → IsLexicallyAtMost order other
