-- What one more box adds to what the columns can weigh.
use Rattle.std.proofs.Common.{◌≡◌, ℕ, ◌+◌, ◌<◌, ◌≤◌, false, not, cond, eqb, ltb, List, length, get_or, take, Some, slice_get, arith, refl, ◌∙◌}
use Rattle.std.specs.List.{filter}
use Rattle.std.proofs.lemmas.List.Elements.{filter_more}
use Rattle.std.proofs.lemmas.List.Filters.{sum_by-filter_both}
use Rattle.std.proofs.lemmas.Bool.Decides.{nat_tests}
use Rattle.layout_geom.specs.declared.rect.Rect.{Rect}
use Rattle.box_search.specs.declared.space.Shape.{Shape}
use Rattle.line_quality.specs.Points.{middle_of}
use Rattle.line_quality.specs.SumLaws.{one_more}
use Rattle.line_search.specs.Bounds.{most_weight, sure_column, is_surely, most_together, most_in_column}

weightless : (a b w : ℕ) → w ≤ 0 → cond (eqb a b) w 0 ≡ 0
weightless a b w none = grind (arith, nat_tests)

pub weighs_nothing : (w : ℕ) → w ≤ 0 → ltb 0 w ≡ false
weighs_nothing w none = grind (arith, nat_tests)

module _ (shape : Shape) (boxes gutters : List Rect) (positions : List ℕ) (i : ℕ) (r : Rect) (within : i < length positions) (there : slice_get boxes (get_or positions i 0) ≡ Some r) where
  column_more : (other : ℕ) → most_in_column shape boxes gutters (take (i + 1) positions) other ≡ most_in_column shape boxes gutters (take i positions) other + cond (eqb (sure_column shape gutters (middle_of r)) other) (most_weight shape (Some r)) 0
  column_more other =
      rw (filter_more (λ (p : ℕ). is_surely shape gutters other (slice_get boxes p)) positions i 0 within)
      (one_more (λ (p : ℕ). most_weight shape (slice_get boxes p)) (filter (λ (p : ℕ). is_surely shape gutters other (slice_get boxes p)) (take i positions)) (is_surely shape gutters other (slice_get boxes (get_or positions i 0))) (get_or positions i 0)
      ∙ (rw there refl))

  -- a box that can weigh something
  pub column_grows : (in_column w : ℕ) → in_column ≡ sure_column shape gutters (middle_of r) → w ≡ most_weight shape (Some r) → (other : ℕ) → most_in_column shape boxes gutters (take (i + 1) positions) other ≡ most_in_column shape boxes gutters (take i positions) other + cond (eqb in_column other) w 0
  column_grows in_column w column_is reach_is other = rw (← column_is, ← reach_is) at (column_more other)

  -- and one that cannot
  pub column_stays : (w : ℕ) → w ≡ most_weight shape (Some r) → w ≤ 0 → (other : ℕ) → most_in_column shape boxes gutters (take (i + 1) positions) other ≡ most_in_column shape boxes gutters (take i positions) other
  column_stays w reach_is none other =
      omega (arith, column_more other, weightless (sure_column shape gutters (middle_of r)) other (most_weight shape (Some r)) (omega (arith, reach_is, none)))

-- the sum of a column is no more than that of all
pub column_below : (shape : Shape) (boxes gutters : List Rect) (positions : List ℕ) (in_column : ℕ) → most_in_column shape boxes gutters positions in_column ≤ most_together shape boxes positions
column_below shape boxes gutters positions in_column =
    omega (arith, sum_by-filter_both (λ (p : ℕ). is_surely shape gutters in_column (slice_get boxes p)) (λ (p : ℕ). not (is_surely shape gutters in_column (slice_get boxes p))) (λ _. refl) (λ (p : ℕ). most_weight shape (slice_get boxes p)) positions)
