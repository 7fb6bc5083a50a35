-- The score of a line among the boxes that are alive.
use Rattle.std.specs.Prelude.{◌≡◌, ℕ, ◌<◌, ◌≤◌, ℤ, Bool, false, ◌&&◌, ◌==◌, nat_lt, List, Option, Some, None, slice_get}
use Rattle.std.specs.List.{filter, sum_by}
use Rattle.layout_geom.specs.declared.Rect.{Rect}
use Rattle.line_quality.specs.Points.{weight, column_of, middle_of}

-- the greatest of what columns have in total, and the least column that has it
pub record IsGreatest (total : ℕ → ℕ) (score in_column : ℕ) : Type 0 where
  pub reached : total in_column ≡ score
  pub greatest : (other : ℕ) → total other ≤ score
  pub least : (other : ℕ) → other < in_column → total other < score

module _ (slope offset : ℤ) (depth : ℕ) where
  abbrev pub weight_of : Option Rect → ℕ
  weight_of (Some r) = weight slope offset depth r
  weight_of None = 0

  -- the box is in the column and weighs something
  abbrev pub is_of : List Rect → ℕ → Option Rect → Bool
  is_of gutters in_column (Some r) = (column_of slope offset gutters (middle_of r) == in_column) && nat_lt 0 (weight slope offset depth r)
  is_of gutters in_column None = false

  module _ (boxes gutters : List Rect) where
    -- the group of a column: the positions of its boxes that weigh something
    abbrev pub group_of : ℕ → List ℕ → List ℕ
    group_of in_column alive = filter (λ position. is_of gutters in_column (slice_get boxes position)) alive

    abbrev pub group_weight : ℕ → List ℕ → ℕ
    group_weight in_column alive = sum_by (λ position. weight_of (slice_get boxes position)) (group_of in_column alive)

    -- the greatest weight of a group, and the least column that has it
    abbrev pub IsScore : List ℕ → ℕ → ℕ → Type 0
    IsScore alive score in_column = IsGreatest (λ column. group_weight column alive) score in_column
