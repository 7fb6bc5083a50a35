-- What the lines of a shape can score at most.
use Rattle.std.specs.Prelude.{take, drop, ◌-◌, ◌≡◌, ℕ, ◌≤◌, min, ℤ, pos, ◌+ℤ◌, ◌-ℤ◌, List, length, Option, Some, None}
use Rattle.std.specs.Prelude.{slice_get, Bool, false, ◌&&◌, ◌==◌, int_lt, int_le, nat_le, nat_lt}
use Rattle.std.specs.List.{sum_by, count_by, filter}
use Rattle.layout_geom.specs.declared.rect.Rect.{Rect}
use Rattle.box_search.specs.declared.space.Shape.{Shape}
use Rattle.box_search.specs.declared.space.Node.{Node}
use Rattle.box_search.specs.Problems.{OfProblem}
use Rattle.line_quality.specs.Points.{middle_of, weight_at}
use Rattle.line_quality.specs.Scores.{IsGreatest}
use Rattle.line_quality.specs.Keys.{line_key}
use Rattle.line_search.specs.declared.span.Span.{Span}
use Rattle.line_search.specs.Problem.{GridProblem, grid_numbers, HasScore}
use Rattle.line_search.specs.Lines.{deepest}
use Rattle.line_counts.specs.Shapes.{IsInside, IsInGrid, IsSingle, least_depth}
use Rattle.line_counts.specs.Plain.{lowest, highest, gap_to, plain_key}

-- how far the foot of a box is from where the baselines of the shape pass, or from where the lines of their descenders do, if that is
-- nearer
abbrev pub distance : Shape → Rect → ℕ
distance shape r = min
    (gap_to (lowest shape (middle_of r)) (highest shape (middle_of r)) r)
    (gap_to (lowest shape (middle_of r) +ℤ shape.c0) (highest shape (middle_of r) +ℤ (shape.c1 -ℤ pos 1)) r)

-- the most that a box can weigh for a line of the shape
abbrev pub most_weight : Shape → Option Rect → ℕ
most_weight shape (Some r) = weight_at (distance shape r)
most_weight shape None = 0

-- all lines of the shape cross the gutter
abbrev pub all_cross : Shape → Rect → Bool
all_cross shape gutter = int_lt (pos gutter.y0) (lowest shape (middle_of gutter))
    && int_le (highest shape (middle_of gutter)) (pos gutter.y1)

-- how many gutters that all lines cross have their middle at the anchor or left of it
abbrev pub sure_column : Shape → List Rect → ℕ → ℕ
sure_column shape gutters anchor = count_by (λ gutter. all_cross shape gutter && nat_le (middle_of gutter) anchor) gutters

abbrev pub is_surely : Shape → List Rect → ℕ → Option Rect → Bool
is_surely shape gutters in_column (Some r) = sure_column shape gutters (middle_of r) == in_column
is_surely shape gutters in_column None = false

module _ (shape : Shape) (boxes : List Rect) where
  -- those of the positions whose box can weigh something for a line of the shape
  abbrev pub weighing : List ℕ → List ℕ
  weighing positions = filter (λ position. nat_lt 0 (most_weight shape (slice_get boxes position))) positions

  -- the most that the boxes at the positions can weigh together
  abbrev pub most_together : List ℕ → ℕ
  most_together positions = sum_by (λ position. most_weight shape (slice_get boxes position)) positions

  -- the most that those of one sure column can weigh together
  abbrev pub most_in_column : List Rect → List ℕ → ℕ → ℕ
  most_in_column gutters positions in_column = most_together
      (filter (λ position. is_surely shape gutters in_column (slice_get boxes position)) positions)

-- the greatest of the sums of the columns, and the least column that has it
abbrev pub HasMost : Shape → List Rect → List Rect → List ℕ → ℕ → ℕ → Type 0
HasMost shape boxes gutters positions most in_column = IsGreatest (most_in_column shape boxes gutters positions) most in_column

-- no scored point of the shape has a greater key
abbrev pub IsOver : GridProblem → Shape → ℕ → Type 0
IsOver problem shape bound = (slope offset : ℤ) (depth score : ℕ) → HasScore problem slope offset depth score → IsInside slope offset depth shape
    → line_key score slope offset depth ≤ bound

-- a bound of all points in the shape: the key itself where there is one point, and else at most the plain bound
pub record IsBound (problem : GridProblem) (shape : Shape) (bound : ℕ) : Type 0 where
  pub over : IsOver problem shape bound
  pub single : IsSingle shape → (score : ℕ) × HasScore problem shape.a0 shape.b0 (least_depth shape) score × (line_key score shape.a0 shape.b0 (least_depth shape) ≡ bound)
  pub wide : (IsSingle shape → ⊥) → bound ≤ plain_key problem.boxes problem.alive shape

-- a stretch of a list
abbrev pub stretch_of : {X : Type 0} → Span → List X → List X
stretch_of span xs = take (span.to - span.from) (drop span.from xs)

-- the stretch of the positions that are alive has all whose box can weigh something for a line of the shape
pub record HasWeighing (problem : GridProblem) (shape : Shape) (span : Span) : Type 0 where
  pub ordered : span.from ≤ span.to
  pub inside : span.to ≤ length problem.alive
  pub same : weighing shape problem.boxes (stretch_of span problem.alive) ≡ weighing shape problem.boxes problem.alive

-- the node's shape is of the grid, its bound is one, and its stretch has the positions that count
pub record IsGridNode (node : Node Span) (problem : GridProblem) : Type 0 where
  pub in_grid : IsInGrid problem.height (deepest problem.median) node.shape
  pub bounded : IsBound problem node.shape node.bound
  pub near : HasWeighing problem node.shape node.work

abbrev pub FitsGrid : List ℤ → Node Span → Type 0
FitsGrid numbers node = OfProblem grid_numbers (IsGridNode node) numbers
