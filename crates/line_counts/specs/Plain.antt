-- The most that the lines of a shape can score by the distance of each box alone, as Breuel (2002) bounds them: with no columns, and
-- nothing of the white between a baseline and its descenders.
use Rattle.std.specs.Prelude.{ℕ, ◌+◌, ℤ, pos, ◌+ℤ◌, ◌-ℤ◌, List, Option, Some, None, slice_get}
use Rattle.std.specs.Int.{int_gap, int_min, int_max}
use Rattle.std.specs.List.{sum_by}
use Rattle.layout_geom.specs.declared.rect.Rect.{Rect}
use Rattle.box_search.specs.declared.space.Shape.{Shape}
use Rattle.line_quality.specs.Points.{height_at, middle_of, weight_at}
use Rattle.line_quality.specs.Keys.{line_key}
use Rattle.line_counts.specs.Shapes.{least_depth}

-- no line of the shape is lower, or higher, at a column
abbrev pub lowest : Shape → ℕ → ℤ
lowest shape x = height_at shape.a0 shape.b0 x

abbrev pub highest : Shape → ℕ → ℤ
highest shape x = height_at (shape.a1 -ℤ pos 1) (shape.b1 -ℤ pos 1) x

-- how far the foot of a box is from the interval between two heights
abbrev pub gap_to : ℤ → ℤ → Rect → ℕ
gap_to low high r = int_gap (pos r.y1) low + int_gap high (pos r.y1)

-- how far it is from all between the highest baseline and the lowest line of descenders
abbrev pub plain_distance : Shape → Rect → ℕ
plain_distance shape r = gap_to (lowest shape (middle_of r)) (highest shape (middle_of r) +ℤ (shape.c1 -ℤ pos 1)) r

-- the most that a box can weigh by that distance
abbrev pub plain_weight : Shape → Option Rect → ℕ
plain_weight shape (Some r) = weight_at (plain_distance shape r)
plain_weight shape None = 0

-- the slope of the shape that is nearest to 0, which has the least rank
abbrev pub nearest_slope : Shape → ℤ
nearest_slope shape = int_max shape.a0 (int_min (shape.a1 -ℤ pos 1) (pos 0))

-- the key of a line that scores so much, at the first points of the shape
abbrev pub plain_key : List Rect → List ℕ → Shape → ℕ
plain_key boxes alive shape = line_key
    (sum_by (λ position. plain_weight shape (slice_get boxes position)) alive)
    (nearest_slope shape) shape.b0 (least_depth shape)
