-- The line of a slope on which a box stands exactly, and how many living boxes stand on the same between the same gutters.
use Rattle.std.specs.Prelude.{ℕ, ◌+◌, ◌-◌, min, ℤ, pos, ◌+ℤ◌, ◌-ℤ◌, unsigned_abs, Bool, false, ◌&&◌, ◌==◌, nat_le, cond, List}
use Rattle.std.specs.Prelude.{Option, Some, None, slice_get}
use Rattle.std.specs.List.{count_by, sum_by}
use Rattle.layout_geom.specs.declared.rect.Rect.{Rect}
use Rattle.line_quality.specs.declared.limits.TheConstants.{LEAST_SLOPE, OFFSET_MARGIN}
use Rattle.line_quality.specs.Points.{rise, middle_of, weight_at, is_crossed}
use Rattle.line_quality.specs.Scores.{weight_of}
use Rattle.line_counts.specs.declared.limits.TheConstants.{REACH, PLACES_ABOVE}

-- the slopes of the grid, numbered from 0
abbrev pub slope_of : ℕ → ℤ
slope_of number = pos number +ℤ LEAST_SLOPE

-- the offset of the line of this slope on which the foot of the box stands exactly
abbrev pub fit_of : ℤ → Rect → ℤ
fit_of slope r = pos r.y1 -ℤ rise slope (middle_of r)

-- the same, counted from so far above the page that no fit comes before
abbrev pub place_of : ℤ → Rect → ℕ
place_of slope r = unsigned_abs (fit_of slope r +ℤ pos PLACES_ABOVE)

-- the segment of an anchor: how many gutters have their middle at the anchor or left of it
abbrev pub segment_of : List Rect → ℕ → ℕ
segment_of gutters anchor = count_by (λ gutter. nat_le (middle_of gutter) anchor) gutters

-- the box of a position is in the segment, and its place
abbrev pub is_in : List Rect → ℕ → Option Rect → Bool
is_in gutters segment (Some r) = segment_of gutters (middle_of r) == segment
is_in gutters segment None = false

abbrev pub place_in : ℤ → Option Rect → ℕ
place_in slope (Some r) = place_of slope r
place_in slope None = 0

-- how many of the positions have a box of the segment with that fit at the slope
abbrev pub count_of : List Rect → List Rect → ℤ → ℕ → ℕ → List ℕ → ℕ
count_of boxes gutters slope segment place positions = count_by
    (λ position. is_in gutters segment (slice_get boxes position) && (place_in slope (slice_get boxes position) == place)) positions

-- what the boxes of one segment weigh together for a line
abbrev pub segment_weight : List Rect → List Rect → ℤ → ℤ → ℕ → ℕ → List ℕ → ℕ
segment_weight boxes gutters slope offset depth segment positions = sum_by
    (λ position. cond (is_in gutters segment (slice_get boxes position))
    (weight_of slope offset depth (slice_get boxes position)) 0) positions

-- the first place that weighs something for a line of this offset
abbrev pub first_place : ℤ → ℕ
first_place offset = unsigned_abs (offset +ℤ pos OFFSET_MARGIN)

-- how far two places are from one another
abbrev pub apart : ℕ → ℕ → ℕ
apart a b = (a - b) + (b - a)

-- what a box weighs whose place is so many places behind the first that does
abbrev pub weight_behind : ℕ → ℕ → ℕ
weight_behind depth behind = weight_at (min (apart REACH behind) (apart (REACH + depth) behind))

-- the column of a segment: how many crossed gutters have their middle in it or left of it
abbrev pub column_of_segment : ℤ → ℤ → List Rect → ℕ → ℕ
column_of_segment slope offset gutters segment = count_by
    (λ gutter. is_crossed slope offset gutter && nat_le (segment_of gutters (middle_of gutter)) segment) gutters
