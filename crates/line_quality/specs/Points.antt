-- Lines of the grid, each a slope in thousandths, an offset and a depth: its descenders reach so many rows below it.
use Rattle.std.specs.Prelude.{ℕ, ◌+◌, ◌-◌, ◌*◌, ◌/◌, ◌≤◌, min, ℤ, pos, ◌+ℤ◌, ◌-ℤ◌, ◌*ℤ◌, ◌≤ℤ◌, ◌<ℤ◌}
use Rattle.std.specs.Prelude.{Bool, ◌&&◌, int_lt, int_le, nat_le, unsigned_abs, List}
use Rattle.std.specs.List.{count_by}
use Rattle.std.specs.Int.{int_div_euclid}
use Rattle.layout_geom.specs.declared.Rect.{Rect}
use Rattle.line_quality.specs.declared.limits.TheConstants.{LEAST_SLOPE, MAX_SLOPE, LEAST_OFFSET, MAX_OFFSET, MAX_DEPTH, MAX_WEIGHT}

-- the slopes, the offsets and the depths of the grids of all pages
pub record IsSlope (slope : ℤ) : Type 0 where
  pub low : LEAST_SLOPE ≤ℤ slope
  pub high : slope ≤ℤ MAX_SLOPE

pub record IsOffset (offset : ℤ) : Type 0 where
  pub low : LEAST_OFFSET ≤ℤ offset
  pub high : offset ≤ℤ MAX_OFFSET

abbrev pub IsDepth : ℕ → Type 0
IsDepth depth = depth ≤ MAX_DEPTH

-- how far a line of this slope has risen at column x, rounded towards the lesser number
abbrev pub rise : ℤ → ℕ → ℤ
rise slope x = int_div_euclid (slope *ℤ pos x) (pos 1000)

-- the height of a line at column x
abbrev pub height_at : ℤ → ℤ → ℕ → ℤ
height_at slope offset x = offset +ℤ rise slope x

-- the greatest whole number that is no greater than the offset and slope * x / 1000
pub record IsRounded (slope offset : ℤ) (x : ℕ) (height : ℤ) : Type 0 where
  pub no_greater : ((height -ℤ offset) *ℤ pos 1000) ≤ℤ (slope *ℤ pos x)
  pub greatest : (slope *ℤ pos x) <ℤ ((height -ℤ offset) *ℤ pos 1000 +ℤ pos 1000)

-- the middle column of a rectangle
abbrev pub middle_of : Rect → ℕ
middle_of r = (r.x0 + r.x1) / 2

-- how far the foot of a box is from a height
abbrev pub foot_gap : ℤ → Rect → ℕ
foot_gap height r = unsigned_abs (height -ℤ pos r.y1)

-- how far the foot of a box is from the line, or from the line of its descenders where that is nearer
abbrev pub deviation : ℤ → ℤ → ℕ → Rect → ℕ
deviation slope offset depth r = min
    (foot_gap (height_at slope offset (middle_of r)) r)
    (foot_gap (height_at slope offset (middle_of r) +ℤ pos depth) r)

-- what a foot weighs that is this far from a line
abbrev pub weight_at : ℕ → ℕ
weight_at deviation = MAX_WEIGHT - deviation * deviation

abbrev pub weight : ℤ → ℤ → ℕ → Rect → ℕ
weight slope offset depth r = weight_at (deviation slope offset depth r)

-- at the gutter's middle the line passes below its top edge and not below its foot
pub record Crosses (slope offset : ℤ) (gutter : Rect) : Type 0 where
  pub below_top : pos gutter.y0 <ℤ height_at slope offset (middle_of gutter)
  pub above_foot : height_at slope offset (middle_of gutter) ≤ℤ pos gutter.y1

-- the test of Crosses
abbrev pub is_crossed : ℤ → ℤ → Rect → Bool
is_crossed slope offset gutter =
    int_lt (pos gutter.y0) (height_at slope offset (middle_of gutter)) && int_le (height_at slope offset (middle_of gutter)) (pos gutter.y1)

-- how many crossed gutters have their middle at the anchor or left of it
abbrev pub column_of : ℤ → ℤ → List Rect → ℕ → ℕ
column_of slope offset gutters anchor = count_by (λ gutter. is_crossed slope offset gutter && nat_le (middle_of gutter) anchor) gutters
