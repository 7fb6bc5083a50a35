-- Boxes of lines: a range of slopes, a range of offsets and a range of depths.
use Rattle.std.specs.Prelude.{◌≡◌, ℕ, ◌+◌, ◌≤◌, ℤ, pos, ◌+ℤ◌, ◌≤ℤ◌, ◌<ℤ◌, unsigned_abs}
use Rattle.layout_limits.specs.declared.TheConstants.{MAX_SIDE}
use Rattle.box_search.specs.declared.space.Shape.{Shape}
use Rattle.line_quality.specs.declared.limits.TheConstants.{LEAST_SLOPE, MAX_SLOPE, LEAST_OFFSET, OFFSET_MARGIN, MAX_DEPTH}
use Rattle.line_quality.specs.Points.{IsSlope, IsOffset, IsDepth}
use Rattle.line_quality.specs.Keys.{line_key}

-- the slope, the offset and the depth are in the shape's ranges
pub record IsInside (slope offset : ℤ) (depth : ℕ) (shape : Shape) : Type 0 where
  pub from_slope : shape.a0 ≤ℤ slope
  pub to_slope : slope <ℤ shape.a1
  pub from_offset : shape.b0 ≤ℤ offset
  pub to_offset : offset <ℤ shape.b1
  pub from_depth : shape.c0 ≤ℤ pos depth
  pub to_depth : pos depth <ℤ shape.c1

-- a key lies in a shape where its point does
pub record PointLiesIn (key : ℕ) (shape : Shape) : Type 0 where
  pub score : ℕ
  pub slope : ℤ
  pub offset : ℤ
  pub depth : ℕ
  pub slope_in : IsSlope slope
  pub offset_in : IsOffset offset
  pub depth_in : IsDepth depth
  pub has_key : line_key score slope offset depth ≡ key
  pub inside : IsInside slope offset depth shape

-- a shape with points, each of the grid of a page of this height and this greatest depth
pub record IsInGrid (height deep : ℕ) (shape : Shape) : Type 0 where
  pub page : height ≤ MAX_SIDE
  pub depths : deep ≤ MAX_DEPTH
  pub from_slope : LEAST_SLOPE ≤ℤ shape.a0
  pub some_slope : shape.a0 <ℤ shape.a1
  pub to_slope : shape.a1 ≤ℤ (MAX_SLOPE +ℤ pos 1)
  pub from_offset : LEAST_OFFSET ≤ℤ shape.b0
  pub some_offset : shape.b0 <ℤ shape.b1
  pub to_offset : shape.b1 ≤ℤ pos (height + OFFSET_MARGIN + 1)
  pub from_depth : pos 0 ≤ℤ shape.c0
  pub some_depth : shape.c0 <ℤ shape.c1
  pub to_depth : shape.c1 ≤ℤ pos (deep + 1)

abbrev pub whole_grid : ℕ → ℕ → Shape
whole_grid height deep = record {
  a0 = LEAST_SLOPE;
  a1 = MAX_SLOPE +ℤ pos 1;
  b0 = LEAST_OFFSET;
  b1 = pos (height + OFFSET_MARGIN + 1);
  c0 = pos 0;
  c1 = pos (deep + 1);
}

-- the shape has one point
abbrev pub IsSingle : Shape → Type 0
IsSingle shape = (shape.a1 ≡ shape.a0 +ℤ pos 1) × (shape.b1 ≡ shape.b0 +ℤ pos 1) × (shape.c1 ≡ shape.c0 +ℤ pos 1)

-- the least depth of a shape of the grid
abbrev pub least_depth : Shape → ℕ
least_depth shape = unsigned_abs shape.c0
