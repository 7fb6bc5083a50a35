-- Gutters: the white rectangles that part columns of text.
use Rattle.std.specs.Prelude.{ℕ, ◌*◌, ◌≤◌, ◌&&◌, Bool, List, nat_le, count_by, filter}
use Rattle.layout_geom.specs.declared.rect.Rect.{Rect}
use Rattle.layout_geom.specs.Rectangles.{width_of, height_of}
use Rattle.components.specs.declared.kept.Kept.{Kept}
use Rattle.gutters.specs.declared.filter.TheConstants.{LEAST_BOXES, LEAST_RATIO}
use Rattle.gutters.specs.declared.beside.Side.{Side}
use Rattle.gutters.specs.Beside.{stands_beside, stands_left, stands_right}

-- How many of the kept boxes stand on the left of a rectangle. Equal boxes count as often as they stand in the list.
abbrev pub left_count : Kept → Rect → ℕ
left_count kept rect = count_by (stands_left rect kept.median) kept.boxes

-- How many stand on its right.
abbrev pub right_count : Kept → Rect → ℕ
right_count kept rect = count_by (stands_right rect kept.median) kept.boxes

-- How many stand on this side of it.
abbrev pub beside_count : Side → Kept → Rect → ℕ
beside_count side kept rect = count_by (stands_beside side rect kept.median) kept.boxes

-- The rectangle is at least LEAST_RATIO times as high as wide, and at least LEAST_BOXES boxes stand on either side.
pub record IsGutter (kept : Kept) (rect : Rect) : Type 0 where
  pub slim : LEAST_RATIO * width_of rect ≤ height_of rect
  pub left : LEAST_BOXES ≤ left_count kept rect
  pub right : LEAST_BOXES ≤ right_count kept rect

-- The same as a test.
abbrev pub is_gutter : Kept → Rect → Bool
is_gutter kept rect =
    nat_le (LEAST_RATIO * width_of rect) (height_of rect)
    && nat_le LEAST_BOXES (left_count kept rect)
    && nat_le LEAST_BOXES (right_count kept rect)

-- The gutters among white rectangles, in the order of these.
abbrev pub gutters_of : Kept → List Rect → List Rect
gutters_of kept whites = filter (is_gutter kept) whites
