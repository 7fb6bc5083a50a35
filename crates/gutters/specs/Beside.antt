-- The boxes of characters that stand beside a rectangle of white space.
use Rattle.std.specs.Prelude.{ℕ, ◌-◌, ◌*◌, ◌<◌, ◌≤◌, ◌&&◌, Bool, nat_lt, nat_le}
use Rattle.layout_geom.specs.declared.rect.Rect.{Rect}
use Rattle.components.specs.Kept.{IsCharSized, is_char_sized}
use Rattle.gutters.specs.declared.beside.Side.{Side}
use Rattle.gutters.specs.declared.beside.Side.TheVariants.{Left, Right}
use Rattle.gutters.specs.declared.beside.TheConstants.{MAX_GAP_IN_MEDIANS}

-- Some row of pixels goes through both.
pub record SharesRow (r s : Rect) : Type 0 where
  pub top : r.y0 < s.y1
  pub bottom : s.y0 < r.y1

-- The left one ends left of the right one, at most MAX_GAP_IN_MEDIANS times the median height away, with a row in common.
pub record EndsNear (left right : Rect) (median : ℕ) : Type 0 where
  pub apart : left.x1 ≤ right.x0
  pub near : right.x0 - left.x1 ≤ MAX_GAP_IN_MEDIANS * median
  pub row : SharesRow left right

-- The box has about the size of a character and ends left of the rectangle, at most MAX_GAP_IN_MEDIANS times the median
-- height away, with a row in common.
pub record StandsLeft (rect : Rect) (median : ℕ) (box : Rect) : Type 0 where
  pub sized : IsCharSized box median
  pub left : box.x1 ≤ rect.x0
  pub near : rect.x0 - box.x1 ≤ MAX_GAP_IN_MEDIANS * median
  pub row : SharesRow box rect

-- The same on the right: the box begins right of the rectangle.
pub record StandsRight (rect : Rect) (median : ℕ) (box : Rect) : Type 0 where
  pub sized : IsCharSized box median
  pub right : rect.x1 ≤ box.x0
  pub near : box.x0 - rect.x1 ≤ MAX_GAP_IN_MEDIANS * median
  pub row : SharesRow box rect

-- The facts above as tests, so that boxes can be counted by them.

abbrev pub shares_row : Rect → Rect → Bool
shares_row r s = nat_lt r.y0 s.y1 && nat_lt s.y0 r.y1

abbrev pub stands_left : Rect → ℕ → Rect → Bool
stands_left rect median box =
    is_char_sized box median
    && (nat_le box.x1 rect.x0 && nat_le (rect.x0 - box.x1) (MAX_GAP_IN_MEDIANS * median))
    && shares_row box rect

abbrev pub stands_right : Rect → ℕ → Rect → Bool
stands_right rect median box =
    is_char_sized box median
    && (nat_le rect.x1 box.x0 && nat_le (box.x0 - rect.x1) (MAX_GAP_IN_MEDIANS * median))
    && shares_row box rect

abbrev pub stands_beside : Side → Rect → ℕ → Rect → Bool
stands_beside Left rect median box = stands_left rect median box
stands_beside Right rect median box = stands_right rect median box
