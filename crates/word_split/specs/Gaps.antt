-- The gaps of a line: the white columns between its boxes.
use Rattle.std.specs.Prelude.{◌≡◌, ℕ, ◌+◌, ◌-◌, ◌<◌, max, List, [], ◌∷◌, length, take, slice_index, slice_index_or}
use Rattle.layout_geom.specs.declared.rect.Rect.{Rect}

-- the greatest right side of the boxes, and 0 where there is none
abbrev pub right_of : List Rect → ℕ
right_of [] = 0
right_of (r ∷ rs) = max r.x1 (right_of rs)

-- a gap for each box but the first: how far the box begins right of all boxes before it, and 0 where it does not
pub record AreGapsOf (line : List Rect) (gaps : List ℕ) : Type 0 where
  pub count : length gaps + 1 ≡ length line
  pub each : (i : ℕ) (d : Rect) → i < length gaps → slice_index gaps i ≡ (slice_index_or line (i + 1) d).x0 - right_of (take (i + 1) line)
