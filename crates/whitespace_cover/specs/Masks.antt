-- Which of the last obstacles of a list may overlap a rectangle, by the bits of a number.
use Rattle.std.specs.Prelude.{◌≡◌, ℕ, ◌-◌, ◌<◌, List, length, slice_index_or}
use Rattle.std.specs.Int.{bit_at}
use Rattle.layout_geom.specs.declared.rect.Rect.{Rect}
use Rattle.layout_geom.specs.Rectangles.{Overlaps}
use Rattle.whitespace_cover.specs.declared.pivot.TheConstants.{MASKED}

-- the k-th obstacle from the end, counted from 0
abbrev pub from_end : List Rect → ℕ → Rect → Rect
from_end obstacles k d = slice_index_or obstacles (length obstacles - 1 - k) d

-- where a bit is clear, the rectangle does not overlap the obstacle of the bit
abbrev pub IsMask : List Rect → Rect → ℕ → Type 0
IsMask obstacles r mask = (k : ℕ) (d : Rect) → k < MASKED → k < length obstacles → bit_at mask k ≡ 0
    → Overlaps r (from_end obstacles k d) → ⊥

-- the rectangle overlaps none of the last obstacles
abbrev pub IsClearOfLast : ℕ → Rect → List Rect → Type 0
IsClearOfLast reach r obstacles = (k : ℕ) (d : Rect) → k < reach → Overlaps r (from_end obstacles k d) → ⊥
