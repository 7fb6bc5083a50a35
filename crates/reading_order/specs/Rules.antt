-- The two rules by which one line of text is read before another (Breuel 2003).
use Rattle.std.specs.Prelude.{ℕ, ◌+◌, ◌<◌, ◌≤◌, List, All, slice_index_or, ◌⊎◌}
use Rattle.layout_geom.specs.declared.rect.Rect.{Rect}

-- Twice the middle row of a line. Twice, so that it is a whole number.
abbrev pub twice_middle_of : Rect → ℕ
twice_middle_of r = r.y0 + r.y1

abbrev pub IsAbove : Rect → Rect → Type 0
IsAbove r s = twice_middle_of r < twice_middle_of s

-- The x-ranges of two lines overlap: they have a column of pixels in common.
pub record OverlapsInX (r s : Rect) : Type 0 where
  pub left : r.x0 < s.x1
  pub right : s.x0 < r.x1

-- A line whose middle lies strictly between those of two others, and whose x-range overlaps both.
pub record Parts (line first second : Rect) : Type 0 where
  pub between : (IsAbove first line × IsAbove line second) ⊎ (IsAbove second line × IsAbove line first)
  pub with_first : OverlapsInX line first
  pub with_second : OverlapsInX line second

-- The above rule: of two lines that overlap in x, the one above is read first.
pub record AboveRule (first second : Rect) : Type 0 where
  pub overlap : OverlapsInX first second
  pub above : IsAbove first second

-- No line of the page parts the two.
abbrev pub IsBesideFree : List Rect → Rect → Rect → Type 0
IsBesideFree lines first second = All (λ line. Parts line first second → ⊥) lines

-- The beside rule: of two lines side by side, the left one is read first, except where a line parts them.
pub record BesideRule (lines : List Rect) (first second : Rect) : Type 0 where
  pub left : first.x1 ≤ second.x0
  pub free : IsBesideFree lines first second

-- One rectangle is read before another among the lines of a page.
abbrev pub Precedes : List Rect → Rect → Rect → Type 0
Precedes lines first second = AboveRule first second ⊎ BesideRule lines first second

-- Line a is read before line b, both named by their numbers, which are their positions in the list.
abbrev pub IsBefore : List Rect → ℕ → ℕ → Type 0
IsBefore lines a b = (d : Rect) → Precedes lines (slice_index_or lines a d) (slice_index_or lines b d)
