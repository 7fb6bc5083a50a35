-- The levels of lines from one end of the page to the other.
use Rattle.std.specs.Prelude.{◌≡◌, ℕ, ◌-◌, ◌*◌, ◌<◌, ◌≤◌, List, length, map, slice_index, slice_index_or, ◌⊎◌}
use Rattle.layout_limits.specs.declared.TheConstants.{MAX_SIDE}
use Rattle.layout_geom.specs.declared.rect.Rect.{Rect}
use Rattle.reading_order.specs.declared.sweep.Sweep.{Sweep}
use Rattle.reading_order.specs.Rules.{twice_middle_of, AboveRule}
use Rattle.reading_order.specs.Reach.{AreInOrder, IsReach}

-- Twice the rows from the middle row down to the end of the tallest page.
abbrev pub level_from_below : Rect → ℕ
level_from_below r = 2 * MAX_SIDE - twice_middle_of r

-- The levels of the lines, and their numbers in the order of the levels.
pub record IsSweep (level_of : Rect → ℕ) (lines : List Rect) (sweep : Sweep) : Type 0 where
  pub levels : sweep.levels.items ≡ map level_of lines
  pub order : AreInOrder (length lines) sweep.levels.items sweep.order.items

-- The lines that part an earlier line from a later one reach this far to the left.
abbrev pub IsReachFor : List Rect → (Rect → ℕ) → Rect → Rect → ℕ → Type 0
IsReachFor lines level_of later earlier reach =
    IsReach lines (map level_of lines) (level_of later) later.x0 (level_of earlier) reach

-- The first line is read before the second, where the lines between reach this far to the left.
abbrev pub PrecedesBy : Rect → Rect → ℕ → Type 0
PrecedesBy first second reach =
    AboveRule first second
    ⊎ ((first.x1 ≤ second.x0) × ((twice_middle_of first ≡ twice_middle_of second) ⊎ (first.x1 ≤ reach)))

-- How far the lines between a later line and another one reach, where the other one has the higher level.
abbrev pub IsReachAbove : List Rect → (Rect → ℕ) → Rect → Rect → ℕ → Type 0
IsReachAbove lines level_of later other reach = level_of later < level_of other → IsReachFor lines level_of later other reach

-- How far the lines between a later line and each other one reach, in the one direction or the other.
abbrev pub AreRowReaches : List Rect → ℕ → List ℕ → Type 0
AreRowReaches lines later reaches = (b : ℕ) (d : Rect) → b < length lines →
    IsReachAbove lines twice_middle_of (slice_index_or lines later d) (slice_index_or lines b d) (slice_index reaches b)
    × IsReachAbove lines level_from_below (slice_index_or lines later d) (slice_index_or lines b d) (slice_index reaches b)
