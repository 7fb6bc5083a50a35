-- How far to the left the lines between two others reach.
use Rattle.std.specs.Prelude.{◌≡◌, ℕ, ◌<◌, ◌≤◌, List, length, slice_index, slice_index_or, ◌⊎◌, All}
use Rattle.layout_limits.specs.declared.TheConstants.{MAX_SIDE}
use Rattle.layout_geom.specs.declared.rect.Rect.{Rect}

-- Each number below a limit stands in the list, and the levels of these numbers rise.
pub record AreInOrder (limit : ℕ) (levels order : List ℕ) : Type 0 where
  pub low : All (λ c. c < limit) order
  pub all : (c : ℕ) → c < limit → (k : ℕ) × (k < length order) × (slice_index order k ≡ c)
  pub rises : (j k : ℕ) → j ≤ k → k < length order
      → slice_index levels (slice_index order j) ≤ slice_index levels (slice_index order k)

-- A line at a level between two, which ends right of an edge.
pub record IsLineBetween (lines : List Rect) (levels : List ℕ) (from edge level line : ℕ) : Type 0 where
  pub low : line < length lines
  pub behind : from < slice_index levels line
  pub ahead : slice_index levels line < level
  pub right : (d : Rect) → edge < (slice_index_or lines line d).x1

-- The left side of a line.
abbrev pub StartsAt : List Rect → ℕ → ℕ → Type 0
StartsAt lines line reach = (d : Rect) → (slice_index_or lines line d).x0 ≡ reach

-- The least left side of these lines, or where the widest page ends, if there is none.
pub record IsReach (lines : List Rect) (levels : List ℕ) (from edge level reach : ℕ) : Type 0 where
  pub bound : (line : ℕ) → IsLineBetween lines levels from edge level line → (d : Rect) → reach ≤ (slice_index_or lines line d).x0
  pub some : (reach ≡ MAX_SIDE) ⊎ ((line : ℕ) × IsLineBetween lines levels from edge level line × StartsAt lines line reach)

-- The reach of each line above a level. The others stay.
pub record AreReaches (lines : List Rect) (levels : List ℕ) (from edge : ℕ) (old new : List ℕ) : Type 0 where
  pub count : length new ≡ length old
  pub reached : (b : ℕ) → b < length lines → from < slice_index levels b
      → IsReach lines levels from edge (slice_index levels b) (slice_index new b)
  pub others : (b : ℕ) → slice_index levels b ≤ from → slice_index new b ≡ slice_index old b
