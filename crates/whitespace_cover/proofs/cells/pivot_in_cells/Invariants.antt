use Rattle.std.proofs.Common.{◌≡◌, ℕ, ◌<◌, ◌/◌}
use Rattle.layout_geom.specs.Rectangles.{HasPixel, IsClear}
use Rattle.whitespace_cover.specs.Index.{cell_of, list_at, IsFromMiddle}
use Rattle.whitespace_cover.proofs.cells.pivot_in_cells.Given as goal

abbrev pub invariant-loop-k : goal.invariant-loop-k
invariant-loop-k l = (j : ℕ) → j < l.k → (row : ℕ) → IsFromMiddle l.first l.count j row → (x y : ℕ) → HasPixel l.rect x y → y / 64 ≡ row → IsClear l.rect (list_at l.lists (cell_of l.across x y))
