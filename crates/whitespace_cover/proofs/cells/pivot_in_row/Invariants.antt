use Rattle.std.proofs.Common.{ℕ, ◌<◌, ◌+◌, ◌*◌}
use Rattle.layout_geom.specs.Rectangles.{IsClear}
use Rattle.whitespace_cover.specs.Index.{list_at, IsFromMiddle}
use Rattle.whitespace_cover.proofs.cells.pivot_in_row.Given as goal

abbrev pub invariant-loop-k : goal.invariant-loop-k
invariant-loop-k l = (j : ℕ) → j < l.k → (column : ℕ) → IsFromMiddle l.first l.count j column → IsClear l.rect (list_at l.lists (l.row * l.across + column))
