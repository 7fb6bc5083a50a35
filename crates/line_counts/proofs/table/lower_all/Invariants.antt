use Rattle.std.proofs.Common.{ℕ, List, ◌++◌, drop}
use Rattle.line_counts.specs.Table.{AreCounts}
use Rattle.line_counts.proofs.table.lower_all.Given as goal

abbrev pub invariant-loop-member : goal.invariant-loop-member
invariant-loop-member l = (others : List ℕ) → AreCounts l.boxes l.gutters l.width (l.members ++ others) l.fn.cells
    → AreCounts l.boxes l.gutters l.width (drop l.member-index l.members ++ others) l.cells
