use Rattle.std.proofs.Common.{take}
use Rattle.line_counts.specs.Table.{AreCounts}
use Rattle.line_counts.proofs.table.count_all.Given as goal

abbrev pub invariant-loop-position : goal.invariant-loop-position
invariant-loop-position l = AreCounts l.boxes l.gutters l.width (take l.position-index l.positions) l.cells
