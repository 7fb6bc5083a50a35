use Rattle.line_counts.proofs.Cells.{IsRaisedTo}
use Rattle.line_counts.proofs.table.lower.Given as goal

abbrev pub invariant-loop-number : goal.invariant-loop-number
invariant-loop-number l = IsRaisedTo l.number l.gutters l.width l.rect l.cells l.fn.cells
