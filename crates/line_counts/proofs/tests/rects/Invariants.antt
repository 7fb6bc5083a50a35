use Rattle.std.proofs.Common.{◌≡◌, length}
use Rattle.line_counts.proofs.tests.rects.Given as goal

abbrev pub invariant-loop-x0 : goal.invariant-loop-x0
invariant-loop-x0 l = length l.boxes ≡ l.x0-index
