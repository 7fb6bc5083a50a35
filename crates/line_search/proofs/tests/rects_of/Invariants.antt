use Rattle.std.proofs.Common.{◌≤◌, length}
use Rattle.line_search.proofs.tests.rects_of.Given as goal

abbrev pub invariant-loop-x0 : goal.invariant-loop-x0
invariant-loop-x0 l = length l.rects ≤ l.x0-index
