use Rattle.std.proofs.Common.{◌≤◌, length, All}
use Rattle.layout_geom.specs.Rectangles.{Encloses}
use Rattle.line_search.proofs.tests.boxes_in.Given as goal

abbrev pub invariant-loop-x0 : goal.invariant-loop-x0
invariant-loop-x0 l = record {
  few : length l.boxes ≤ l.x0-index;
  inside : All (Encloses l.outer) l.boxes;
}
