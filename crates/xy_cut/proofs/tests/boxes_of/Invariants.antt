use Rattle.std.proofs.Common.{All}
use Rattle.layout_geom.specs.Rectangles.{Encloses}
use Rattle.xy_cut.proofs.tests.boxes_of.Given as goal

abbrev pub invariant-loop-x0 : goal.invariant-loop-x0
invariant-loop-x0 g l = All (Encloses l.page) l.boxes
