use Rattle.std.proofs.Common.{All}
use Rattle.layout_geom.specs.Rectangles.{Encloses}
use Rattle.reading_order.proofs.tests.lines_on.Given as goal

abbrev pub invariant-loop-x0 : goal.invariant-loop-x0
invariant-loop-x0 l = All (Encloses l.page) l.lines
