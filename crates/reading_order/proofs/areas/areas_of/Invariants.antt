use Rattle.std.proofs.Common.{List, ◌*◌, ◌-◌, ◌≤◌, ◌++◌, length}
use Rattle.layout_geom.specs.declared.area.Area.{Area}
use Rattle.reading_order.specs.Areas.{AreAreasFrom}
use Rattle.reading_order.proofs.areas.areas_of.Given as goal

abbrev pub invariant-loop-first : goal.invariant-loop-first
invariant-loop-first l =
    (l.first ≤ length l.listing) × ((rest : List Area) → AreAreasFrom l.lines l.listing (2 * l.median) l.first rest → AreAreasFrom l.lines l.listing (2 * l.median) 0 (l.areas ++ rest))

abbrev pub decreases-loop-first : goal.decreases-loop-first
decreases-loop-first l = length l.listing - l.first
