use Rattle.std.proofs.Common.{take}
use Rattle.layout_geom.specs.declared.rect.Rect.{Rect}
use Rattle.layout_geom.specs.Rectangles.{Encloses}
use Rattle.line_search.specs.Lines.{IsRound}
use Rattle.line_search.proofs.members.least_round.Given as goal

abbrev pub invariant-loop-position : goal.invariant-loop-position
invariant-loop-position l = record {
  round : IsRound l.boxes (take l.position-index l.positions) l.round;
  least : (outer : Rect) → IsRound l.boxes l.positions outer → Encloses outer l.round;
}
