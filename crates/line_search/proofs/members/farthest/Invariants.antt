use Rattle.std.proofs.Common.{◌≤◌, take, All}
use Rattle.line_quality.specs.Points.{middle_of}
use Rattle.line_search.proofs.members.farthest.Given as goal

abbrev pub invariant-loop-rect : goal.invariant-loop-rect
invariant-loop-rect l = record {
  farthest : All (λ r. middle_of r ≤ l.farthest) (take l.rect-index l.boxes);
  small : l.farthest ≤ 8191;
}
