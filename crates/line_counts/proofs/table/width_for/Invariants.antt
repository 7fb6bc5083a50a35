use Rattle.std.proofs.Common.{◌≤◌, take, All}
use Rattle.line_counts.proofs.table.width_for.Given as goal

abbrev pub invariant-loop-rect : goal.invariant-loop-rect
invariant-loop-rect l = record {
  high : l.height ≤ l.lowest;
  lowest : All (λ r. r.y1 ≤ l.lowest) (take l.rect-index l.boxes);
  small : l.lowest ≤ 8192;
}
