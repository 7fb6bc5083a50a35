use Rattle.std.proofs.Common.{◌<◌, ◌≤◌}
use Rattle.line_counts.proofs.pieces.alike.Given as goal

abbrev pub invariant-loop-gutter : goal.invariant-loop-gutter
invariant-loop-gutter l = record {
  some : 0 < l.offsets;
  few : l.offsets ≤ 64;
}
