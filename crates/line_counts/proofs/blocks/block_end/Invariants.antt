use Rattle.std.proofs.Common.{◌<◌, ◌≤◌}
use Rattle.line_counts.proofs.blocks.block_end.Given as goal

abbrev pub invariant-loop : goal.invariant-loop
invariant-loop l = record {
  low : l.low ≤ l.row;
  high : l.row < l.high;
  inside : l.high ≤ l.rows;
}
