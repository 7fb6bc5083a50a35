use Rattle.std.proofs.Common.{◌-◌, ◌≤◌, All}
use Rattle.line_counts.specs.Blocks.{IsBlock, HaveRows}
use Rattle.line_counts.proofs.blocks.all_blocks.Given as goal

abbrev pub invariant-loop-row : goal.invariant-loop-row
invariant-loop-row l = record {
  inside : l.row ≤ l.rows;
  each : All (IsBlock l.counts l.least l.deepest) l.blocks.items;
  all : HaveRows l.row l.blocks.items;
}

abbrev pub decreases-loop-row : goal.decreases-loop-row
decreases-loop-row l = l.rows - l.row
