use Rattle.std.proofs.Common.{◌≡◌, ◌+◌, ◌<◌, ◌≤◌, ℕ, length, get_or}
use Rattle.line_counts.specs.declared.block.Block.{Block}
use Rattle.line_counts.specs.Blocks.{IsBlock, HaveRows}
use Rattle.line_counts.proofs.lowering.lower_blocks.Given as goal

abbrev pub invariant-loop-place : goal.invariant-loop-place
invariant-loop-place l = record {
  long : length l.blocks ≡ length l.fn.blocks;
  done : (k : ℕ) (d : Block) → k < l.place → IsBlock l.counts l.least l.deepest (get_or l.blocks k d);
  left : (k : ℕ) (d : Block) → l.place ≤ k → get_or l.blocks k d ≡ get_or l.fn.blocks k d;
  all : HaveRows (l.counts.height + 600 + 1) l.blocks;
}
