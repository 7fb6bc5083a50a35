use Rattle.std.proofs.Common.{◌<◌, length}
use Rattle.line_counts.proofs.sharpening.greatest_block.Given as goal

abbrev pub invariant-loop-place : goal.invariant-loop-place
invariant-loop-place l = 0 < length l.blocks → l.best < length l.blocks
