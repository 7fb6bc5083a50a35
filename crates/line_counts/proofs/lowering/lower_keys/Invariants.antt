use Rattle.std.proofs.Common.{◌≡◌, ◌<◌, ℕ, length, get_or}
use Rattle.line_counts.specs.Fits.{slope_of}
use Rattle.line_counts.specs.Blocks.{IsKeyBound, lines_of}
use Rattle.line_counts.proofs.lowering.lower_keys.Given as goal

abbrev pub invariant-loop-number : goal.invariant-loop-number
invariant-loop-number l = record {
  long : length l.keys ≡ 65;
  each : (number : ℕ) → number < l.number → IsKeyBound l.counts l.least (lines_of (slope_of number) l.block.from l.block.offsets l.deepest) (get_or l.keys number 0);
}
