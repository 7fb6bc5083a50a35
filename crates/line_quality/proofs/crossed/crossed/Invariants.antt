use Rattle.std.proofs.Common.{◌≡◌, ◌≤◌, length, take}
use Rattle.line_quality.specs.Crossings.{crossed_middles}
use Rattle.line_quality.proofs.crossed.crossed.Given as goal

abbrev pub invariant-loop-gutter : goal.invariant-loop-gutter
invariant-loop-gutter l = record {
  value : l.middles ≡ crossed_middles l.fn.slope l.fn.offset (take l.gutter-index l.gutters);
  few : length l.middles ≤ l.gutter-index;
}
