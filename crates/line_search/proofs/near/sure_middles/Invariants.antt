use Rattle.std.proofs.Common.{◌≡◌, ◌≤◌, length, take, map}
use Rattle.std.specs.List.{filter}
use Rattle.line_quality.specs.Points.{middle_of}
use Rattle.line_search.specs.Bounds.{all_cross}
use Rattle.line_search.proofs.near.sure_middles.Given as goal

abbrev pub invariant-loop-gutter : goal.invariant-loop-gutter
invariant-loop-gutter l = record {
  value : l.middles.items ≡ map middle_of (filter (all_cross l.shape) (take l.gutter-index l.gutters));
  few : length l.middles.items ≤ l.gutter-index;
}
