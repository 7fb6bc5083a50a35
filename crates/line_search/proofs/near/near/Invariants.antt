use Rattle.std.proofs.Common.{length, take, slice_get, ltb}
use Rattle.line_quality.specs.SumLaws.{AreSums}
use Rattle.line_search.specs.Bounds.{most_weight, most_in_column}
use Rattle.line_search.proofs.Stretches.{HasPassing}
use Rattle.line_search.proofs.near.near.Given as goal

abbrev pub invariant-loop-place : goal.invariant-loop-place
invariant-loop-place l = record {
  sums : AreSums (most_in_column l.shape l.boxes l.gutters (take l.place l.positions)) l.place (length l.middles.items) l.sums;
  passing : HasPassing (λ position. ltb 0 (most_weight l.shape (slice_get l.boxes position))) l.positions l.place l.span.from l.span.to;
}
