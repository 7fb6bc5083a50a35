use Rattle.std.proofs.Common.{◌≡◌, ◌+◌}
use Rattle.line_counts.specs.Fits.{first_place}
use Rattle.line_counts.proofs.Weighing.{weight_before}
use Rattle.line_counts.proofs.counts.Counts.segment_weight.Given as goal

abbrev pub invariant-loop-behind : goal.invariant-loop-behind
invariant-loop-behind l = l.total ≡ weight_before l.self.boxes l.self.gutters l.slope l.offset l.depth l.of_segment (first_place l.offset + l.behind) l.self.alive
