use Rattle.std.proofs.Common.{◌≡◌}
use Rattle.line_counts.proofs.Nearing.{near_among}
use Rattle.line_counts.proofs.counts.Counts.plain_score.Given as goal

abbrev pub invariant-loop-of_segment : goal.invariant-loop-of_segment
invariant-loop-of_segment l = l.total ≡ near_among l.self.boxes l.self.gutters l.slope l.from l.more l.of_segment l.self.alive
