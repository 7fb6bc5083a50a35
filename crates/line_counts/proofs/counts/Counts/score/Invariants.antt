use Rattle.std.proofs.Common.{◌≡◌, ℕ, length, get_or}
use Rattle.line_counts.proofs.Segments.{column_weight}
use Rattle.line_counts.proofs.counts.Counts.score.Given as goal

abbrev pub invariant-loop-of_segment : goal.invariant-loop-of_segment
invariant-loop-of_segment l = record {
  long : length l.sums ≡ 73;
  sums : (in_column : ℕ) → get_or l.sums in_column 0 ≡ column_weight l.self.boxes l.self.gutters l.slope l.offset l.depth l.of_segment in_column l.self.alive;
}
