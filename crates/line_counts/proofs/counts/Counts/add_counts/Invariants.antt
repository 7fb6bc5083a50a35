use Rattle.std.proofs.Common.{◌≡◌, ◌+◌, ◌<◌, ◌≤◌, ℕ, length, get_or}
use Rattle.line_counts.specs.Tops.{count_behind}
use Rattle.line_counts.proofs.counts.Counts.add_counts.Given as goal

abbrev pub invariant-loop-place : goal.invariant-loop-place
invariant-loop-place l = record {
  long : length l.sums ≡ 136;
  done : (k : ℕ) → k < l.place → get_or l.sums k 0 ≡ get_or l.fn.sums k 0 + count_behind l.self l.stretch k l.of_segment;
  left : (k : ℕ) → l.place ≤ k → get_or l.sums k 0 ≡ get_or l.fn.sums k 0;
  small : (k : ℕ) → get_or l.sums k 0 ≤ get_or l.fn.sums k 0 + 65535;
}
