use Rattle.std.proofs.Common.{◌≡◌, ◌+◌, ◌*◌, ◌<◌, ◌≤◌, ℕ, length, get_or}
use Rattle.line_counts.proofs.tops.lessen.Given as goal

abbrev pub invariant-loop-more : goal.invariant-loop-more
invariant-loop-more l = record {
  long : length l.sums ≡ 64;
  done : (k : ℕ) → k < l.more → get_or l.sums k 0 + l.less * get_or l.counts (l.from + k) 0 ≡ get_or l.fn.sums k 0;
  left : (k : ℕ) → l.more ≤ k → get_or l.sums k 0 ≡ get_or l.fn.sums k 0;
}
