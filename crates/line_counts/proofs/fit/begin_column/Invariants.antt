use Rattle.std.proofs.Common.{◌≡◌, ◌+◌, ◌<◌, ◌≤◌, ℕ, cond, leb, length, get_or}
use Rattle.line_counts.proofs.fit.begin_column.Given as goal

abbrev pub invariant-loop-of_segment : goal.invariant-loop-of_segment
invariant-loop-of_segment l = record {
  long : length l.columns ≡ 73;
  done : (k : ℕ) → k < l.of_segment → get_or l.columns k 0 ≡ get_or l.fn.columns k 0 + cond (leb l.from k) 1 0;
  left : (k : ℕ) → l.of_segment ≤ k → get_or l.columns k 0 ≡ get_or l.fn.columns k 0;
  small : (k : ℕ) → get_or l.columns k 0 ≤ get_or l.fn.columns k 0 + 1;
}
