use Rattle.std.proofs.Common.{◌≡◌, ◌<◌, ℕ, length, get_or}
use Rattle.line_counts.proofs.tops.first_bells.Given as goal

abbrev pub invariant-loop-more : goal.invariant-loop-more
invariant-loop-more l = record {
  long : length l.first ≡ 64;
  done : (k : ℕ) → k < l.more → get_or l.first k 0 ≡ get_or l.bells k 0;
}
