use Rattle.std.proofs.Common.{◌<◌, ◌≤◌, ℕ, length, get_or}
use Rattle.line_counts.proofs.block.place_of_greatest.Given as goal

abbrev pub invariant-loop-place : goal.invariant-loop-place
invariant-loop-place l = record {
  within : 0 < length l.keys → l.best < length l.keys;
  greatest : (number : ℕ) → number < l.place → get_or l.keys number 0 ≤ get_or l.keys l.best 0;
}
