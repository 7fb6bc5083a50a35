use Rattle.std.proofs.Common.{◌≡◌, ℕ, ◌<◌, ◌≤◌, length, get_or}
use Rattle.line_quality.proofs.score.greatest.Given as goal

abbrev pub invariant-loop-column : goal.invariant-loop-column
invariant-loop-column l = record {
  within : l.best.column < length l.sums;
  reached : get_or l.sums l.best.column 0 ≡ l.best.score;
  greatest : (place : ℕ) → place < l.column → get_or l.sums place 0 ≤ l.best.score;
  least : (place : ℕ) → place < l.best.column → get_or l.sums place 0 < l.best.score;
}
