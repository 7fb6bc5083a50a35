use Rattle.std.proofs.Common.{◌≡◌, ◌+◌, ◌*◌, ◌<◌, ℕ, length, get_or}
use Rattle.line_counts.specs.Tops.{sum_to, common_weight}
use Rattle.line_counts.proofs.tops.line_sums.Given as goal

abbrev pub invariant-loop-behind : goal.invariant-loop-behind
invariant-loop-behind l = record {
  long : length l.sums ≡ 64;
  done : (more : ℕ) → more < 64
      → get_or l.sums more 0 + sum_to (λ j. common_weight l.depth j * get_or l.counts (more + l.depth + j) 0) l.behind
      ≡ get_or l.bells more 0 + get_or l.bells (more + l.depth) 0;
}
