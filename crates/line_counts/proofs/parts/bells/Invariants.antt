use Rattle.std.proofs.Common.{◌≡◌, ◌<◌, ℕ, length, get_or}
use Rattle.line_counts.specs.Tops.{weighed}
use Rattle.line_counts.proofs.parts.bells.Given as goal

abbrev pub invariant-loop-place : goal.invariant-loop-place
invariant-loop-place l = record {
  long : length l.bells ≡ 128;
  value : (k : ℕ) → k < l.place → get_or l.bells k 0 ≡ weighed l.counts k 0;
}
