use Rattle.std.proofs.Common.{◌≡◌, ◌*◌, ◌≤◌, get_or}
use Rattle.line_counts.specs.Tops.{sum_to}
use Rattle.line_counts.proofs.rough.total.Given as goal

abbrev pub invariant-loop-place : goal.invariant-loop-place
invariant-loop-place l = record {
  value : l.total ≡ sum_to (λ place. get_or l.counts place 0) l.place;
  small : l.total ≤ l.place * 4784055;
}
