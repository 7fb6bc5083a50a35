use Rattle.line_counts.specs.Tops.{WeighAtMost}
use Rattle.line_counts.proofs.Running.{AreSummed}
use Rattle.line_counts.proofs.counts.Counts.most_of.Given as goal

abbrev pub invariant-loop-of_segment : goal.invariant-loop-of_segment
invariant-loop-of_segment l = AreSummed l.self l.stretch l.of_segment (λ part. WeighAtMost part l.most) l.sums
