use Rattle.line_counts.specs.Stretches.{IsKeyIn, IsRisen}
use Rattle.line_counts.specs.Tops.{AreBeaten}
use Rattle.line_counts.proofs.Running.{AreSummed}
use Rattle.line_counts.proofs.counts.Counts.greatest_in.Given as goal

abbrev pub invariant-loop-of_segment : goal.invariant-loop-of_segment
invariant-loop-of_segment l = record {
  risen : IsRisen (IsKeyIn l.self l.least l.stretch) l.before l.best;
  summed : AreSummed l.self l.stretch l.of_segment (λ part. AreBeaten l.self l.least l.stretch part l.best) l.sums;
}
