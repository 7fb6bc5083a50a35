use Rattle.std.proofs.Common.{◌-◌, ◌≤◌}
use Rattle.line_counts.specs.Stretches.{IsKeyIn, IsGreaterKey}
use Rattle.line_counts.proofs.Joining.{first_of}
use Rattle.line_counts.proofs.counts.Counts.greatest.Given as goal

abbrev pub decreases-loop-done : goal.decreases-loop-done
decreases-loop-done l = l.stretch.offsets - l.done

abbrev pub invariant-loop-done : goal.invariant-loop-done
invariant-loop-done l = record {
  within : l.done ≤ l.stretch.offsets;
  exact : IsGreaterKey (IsKeyIn l.self l.least (first_of l.stretch l.done)) 0 l.best;
}
