use Rattle.std.proofs.Common.{◌<◌, ℕ, get_or}
use Rattle.line_counts.specs.Stretches.{IsKeyIn, IsRisen, IsBeaten}
use Rattle.line_counts.proofs.counts.Counts.greatest_of.Given as goal

abbrev pub invariant-loop-more : goal.invariant-loop-more
invariant-loop-more l = record {
  risen : IsRisen (IsKeyIn l.self l.least l.stretch) l.initial.best l.best;
  beaten : (k : ℕ) → k < l.more → IsBeaten l.self l.least l.stretch k l.depth (get_or l.tops k 0) l.best;
}
