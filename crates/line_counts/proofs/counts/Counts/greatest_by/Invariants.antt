use Rattle.std.proofs.Common.{◌<◌, ◌≤◌, ℕ}
use Rattle.line_counts.specs.Stretches.{IsKeyIn, IsRisen, IsBeaten}
use Rattle.line_counts.specs.Tops.{weighed}
use Rattle.line_counts.proofs.counts.Counts.greatest_by.Given as goal

abbrev pub invariant-loop-depth : goal.invariant-loop-depth
invariant-loop-depth l = record {
  order : l.stretch.shallowest ≤ l.depth;
  risen : IsRisen (IsKeyIn l.self l.least l.stretch) l.before l.best;
  beaten : (more depth : ℕ) → more < l.stretch.offsets → l.stretch.shallowest ≤ depth → depth < l.depth
      → IsBeaten l.self l.least l.stretch more depth (weighed l.counts more depth) l.best;
}
