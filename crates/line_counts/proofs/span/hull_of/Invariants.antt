use Rattle.std.proofs.Common.{◌<◌, ◌≤◌, ℕ, get_or}
use Rattle.line_counts.specs.declared.span.Span.{Span}
use Rattle.line_counts.proofs.span.hull_of.Given as goal

abbrev pub invariant-loop-span : goal.invariant-loop-span
invariant-loop-span l = (number : ℕ) (none : Span) → number < l.span-index → (l.hull.first ≤ (get_or l.spans number none).first) × ((get_or l.spans number none).last ≤ l.hull.last)
