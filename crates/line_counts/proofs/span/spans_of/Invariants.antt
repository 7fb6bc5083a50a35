use Rattle.std.proofs.Common.{◌≡◌, ◌<◌, ℕ, length, get_or}
use Rattle.line_counts.specs.declared.span.Span.{Span}
use Rattle.line_counts.specs.Fits.{slope_of}
use Rattle.line_counts.specs.Blocks.{AreBetween}
use Rattle.line_counts.proofs.span.spans_of.Given as goal

abbrev pub invariant-loop-number : goal.invariant-loop-number
invariant-loop-number l = record {
  long : length l.spans ≡ 65;
  each : (number : ℕ) (none : Span) → number < l.number → ((get_or l.spans number none).slope ≡ slope_of number) × AreBetween l.boxes (get_or l.spans number none) l.members;
}
