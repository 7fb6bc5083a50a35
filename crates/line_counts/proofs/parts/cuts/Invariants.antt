use Rattle.std.proofs.Common.{◌≡◌, ◌≤◌, ℕ, true, false, length, get_or}
use Rattle.line_counts.specs.Tops.{IsCutBefore}
use Rattle.line_counts.proofs.parts.cuts.Given as goal

abbrev pub invariant-loop-gutter : goal.invariant-loop-gutter
invariant-loop-gutter l = record {
  order : l.gutter-index ≤ l.gutter-index-end;
  long : length l.cuts ≡ 73;
  cut : (segment : ℕ) → get_or l.cuts segment false ≡ true → IsCutBefore l.gutters l.stretch segment;
}
