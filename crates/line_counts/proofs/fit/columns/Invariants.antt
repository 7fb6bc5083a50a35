use Rattle.std.proofs.Common.{◌≡◌, ◌≤◌, ◌<◌, ◌&&◌, ℕ, leb, take, length, get_or}
use Rattle.std.specs.List.{count_by}
use Rattle.line_quality.specs.Points.{is_crossed, middle_of}
use Rattle.line_counts.specs.Fits.{segment_of}
use Rattle.line_counts.proofs.fit.columns.Given as goal

abbrev pub invariant-loop-gutter : goal.invariant-loop-gutter
invariant-loop-gutter l = record {
  order : l.gutter-index ≤ l.gutter-index-end;
  long : length l.columns ≡ 73;
  value : (s : ℕ) → s < 73
      → get_or l.columns s 0 ≡ count_by (λ gutter. is_crossed l.slope l.offset gutter && leb (segment_of l.gutters (middle_of gutter)) s) (take l.gutter-index l.gutters);
  few : (s : ℕ) → get_or l.columns s 0 ≤ l.gutter-index;
}
