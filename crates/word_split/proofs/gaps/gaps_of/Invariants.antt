use Rattle.std.proofs.Common.{◌≡◌, ◌+◌, ◌≤◌, length, sum, take}
use Rattle.word_split.specs.Gaps.{right_of}
use Rattle.word_split.proofs.Widths.{AreGapsBefore}
use Rattle.word_split.proofs.gaps.gaps_of.Given as goal

abbrev pub invariant-loop-place : goal.invariant-loop-place
invariant-loop-place l = record {
  count : length l.gaps.items + 1 ≡ l.place;
  right : l.right ≡ right_of (take l.place l.line);
  each : AreGapsBefore l.line l.gaps.items;
  slim : sum l.gaps.items ≤ l.right;
}
