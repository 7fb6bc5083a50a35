use Rattle.std.proofs.Common.{◌≡◌, ◌<◌, ◌≤◌, length, slice_get, All}
use Rattle.std.specs.List.{filter, range_with_len}
use Rattle.line_search.specs.Lines.{is_character}
use Rattle.line_search.proofs.characters.characters.Given as goal

abbrev pub invariant-loop-position : goal.invariant-loop-position
invariant-loop-position l = record {
  value : l.positions ≡ filter (λ position. is_character l.kept.median (slice_get l.kept.boxes position)) (range_with_len 0 l.position);
  within : All (λ position. position < length l.kept.boxes) l.positions;
  few : length l.positions ≤ l.position;
}
