use Rattle.std.proofs.Common.{◌≡◌, take, not, slice_get}
use Rattle.std.specs.List.{filter}
use Rattle.line_quality.specs.Scores.{is_of}
use Rattle.line_search.proofs.members.divide.Given as goal

abbrev pub invariant-loop-position : goal.invariant-loop-position
invariant-loop-position l = record {
  members : l.members ≡ filter (λ position. is_of l.winner.slope l.winner.offset l.winner.depth l.gutters l.winner.column (slice_get l.boxes position)) (take l.position-index l.alive);
  others : l.others ≡ filter (λ position. not (is_of l.winner.slope l.winner.offset l.winner.depth l.gutters l.winner.column (slice_get l.boxes position))) (take l.position-index l.alive);
}
