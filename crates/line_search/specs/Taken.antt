-- What it means to take the line of a key away.
use Rattle.std.specs.Prelude.{◌≡◌, ℕ, ◌≤◌, not, slice_get}
use Rattle.std.specs.List.{filter}
use Rattle.line_quality.specs.Keys.{line_key}
use Rattle.line_quality.specs.Scores.{IsScore, group_of, is_of}
use Rattle.line_search.specs.declared.grid.TheConstants.{LEAST_SCORE}
use Rattle.line_search.specs.declared.members.Winner.{Winner}
use Rattle.line_search.specs.declared.members.Division.{Division}
use Rattle.line_search.specs.Lines.{IsPoint}
use Rattle.line_search.specs.Problem.{GridProblem}

-- the line has the key, and the positions that are alive are divided by whether they are in it
pub record IsTaken (problem : GridProblem) (key score : ℕ) (winner : Winner) (division : Division) : Type 0 where
  pub point : IsPoint problem.height problem.median winner.slope winner.offset winner.depth
  pub scored : IsScore winner.slope winner.offset winner.depth problem.boxes problem.gutters problem.alive score winner.column
  pub enough : LEAST_SCORE ≤ score
  pub has_key : line_key score winner.slope winner.offset winner.depth ≡ key
  pub members : division.members ≡ group_of winner.slope winner.offset winner.depth problem.boxes problem.gutters winner.column problem.alive
  pub others : division.others
      ≡ filter (λ position. not (is_of winner.slope winner.offset winner.depth problem.gutters winner.column
      (slice_get problem.boxes position))) problem.alive
