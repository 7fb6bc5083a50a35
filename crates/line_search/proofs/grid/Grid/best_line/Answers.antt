use Rattle.std.proofs.Common.{ap, ◌∙◌}
use Rattle.line_search.specs.Problem.{GridProblem}
use Rattle.line_search.proofs.Taking.{is_line_key, taken_line}
use Rattle.line_search.proofs.grid.Grid.best_line.Goals as goal

pub point_of-slope-requires : goal.point_of-slope-requires
point_of-slope-requires c = is_line_key c.args.self.now c.args.key c.requires.high c.requires.greatest c.requires.some

pub returns : goal.returns
returns c =
    let p : GridProblem = c.args.self.now in
    let boxes = c.boxes-boxes.ensures ∙ ap (λ (q : GridProblem). q.boxes) c.self.view_is in
    let gutters = c.gutters-gutters.ensures ∙ ap (λ (q : GridProblem). q.gutters) c.self.view_is in
    let alive = c.alive-alive.ensures ∙ ap (λ (q : GridProblem). q.alive) c.self.view_is in
    taken_line p c.args.key c.requires.high c.requires.greatest c.requires.some c.point_of-slope.result.0 c.point_of-slope.result.1 c.point_of-slope.result.2 c.point_of-slope.ensures c.score_at-score.result.score c.score_at-score.result.column c.in_ok-division.division
    (rw (boxes, gutters, alive) at c.score_at-score.ensures.score) (rw (boxes, gutters, alive) at c.in_ok-division.ensures.members) (rw (boxes, gutters, alive) at c.in_ok-division.ensures.others)
