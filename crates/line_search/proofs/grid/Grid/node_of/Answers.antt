use Rattle.std.proofs.Common.{arith, refl, ◌≡◌, ◌∙◌, ap, subst, sym, ℤ}
use Rattle.std.proofs.lemmas.Int.{ints}
use Rattle.line_quality.specs.Points.{IsSlope}
use Rattle.line_search.specs.Lines.{deepest}
use Rattle.line_search.specs.Problem.{GridProblem}
use Rattle.line_counts.specs.Shapes.{IsInGrid}
use Rattle.line_search.specs.Bounds.{stretch_of}
use Rattle.line_search.proofs.Bounding.{bound_of}
use Rattle.line_search.proofs.Reaching.{kept_reaching}
use Rattle.line_counts.proofs.Ranges.{wider, kept_in}
use Rattle.line_search.proofs.Ranges.{in_16, nearest_back, nearest_in}
use Rattle.line_search.proofs.grid.Grid.node_of.Goals as goal

pub line_key-requires-clause-slope : goal.line_key-requires-clause-slope
line_key-requires-clause-slope c =
    let grid : IsInGrid 8192 63 c.args.shape = wider c.args.self.now.height (deepest c.args.self.now.median) c.args.shape c.requires.in_grid in
    subst (λ (z : ℤ). IsSlope z) (sym (nearest_back c.args.shape grid c.nearest_slope.result c.nearest_slope.ensures)) (nearest_in c.args.shape grid)

pub returns-clause-fitting : goal.returns-clause-fitting
returns-clause-fitting c =
    let p : GridProblem = c.args.self.now in
    let shape = c.args.shape in
    let grid : IsInGrid 8192 63 shape = wider p.height (deepest p.median) shape c.requires.in_grid in
    let offset = in_16 shape.b0 grid.from_offset (omega (arith, ints, grid.some_offset, grid.to_offset)) in
    let slope = nearest_back shape grid c.nearest_slope.result c.nearest_slope.ensures in
    let boxes = c.boxes-boxes.ensures ∙ ap (λ (q : GridProblem). q.boxes) c.self.view_is in
    let gutters = c.gutters-gutters.ensures ∙ ap (λ (q : GridProblem). q.gutters) c.self.view_is in
    let alive : c.as_slice.result.now ≡ p.alive = c.as_slice.ensures.same ∙ c.alive-alive.ensures ∙ ap (λ (q : GridProblem). q.alive) c.self.view_is in
    let near = c.in_ok-near.near in
    record {
      in_grid = c.requires.in_grid;
      bounded = bound_of p shape c.requires.in_grid (stretch_of c.args.span p.alive) c.requires.weighing.same near.score.score near.score.column c.line_key.result
          (rw (boxes, gutters, alive) at c.in_ok-near.ensures.most)
          (c.line_key.ensures.value ∙ rw (slope, offset, (kept_in shape grid).c0) refl);
      near = kept_reaching p shape c.args.span near.span c.requires.weighing c.in_ok-near.ensures.ordered (rw alive at c.in_ok-near.ensures.inside) (rw (boxes, alive) at c.in_ok-near.ensures.weighing);
    }
