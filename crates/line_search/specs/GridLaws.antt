-- The laws of the grid: an admitted key is positive, and the bound of a node that fits bounds its keys.
use Rattle.std.specs.Prelude.{◌≡◌, ℕ, ◌<◌, ◌≤◌, ℤ, List}
use Rattle.std.proofs.Common.{arith, sym, ◌∙◌, subst}
use Rattle.std.proofs.lemmas.Int.{ints}
use Rattle.layout_limits.specs.declared.TheConstants.{MAX_SIDE}
use Rattle.box_search.specs.declared.space.Shape.{Shape}
use Rattle.box_search.specs.declared.space.Node.{Node}
use Rattle.line_quality.specs.KeyLaws.{same_point}
use Rattle.line_quality.specs.Keys.{Scored, scored, IsOfGrid}
use Rattle.line_search.specs.Lines.{IsPoint}
use Rattle.line_search.specs.declared.span.Span.{Span}
use Rattle.line_search.specs.Problem.{GridProblem, grid_numbers, HasPointOfKey, IsGridKey}
use Rattle.line_search.specs.ProblemLaws.{same_grid_problem}
use Rattle.line_counts.specs.Shapes.{IsInside, PointLiesIn}
use Rattle.line_search.specs.Bounds.{FitsGrid}

-- an admitted key is one of the problem that the numbers stand for
pub admitted_here : (problem : GridProblem) (numbers : List ℤ) (key : ℕ) → grid_numbers problem ≡ numbers → IsGridKey numbers key
    → HasPointOfKey key problem
admitted_here problem numbers key stands admitted = subst (HasPointOfKey key)
    (same_grid_problem admitted.problem problem (admitted.stands ∙ sym stands)) admitted.holds

-- a point of the grid of a page is one of the grids of all pages
pub of_grid : (problem : GridProblem) (score : ℕ) (slope offset : ℤ) (depth : ℕ) → IsPoint problem.height problem.median slope offset depth
    → problem.height ≤ MAX_SIDE → IsOfGrid (scored score slope offset depth)
of_grid problem score slope offset depth point high = record {
  slope_in = point.slope_in;
  offset_in = record { low = point.low; high = omega (arith, ints, point.high) };
  depth_in = omega (arith, point.shallow);
}

-- the point of an admitted key that lies in a shape
pub inside_of : (key : ℕ) (problem : GridProblem) (shape : Shape) (high : problem.height ≤ MAX_SIDE) (here : HasPointOfKey key problem)
    → PointLiesIn key shape → IsInside here.slope here.offset here.depth shape
inside_of key problem shape high here lies =
    let point = here.admissible.scored.point in
    let p : Scored = scored here.score here.slope here.offset here.depth in
    let q : Scored = scored lies.score lies.slope lies.offset lies.depth in
    let same = same_point p q (of_grid problem here.score here.slope here.offset here.depth point high)
    (record { slope_in = lies.slope_in; offset_in = lies.offset_in; depth_in = lies.depth_in }) (here.has_key ∙ sym lies.has_key) in
    subst (λ (z : ℤ). IsInside z here.offset here.depth shape) (sym same.slopes)
    (subst (λ (z : ℤ). IsInside lies.slope z here.depth shape) (sym same.offsets)
    (subst (λ (d : ℕ). IsInside lies.slope lies.offset d shape) (sym same.depths) lies.inside))

pub grid_positive : (numbers : List ℤ) (key : ℕ) → IsGridKey numbers key → 0 < key
grid_positive numbers key admitted = omega (arith, admitted.holds.has_key, admitted.holds.admissible.enough)

pub grid_bounded : (numbers : List ℤ) (node : Node Span) (key : ℕ) → FitsGrid numbers node → IsGridKey numbers key
    → PointLiesIn key node.shape → key ≤ node.bound
grid_bounded numbers node key fits admitted lies =
    let problem = fits.problem in
    let here = admitted_here problem numbers key fits.stands admitted in
    let inside : IsInside here.slope here.offset here.depth node.shape = inside_of key problem node.shape fits.holds.in_grid.page here lies in
    omega (arith, fits.holds.bounded.over here.slope here.offset here.depth here.score here.admissible.scored inside, here.has_key)
