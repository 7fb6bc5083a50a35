-- What holds of all problems: their numbers decide them.
use Rattle.std.proofs.Common.{◌≡◌, ℕ, List, [], ◌++◌, append-nil}
use Rattle.layout_geom.specs.declared.rect.Rect.{Rect}
use Rattle.layout_geom.specs.BoxNumbers.{same_boxes, boxes_numbers}
use Rattle.layout_geom.specs.NumberLists.{same_first, same_numbers}
use Rattle.line_search.specs.Problem.{GridProblem, grid_numbers}

problem_of : ℕ → ℕ → List Rect → List ℕ → List Rect → GridProblem
problem_of height median boxes alive gutters = record { height = height; median = median; boxes = boxes; alive = alive; gutters = gutters }

same_parts : (p q : GridProblem) → p.height ≡ q.height → p.median ≡ q.median → p.boxes ≡ q.boxes → p.alive ≡ q.alive → p.gutters ≡ q.gutters → p ≡ q
unfolding problem_of
same_parts p q height median boxes alive gutters =
    let same : problem_of p.height p.median p.boxes p.alive p.gutters ≡ problem_of q.height q.median q.boxes q.alive q.gutters = cc in
    same

-- the numbers decide the problem
pub same_grid_problem : (p q : GridProblem) → grid_numbers p ≡ grid_numbers q → p ≡ q
unfolding grid_numbers
same_grid_problem p q e =
    let height = same_first _ _ _ _ e in
    let median = same_first _ _ _ _ height.1 in
    let many = same_first _ _ _ _ median.1 in
    let boxes = same_boxes p.boxes q.boxes _ _ many.0 many.1 in
    let some = same_first _ _ _ _ boxes.1 in
    let alive = same_numbers p.alive q.alive _ _ some.0 some.1 in
    let few = same_first _ _ _ _ alive.1 in
    let last : boxes_numbers p.gutters ++ [] ≡ boxes_numbers q.gutters
    ++ [] = rw (append-nil (boxes_numbers p.gutters), append-nil (boxes_numbers q.gutters)) few.1 in
    let gutters = same_boxes p.gutters q.gutters [] [] few.0 last in
    same_parts p q height.0 median.0 boxes.0 alive.0 gutters.0
