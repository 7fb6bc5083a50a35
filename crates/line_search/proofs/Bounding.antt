-- Why the bound of a shape is one.
use Rattle.std.proofs.Common.{◌≡◌, ℕ, ◌<◌, ◌≤◌, min, ℤ, pos, ◌+ℤ◌, ◌≤ℤ◌, unsigned_abs, arith, refl, sym, ◌∙◌, ap, List, slice_get}
use Rattle.std.proofs.lemmas.Int.{ints}
use Rattle.std.specs.List.{sum_by}
use Rattle.std.proofs.lemmas.List.Sums.{sum_by-le-sum_by}
use Rattle.box_search.specs.declared.space.Shape.{Shape}
use Rattle.line_quality.specs.Scores.{group_weight, weight_of, IsScore}
use Rattle.line_quality.specs.Keys.{line_key, rank}
use Rattle.line_quality.specs.KeyLaws.{abs_parts}
use Rattle.line_search.specs.Lines.{IsPoint, deepest}
use Rattle.line_search.specs.Problem.{GridProblem}
use Rattle.line_counts.specs.Shapes.{IsInside, IsInGrid, least_depth}
use Rattle.line_counts.specs.Plain.{plain_weight, nearest_slope}
use Rattle.line_search.specs.Bounds.{weighing, most_weight, HasMost, IsOver, IsBound}
use Rattle.line_search.specs.GridLaws.{inside_of}
use Rattle.line_search.specs.Parts.{HasNoPoint}
use Rattle.line_counts.proofs.Growing.{least_rank, key_below, offset_below, depth_below}
use Rattle.line_search.proofs.Reaching.{same_group, same_total}
use Rattle.line_search.proofs.Columns.{group_within}
use Rattle.line_search.proofs.Heights.{plain_above}
use Rattle.line_search.proofs.Sums.{column_below}
use Rattle.line_search.proofs.Singles.{single_nearest, single_score}

-- the least depth is that of the first points
first_depth : (c0 : ℤ) → pos 0 ≤ℤ c0 → pos (unsigned_abs c0) ≡ c0
first_depth c0 from = omega (arith, ints, abs_parts c0)

pub first_point : (height median : ℕ) (shape : Shape) → IsInGrid height (deepest median) shape
    → IsPoint height median shape.a0 shape.b0 (least_depth shape)
first_point height median shape grid = record {
  slope_in = record { low = grid.from_slope; high = omega (arith, ints, grid.some_slope, grid.to_slope) };
  low = grid.from_offset;
  high = omega (arith, ints, grid.some_offset, grid.to_offset);
  shallow = depth_below shape.c0 (deepest median) grid.from_depth (omega (arith, ints, grid.some_depth, grid.to_depth));
}

pub first_inside : (height deep : ℕ) (shape : Shape) → IsInGrid height deep shape → IsInside shape.a0 shape.b0 (least_depth shape) shape
first_inside height deep shape grid = record {
  from_slope = omega (arith, ints);
  to_slope = grid.some_slope;
  from_offset = omega (arith, ints);
  to_offset = grid.some_offset;
  from_depth = rw (first_depth shape.c0 grid.from_depth) (omega (arith, ints));
  to_depth = rw (first_depth shape.c0 grid.from_depth) grid.some_depth;
}

-- a score among the positions of a node is one among all that are alive
all_scored : (problem : GridProblem) (shape : Shape) (slope offset : ℤ) (depth : ℕ) → IsInside slope offset depth shape
    → (positions : List ℕ) → weighing shape problem.boxes positions ≡ weighing shape problem.boxes problem.alive → (score in_column : ℕ)
    → IsScore slope offset depth problem.boxes problem.gutters positions score in_column
    → IsScore slope offset depth problem.boxes problem.gutters problem.alive score in_column
all_scored problem shape slope offset depth inside positions enough score in_column scored =
    let weigh : List ℕ → ℕ = λ xs. sum_by (λ (position : ℕ). weight_of slope offset depth (slice_get problem.boxes position)) xs in
    let same : (k : ℕ) → group_weight slope offset depth problem.boxes problem.gutters k positions
    ≡ group_weight slope offset depth problem.boxes problem.gutters k problem.alive =
    λ k. ap weigh (same_group problem shape slope offset depth inside positions enough k) in
    record {
      reached = sym (same in_column) ∙ scored.reached;
      greatest = λ other. omega (arith, same other, scored.greatest other);
      least = λ other before. omega (arith, same other, scored.least other before);
    }

-- what the positions of a node say of its bound
pub bound_of : (problem : GridProblem) (shape : Shape) → IsInGrid problem.height (deepest problem.median) shape → (positions : List ℕ)
    → weighing shape problem.boxes positions ≡ weighing shape problem.boxes problem.alive → (most in_column key : ℕ)
    → HasMost shape problem.boxes problem.gutters positions most in_column → key ≡ line_key most (nearest_slope shape) shape.b0 (least_depth shape)
    → IsBound problem shape key
bound_of problem shape grid positions same most in_column key has is = rw is (record {
  over = λ slope offset depth score scored inside.
      let group : group_weight slope offset depth problem.boxes problem.gutters scored.in_column positions
      ≡ group_weight slope offset depth problem.boxes problem.gutters scored.in_column problem.alive =
      ap (λ (xs : List ℕ). sum_by (λ (position : ℕ). weight_of slope offset depth (slice_get problem.boxes position)) xs) (same_group problem shape slope offset depth inside positions same scored.in_column) in
      key_below score most depth (least_depth shape) (rank slope) (rank (nearest_slope shape)) (unsigned_abs (offset +ℤ pos 300)) (unsigned_abs (shape.b0 +ℤ pos 300))
      (omega (arith, group, group_within shape problem.boxes problem.gutters positions slope offset depth inside scored.in_column most has.greatest, scored.scored.reached))
      (depth_below shape.c0 depth grid.from_depth inside.from_depth)
      (least_rank shape.a0 shape.a1 slope (nearest_slope shape) inside.from_slope inside.to_slope refl)
      (offset_below shape.b0 offset grid.from_offset inside.from_offset);
  single = λ single.
      let scored = all_scored problem shape shape.a0 shape.b0 (least_depth shape) (first_inside problem.height (deepest problem.median) shape grid) positions same most in_column
      (single_score shape single grid.from_depth problem.boxes problem.gutters positions most in_column has) in
      (most, record { point = first_point problem.height problem.median shape grid; in_column = in_column; scored = scored }, ap (λ (z : ℤ). line_key most z shape.b0 (least_depth shape)) (sym (single_nearest shape single)));
  wide = λ _.
      let reach : ℕ → ℕ = λ position. most_weight shape (slice_get problem.boxes position) in
      let plain : ℕ → ℕ = λ position. plain_weight shape (slice_get problem.boxes position) in
      let less : sum_by reach problem.alive ≤ sum_by plain problem.alive =
      sum_by-le-sum_by reach plain problem.alive (λ position. plain_above problem.height (deepest problem.median) shape grid (slice_get problem.boxes position)) in
      key_below most (sum_by plain problem.alive) (least_depth shape) (least_depth shape) (rank (nearest_slope shape)) (rank (nearest_slope shape)) (unsigned_abs (shape.b0 +ℤ pos 300)) (unsigned_abs (shape.b0 +ℤ pos 300))
      (omega (arith, less, has.reached, column_below shape problem.boxes problem.gutters positions in_column, same_total problem shape positions same)) (omega arith) (omega arith) (omega arith);
})

-- the lesser of two bounds is one
pub lesser_bound : (problem : GridProblem) (shape : Shape) (bound limit : ℕ) → IsInGrid problem.height (deepest problem.median) shape
    → IsBound problem shape bound → IsOver problem shape limit → IsBound problem shape (min bound limit)
lesser_bound problem shape bound limit grid is over = record {
  over = λ slope offset depth score scored inside. omega (arith, is.over slope offset depth score scored inside, over slope offset depth score scored inside);
  single = λ single.
      let key = is.single single in
      (key.0, key.1, omega (arith, key.2, over shape.a0 shape.b0 (least_depth shape) key.0 key.1 (first_inside problem.height (deepest problem.median) shape grid)));
  wide = λ wide. omega (arith, is.wide wide);
}

-- a shape of a small bound has no admitted key
pub none_below : (problem : GridProblem) (shape : Shape) (bound limit : ℕ) → IsInGrid problem.height (deepest problem.median) shape
    → IsOver problem shape bound → IsOver problem shape limit → min bound limit < 32212254720 → HasNoPoint problem shape
none_below problem shape bound limit grid over_bound over_limit small = λ key here lies.
    let inside = inside_of key problem shape grid.page here lies in
    let large : 32212254720 ≤ key = omega (arith, here.has_key, here.admissible.enough) in
    omega (arith, large, here.has_key, over_bound here.slope here.offset here.depth here.score here.admissible.scored inside, over_limit here.slope here.offset here.depth here.score here.admissible.scored inside)
