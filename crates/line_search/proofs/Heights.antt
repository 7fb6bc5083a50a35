-- How near the lines of a shape pass to a box, and what the box can weigh for them.
use Rattle.std.proofs.Common.{ℕ, ◌+◌, ◌≤◌, min, ℤ, pos, ◌+ℤ◌, ◌-ℤ◌, ◌≤ℤ◌, arith, Option, Some, None}
use Rattle.std.proofs.lemmas.Int.{ints}
use Rattle.layout_geom.specs.declared.rect.Rect.{Rect}
use Rattle.box_search.specs.declared.space.Shape.{Shape}
use Rattle.line_quality.specs.Points.{height_at, middle_of, foot_gap, deviation}
use Rattle.line_quality.specs.Scores.{weight_of}
use Rattle.line_counts.specs.Shapes.{IsInside, IsInGrid, least_depth}
use Rattle.line_counts.specs.Plain.{lowest, highest, gap_to, plain_distance, plain_weight}
use Rattle.line_counts.proofs.Growing.{gap_within, grows, before, weights_fall, between, gap_shrinks}
use Rattle.line_search.specs.Bounds.{distance, most_weight}

nearer : (a b c d e f : ℕ) → a + b ≤ e → c + d ≤ f → min (a + b) (c + d) ≤ min e f
nearer a b c d e f h k = omega arith

pub weight_below : (shape : Shape) (slope offset : ℤ) (depth : ℕ) → IsInside slope offset depth shape → (o : Option Rect)
    → weight_of slope offset depth o ≤ most_weight shape o
weight_below shape slope offset depth inside (Some r) =
    let x : ℕ = middle_of r in
    let h : ℤ = height_at slope offset x in
    let line = between shape slope offset depth inside x in
    let line_gap : gap_to (lowest shape x) (highest shape x) r ≤ foot_gap h r = gap_within (lowest shape x) h (highest shape x) r.y1 line.0 line.1 in
    let descent_gap : gap_to (lowest shape x +ℤ shape.c0) (highest shape x +ℤ (shape.c1 -ℤ pos 1)) r ≤ foot_gap (h +ℤ pos depth) r =
    gap_within (lowest shape x +ℤ shape.c0) (h +ℤ pos depth) (highest shape x +ℤ (shape.c1 -ℤ pos 1)) r.y1
    (grows (lowest shape x) h shape.c0 (pos depth) line.0 inside.from_depth)
    (grows h (highest shape x) (pos depth) (shape.c1 -ℤ pos 1) line.1 (before (pos depth) shape.c1 inside.to_depth)) in
    weights_fall (distance shape r) (deviation slope offset depth r) (nearer _ _ _ _ _ _ line_gap descent_gap)
weight_below shape slope offset depth inside None = omega arith

-- a box can weigh no more than by the plain distance
pub plain_above : (height deep : ℕ) (shape : Shape) → IsInGrid height deep shape → (o : Option Rect) → most_weight shape o ≤ plain_weight shape o
plain_above height deep shape grid (Some r) =
    let x : ℕ = middle_of r in
    let low : ℤ = lowest shape x in
    let high : ℤ = highest shape x in
    let last : ℤ = high +ℤ (shape.c1 -ℤ pos 1) in
    let line : gap_to low last r ≤ gap_to low high r =
    gap_shrinks low low last high r.y1 (omega (arith, ints)) (omega (arith, ints, grid.from_depth, grid.some_depth)) in
    let descent : gap_to low last r ≤ gap_to (low +ℤ shape.c0) last r =
    gap_shrinks low (low +ℤ shape.c0) last last r.y1 (omega (arith, ints, grid.from_depth)) (omega (arith, ints)) in
    weights_fall (plain_distance shape r) (distance shape r) (omega (arith, line, descent))
plain_above height deep shape grid None = omega arith

-- the first and the last corner of a shape
pub record HasCorners (shape part : Shape) : Type 0 where
  pub first : IsInside part.a0 part.b0 (least_depth part) shape
  pub last : IsInside (part.a1 -ℤ pos 1) (part.b1 -ℤ pos 1) (least_depth part) shape
  pub least : shape.c0 ≤ℤ part.c0
  pub most : (part.c1 -ℤ pos 1) ≤ℤ (shape.c1 -ℤ pos 1)

-- a box can weigh no more for the lines of a part
pub reach_shrinks : (shape part : Shape) → HasCorners shape part → (o : Option Rect) → most_weight part o ≤ most_weight shape o
reach_shrinks shape part corners (Some r) =
    let x : ℕ = middle_of r in
    let low = (between shape part.a0 part.b0 (least_depth part) corners.first x).0 in
    let high = (between shape (part.a1 -ℤ pos 1) (part.b1 -ℤ pos 1) (least_depth part) corners.last x).1 in
    let line : gap_to (lowest shape x) (highest shape x) r ≤ gap_to (lowest part x) (highest part x) r =
    gap_shrinks (lowest shape x) (lowest part x) (highest shape x) (highest part x) r.y1 low high in
    let descent : gap_to (lowest shape x +ℤ shape.c0) (highest shape x +ℤ (shape.c1 -ℤ pos 1)) r
    ≤ gap_to (lowest part x +ℤ part.c0) (highest part x +ℤ (part.c1 -ℤ pos 1)) r =
    gap_shrinks (lowest shape x +ℤ shape.c0) (lowest part x +ℤ part.c0) (highest shape x +ℤ (shape.c1 -ℤ pos 1)) (highest part x +ℤ (part.c1 -ℤ pos 1)) r.y1
    (grows (lowest shape x) (lowest part x) shape.c0 part.c0 low corners.least)
    (grows (highest part x) (highest shape x) (part.c1 -ℤ pos 1) (shape.c1 -ℤ pos 1) high corners.most) in
    weights_fall (distance shape r) (distance part r) (nearer _ _ _ _ _ _ line descent)
reach_shrinks shape part corners None = omega arith
