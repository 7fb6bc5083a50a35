-- The root of the grid, and its steps.
use Rattle.std.proofs.Common.{◌≡◌, ℕ, ◌-◌, ◌*◌, ◌<◌, ◌≤◌, min, ℤ, pos, negsuc, ◌-ℤ◌, ◌≤ℤ◌, ◌<ℤ◌, arith, refl, sym, subst, List, [], ◌∷◌, ◌++◌, length, Option, Some, None, true, false, is_some, IfSome, IfNone, All, Any, map, cond, ◌⊎◌, ⊎_elim, inl, inr}
use Rattle.std.proofs.Math.Nat.{mul-lt-mul_of_pos_right, mul-lt-mul_of_pos_left, mul-pos}
use Rattle.std.proofs.lemmas.Int.{ints, by_lt_z}
use Rattle.std.proofs.lemmas.List.Elements.{All-nil, All-cons}
use Rattle.std.specs.Option.{option_to_list}
use Rattle.box_search.specs.declared.space.Shape.{Shape}
use Rattle.box_search.specs.declared.space.Node.{Node}
use Rattle.box_search.specs.Problems.{on_numbers, of_numbers}
use Rattle.box_search.specs.Search.{IsRoot, Settles, Splits}
use Rattle.box_search.specs.Shapes.{size, range_length, at_least_zero}
use Rattle.line_quality.specs.Keys.{line_key}
use Rattle.line_search.specs.declared.span.Span.{Span}
use Rattle.line_search.specs.Lines.{deepest}
use Rattle.line_search.specs.Problem.{GridProblem, grid_numbers, HasScore, HasPointOfKey, IsGridKey}
use Rattle.line_search.specs.ProblemLaws.{same_grid_problem}
use Rattle.line_counts.specs.Shapes.{IsInside, PointLiesIn, IsInGrid, IsSingle, whole_grid, least_depth}
use Rattle.line_search.specs.Bounds.{IsOver, HasWeighing, IsGridNode, FitsGrid}
use Rattle.line_search.specs.Parts.{half, AreHalves, HasNoPoint, IsGridSplit, IsPointAdmissible}
use Rattle.line_search.specs.GridLaws.{admitted_here, of_grid}
use Rattle.line_search.proofs.Heights.{HasCorners}
use Rattle.line_search.proofs.Bounding.{none_below, lesser_bound, first_inside}
use Rattle.line_search.proofs.Reaching.{part_reaching}
use Rattle.line_search.proofs.Ranges.{half_inside}
use borrow.Author.Differences.{up, down}

abbrev GridNode : Type 0
GridNode = Node Span

fits_here : (problem : GridProblem) (node : GridNode) → FitsGrid (grid_numbers problem) node → IsGridNode node problem
fits_here problem node fits = of_numbers grid_numbers same_grid_problem (IsGridNode node) problem fits

lies : (problem : GridProblem) (shape : Shape) (slope offset : ℤ) (depth score key : ℕ) → problem.height ≤ 8192 → HasScore problem slope offset depth score → line_key score slope offset depth ≡ key → IsInside slope offset depth shape → PointLiesIn key shape
lies problem shape slope offset depth score key high scored is inside =
    let on = of_grid problem score slope offset depth scored.point high in
    record {
      score = score;
      slope = slope;
      offset = offset;
      depth = depth;
      slope_in = on.slope_in;
      offset_in = on.offset_in;
      depth_in = on.depth_in;
      has_key = is;
      inside = inside;
    }

pub root_is : (problem : GridProblem) (node : GridNode) → node.shape ≡ whole_grid problem.height (deepest problem.median) → problem.height ≤ 8192 → IsGridNode node problem → IsRoot (IsGridKey (grid_numbers problem)) PointLiesIn (FitsGrid (grid_numbers problem)) node
root_is problem node whole high fit = record {
  fitting = on_numbers grid_numbers (IsGridNode node) problem fit;
  covering = λ key admitted.
      let found = admitted_here problem (grid_numbers problem) key refl admitted in
      let point = found.admissible.scored.point in
      lies problem node.shape found.slope found.offset found.depth found.score key high found.admissible.scored found.has_key (rw whole (record {
        from_slope = point.slope_in.low;
        to_slope = omega (arith, ints, point.slope_in.high);
        from_offset = point.low;
        to_offset = omega (arith, ints, point.high);
        from_depth = omega (arith, ints);
        to_depth = omega (arith, ints, point.shallow);
      }));
}

enough : (score : ℕ) (slope offset : ℤ) (depth : ℕ) (key : ℕ) → line_key score slope offset depth ≡ key → 32212254720 ≤ key → 60 ≤ score
enough score slope offset depth key is large = omega arith

few : (score : ℕ) (slope offset : ℤ) (depth : ℕ) (key : ℕ) → line_key score slope offset depth ≡ key → key < 32212254720 → 60 ≤ score → ⊥
few score slope offset depth key is small some = omega arith

pub settles_is : (problem : GridProblem) (node : GridNode) → FitsGrid (grid_numbers problem) node → IsSingle node.shape → 32212254720 ≤ node.bound → Settles (IsGridKey (grid_numbers problem)) PointLiesIn (FitsGrid (grid_numbers problem)) node node.bound
settles_is problem node fits single large =
    let at = fits_here problem node fits in
    let key = at.bounded.single single in
    record {
      admitted = on_numbers grid_numbers (HasPointOfKey node.bound) problem (record {
        slope = node.shape.a0;
        offset = node.shape.b0;
        depth = least_depth node.shape;
        score = key.0;
        has_key = key.2;
        admissible = record { scored = key.1; enough = enough key.0 node.shape.a0 node.shape.b0 (least_depth node.shape) node.bound key.2 large };
      });
      inside = lies problem node.shape node.shape.a0 node.shape.b0 (least_depth node.shape) key.0 node.bound at.in_grid.page key.1 key.2 (first_inside problem.height (deepest problem.median) node.shape at.in_grid);
      is_bound = refl;
    }

pub settled_score : (problem : GridProblem) (node : GridNode) → FitsGrid (grid_numbers problem) node → IsSingle node.shape → 32212254720 ≤ node.bound → (score : ℕ) × IsPointAdmissible problem node.shape score
settled_score problem node fits single large =
    let at = fits_here problem node fits in
    let key = at.bounded.single single in
    (key.0, record { scored = key.1; enough = enough key.0 node.shape.a0 node.shape.b0 (least_depth node.shape) node.bound key.2 large })

pub no_score : (problem : GridProblem) (node : GridNode) → FitsGrid (grid_numbers problem) node → node.bound < 32212254720 → (score : ℕ) → IsPointAdmissible problem node.shape score → ⊥
no_score problem node fits small score point =
    let at = fits_here problem node fits in
    let under = at.bounded.over node.shape.a0 node.shape.b0 (least_depth node.shape) score point.scored (first_inside problem.height (deepest problem.median) node.shape at.in_grid) in
    few score node.shape.a0 node.shape.b0 (least_depth node.shape) (line_key score node.shape.a0 node.shape.b0 (least_depth node.shape)) refl (omega (arith, under)) point.enough

pub nothing_is : (problem : GridProblem) (node : GridNode) → FitsGrid (grid_numbers problem) node → node.bound < 32212254720 → Splits (IsGridKey (grid_numbers problem)) PointLiesIn (FitsGrid (grid_numbers problem)) node []
nothing_is problem node fits small =
    let at = fits_here problem node fits in
    record {
      few = omega arith;
      fitting = All-nil (FitsGrid (grid_numbers problem));
      smaller = All-nil (λ (part : GridNode). size part.shape < size node.shape);
      bounded = All-nil (λ (part : GridNode). part.bound ≤ node.bound);
      covering = λ key admitted inside. absurd (none_below problem node.shape node.bound node.bound at.in_grid at.bounded.over at.bounded.over (omega arith) key (admitted_here problem (grid_numbers problem) key refl admitted) inside);
    }

zero_parts : (z : ℤ) → at_least_zero z ≡ up z - down z
zero_parts (pos n) = omega arith
zero_parts (negsuc n) = omega arith

shorter : (low high low' high' : ℤ) → low ≤ℤ low' → high' ≤ℤ high → (low <ℤ low') ⊎ (high' <ℤ high) → low' <ℤ high' → range_length low' high' < range_length low high
shorter low high low' high' a b c some = omega (arith, ints, zero_parts (high -ℤ low), zero_parts (high' -ℤ low'))

some_length : (low high : ℤ) → low <ℤ high → 0 < range_length low high
some_length low high some = omega (arith, ints, zero_parts (high -ℤ low))

product_a : (x y b c : ℕ) → x < y → 0 < b → 0 < c → x * b * c < y * b * c
product_a x y b c less hb hc = mul-lt-mul_of_pos_right (mul-lt-mul_of_pos_right less hb) hc

product_b : (x y a c : ℕ) → x < y → 0 < a → 0 < c → a * x * c < a * y * c
product_b x y a c less ha hc = mul-lt-mul_of_pos_right (mul-lt-mul_of_pos_left less ha) hc

product_c : (x y a b : ℕ) → x < y → 0 < a → 0 < b → a * b * x < a * b * y
product_c x y a b less ha hb = mul-lt-mul_of_pos_left less (mul-pos ha hb)

-- a part of a shape lies in the grid, is smaller, and has points of the shape only
pub record IsPartOf (height deep : ℕ) (shape part : Shape) : Type 0 where
  pub in_grid : IsInGrid height deep part
  pub smaller : size part < size shape
  pub inside : (slope offset : ℤ) (depth : ℕ) → IsInside slope offset depth part → IsInside slope offset depth shape
  pub least : shape.c0 ≤ℤ part.c0
  pub most : (part.c1 -ℤ pos 1) ≤ℤ (shape.c1 -ℤ pos 1)

-- its corners lie in the shape
corners_of : (height deep : ℕ) (shape part : Shape) → IsPartOf height deep shape part → HasCorners shape part
corners_of height deep shape part is =
    let first = first_inside height deep part is.in_grid in
    record {
      first = is.inside part.a0 part.b0 (least_depth part) first;
      last = is.inside (part.a1 -ℤ pos 1) (part.b1 -ℤ pos 1) (least_depth part) (record {
        from_slope = omega (arith, ints, is.in_grid.some_slope);
        to_slope = omega (arith, ints);
        from_offset = omega (arith, ints, is.in_grid.some_offset);
        to_offset = omega (arith, ints);
        from_depth = first.from_depth;
        to_depth = first.to_depth;
      });
      least = is.least;
      most = is.most;
    }

-- the part's ranges have numbers, all of which are the shape's
record LiesWithin (shape part : Shape) : Type 0 where
  from_slope : shape.a0 ≤ℤ part.a0
  some_slope : part.a0 <ℤ part.a1
  to_slope : part.a1 ≤ℤ shape.a1
  from_offset : shape.b0 ≤ℤ part.b0
  some_offset : part.b0 <ℤ part.b1
  to_offset : part.b1 ≤ℤ shape.b1
  from_depth : shape.c0 ≤ℤ part.c0
  some_depth : part.c0 <ℤ part.c1
  to_depth : part.c1 ≤ℤ shape.c1

part_of : (height deep : ℕ) (shape part : Shape) → IsInGrid height deep shape → LiesWithin shape part → size part < size shape → IsPartOf height deep shape part
part_of height deep shape part grid within smaller = record {
  in_grid = record {
    page = grid.page;
    depths = grid.depths;
    from_slope = omega (arith, ints, grid.from_slope, within.from_slope);
    some_slope = within.some_slope;
    to_slope = omega (arith, ints, grid.to_slope, within.to_slope);
    from_offset = omega (arith, ints, grid.from_offset, within.from_offset);
    some_offset = within.some_offset;
    to_offset = omega (arith, ints, grid.to_offset, within.to_offset);
    from_depth = omega (arith, ints, grid.from_depth, within.from_depth);
    some_depth = within.some_depth;
    to_depth = omega (arith, ints, grid.to_depth, within.to_depth);
  };
  smaller = smaller;
  inside = λ slope offset depth at. record {
    from_slope = omega (arith, ints, at.from_slope, within.from_slope);
    to_slope = omega (arith, ints, at.to_slope, within.to_slope);
    from_offset = omega (arith, ints, at.from_offset, within.from_offset);
    to_offset = omega (arith, ints, at.to_offset, within.to_offset);
    from_depth = omega (arith, ints, at.from_depth, within.from_depth);
    to_depth = omega (arith, ints, at.to_depth, within.to_depth);
  };
  least = within.from_depth;
  most = omega (arith, ints, within.to_depth);
}

kept_within : (a0 a1 b0 b1 c0 c1 : ℤ) (shape : Shape) → (shape.a0 ≤ℤ a0) × (a0 <ℤ a1) × (a1 ≤ℤ shape.a1) → (shape.b0 ≤ℤ b0) × (b0 <ℤ b1) × (b1 ≤ℤ shape.b1) → (shape.c0 ≤ℤ c0) × (c0 <ℤ c1) × (c1 ≤ℤ shape.c1)
    → LiesWithin shape (record { a0 = a0; a1 = a1; b0 = b0; b1 = b1; c0 = c0; c1 = c1 })
kept_within a0 a1 b0 b1 c0 c1 shape slopes offsets depths = record {
  from_slope = slopes.0;
  some_slope = slopes.1;
  to_slope = slopes.2;
  from_offset = offsets.0;
  some_offset = offsets.1;
  to_offset = offsets.2;
  from_depth = depths.0;
  some_depth = depths.1;
  to_depth = depths.2;
}

whole_range : (low high : ℤ) → low <ℤ high → (low ≤ℤ low) × (low <ℤ high) × (high ≤ℤ high)
whole_range low high some = (omega (arith, ints), some, omega (arith, ints))

module _ (height deep : ℕ) (shape : Shape) (grid : IsInGrid height deep shape) (low high : ℤ) (some : low <ℤ high) where
  slopes : (shape.a0 ≤ℤ shape.a0) × (shape.a0 <ℤ shape.a1) × (shape.a1 ≤ℤ shape.a1)
  slopes = whole_range shape.a0 shape.a1 grid.some_slope

  offsets : (shape.b0 ≤ℤ shape.b0) × (shape.b0 <ℤ shape.b1) × (shape.b1 ≤ℤ shape.b1)
  offsets = whole_range shape.b0 shape.b1 grid.some_offset

  depths : (shape.c0 ≤ℤ shape.c0) × (shape.c0 <ℤ shape.c1) × (shape.c1 ≤ℤ shape.c1)
  depths = whole_range shape.c0 shape.c1 grid.some_depth

  slopes_part : shape.a0 ≤ℤ low → high ≤ℤ shape.a1 → (shape.a0 <ℤ low) ⊎ (high <ℤ shape.a1) → IsPartOf height deep shape (record shape { a0 = low; a1 = high })
  unfolding size
  slopes_part from to less = part_of height deep shape (record shape { a0 = low; a1 = high }) grid
      (kept_within low high shape.b0 shape.b1 shape.c0 shape.c1 shape (from, some, to) offsets depths)
      (product_a (range_length low high) (range_length shape.a0 shape.a1) (range_length shape.b0 shape.b1) (range_length shape.c0 shape.c1) (shorter shape.a0 shape.a1 low high from to less some) (some_length shape.b0 shape.b1 grid.some_offset) (some_length shape.c0 shape.c1 grid.some_depth))

  offsets_part : shape.b0 ≤ℤ low → high ≤ℤ shape.b1 → (shape.b0 <ℤ low) ⊎ (high <ℤ shape.b1) → IsPartOf height deep shape (record shape { b0 = low; b1 = high })
  unfolding size
  offsets_part from to less = part_of height deep shape (record shape { b0 = low; b1 = high }) grid
      (kept_within shape.a0 shape.a1 low high shape.c0 shape.c1 shape slopes (from, some, to) depths)
      (product_b (range_length low high) (range_length shape.b0 shape.b1) (range_length shape.a0 shape.a1) (range_length shape.c0 shape.c1) (shorter shape.b0 shape.b1 low high from to less some) (some_length shape.a0 shape.a1 grid.some_slope) (some_length shape.c0 shape.c1 grid.some_depth))

  depths_part : shape.c0 ≤ℤ low → high ≤ℤ shape.c1 → (shape.c0 <ℤ low) ⊎ (high <ℤ shape.c1) → IsPartOf height deep shape (record shape { c0 = low; c1 = high })
  unfolding size
  depths_part from to less = part_of height deep shape (record shape { c0 = low; c1 = high }) grid
      (kept_within shape.a0 shape.a1 shape.b0 shape.b1 low high shape slopes offsets (from, some, to))
      (product_c (range_length low high) (range_length shape.c0 shape.c1) (range_length shape.a0 shape.a1) (range_length shape.b0 shape.b1) (shorter shape.c0 shape.c1 low high from to less some) (some_length shape.a0 shape.a1 grid.some_slope) (some_length shape.b0 shape.b1 grid.some_offset))

halves_are : (height deep : ℕ) (shape lower upper : Shape) → IsInGrid height deep shape → AreHalves shape lower upper → IsPartOf height deep shape lower × IsPartOf height deep shape upper
halves_are height deep shape lower upper grid (inl (long, is_lower, is_upper)) =
    let middle = half_inside shape.a0 shape.a1 long in
    let at : ℤ = half shape.a0 shape.a1 in (
      rw is_lower (slopes_part height deep shape grid shape.a0 at middle.0 (omega (arith, ints)) (omega (arith, ints, middle)) (inr middle.1)),
      rw is_upper (slopes_part height deep shape grid at shape.a1 middle.1 (omega (arith, ints, middle)) (omega (arith, ints)) (inl middle.0)),
    )
halves_are height deep shape lower upper grid (inr (inl (long, is_lower, is_upper))) =
    let middle = half_inside shape.b0 shape.b1 long in
    let at : ℤ = half shape.b0 shape.b1 in (
      rw is_lower (offsets_part height deep shape grid shape.b0 at middle.0 (omega (arith, ints)) (omega (arith, ints, middle)) (inr middle.1)),
      rw is_upper (offsets_part height deep shape grid at shape.b1 middle.1 (omega (arith, ints, middle)) (omega (arith, ints)) (inl middle.0)),
    )
halves_are height deep shape lower upper grid (inr (inr (long, is_lower, is_upper))) =
    let middle = half_inside shape.c0 shape.c1 long in
    let at : ℤ = half shape.c0 shape.c1 in (
      rw is_lower (depths_part height deep shape grid shape.c0 at middle.0 (omega (arith, ints)) (omega (arith, ints, middle)) (inr middle.1)),
      rw is_upper (depths_part height deep shape grid at shape.c1 middle.1 (omega (arith, ints, middle)) (omega (arith, ints)) (inl middle.0)),
    )

inside_half : (shape lower upper : Shape) → AreHalves shape lower upper → (slope offset : ℤ) (depth : ℕ) → IsInside slope offset depth shape → IsInside slope offset depth lower ⊎ IsInside slope offset depth upper
inside_half shape lower upper (inl (long, is_lower, is_upper)) slope offset depth within =
    by_lt_z slope (half shape.a0 shape.a1)
    (λ before. inl (rw is_lower (record { from_slope = within.from_slope; to_slope = before; from_offset = within.from_offset; to_offset = within.to_offset; from_depth = within.from_depth; to_depth = within.to_depth })))
    (λ after. inr (rw is_upper (record { from_slope = after; to_slope = within.to_slope; from_offset = within.from_offset; to_offset = within.to_offset; from_depth = within.from_depth; to_depth = within.to_depth })))
inside_half shape lower upper (inr (inl (long, is_lower, is_upper))) slope offset depth within =
    by_lt_z offset (half shape.b0 shape.b1)
    (λ before. inl (rw is_lower (record { from_slope = within.from_slope; to_slope = within.to_slope; from_offset = within.from_offset; to_offset = before; from_depth = within.from_depth; to_depth = within.to_depth })))
    (λ after. inr (rw is_upper (record { from_slope = within.from_slope; to_slope = within.to_slope; from_offset = after; to_offset = within.to_offset; from_depth = within.from_depth; to_depth = within.to_depth })))
inside_half shape lower upper (inr (inr (long, is_lower, is_upper))) slope offset depth within =
    by_lt_z (pos depth) (half shape.c0 shape.c1)
    (λ before. inl (rw is_lower (record { from_slope = within.from_slope; to_slope = within.to_slope; from_offset = within.from_offset; to_offset = within.to_offset; from_depth = within.from_depth; to_depth = before })))
    (λ after. inr (rw is_upper (record { from_slope = within.from_slope; to_slope = within.to_slope; from_offset = within.from_offset; to_offset = within.to_offset; from_depth = after; to_depth = within.to_depth })))

lies_half : (shape lower upper : Shape) → AreHalves shape lower upper → (key : ℕ) → PointLiesIn key shape → PointLiesIn key lower ⊎ PointLiesIn key upper
lies_half shape lower upper halves key at =
    let here : (part : Shape) → IsInside at.slope at.offset at.depth part → PointLiesIn key part = λ part inside. record {
      score = at.score;
      slope = at.slope;
      offset = at.offset;
      depth = at.depth;
      slope_in = at.slope_in;
      offset_in = at.offset_in;
      depth_in = at.depth_in;
      has_key = at.has_key;
      inside = inside;
    } in
    ⊎_elim (λ inside. inl (here lower inside)) (λ inside. inr (here upper inside)) (inside_half shape lower upper halves at.slope at.offset at.depth at.inside)

-- what a node hands on to a part
pub record IsHandedOn (problem : GridProblem) (node : GridNode) (part : Shape) : Type 0 where
  pub in_grid : IsInGrid problem.height (deepest problem.median) part
  pub over : IsOver problem part node.bound
  pub weighing : HasWeighing problem part node.work

handed : (problem : GridProblem) (node : GridNode) (part : Shape) → IsGridNode node problem → IsPartOf problem.height (deepest problem.median) node.shape part → IsHandedOn problem node part
handed problem node part fit is = record {
  in_grid = is.in_grid;
  over = λ slope offset depth score scored inside. fit.bounded.over slope offset depth score scored (is.inside slope offset depth inside);
  weighing = part_reaching problem node.shape part (corners_of problem.height (deepest problem.median) node.shape part is) node.work fit.near;
}

pub handed_on : (problem : GridProblem) (node : GridNode) (lower upper : Shape) → FitsGrid (grid_numbers problem) node → AreHalves node.shape lower upper → IsHandedOn problem node lower × IsHandedOn problem node upper
handed_on problem node lower upper fits halves =
    let fit = fits_here problem node fits in
    let parts = halves_are problem.height (deepest problem.median) node.shape lower upper fit.in_grid halves in
    (handed problem node lower fit parts.0, handed problem node upper fit parts.1)

-- a node keeps the lesser of its bound and another one
pub limited : (problem : GridProblem) (node : GridNode) (shape : Shape) (limit bound : ℕ) → IsGridNode node problem → node.shape ≡ shape → IsOver problem shape limit → bound ≡ min node.bound limit → IsGridNode (record { shape = node.shape; bound = bound; work = node.work }) problem
limited problem node shape limit bound fit same over is = record {
  in_grid = fit.in_grid;
  bounded = rw is (lesser_bound problem node.shape node.bound limit fit.in_grid fit.bounded (subst (λ (s : Shape). IsOver problem s limit) (sym same) over));
  near = fit.near;
}

-- and has no admissible point where that is small
pub too_low : (problem : GridProblem) (node : GridNode) (shape : Shape) (limit bound : ℕ) → IsGridNode node problem → node.shape ≡ shape → IsOver problem shape limit → bound ≡ min node.bound limit → bound < 32212254720 → HasNoPoint problem shape
too_low problem node shape limit bound fit same over is small =
    subst (λ (s : Shape). HasNoPoint problem s) same
    (none_below problem node.shape node.bound limit fit.in_grid fit.bounded.over (subst (λ (s : Shape). IsOver problem s limit) (sym same) over) (omega (arith, is, small)))

-- what `part` gives
pub record IsKeptHalf (problem : GridProblem) (shape : Shape) (limit : ℕ) (part : Option GridNode) : Type 0 where
  pub fitting : IfSome part (λ node. IsGridNode node problem)
  pub shaped : IfSome part (λ node. node.shape ≡ shape)
  pub bound : IfSome part (λ node. node.bound ≤ limit)
  pub none : IfNone part (HasNoPoint problem shape)

all_two : (P : GridNode → Type 0) (p q : Option GridNode) → IfSome p P → IfSome q P → All P (option_to_list p ++ option_to_list q)
all_two P (Some a) (Some b) h k = All-cons P a (b ∷ []) h (All-cons P b [] k (All-nil P))
all_two P (Some a) None h k = All-cons P a [] h (All-nil P)
all_two P None (Some b) h k = All-cons P b [] k (All-nil P)
all_two P None None h k = All-nil P

at_most_two : (p q : Option GridNode) → length (option_to_list p ++ option_to_list q) ≤ 2
at_most_two (Some a) (Some b) = omega arith
at_most_two (Some a) None = omega arith
at_most_two None (Some b) = omega arith
at_most_two None None = omega arith

length_some : (a : GridNode) (xs : List GridNode) → 0 < length (a ∷ xs)
length_some a xs = omega arith

covers : (P : Shape → Type 0) (lower upper : Shape) (p q : Option GridNode) → IfSome p (λ node. node.shape ≡ lower) → IfSome q (λ node. node.shape ≡ upper) → IfNone p (P lower → ⊥) → IfNone q (P upper → ⊥) → P lower ⊎ P upper → Any (λ node. P node.shape) (option_to_list p ++ option_to_list q)
covers P lower upper (Some a) q sa sq np nq (inl at) = (0, a, length_some a (option_to_list q), refl, subst P (sym sa) at)
covers P lower upper None q sa sq np nq (inl at) = absurd (np at)
covers P lower upper (Some a) (Some b) sa sb np nq (inr at) = (1, b, omega arith, refl, subst P (sym sb) at)
covers P lower upper None (Some b) sa sb np nq (inr at) = (0, b, omega arith, refl, subst P (sym sb) at)
covers P lower upper p None sp sa np nq (inr at) = absurd (nq at)

some_then : (P Q : GridNode → Type 0) (p : Option GridNode) → IfSome p P → ((node : GridNode) → P node → Q node) → IfSome p Q
some_then P Q (Some a) h f = f a h
some_then P Q None h f = tt

none_then : (P Q : Type 0) (p : Option GridNode) → IfNone p P → (P → Q) → IfNone p Q
none_then P Q (Some a) h f = tt
none_then P Q None h f = f h

pub splits_is : (problem : GridProblem) (node : GridNode) (lower upper : Shape) (p q : Option GridNode) → FitsGrid (grid_numbers problem) node → AreHalves node.shape lower upper → IsKeptHalf problem lower node.bound p → IsKeptHalf problem upper node.bound q → Splits (IsGridKey (grid_numbers problem)) PointLiesIn (FitsGrid (grid_numbers problem)) node (option_to_list p ++ option_to_list q)
splits_is problem node lower upper p q fits halves kept_lower kept_upper =
    let at = fits_here problem node fits in
    let parts = halves_are problem.height (deepest problem.median) node.shape lower upper at.in_grid halves in
    let Fits : GridNode → Type 0 = λ part. IsGridNode part problem in
    let Within : GridNode → Type 0 = λ part. FitsGrid (grid_numbers problem) part in
    let IsLower : GridNode → Type 0 = λ part. part.shape ≡ lower in
    let IsUpper : GridNode → Type 0 = λ part. part.shape ≡ upper in
    let Smaller : GridNode → Type 0 = λ part. size part.shape < size node.shape in
    record {
      few = omega (arith, at_most_two p q);
      fitting = all_two Within p q (some_then Fits Within p kept_lower.fitting (λ part h. on_numbers grid_numbers (IsGridNode part) problem h)) (some_then Fits Within q kept_upper.fitting (λ part h. on_numbers grid_numbers (IsGridNode part) problem h));
      smaller = all_two Smaller p q (some_then IsLower Smaller p kept_lower.shaped (λ part h. rw h parts.0.smaller)) (some_then IsUpper Smaller q kept_upper.shaped (λ part h. rw h parts.1.smaller));
      bounded = all_two (λ (part : GridNode). part.bound ≤ node.bound) p q kept_lower.bound kept_upper.bound;
      covering = λ key admitted inside.
          let found = admitted_here problem (grid_numbers problem) key refl admitted in
          covers (PointLiesIn key) lower upper p q kept_lower.shaped kept_upper.shaped
          (none_then _ (PointLiesIn key lower → ⊥) p kept_lower.none (λ h. h key found))
          (none_then _ (PointLiesIn key upper → ⊥) q kept_upper.none (λ h. h key found))
          (lies_half node.shape lower upper halves key inside);
    }

shapes_are : (lower upper : Shape) (p q : Option GridNode) → IfSome p (λ node. node.shape ≡ lower) → IfSome q (λ node. node.shape ≡ upper) → map (λ (node : GridNode). node.shape) (option_to_list p ++ option_to_list q) ≡ cond (is_some p) (lower ∷ []) [] ++ cond (is_some q) (upper ∷ []) []
shapes_are lower upper (Some a) (Some b) sa sb = cc
shapes_are lower upper (Some a) None sa sb = cc
shapes_are lower upper None (Some b) sa sb = cc
shapes_are lower upper None None sa sb = refl

left_out : (P : Type 0) (p : Option GridNode) → IfNone p P → is_some p ≡ false → P
left_out P (Some a) h e = absurd (let no : true ≡ false = e in cc)
left_out P None h e = h

pub cut_is : (problem : GridProblem) (node : GridNode) (lower upper : Shape) (p q : Option GridNode) → AreHalves node.shape lower upper → IsKeptHalf problem lower node.bound p → IsKeptHalf problem upper node.bound q → IsGridSplit problem node.shape (option_to_list p ++ option_to_list q)
cut_is problem node lower upper p q halves kept_lower kept_upper = record {
  lower = lower;
  upper = upper;
  keep_lower = is_some p;
  keep_upper = is_some q;
  halves = halves;
  are = shapes_are lower upper p q kept_lower.shaped kept_upper.shaped;
  no_lower = λ e. left_out _ p kept_lower.none e;
  no_upper = λ e. left_out _ q kept_upper.none e;
}
