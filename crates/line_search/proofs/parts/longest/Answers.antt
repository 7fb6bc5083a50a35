use Rattle.std.proofs.Common.{◌≤ℤ◌, arith}
use Rattle.std.proofs.lemmas.Int.{ints}
use Rattle.line_counts.proofs.Ranges.{kept_in}
use Rattle.line_search.proofs.Ranges.{chosen_long}
use Rattle.line_search.proofs.parts.longest.Goals as goal
use Rattle.line_search.proofs.parts.longest.Goals.{else-by_offsets-by_slopes-via-then-by_offsets-by_slopes+else-by_offsets-by_depths, else-by_offsets-by_slopes-via-else-by_offsets-by_slopes}

pub returns-then-by_offsets-by_depths : goal.returns-then-by_offsets-by_depths
returns-then-by_offsets-by_depths c =
    let shape = c.args.shape.now in
    let grid = c.requires.in_grid in
    let kept = kept_in shape grid in
    chosen_long shape.b0 shape.b1 shape.a0 shape.a1 shape.c0 shape.c1 c.gain-by_offsets.result c.gain-by_slopes.result c.gain-by_depths.result
    grid.some_offset grid.some_slope grid.some_depth (λ b a d. c.requires.wide (a, b, d))
    (λ h. c.gain-by_offsets.ensures.none (omega (arith, ints, kept.b0, kept.b1, h)))
    (λ h. c.gain-by_slopes.ensures.some (omega (arith, ints, kept.a0, kept.a1, h)))
    (λ h. c.gain-by_depths.ensures.some (omega (arith, ints, kept.c0, kept.c1, h)))
    (omega (arith, ints, c.if-by_offsets-by_slopes.true, c.gain-by_slopes.type_inv, c.gain-by_offsets.type_inv))
    (omega (arith, ints, c.if-by_offsets-by_depths.true, c.gain-by_depths.type_inv, c.gain-by_offsets.type_inv))

pub returns-then-by_slopes-by_depths : goal.returns-then-by_slopes-by_depths
returns-then-by_slopes-by_depths c =
    let shape = c.args.shape.now in
    let grid = c.requires.in_grid in
    let kept = kept_in shape grid in
    let over_depths : c.gain-by_depths.result ≤ℤ c.gain-by_slopes.result = omega (arith, ints, c.if-by_slopes-by_depths.true, c.gain-by_slopes.type_inv, c.gain-by_depths.type_inv) in
    let over_offsets : c.gain-by_offsets.result ≤ℤ c.gain-by_slopes.result = elim c.else-by_offsets-by_slopes.branch [
      | else-by_offsets-by_slopes-via-then-by_offsets-by_slopes+else-by_offsets-by_depths w ↦ omega (arith, ints, over_depths, w.if-by_offsets-by_depths.false, c.gain-by_offsets.type_inv, c.gain-by_depths.type_inv)
      | else-by_offsets-by_slopes-via-else-by_offsets-by_slopes w ↦ omega (arith, ints, w.if-by_offsets-by_slopes.false, c.gain-by_offsets.type_inv, c.gain-by_slopes.type_inv)
    ] in
    chosen_long shape.a0 shape.a1 shape.b0 shape.b1 shape.c0 shape.c1 c.gain-by_slopes.result c.gain-by_offsets.result c.gain-by_depths.result
    grid.some_slope grid.some_offset grid.some_depth (λ a b d. c.requires.wide (a, b, d))
    (λ h. c.gain-by_slopes.ensures.none (omega (arith, ints, kept.a0, kept.a1, h)))
    (λ h. c.gain-by_offsets.ensures.some (omega (arith, ints, kept.b0, kept.b1, h)))
    (λ h. c.gain-by_depths.ensures.some (omega (arith, ints, kept.c0, kept.c1, h)))
    over_offsets over_depths

pub returns-else-by_slopes-by_depths : goal.returns-else-by_slopes-by_depths
returns-else-by_slopes-by_depths c =
    let shape = c.args.shape.now in
    let grid = c.requires.in_grid in
    let kept = kept_in shape grid in
    let over_slopes : c.gain-by_slopes.result ≤ℤ c.gain-by_depths.result = omega (arith, ints, c.if-by_slopes-by_depths.false, c.gain-by_slopes.type_inv, c.gain-by_depths.type_inv) in
    let over_offsets : c.gain-by_offsets.result ≤ℤ c.gain-by_depths.result = elim c.else-by_offsets-by_slopes.branch [
      | else-by_offsets-by_slopes-via-then-by_offsets-by_slopes+else-by_offsets-by_depths w ↦ omega (arith, ints, w.if-by_offsets-by_depths.false, c.gain-by_offsets.type_inv, c.gain-by_depths.type_inv)
      | else-by_offsets-by_slopes-via-else-by_offsets-by_slopes w ↦ omega (arith, ints, over_slopes, w.if-by_offsets-by_slopes.false, c.gain-by_offsets.type_inv, c.gain-by_slopes.type_inv)
    ] in
    chosen_long shape.c0 shape.c1 shape.a0 shape.a1 shape.b0 shape.b1 c.gain-by_depths.result c.gain-by_slopes.result c.gain-by_offsets.result
    grid.some_depth grid.some_slope grid.some_offset (λ d a b. c.requires.wide (a, b, d))
    (λ h. c.gain-by_depths.ensures.none (omega (arith, ints, kept.c0, kept.c1, h)))
    (λ h. c.gain-by_slopes.ensures.some (omega (arith, ints, kept.a0, kept.a1, h)))
    (λ h. c.gain-by_offsets.ensures.some (omega (arith, ints, kept.b0, kept.b1, h)))
    over_slopes over_offsets
