use Rattle.std.proofs.Common.{arith}
use Rattle.std.proofs.lemmas.Int.{ints}
use Rattle.line_counts.proofs.Ranges.{kept_in}
use Rattle.line_search.proofs.Ranges.{offsets_long}
use Rattle.line_search.proofs.parts.by_blocks.Goals as goal

pub returns-then-offsets-depths : goal.returns-then-offsets-depths
returns-then-offsets-depths c =
    let shape = c.args.shape.now in
    let grid = c.requires.in_grid in
    let kept = kept_in shape grid in
    offsets_long shape.a0 shape.a1 shape.b0 shape.b1 shape.c0 shape.c1 c.count.result c.count-offsets.result c.count-depths.result
    grid.some_slope grid.some_offset grid.some_depth (λ a b d. c.requires.wide (a, b, d))
    (rw (kept.a0, kept.a1) at c.count.ensures) (rw (kept.b0, kept.b1) at c.count-offsets.ensures) (rw (kept.c0, kept.c1) at c.count-depths.ensures)
    (omega (arith, ints, c.if-count-gt1.false, c.count.type_inv))
    (omega (arith, ints, c.if-offsets-depths.true, c.count-offsets.type_inv, c.count-depths.type_inv))
