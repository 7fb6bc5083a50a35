use Rattle.std.proofs.Common.{◌≡◌, ◌∙◌, ◌+ℤ◌, ◌-ℤ◌, pos, arith, ap}
use Rattle.std.proofs.lemmas.Int.{ints}
use Rattle.line_quality.specs.Points.{middle_of, weight_at}
use Rattle.line_counts.specs.Plain.{lowest, highest, gap_to}
use Rattle.line_search.specs.Bounds.{distance}
use Rattle.line_search.proofs.Ranges.{back_32, lower_is, lower_less_is}
use Rattle.line_search.proofs.bound.most_weight.Goals as goal

pub returns-clause-value : goal.returns-clause-value
returns-clause-value c =
    let shape = c.args.shape.now in
    let grid = c.requires in
    let r = c.args.rect.now in
    let at = c.heights-lowest.ensures in
    let low = c.heights-lowest.result.0 in
    let high = c.heights-lowest.result.1 in
    let is_low : low ≡ lowest shape (middle_of r) = at.lowest ∙ ap (lowest shape) c.middle.ensures.value in
    let is_high : high ≡ highest shape (middle_of r) = at.highest ∙ ap (highest shape) c.middle.ensures.value in
    let line : c.gap_to-from_line.result ≡ gap_to low high r =
    rw (back_32 low at.low.0 at.low.1, back_32 high at.high.0 at.high.1, c.y1-foot.ensures.value) at c.gap_to-from_line.ensures in
    let descenders : c.gap_to-from_descenders.result ≡ gap_to (low +ℤ shape.c0) (high +ℤ (shape.c1 -ℤ pos 1)) r =
    rw (
      lower_is low shape.c0 at.low.0 at.low.1 grid.from_depth (omega (arith, ints, grid.some_depth, grid.to_depth)),
      lower_less_is high shape.c1 at.high.0 at.high.1 (omega (arith, ints, grid.from_depth, grid.some_depth)) (omega (arith, ints, grid.to_depth)),
      c.y1-foot.ensures.value,
    ) at c.gap_to-from_descenders.ensures in
    let nearer : c.min.result ≡ distance shape r = rw (← is_low, ← is_high) (omega (arith, c.min.ensures, line, descenders)) in
    c.weight_at.ensures.value ∙ ap weight_at nearer
