use Rattle.std.proofs.Common.{arith, ◌≡◌, ◌∙◌, refl, int_lt, int_le, pos}
use Rattle.line_counts.specs.Plain.{lowest, highest}
use Rattle.line_quality.specs.Points.{middle_of}
use Rattle.line_search.proofs.Ranges.{compared, both_hold, first_fails}
use Rattle.line_search.proofs.bound.all_cross.Goals as goal

pub returns-then-y0-lowest : goal.returns-then-y0-lowest
returns-then-y0-lowest c =
    let same = compared c.y0.result c.y1.result c.heights-lowest.result.0 c.heights-lowest.result.1 (omega arith) (omega arith) c.heights-lowest.ensures.low.0 c.heights-lowest.ensures.low.1 c.heights-lowest.ensures.high.0 c.heights-lowest.ensures.high.1 in
    let left : int_lt (pos c.y0.result) c.heights-lowest.result.0 ≡ int_lt (pos c.args.gutter.now.y0) (lowest c.args.shape.now (middle_of c.args.gutter.now)) = rw (c.y0.ensures.value, c.heights-lowest.ensures.lowest, c.middle.ensures.value) refl in
    let right : int_le c.heights-lowest.result.1 (pos c.y1.result) ≡ int_le (highest c.args.shape.now (middle_of c.args.gutter.now)) (pos c.args.gutter.now.y1) = rw (c.y1.ensures.value, c.heights-lowest.ensures.highest, c.middle.ensures.value) refl in
    both_hold _ _ _ _ c.if-y0-lowest.true (same.0 ∙ left) (same.1 ∙ right)

pub returns-else-y0-lowest : goal.returns-else-y0-lowest
returns-else-y0-lowest c =
    let same = compared c.y0.result 0 c.heights-lowest.result.0 c.heights-lowest.result.1 (omega arith) (omega arith) c.heights-lowest.ensures.low.0 c.heights-lowest.ensures.low.1 c.heights-lowest.ensures.high.0 c.heights-lowest.ensures.high.1 in
    let left : int_lt (pos c.y0.result) c.heights-lowest.result.0 ≡ int_lt (pos c.args.gutter.now.y0) (lowest c.args.shape.now (middle_of c.args.gutter.now)) = rw (c.y0.ensures.value, c.heights-lowest.ensures.lowest, c.middle.ensures.value) refl in
    first_fails _ _ (int_le (highest c.args.shape.now (middle_of c.args.gutter.now)) (pos c.args.gutter.now.y1)) c.if-y0-lowest.false (same.0 ∙ left)
