use Rattle.std.proofs.Common.{◌≡◌, ◌∙◌, ◌+ℤ◌, ℤ, pos, w8, w16, arith, ap}
use Rattle.std.proofs.lemmas.Int.{to_z-of_z}
use Rattle.line_quality.specs.Points.{height_at, middle_of, foot_gap, deviation, weight_at}
use Rattle.line_quality.proofs.Heights.{gap_is, descent_gap_is}
use Rattle.line_quality.proofs.point.weight.Goals as goal

pub returns-clause-value : goal.returns-clause-value
returns-clause-value c =
    let r = c.args.rect.now in
    let h : ℤ = height_at c.args.slope c.args.offset (middle_of r) in
    let held = c.height_at-height.ensures in
    let height : c.height_at-height.result ≡ h =
    rw (to_z-of_z w8 c.args.slope c.ranges.slope, to_z-of_z w16 c.args.offset c.ranges.offset, c.middle.ensures.value) at held.value in
    let first : c.abs_diff.result ≡ foot_gap h r =
    c.abs_diff.ensures ∙ gap_is h c.height_at-height.result r.y1 c.y1-foot.result height c.y1-foot.ensures.value (held.low, held.high) (omega arith) in
    let second : c.abs_diff-2.result ≡ foot_gap (h +ℤ pos c.args.depth) r =
    c.abs_diff-2.ensures ∙ descent_gap_is h c.height_at-height.result r.y1 c.y1-foot.result c.args.depth height c.y1-foot.ensures.value (omega arith) (held.low, held.high) (omega arith) in
    let nearer : c.min.result ≡ deviation c.args.slope c.args.offset c.args.depth r = omega (arith, c.min.ensures, first, second) in
    c.weight_at.ensures.value ∙ ap weight_at nearer
