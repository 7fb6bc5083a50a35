use Rattle.std.proofs.Common.{◌≡◌, ◌+◌, ◌*◌, ◌≤ℤ◌, ℤ, negsuc, get_or, to_z, of_z, w8, w16, arith, ap, ◌∙◌, sym}
use Rattle.std.proofs.lemmas.Int.{to_z-of_z}
use Rattle.line_quality.specs.Points.{IsSlope}
use Rattle.line_counts.specs.Fits.{first_place, segment_weight}
use Rattle.line_counts.specs.Table.{LivingPage}
use Rattle.line_counts.proofs.Places.{at_slope, at_offset}
use Rattle.line_counts.proofs.Rows.{before_small}
use Rattle.line_counts.proofs.Weighing.{weight_before, weight_none, weight_next, weight_all}
use Rattle.line_counts.proofs.counts.Counts.segment_weight.Goals as goal

held_line : (slope offset : ℤ) → to_z w8 (of_z w8 slope) ≡ slope → to_z w16 (of_z w16 offset) ≡ offset → IsSlope slope → negsuc 299 ≤ℤ offset
    → IsSlope (to_z w8 (of_z w8 slope)) × (negsuc 299 ≤ℤ to_z w16 (of_z w16 offset))
held_line slope offset slope_is offset_is in_slopes above = (at_slope IsSlope slope slope_is in_slopes, at_offset (λ (o : ℤ). negsuc 299 ≤ℤ o) offset offset_is above)

pub loop-behind-init : goal.loop-behind-init
loop-behind-init c =
    let page : LivingPage = c.args.self.now in
    let slope : ℤ = to_z w8 (of_z w8 c.args.slope) in
    let offset : ℤ = to_z w16 (of_z w16 c.args.offset) in
    let held = held_line c.args.slope c.args.offset (to_z-of_z w8 c.args.slope c.ranges.slope) (to_z-of_z w16 c.args.offset c.ranges.offset) c.requires.slope c.requires.low in
    sym (weight_none page.boxes page.gutters slope offset c.args.depth c.args.of_segment held.0 held.1 (first_place offset + 0) page.alive (omega arith))

pub loop-behind-preserved : goal.loop-behind-preserved
loop-behind-preserved c =
    let page : LivingPage = c.args.self.now in
    let slope : ℤ = to_z w8 (of_z w8 c.args.slope) in
    let offset : ℤ = to_z w16 (of_z w16 c.args.offset) in
    let held = held_line c.args.slope c.args.offset (to_z-of_z w8 c.args.slope c.ranges.slope) (to_z-of_z w16 c.args.offset c.ranges.offset) c.requires.slope c.requires.low in
    weight_next page.boxes page.gutters slope offset c.args.depth c.args.of_segment held.0 held.1 c.loop-behind.behind c.loop-behind.total
    (get_or c.row-count-items.result.now c.loop-behind.behind 0) c.weight_behind.result page.alive c.loop-behind.invariant
    (c.row-count-items.ensures.counts c.loop-behind.behind c.loop-behind-test.true) c.weight_behind.ensures.value

pub overflow_add-total : goal.overflow_add-total
overflow_add-total c =
    let page : LivingPage = c.args.self.now in
    let slope : ℤ = to_z w8 (of_z w8 c.args.slope) in
    let offset : ℤ = to_z w16 (of_z w16 c.args.offset) in
    let held = held_line c.args.slope c.args.offset (to_z-of_z w8 c.args.slope c.ranges.slope) (to_z-of_z w16 c.args.offset c.ranges.offset) c.requires.slope c.requires.low in
    let next : c.loop-behind.total + get_or c.row-count-items.result.now c.loop-behind.behind 0 * c.weight_behind.result
    ≡ weight_before page.boxes page.gutters slope offset c.args.depth c.args.of_segment (first_place offset + (c.loop-behind.behind + 1)) page.alive =
    weight_next page.boxes page.gutters slope offset c.args.depth c.args.of_segment held.0 held.1 c.loop-behind.behind c.loop-behind.total
    (get_or c.row-count-items.result.now c.loop-behind.behind 0) c.weight_behind.result page.alive c.loop-behind.invariant
    (c.row-count-items.ensures.counts c.loop-behind.behind c.loop-behind-test.true) c.weight_behind.ensures.value in
    omega (arith, next, before_small page slope offset c.args.depth c.args.of_segment (first_place offset + (c.loop-behind.behind + 1)) c.row-count-items.ensures.few)

pub returns-clause-value : goal.returns-clause-value
returns-clause-value c =
    let page : LivingPage = c.args.self.now in
    let slope : ℤ = to_z w8 (of_z w8 c.args.slope) in
    let offset : ℤ = to_z w16 (of_z w16 c.args.offset) in
    let slope_is : slope ≡ c.args.slope = to_z-of_z w8 c.args.slope c.ranges.slope in
    let offset_is : offset ≡ c.args.offset = to_z-of_z w16 c.args.offset c.ranges.offset in
    let held = held_line c.args.slope c.args.offset slope_is offset_is c.requires.slope c.requires.low in
    c.loop-behind.invariant
    ∙ weight_all page.boxes page.gutters slope offset c.args.depth c.args.of_segment held.0 held.1 (first_place offset + c.loop-behind.behind) page.alive
    (omega (arith, c.loop-behind-test.false, c.loop-behind.auto.behind-end, c.row-count-items.ensures.long))
    ∙ ap (λ (s : ℤ). segment_weight page.boxes page.gutters s offset c.args.depth c.args.of_segment page.alive) slope_is
    ∙ ap (λ (o : ℤ). segment_weight page.boxes page.gutters c.args.slope o c.args.depth c.args.of_segment page.alive) offset_is

pub returns-clause-small : goal.returns-clause-small
returns-clause-small c =
    omega (arith, c.loop-behind.invariant, before_small c.args.self.now (to_z w8 (of_z w8 c.args.slope)) (to_z w16 (of_z w16 c.args.offset)) c.args.depth c.args.of_segment (first_place (to_z w16 (of_z w16 c.args.offset)) + c.loop-behind.behind) c.row-count-items.ensures.few)
