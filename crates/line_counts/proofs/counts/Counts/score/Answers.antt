use Rattle.std.proofs.Common.{◌≡◌, ◌+◌, ◌<◌, ◌≤◌, ℕ, ℤ, List, length, get_or, to_z, of_z, w8, w16, eqb, cond, arith, ap, ◌∙◌, sym, refl}
use Rattle.std.proofs.Math.ListN.{length-set}
use Rattle.std.proofs.lemmas.Int.{to_z-of_z}
use Rattle.layout_geom.specs.declared.rect.Rect.{Rect}
use Rattle.line_quality.specs.Scores.{group_weight}
use Rattle.line_counts.specs.Fits.{column_of_segment, segment_weight}
use Rattle.line_counts.specs.Table.{LivingPage}
use Rattle.line_counts.proofs.Counting.{zero_at}
use Rattle.line_counts.proofs.Segments.{column_weight, column_none, column_more, column_all, column_small, sums_next}
use Rattle.line_counts.proofs.counts.Counts.score.Goals as goal

pub loop-of_segment-init : goal.loop-of_segment-init
loop-of_segment-init c = record {
  long = refl;
  sums = λ in_column. zero_at 73 in_column
      ∙ sym (column_none c.args.self.now.boxes c.args.self.now.gutters (to_z w8 (of_z w8 c.args.slope)) (to_z w16 (of_z w16 c.args.offset)) c.args.depth in_column c.args.self.now.alive);
}

pub overflow_add-sums : goal.overflow_add-sums
overflow_add-sums c =
    let page : LivingPage = c.args.self.now in
    let few : length page.alive ≤ 60000 = omega (arith, c.self.invariant.countable.few_alive, ap (λ (p : LivingPage). length p.alive) c.self.view_is) in
    omega (
      arith,
      few,
      c.segment_weight.ensures.small,
      c.loop-of_segment.invariant.sums (get_or c.columns-columns.result c.loop-of_segment.of_segment 0),
      column_small page.boxes page.gutters (to_z w8 (of_z w8 c.args.slope)) (to_z w16 (of_z w16 c.args.offset)) c.args.depth c.loop-of_segment.of_segment (get_or c.columns-columns.result c.loop-of_segment.of_segment 0) page.alive,
    )

pub loop-of_segment-preserved : goal.loop-of_segment-preserved
loop-of_segment-preserved c =
    let page : LivingPage = c.args.self.now in
    let slope : ℤ = to_z w8 (of_z w8 c.args.slope) in
    let offset : ℤ = to_z w16 (of_z w16 c.args.offset) in
    let sums : List ℕ = c.loop-of_segment.sums in
    let segment = c.loop-of_segment.of_segment in
    let w = c.segment_weight.result in
    let d = (get_or c.columns-columns.result c.loop-of_segment.of_segment 0) in
    let same : c.self.inside.gutters ≡ page.gutters = ap (λ (p : LivingPage). p.gutters) c.self.view_is in
    let column_is : d ≡ column_of_segment slope offset page.gutters segment = c.columns-columns.ensures.value segment (omega (arith, c.loop-of_segment-test.true, c.len-of_segment-end.ensures.value, c.self.invariant.countable.few_gutters)) ∙ ap (λ (gs : List Rect). column_of_segment slope offset gs segment) same in
    let within : d < length sums = omega (arith, c.loop-of_segment.invariant.long, c.columns-columns.ensures.few segment, c.self.invariant.countable.few_gutters) in
    record {
      long = length-set sums d (get_or sums d 0 + w) ∙ c.loop-of_segment.invariant.long;
      sums = sums_next sums d w (λ k. column_weight page.boxes page.gutters slope offset c.args.depth segment k page.alive) (λ k. column_weight page.boxes page.gutters slope offset c.args.depth (segment + 1) k page.alive) within
          c.loop-of_segment.invariant.sums
          (λ k.
          column_more page.boxes page.gutters slope offset c.args.depth segment k page.alive
          ∙ ap (λ (n : ℕ). column_weight page.boxes page.gutters slope offset c.args.depth segment k page.alive + n)
          (ap (λ (at : ℕ). cond (eqb at k) (segment_weight page.boxes page.gutters slope offset c.args.depth segment page.alive) 0) (sym column_is)
          ∙ ap (λ (n : ℕ). cond (eqb d k) n 0) (sym c.segment_weight.ensures.value)));
    }

pub returns-clause-score : goal.returns-clause-score
returns-clause-score c =
    let page : LivingPage = c.args.self.now in
    let slope : ℤ = to_z w8 (of_z w8 c.args.slope) in
    let offset : ℤ = to_z w16 (of_z w16 c.args.offset) in
    let sums : List ℕ = c.loop-of_segment.sums in
    let last : c.loop-of_segment.of_segment ≡ length page.gutters + 1 =
    omega (arith, c.loop-of_segment-test.false, c.loop-of_segment.auto.of_segment-end, c.len-of_segment-end.ensures.value, ap (λ (p : LivingPage). length p.gutters) c.self.view_is) in
    let total : (k : ℕ) → get_or sums k 0 ≡ group_weight c.args.slope c.args.offset c.args.depth page.boxes page.gutters k page.alive = λ k.
    c.loop-of_segment.invariant.sums k
    ∙ ap (λ (n : ℕ). column_weight page.boxes page.gutters slope offset c.args.depth n k page.alive) last
    ∙ column_all page.boxes page.gutters slope offset c.args.depth k page.alive
    ∙ ap (λ (s : ℤ). group_weight s offset c.args.depth page.boxes page.gutters k page.alive) (to_z-of_z w8 c.args.slope c.ranges.slope)
    ∙ ap (λ (o : ℤ). group_weight c.args.slope o c.args.depth page.boxes page.gutters k page.alive) (to_z-of_z w16 c.args.offset c.ranges.offset) in
    record {
      reached = sym (total c.greatest.result.column) ∙ c.greatest.ensures.reached;
      greatest = λ other. omega (arith, total other, c.greatest.ensures.greatest other);
      least = λ other before. omega (arith, total other, c.greatest.ensures.least other before);
    }

pub returns-clause-small : goal.returns-clause-small
returns-clause-small c =
    let page : LivingPage = c.args.self.now in
    let few : length page.alive ≤ 60000 = omega (arith, c.self.invariant.countable.few_alive, ap (λ (p : LivingPage). length p.alive) c.self.view_is) in
    omega (
      arith,
      few,
      c.greatest.ensures.reached,
      c.loop-of_segment.invariant.sums c.greatest.result.column,
      column_small page.boxes page.gutters (to_z w8 (of_z w8 c.args.slope)) (to_z w16 (of_z w16 c.args.offset)) c.args.depth c.loop-of_segment.of_segment c.greatest.result.column page.alive,
    )
