use Rattle.std.proofs.Common.{◌≡◌, ◌*◌, ◌≤◌, ℕ, List, length, get_or, inl, inr, arith, ap, sym, subst}
use Rattle.line_counts.specs.declared.stretch.Stretch.{Stretch}
use Rattle.line_counts.specs.Table.{LivingPage}
use Rattle.line_counts.specs.Tops.{WeighAtMost}
use Rattle.line_counts.proofs.Heaviest.{score_low}
use Rattle.line_counts.proofs.Running.{AreSummed, sums_begin, room_for, next_part, next_segment, all_summed}
use Rattle.line_counts.proofs.counts.Counts.most_of.Goals as goal
use Rattle.line_counts.proofs.counts.Counts.most_of.Goals.{then-cuts-of_segment, else-cuts-of_segment}

pub loop-of_segment-init : goal.loop-of_segment-init
loop-of_segment-init c = sums_begin c.args.self.now c.args.stretch.now (λ part. WeighAtMost part 0)

-- counts weigh no more than more
no_more : (most more : ℕ) → most ≤ more → (part : List ℕ) → WeighAtMost part most → WeighAtMost part more
no_more most more order part low m d less deep = omega (arith, order, low m d less deep)

pub add_counts-requires-clause-room : goal.add_counts-requires-clause-room
add_counts-requires-clause-room c =
    room_for c.args.self.now c.args.stretch.now c.loop-of_segment.of_segment c.if-cuts-of_segment.sums c.as_mut_slice.result.now
    (elim c.if-cuts-of_segment.branch [
      | then-cuts-of_segment w ↦ inl w.sums-is
      | else-cuts-of_segment w ↦ inr (subst (λ (xs : List ℕ). (k : ℕ) → get_or xs k 0 ≤ c.loop-of_segment.of_segment * 65535) (sym w.sums-is) c.loop-of_segment.invariant.running.small)
    ])
    c.as_mut_slice.ensures.value
    (omega (arith, c.loop-of_segment-test.true, c.len-of_segment-end.ensures.value, c.self.invariant.countable.few_gutters))

pub loop-of_segment-preserved : goal.loop-of_segment-preserved
loop-of_segment-preserved c =
    let page : LivingPage = c.args.self.now in
    let stretch : Stretch = c.args.stretch.now in
    let n = c.loop-of_segment.of_segment in
    let was = c.loop-of_segment.most in
    let most = c.if-cuts-of_segment.most in
    let sums : List ℕ = c.if-cuts-of_segment.sums in
    let held = c.loop-of_segment.invariant in
    let ready : AreSummed page stretch n (λ part. WeighAtMost part most) sums = elim c.if-cuts-of_segment.branch [
      | then-cuts-of_segment w ↦
          subst (AreSummed page stretch n (λ part. WeighAtMost part most)) (sym w.sums-is)
          (next_part page stretch n (λ part. WeighAtMost part was) (λ part. WeighAtMost part most) c.loop-of_segment.sums (c.cuts-cuts.ensures n w.if-cuts-of_segment.true)
          (no_more was most (omega (arith, w.most-is, w.max-most.ensures)))
          (no_more w.sums_most.result most (omega (arith, w.most-is, w.max-most.ensures)) c.loop-of_segment.sums w.sums_most.ensures)
          held)
      | else-cuts-of_segment w ↦
          subst (λ (m : ℕ). AreSummed page stretch n (λ part. WeighAtMost part m) sums) (sym w.most-is)
          (subst (AreSummed page stretch n (λ part. WeighAtMost part was)) (sym w.sums-is) held)
    ] in
    next_segment page stretch n (λ part. WeighAtMost part most) sums c.as_mut_slice.result.now c.add_counts.new.sums c.as_mut_slice.ensures.value
    c.add_counts.ensures.long c.add_counts.ensures.more c.add_counts.ensures.small ready

pub returns-clause-over : goal.returns-clause-over
returns-clause-over c = λ more depth score k less deep scored.
    let gutters_are : length c.self.inside.gutters ≡ length c.args.self.now.gutters = ap (λ (p : LivingPage). length p.gutters) c.self.view_is in
    let held = all_summed c.args.self.now c.args.stretch.now c.loop-of_segment.of_segment (λ part. WeighAtMost part c.loop-of_segment.most) (λ part. WeighAtMost part c.max.result) c.loop-of_segment.sums
    (omega (arith, c.loop-of_segment-test.false, c.loop-of_segment.auto.of_segment-end, c.len-of_segment-end.ensures.value, gutters_are))
    (no_more c.loop-of_segment.most c.max.result (omega (arith, c.max.ensures)))
    (no_more c.sums_most-2.result c.max.result (omega (arith, c.max.ensures)) c.loop-of_segment.sums c.sums_most-2.ensures)
    c.loop-of_segment.invariant more k less in
    omega (
      arith,
      score_low c.args.self.now c.args.stretch.now more depth score k held.0 c.requires.of_page.slope_in c.requires.of_page.low less deep held.1 scored,
      held.2 more depth (omega (arith, less, c.requires.few)) (omega (arith, deep, c.requires.of_page.shallow)),
    )
