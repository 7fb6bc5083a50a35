use Rattle.std.proofs.Common.{◌≡◌, ◌*◌, ◌≤◌, ℕ, List, length, get_or, inl, inr, arith, ap, sym, subst}
use Rattle.line_counts.specs.declared.stretch.Stretch.{Stretch}
use Rattle.line_counts.specs.Stretches.{IsKeyIn, IsRisen}
use Rattle.line_counts.specs.Table.{LivingPage}
use Rattle.line_counts.specs.Tops.{AreBeaten, weighed}
use Rattle.line_counts.proofs.Passing.{still_beaten, risen_on, not_risen, greatest_risen}
use Rattle.line_counts.proofs.Running.{AreSummed, sums_begin, are_counts, room_for, next_part, next_segment, all_summed}
use Rattle.line_counts.proofs.counts.Counts.greatest_in.Goals as goal
use Rattle.line_counts.proofs.counts.Counts.greatest_in.Goals.{then-cuts-of_segment, else-cuts-of_segment}

-- lines that are beaten stay so
stay : (page : LivingPage) (least best word : ℕ) (stretch : Stretch) → best ≤ word → (part : List ℕ) → AreBeaten page least stretch part best → AreBeaten page least stretch part word
stay page least best word stretch rose part beaten more depth less shallow deep =
    still_beaten page least best word (weighed part more depth) stretch more depth rose (beaten more depth less shallow deep)

pub loop-of_segment-init : goal.loop-of_segment-init
loop-of_segment-init c =
    let page : LivingPage = c.args.self.now in
    record {
      risen = not_risen (IsKeyIn page c.args.least c.args.stretch.now) c.args.before;
      summed = sums_begin page c.args.stretch.now (λ part. AreBeaten page c.args.least c.args.stretch.now part c.args.before);
    }

pub greatest_by-best-requires-clause-counts : goal.greatest_by-best-requires-clause-counts
greatest_by-best-requires-clause-counts c =
    are_counts c.args.self.now c.args.stretch.now c.loop-of_segment.of_segment c.loop-of_segment.sums c.loop-of_segment.invariant.summed.running
    (omega (arith, c.loop-of_segment-test.true, c.len-of_segment-end.ensures.value, c.self.invariant.countable.few_gutters))

pub add_counts-requires-clause-room : goal.add_counts-requires-clause-room
add_counts-requires-clause-room c =
    room_for c.args.self.now c.args.stretch.now c.loop-of_segment.of_segment c.if-cuts-of_segment.sums c.as_mut_slice.result.now
    (elim c.if-cuts-of_segment.branch [
      | then-cuts-of_segment w ↦ inl w.sums-is
      | else-cuts-of_segment w ↦ inr (subst (λ (xs : List ℕ). (k : ℕ) → get_or xs k 0 ≤ c.loop-of_segment.of_segment * 65535) (sym w.sums-is) c.loop-of_segment.invariant.summed.running.small)
    ])
    c.as_mut_slice.ensures.value
    (omega (arith, c.loop-of_segment-test.true, c.len-of_segment-end.ensures.value, c.self.invariant.countable.few_gutters))

-- what is known before the counts of a segment are added
record IsReady (page : LivingPage) (least before : ℕ) (stretch : Stretch) (segment best : ℕ) (sums : List ℕ) : Type 0 where
  pub risen : IsRisen (IsKeyIn page least stretch) before best
  pub summed : AreSummed page stretch segment (λ part. AreBeaten page least stretch part best) sums

pub loop-of_segment-preserved : goal.loop-of_segment-preserved
loop-of_segment-preserved c =
    let page : LivingPage = c.args.self.now in
    let stretch : Stretch = c.args.stretch.now in
    let least = c.args.least in
    let before = c.args.before in
    let n = c.loop-of_segment.of_segment in
    let was = c.loop-of_segment.best in
    let best = c.if-cuts-of_segment.best in
    let sums : List ℕ = c.if-cuts-of_segment.sums in
    let held = c.loop-of_segment.invariant in
    let ready : IsReady page least before stretch n best sums = elim c.if-cuts-of_segment.branch [
      | then-cuts-of_segment w ↦
          let word = w.greatest_by-best.result in
          subst (λ (key : ℕ). IsReady page least before stretch n key sums) (sym w.best-is)
          (subst (IsReady page least before stretch n word) (sym w.sums-is) (record {
            risen = risen_on (IsKeyIn page least stretch) before was word held.risen w.greatest_by-best.ensures.risen;
            summed = next_part page stretch n (λ part. AreBeaten page least stretch part was) (λ part. AreBeaten page least stretch part word) c.loop-of_segment.sums
                (c.cuts-cuts.ensures n w.if-cuts-of_segment.true) (stay page least was word stretch w.greatest_by-best.ensures.risen.no_less) w.greatest_by-best.ensures.beaten held.summed;
          }))
      | else-cuts-of_segment w ↦
          subst (λ (key : ℕ). IsReady page least before stretch n key sums) (sym w.best-is)
          (subst (IsReady page least before stretch n was) (sym w.sums-is) (record { risen = held.risen; summed = held.summed }))
    ] in
    record {
      risen = ready.risen;
      summed = next_segment page stretch n (λ part. AreBeaten page least stretch part best) sums c.as_mut_slice.result.now c.add_counts.new.sums c.as_mut_slice.ensures.value
          c.add_counts.ensures.long c.add_counts.ensures.more c.add_counts.ensures.small ready.summed;
    }

pub returns : goal.returns
returns c =
    let page : LivingPage = c.args.self.now in
    let stretch : Stretch = c.args.stretch.now in
    let least = c.args.least in
    let n = c.loop-of_segment.of_segment in
    let was = c.loop-of_segment.best in
    let word = c.greatest_by.result in
    let held = c.loop-of_segment.invariant in
    let gutters_are : length c.self.inside.gutters ≡ length page.gutters = ap (λ (p : LivingPage). length p.gutters) c.self.view_is in
    greatest_risen page least c.args.before word stretch c.requires.of_page (risen_on (IsKeyIn page least stretch) c.args.before was word held.risen c.greatest_by.ensures.risen)
    (all_summed page stretch n (λ part. AreBeaten page least stretch part was) (λ part. AreBeaten page least stretch part word) c.loop-of_segment.sums
    (omega (arith, c.loop-of_segment-test.false, c.loop-of_segment.auto.of_segment-end, c.len-of_segment-end.ensures.value, gutters_are))
    (stay page least was word stretch c.greatest_by.ensures.risen.no_less) c.greatest_by.ensures.beaten held.summed)
