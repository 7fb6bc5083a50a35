use Rattle.std.proofs.Common.{◌≡◌, ℕ, ◌+◌, ◌-◌, get_or, length, sum, take, ap, arith, subst}
use Rattle.std.proofs.lemmas.List.Sums.{sum_by_more}
use Rattle.word_split.specs.Partings.{IsCut}
use Rattle.word_split.proofs.Best.{IsBestBelow, best_more, best_all}
use Rattle.word_split.proofs.threshold.best_parting.Goals as goal
use Rattle.word_split.proofs.threshold.best_parting.Goals.{then-rising-count, else-rising-count}

pub loop-count-preserved : goal.loop-count-preserved
loop-count-preserved c =
    let rising = c.args.rising.now in
    let count = c.loop-count.count in
    let here : count ≡ count + 1 - 1 = omega arith in
    let before : count - 1 + 1 ≡ count = omega arith in
    let more : sum (take count rising) ≡ sum (take (count - 1) rising) + get_or rising (count - 1) 0 =
    subst (λ (n : ℕ). sum (take n rising) ≡ sum (take (count - 1) rising) + get_or rising (count - 1) 0) before
    (sum_by_more (λ (gap : ℕ). gap) rising (count - 1) 0 (omega arith)) in
    record {
      within = omega arith;
      narrow = subst (λ (n : ℕ). c.loop-count.narrow_sum + c.from-narrow_sum.result ≡ sum (take n rising)) here (omega (arith, more, c.loop-count.invariant.narrow, c.from-narrow_sum.ensures));
      best = subst (λ (n : ℕ). IsBestBelow rising (get_or rising n 0) c.if-rising-count.best) here
          (elim c.if-rising-count.branch [
            | then-rising-count w ↦
                let cut : IsCut rising count = record { some = omega arith; low = omega arith; rises = w.if-rising-count.true } in
                rw w.best-is
                (best_more rising c.requires.rises count w.parting_at-parting.result w.parting_at-parting.ensures.threshold cut c.loop-count.best w.better.result
                w.parting_at-parting.ensures.parting c.loop-count.invariant.best w.better.ensures)
            | else-rising-count w ↦
                let same : get_or rising (count - 1) 0 ≡ get_or rising count 0 = omega (arith, w.if-rising-count.false, c.requires.rises (count - 1) count 0 (omega arith) (omega arith)) in
                rw w.best-is (subst (λ (n : ℕ). IsBestBelow rising n c.loop-count.best) same c.loop-count.invariant.best)
          ]);
    }

pub returns : goal.returns
returns c =
    let count = c.loop-count.count in
    let ends : count - 1 ≡ length c.args.rising.now - 1 = omega arith in
    best_all c.args.rising.now c.requires.rises _ c.loop-count.best (ap (λ (n : ℕ). get_or c.args.rising.now n 0) ends) c.loop-count.invariant.best
