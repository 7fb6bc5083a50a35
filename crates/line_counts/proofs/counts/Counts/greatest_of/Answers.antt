use Rattle.std.proofs.Common.{◌≡◌, ◌≤◌, ℕ, get_or, arith, sym, subst, ⊎_elim}
use Rattle.std.proofs.lemmas.Bool.{cases_eq}
use Rattle.line_counts.specs.Stretches.{IsKeyIn, IsRisen, IsBeaten}
use Rattle.line_counts.specs.declared.stretch.Stretch.{Stretch}
use Rattle.line_counts.specs.Table.{LivingPage}
use Rattle.line_counts.proofs.Passing.{by_the_first, by_its_top, still_beaten, risen_on, not_risen}
use Rattle.line_counts.proofs.counts.Counts.greatest_of.Goals as goal
use Rattle.line_counts.proofs.counts.Counts.greatest_of.Goals.{then-top-enough, else-top-enough}

pub returns-then-not-may_beat-clause-beaten : goal.returns-then-not-may_beat-clause-beaten
returns-then-not-may_beat-clause-beaten c = λ more less.
    by_the_first c.args.self.now c.args.least c.args.before c.greatest_of_first-most.result (get_or c.args.tops.now more 0) c.args.stretch.now more c.args.depth c.requires.alive c.requires.of_page
    (c.greatest_of_first-most.ensures more less) (c.may_beat.ensures c.if-not-may_beat.true)

pub loop-more-init : goal.loop-more-init
loop-more-init c = record {
  risen = not_risen (IsKeyIn c.args.self.now c.args.least c.args.stretch.now) c.better-best.result;
  beaten = λ k less. absurd (omega (arith, less));
}

-- one line more is beaten
record IsNext (page : LivingPage) (least ago best word : ℕ) (stretch : Stretch) (more depth top : ℕ) : Type 0 where
  pub risen : IsRisen (IsKeyIn page least stretch) ago word
  pub rose : best ≤ word
  pub beaten : IsBeaten page least stretch more depth top word

pub loop-more-preserved : goal.loop-more-preserved
loop-more-preserved c =
    let page : LivingPage = c.args.self.now in
    let stretch : Stretch = c.args.stretch.now in
    let more = c.loop-more.more in
    let depth = c.args.depth in
    let least = c.args.least in
    let ago = c.better-best.result in
    let best = c.loop-more.best in
    let word = c.if-top-enough.best in
    let top : ℕ = get_or c.args.tops.now more 0 in
    let held : IsRisen (IsKeyIn page least stretch) ago best = c.loop-more.invariant.risen in
    let next : IsNext page least ago best word stretch more depth top =
    elim c.if-top-enough.branch [
      | then-top-enough w ↦ subst (λ (key : ℕ). IsNext page least ago best key stretch more depth top) (sym w.best-is) (record {
        risen = risen_on (IsKeyIn page least stretch) ago best w.better-best-then-top-enough.result held w.better-best-then-top-enough.ensures.risen;
        rose = w.better-best-then-top-enough.ensures.risen.no_less;
        beaten = w.better-best-then-top-enough.ensures.beaten;
      })
      | else-top-enough w ↦ subst (λ (key : ℕ). IsNext page least ago best key stretch more depth top) (sym w.best-is) (record {
        risen = held;
        rose = omega arith;
        beaten = by_its_top page least ago best top c.needed-enough.result stretch more depth c.needed-enough.ensures held.no_less w.if-top-enough.false;
      })
    ] in
    record {
      risen = next.risen;
      beaten = λ k less. ⊎_elim
          (λ (same : k ≡ more). subst (λ (n : ℕ). IsBeaten page least stretch n depth (get_or c.args.tops.now n 0) word) (sym same) next.beaten)
          (λ differs. still_beaten page least best word (get_or c.args.tops.now k 0) stretch k depth next.rose (c.loop-more.invariant.beaten k (omega (arith, less, differs))))
          (cases_eq k more);
    }

pub returns : goal.returns
returns c = record {
  risen = risen_on (IsKeyIn c.args.self.now c.args.least c.args.stretch.now) c.args.before c.better-best.result c.loop-more.best c.better-best.ensures.risen c.loop-more.invariant.risen;
  beaten = λ more less. c.loop-more.invariant.beaten more (omega (arith, less, c.loop-more-test.false));
}
