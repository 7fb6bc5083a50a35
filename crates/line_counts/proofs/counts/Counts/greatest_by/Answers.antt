use Rattle.std.proofs.Common.{◌≡◌, ℕ, arith, sym, subst, ⊎_elim}
use Rattle.std.proofs.lemmas.Bool.{cases_eq}
use Rattle.line_counts.specs.declared.stretch.Stretch.{Stretch}
use Rattle.line_counts.specs.Stretches.{IsKeyIn, IsBeaten}
use Rattle.line_counts.specs.Table.{LivingPage}
use Rattle.line_counts.specs.Tops.{weighed}
use Rattle.line_counts.proofs.Passing.{by_its_top, still_beaten, risen_on, not_risen}
use Rattle.line_counts.proofs.counts.Counts.greatest_by.Goals as goal

pub returns-then-on_the_line-needed : goal.returns-then-on_the_line-needed
returns-then-on_the_line-needed c =
    let page : LivingPage = c.args.self.now in
    let stretch : Stretch = c.args.stretch.now in
    record {
      risen = not_risen (IsKeyIn page c.args.least stretch) c.args.before;
      beaten = λ more depth less shallow deep.
          by_its_top page c.args.least c.args.before c.args.before (weighed c.args.counts.now more depth) c.needed.result stretch more depth c.needed.ensures (omega arith)
          (omega (
            arith,
            c.if-on_the_line-needed.true,
            c.on_the_line.ensures more depth (omega (arith, less, c.requires.few)) (omega (arith, deep, c.requires.of_page.shallow)),
          ));
    }

pub loop-depth-init : goal.loop-depth-init
loop-depth-init c = record {
  order = omega arith;
  risen = not_risen (IsKeyIn c.args.self.now c.args.least c.args.stretch.now) c.args.before;
  beaten = λ more depth less shallow early. absurd (omega (arith, shallow, early));
}

pub loop-depth-preserved : goal.loop-depth-preserved
loop-depth-preserved c =
    let page : LivingPage = c.args.self.now in
    let stretch : Stretch = c.args.stretch.now in
    let least = c.args.least in
    let best = c.loop-depth.best in
    let word = c.greatest_at-best.result in
    let here = c.loop-depth.depth in
    record {
      order = omega (arith, c.loop-depth.invariant.order);
      risen = risen_on (IsKeyIn page least stretch) c.args.before best word c.loop-depth.invariant.risen c.greatest_at-best.ensures.risen;
      beaten = λ more depth less shallow early. ⊎_elim
          (λ (same : depth ≡ here).
          subst (λ (d : ℕ). IsBeaten page least stretch more d (weighed c.args.counts.now more d) word) (sym same) (c.greatest_at-best.ensures.beaten more less))
          (λ differs.
          still_beaten page least best word (weighed c.args.counts.now more depth) stretch more depth c.greatest_at-best.ensures.risen.no_less
          (c.loop-depth.invariant.beaten more depth less shallow (omega (arith, early, differs))))
          (cases_eq depth here);
    }

pub returns-clause-beaten : goal.returns-clause-beaten
returns-clause-beaten c = λ more depth less shallow deep.
    c.loop-depth.invariant.beaten more depth less shallow (omega (arith, deep, c.loop-depth-test.false))
