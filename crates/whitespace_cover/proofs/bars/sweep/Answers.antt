use Rattle.std.proofs.Common.{arith, List, subst}
use Rattle.std.proofs.lemmas.List.{take_all}
use Rattle.layout_geom.specs.declared.rect.Rect.{Rect}
use Rattle.whitespace_cover.specs.Bars.{LeaveSame}
use Rattle.whitespace_cover.proofs.Barring.{same_more}
use Rattle.whitespace_cover.proofs.bars.sweep.Goals as goal

pub loop-rect-preserved : goal.loop-rect-preserved
loop-rect-preserved c = record {
  same = same_more c.args.least c.args.rects.now c.loop-rect.rect-index c.rect-item.result c.loop-rect.bars.items c.take_in.new.bars.items
      c.loop-rect-test.true c.rect-item.is c.loop-rect.invariant.same c.in_ok-number.ensures.same;
  few = omega (arith, c.loop-rect.invariant.few, c.in_ok-number.ensures.few);
}

pub returns-clause-same : goal.returns-clause-same
returns-clause-same c =
    subst (λ (xs : List Rect). LeaveSame c.args.least c.loop-rect.bars.items xs) (take_all c.loop-rect.rect-index c.args.rects.now c.loop-rect-test.false) c.loop-rect.invariant.same
