use Rattle.std.proofs.lemmas.List.Elements.{all_zip_more}
use Rattle.whitespace_cover.specs.Bars.{IsTurned}
use Rattle.whitespace_cover.proofs.bars.all_turned.Goals as goal

pub loop-rect-preserved : goal.loop-rect-preserved
loop-rect-preserved c =
    rw c.in_ok-push.ensures.items
    (all_zip_more IsTurned c.args.rects.now c.loop-rect.all.items c.loop-rect.rect-index c.rect-item.result c.turned.result c.loop-rect-test.true c.rect-item.is c.loop-rect.invariant c.turned.ensures)
