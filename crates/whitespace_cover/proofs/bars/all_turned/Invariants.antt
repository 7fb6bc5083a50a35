use Rattle.std.proofs.Common.{take}
use Rattle.std.specs.List.{AllZip}
use Rattle.whitespace_cover.specs.Bars.{IsTurned}
use Rattle.whitespace_cover.proofs.bars.all_turned.Given as goal

abbrev pub invariant-loop-rect : goal.invariant-loop-rect
invariant-loop-rect l = AllZip IsTurned (take l.rect-index l.rects) l.all.items
