use Rattle.std.proofs.Common.{◌≤◌, ◌*◌, length, take}
use Rattle.whitespace_cover.specs.Bars.{LeaveSame}
use Rattle.whitespace_cover.proofs.bars.sweep.Given as goal

abbrev pub invariant-loop-rect : goal.invariant-loop-rect
invariant-loop-rect l = record {
  same : LeaveSame l.least l.bars.items (take l.rect-index l.rects);
  few : length l.bars.items ≤ 2 * l.rect-index;
}
