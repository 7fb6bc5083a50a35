use Rattle.std.proofs.Common.{◌-◌, length, drop}
use Rattle.whitespace_cover.specs.Index.{IsIndex}
use Rattle.whitespace_cover.proofs.cells.put_rects.Given as goal

abbrev pub invariant-loop-done : goal.invariant-loop-done
invariant-loop-done l = IsIndex l.across l.rows (drop (length l.rects - l.done) l.rects) l.lists
