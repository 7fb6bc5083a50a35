use Rattle.std.proofs.Common.{◌<◌, ◌+◌, ◌*◌, ◌-◌, length}
use Rattle.page_runs.specs.Walk.{HasWalked, IsUpTo}
use Rattle.page_runs.proofs.row_runs.add_row.Given as goal

abbrev pub invariant-loop-byte : goal.invariant-loop-byte
invariant-loop-byte l = record {
  bound : l.byte < length l.bits + 8;
  up_to : IsUpTo l.walk.begun l.walk.black (l.byte * 8);
  walked : HasWalked l.bits l.width (l.byte * 8) l.fn.runs.items l.runs.items l.walk.begun l.walk.black;
}

abbrev pub decreases-loop-byte : goal.decreases-loop-byte
decreases-loop-byte l = length l.bits + 8 - l.byte
