use Rattle.std.proofs.Common.{length}
use Rattle.run_smear.specs.Columns.{AreWithin, Closes, IsInRuns}
use Rattle.run_smear.proofs.columns.close_row.Given as goal

-- The columns of the runs so far have ended their gaps.
abbrev pub invariant-loop-place : goal.invariant-loop-place
invariant-loop-place l = record {
  closes : Closes (IsInRuns l.runs l.place) l.y l.most l.fn.behind l.behind l.fn.fills.items l.fills.items;
  slim : AreWithin (length l.fn.behind) l.fn.fills.items → AreWithin (length l.fn.behind) l.fills.items;
}
