use Rattle.std.proofs.Common.{◌≤◌, ◌-◌, ℕ}
use Rattle.run_smear.specs.Painted.{IsBetween}
use Rattle.run_smear.specs.Columns.{AreWithin, Closes}
use Rattle.run_smear.proofs.columns.close_run.Given as goal

-- The columns of the run so far have ended their gaps.
abbrev pub invariant-loop-from : goal.invariant-loop-from
invariant-loop-from l = record {
  closes : Closes (IsBetween l.run.x0 l.from) l.y l.most l.fn.behind l.behind l.fn.fills.items l.fills.items;
  slim : (width : ℕ) → l.run.x1 ≤ width → AreWithin width l.fn.fills.items → AreWithin width l.fills.items;
  begun : l.run.x0 ≤ l.from;
  within : l.run.x0 ≤ l.run.x1 → l.from ≤ l.run.x1;
  empty : l.run.x1 ≤ l.run.x0 → l.from ≤ l.run.x0;
}

abbrev pub decreases-loop-from : goal.decreases-loop-from
decreases-loop-from l = l.run.x1 - l.from
