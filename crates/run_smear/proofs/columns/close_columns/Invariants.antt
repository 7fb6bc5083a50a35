use Rattle.std.proofs.Common.{◌≡◌, ◌≤◌, ℕ}
use Rattle.run_smear.specs.Painted.{IsBetween}
use Rattle.run_smear.specs.Columns.{AreWithin, Closes}
use Rattle.run_smear.proofs.columns.close_columns.Given as goal

-- The columns so far have ended their gaps.
abbrev pub invariant-loop-x : goal.invariant-loop-x
invariant-loop-x l = record {
  closes : Closes (IsBetween l.from l.x) l.y l.most l.fn.behind l.behind l.fn.fills.items l.fills.items;
  slim : (width : ℕ) → l.to ≤ width → AreWithin width l.fn.fills.items → AreWithin width l.fills.items;
  none : l.to ≤ l.from → l.x ≡ l.from;
}
