use Rattle.std.proofs.Common.{◌≡◌, ◌≤◌, ◌-◌, ℕ, get_or}
use Rattle.run_smear.specs.Painted.{IsBetween}
use Rattle.run_smear.proofs.columns.are_behind.Given as goal

abbrev pub invariant-loop-x : goal.invariant-loop-x
invariant-loop-x l = record {
  few : l.others ≤ l.x - l.from;
  none : l.others ≡ 0 → (k : ℕ) → IsBetween l.from l.x k → get_or l.behind k 0 ≡ l.row;
  empty : l.to ≤ l.from → l.x ≡ l.from;
}
