use Rattle.std.proofs.Common.{◌≡◌, ◌≤◌, ℕ, get_or}
use Rattle.run_smear.specs.Painted.{IsBetween}
use Rattle.run_smear.proofs.columns.set_behind.Given as goal

abbrev pub invariant-loop-x : goal.invariant-loop-x
invariant-loop-x l = record {
  set : (k : ℕ) → IsBetween l.from l.x k → get_or l.behind k 0 ≡ l.row;
  same : (k : ℕ) → (IsBetween l.from l.x k → ⊥) → get_or l.behind k 0 ≡ get_or l.fn.behind k 0;
  empty : l.to ≤ l.from → l.x ≡ l.from;
}
