use Rattle.std.proofs.Common.{◌≡◌, ◌≤◌, ℕ, length}
use Rattle.page_runs.specs.Packed.{page_of}
use Rattle.run_smear.specs.Columns.{AreWithin, IsSwept}
use Rattle.run_smear.proofs.columns.sweep_rows.Given as goal

abbrev pub invariant-loop-y : goal.invariant-loop-y
invariant-loop-y l = record {
  len : length l.behind ≡ length l.fn.behind;
  slim : AreWithin (length l.fn.behind) l.fn.fills.items → AreWithin (length l.fn.behind) l.fills.items;
  swept : (first low : ℕ) → first ≤ l.from → IsSwept (page_of l.page) l.most first low l.from l.fn.behind l.fn.fills.items
      → IsSwept (page_of l.page) l.most first low l.y l.behind l.fills.items;
}
