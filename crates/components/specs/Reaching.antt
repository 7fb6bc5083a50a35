-- The first run of a row that reaches a column.
use Rattle.std.specs.Prelude.{ℕ, ◌<◌, ◌≤◌, List, length}
use Rattle.page_runs.specs.declared.row_runs.Run.{Run}
use Rattle.page_runs.specs.Runs.{run_at}

-- the first of the runs from one on that ends at a column or right of it, or their number where none does
pub record IsFirstReaching (runs : List Run) (from x first : ℕ) : Type 0 where
  pub not_before : from ≤ first
  pub within : first ≤ length runs
  pub before : (i : ℕ) → from ≤ i → i < first → (run_at runs i).x1 < x
  pub here : first < length runs → x ≤ (run_at runs first).x1
