use Rattle.std.proofs.Common.{◌≤◌, ◌<◌, ℕ}
use Rattle.page_runs.specs.Runs.{run_at}
use Rattle.components.proofs.reaching.first_reaching.Given as goal

abbrev pub invariant-loop-place : goal.invariant-loop-place
invariant-loop-place l = (i : ℕ) → l.from ≤ i → i < l.place → (run_at l.runs i).x1 < l.x
