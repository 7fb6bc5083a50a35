use Rattle.std.proofs.Common.{◌≡◌, ◌≤◌, ◌<◌, ◌+◌, ℕ, length}
use Rattle.std.specs.Prelude.{slice_index}
use Rattle.page_runs.specs.Page.{Page}
use Rattle.page_runs.specs.Runs.{AreRunsOf, run_at}
use Rattle.components.specs.Groups.{DoPointBack, IsDoneAbove, IsDoneUpTo}
use Rattle.components.proofs.rows.put_row.Given as goal

abbrev pub invariant-loop-place : goal.invariant-loop-place
invariant-loop-place l = record {
  near : l.near ≤ length l.up;
  back : DoPointBack l.groups.items;
  more : length l.fn.groups.items ≤ length l.groups.items;
  few : length l.groups.items ≤ length l.fn.groups.items + l.place;
  len : length l.here.items ≡ l.place;
  valid : (i : ℕ) → i < length l.here.items → slice_index l.here.items i < length l.groups.items;
  passed : (i k : ℕ) → i < l.near → l.place ≤ k → k < length l.row → (run_at l.up i).x1 < (run_at l.row k).x0;
  put : (page : Page) → AreRunsOf page l.y l.row → l.y < page.height → IsDoneAbove page l.y l.up l.above l.fn.groups.items
      → IsDoneUpTo page l.y l.up l.above l.row l.here.items l.groups.items;
}
