use Rattle.std.proofs.Common.{◌≡◌, ◌≤◌, ◌<◌, ◌*◌, ℕ, length}
use Rattle.std.specs.Prelude.{slice_index}
use Rattle.layout_limits.specs.declared.TheConstants.{MAX_SIDE}
use Rattle.page_runs.specs.Packed.{page_of}
use Rattle.components.specs.Groups.{DoPointBack, IsDoneAbove}
use Rattle.components.proofs.rows.group_runs.Given as goal

abbrev pub invariant-loop-y : goal.invariant-loop-y
invariant-loop-y l = record {
  back : DoPointBack l.groups.items;
  few : length l.groups.items ≤ l.y * MAX_SIDE;
  len : length l.above.items ≡ length l.up;
  valid : (i : ℕ) → i < length l.above.items → slice_index l.above.items i < length l.groups.items;
  done : IsDoneAbove (page_of l.page) l.y l.up l.above.items l.groups.items;
}
