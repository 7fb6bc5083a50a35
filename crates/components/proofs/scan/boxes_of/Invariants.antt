use Rattle.std.proofs.Common.{◌≤◌, length}
use Rattle.page_runs.specs.Page.{Page}
use Rattle.components.specs.Groups.{IsDone}
use Rattle.components.specs.Scanning.{IsScanned, IsSeenBefore}
use Rattle.components.proofs.scan.boxes_of.Given as goal

abbrev pub invariant-loop-g : goal.invariant-loop-g
invariant-loop-g l = record {
  scanned : (page : Page) (done : IsDone page l.groups) → IsScanned page (IsSeenBefore done.members done.partition.root l.g) l.boxes.items;
  few : length l.boxes.items ≤ l.g;
}
