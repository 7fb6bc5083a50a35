use Rattle.std.proofs.Common.{◌≤◌, ◌+◌, ◌*◌, ◌-◌, ℕ, List}
use Rattle.page_runs.specs.declared.row_runs.Run.{Run}
use Rattle.page_runs.specs.Runs.{Extends}
use Rattle.page_runs.specs.Walk.{HasWalked, IsUpTo}
use Rattle.page_runs.proofs.Walking.{edge_at}
use Rattle.page_runs.proofs.row_runs.add_word.Given as goal

abbrev pub invariant-loop-place : goal.invariant-loop-place
invariant-loop-place l = record {
  within : l.place ≤ 64;
  up_to : IsUpTo l.walk.begun l.walk.black (l.byte * 8 + l.place);
  walked : (old : List Run) (width : ℕ) → HasWalked l.bits width (l.byte * 8) old l.fn.runs.items l.fn.walk.begun l.fn.walk.black
      → HasWalked l.bits width (l.byte * 8 + l.place) old l.runs.items l.walk.begun l.walk.black;
  more : Extends l.fn.runs.items l.runs.items;
}

abbrev pub decreases-loop-place : goal.decreases-loop-place
decreases-loop-place l = 2 * (64 - l.place) + edge_at l.walk.begun l.word l.place
