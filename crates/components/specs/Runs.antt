-- Runs of black places with their rows, and which of them touch.
use Rattle.std.specs.Prelude.{◌≡◌, ◌<◌, ◌≤◌, ◌+◌, ℕ, ◌-◌}
use Rattle.page_runs.specs.Page.{Page}
use Rattle.page_runs.specs.declared.row_runs.Run.{Run}
use Rattle.components.specs.declared.place.Place.{Place}
use Rattle.components.specs.declared.placed_run.PlacedRun.{PlacedRun}
use Rattle.components.specs.Connected.{IsBlack}

-- the place lies in the run
pub record IsInRun (run : PlacedRun) (p : Place) : Type 0 where
  pub level : p.y ≡ run.row
  pub left : run.x0 ≤ p.x
  pub right : p.x < run.x1

-- the run has a place, and all of its places are black
pub record IsBlackRun (page : Page) (run : PlacedRun) : Type 0 where
  pub some : run.x0 < run.x1
  pub blacks : (p : Place) → IsInRun run p → IsBlack page p

-- a run of a row, with the row
abbrev pub placed : ℕ → Run → PlacedRun
placed y run = record { row = y; x0 = run.x0; x1 = run.x1 }

-- the leftmost place of the run
abbrev pub first_of : PlacedRun → Place
first_of run = record { x = run.x0; y = run.row }

-- the rightmost place of the run
abbrev pub last_of : PlacedRun → Place
last_of run = record { x = run.x1 - 1; y = run.row }

-- the runs lie in one row or in neighbouring ones, and meet, corners included
pub record AreTouching (r s : PlacedRun) : Type 0 where
  pub above : r.row ≤ s.row + 1
  pub below : s.row ≤ r.row + 1
  pub left : r.x0 ≤ s.x1
  pub right : s.x0 ≤ r.x1
