-- The sides round some runs.
use Rattle.std.specs.Prelude.{◌+◌, ◌<◌, ◌≤◌, min, max}
use Rattle.layout_limits.specs.declared.TheConstants.{MAX_SIDE}
use Rattle.components.specs.declared.placed_run.PlacedRun.{PlacedRun}
use Rattle.components.specs.declared.bounds.Bounds.{Bounds}

-- the run has a place, and lies on a page
pub record IsSmallRun (run : PlacedRun) : Type 0 where
  pub row : run.row < MAX_SIDE
  pub right : run.x1 ≤ MAX_SIDE
  pub some : run.x0 < run.x1

-- the sides round this run alone
abbrev pub bounds_of : PlacedRun → Bounds
bounds_of run = record { x0 = run.x0; y0 = run.row; x1 = run.x1; y1 = run.row + 1 }

-- the sides round what lies within the one sides or the other
abbrev pub around : Bounds → Bounds → Bounds
around b c = record { x0 = min b.x0 c.x0; y0 = min b.y0 c.y0; x1 = max b.x1 c.x1; y1 = max b.y1 c.y1 }

-- the sides round what was there and this run
abbrev pub widened : Bounds → PlacedRun → Bounds
widened b run = around b (bounds_of run)
