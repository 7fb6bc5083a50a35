use Rattle.std.proofs.Common.{take}
use Rattle.xy_cut.specs.Cells.{IsHullOf}
use Rattle.xy_cut.proofs.uncut.hull_of.Given as goal

abbrev pub invariant-loop-place : goal.invariant-loop-place
invariant-loop-place l = IsHullOf (take l.place l.boxes) l.hull
