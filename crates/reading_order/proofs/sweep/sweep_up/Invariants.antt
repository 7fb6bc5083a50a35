use Rattle.std.proofs.Common.{◌≡◌, map, take}
use Rattle.reading_order.specs.Sweeps.{level_from_below}
use Rattle.reading_order.proofs.sweep.sweep_up.Given as goal

abbrev pub invariant-loop-line : goal.invariant-loop-line
invariant-loop-line l = l.levels.items ≡ map level_from_below (take l.line-index l.lines)
