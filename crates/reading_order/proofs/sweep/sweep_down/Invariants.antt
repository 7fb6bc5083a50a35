use Rattle.std.proofs.Common.{◌≡◌, map, take}
use Rattle.reading_order.specs.Rules.{twice_middle_of}
use Rattle.reading_order.proofs.sweep.sweep_down.Given as goal

abbrev pub invariant-loop-line : goal.invariant-loop-line
invariant-loop-line l = l.levels.items ≡ map twice_middle_of (take l.line-index l.lines)
