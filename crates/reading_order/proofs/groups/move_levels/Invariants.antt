use Rattle.reading_order.specs.Groups.{AreMoved}
use Rattle.reading_order.proofs.groups.move_levels.Given as goal

abbrev pub invariant-loop-number : goal.invariant-loop-number
invariant-loop-number l = AreMoved l.initial.levels l.levels l.least l.most l.level l.number
