use Rattle.reading_order.proofs.Walks.{IsWalked}
use Rattle.reading_order.proofs.reach.fill_reaches.Given as goal

abbrev pub invariant-loop-number : goal.invariant-loop-number
invariant-loop-number l = IsWalked l.lines l.levels l.order l.from l.edge l.number-index l.walk.level l.walk.before l.walk.within l.initial.reaches l.reaches
