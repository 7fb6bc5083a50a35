use Rattle.reading_order.specs.Groups.{IsValueOf}
use Rattle.reading_order.proofs.groups.values_of.Given as goal

abbrev pub invariant-loop-number : goal.invariant-loop-number
invariant-loop-number l = IsValueOf l.flags l.value l.values.items l.number
