use Rattle.std.proofs.Common.{◌≤◌}
use Rattle.reading_order.specs.Groups.{IsNoneLower}
use Rattle.reading_order.proofs.groups.next_lower.Given as goal

abbrev pub invariant-loop-earlier : goal.invariant-loop-earlier
invariant-loop-earlier l = (l.earlier ≤ l.before.side) × IsNoneLower l.before l.levels l.number l.earlier
