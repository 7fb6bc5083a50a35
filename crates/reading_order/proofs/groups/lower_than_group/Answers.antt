use Rattle.std.proofs.Common.{arith}
use Rattle.reading_order.proofs.Gathering.{levels_looked}
use Rattle.reading_order.proofs.groups.lower_than_group.Goals as goal

pub returns-in-Some-clause-levels : goal.returns-in-Some-clause-levels
returns-in-Some-clause-levels c =
    levels_looked c.args.before.now c.args.levels.now c.loop-number.looked c.args.depth c.loop-number.invariant.0 c.loop-number.number c.next_lower.new.looked (omega arith) (omega (arith, c.requires.some)) (omega (arith, c.requires.deep)) c.in-Some.ensures.low c.in-Some.ensures.none
