use Rattle.std.proofs.Common.{rules, arith}
use Rattle.search_trials.proofs.Tables.{one_more}
use Rattle.search_trials.proofs.table.Table.add_part.Goals as goal

pub node-requires-clause-over : goal.node-requires-clause-over
node-requires-clause-over c = λ place low high. c.requires.fits.over place (omega (arith, c.requires.before.reached)) (omega (arith, c.requires.within))

pub returns-in_ok-push-clause-after : goal.returns-in_ok-push-clause-after
returns-in_ok-push-clause-after c =
    rw c.in_ok-push.ensures.items (one_more c.args.self.now.keys.now c.args.node.now c.args.parts.now.items c.node.result c.args.cut c.args.next c.requires.fits c.requires.before c.node.ensures.fits c.node.ensures.span.0 c.node.ensures.span.1 c.node.ensures.bound (omega (arith, c.requires.smaller)) (omega (arith, c.requires.within)) (search rules))
