use Rattle.std.proofs.Common.{arith}
use Rattle.line_counts.specs.Tops.{weighed}
use Rattle.line_counts.proofs.Passing.{by_the_first}
use Rattle.line_counts.proofs.counts.Counts.greatest_at.Goals as goal

pub returns-then-not-may_beat-clause-beaten : goal.returns-then-not-may_beat-clause-beaten
returns-then-not-may_beat-clause-beaten c = λ more less.
    by_the_first c.args.self.now c.args.least c.args.before c.args.most (weighed c.args.counts.now more c.args.depth) c.args.stretch.now more c.args.depth c.requires.alive c.requires.of_page
    (c.requires.over more c.args.depth (omega (arith, less, c.requires.few)) (omega (arith, c.requires.deep, c.requires.of_page.shallow)))
    (c.may_beat.ensures c.if-not-may_beat.true)

pub returns-clause-beaten : goal.returns-clause-beaten
returns-clause-beaten c = λ more less score k scored enough low.
    c.greatest_of.ensures.beaten more less score k scored enough (omega (arith, low, c.line_sums-sums.ensures.over more (omega (arith, less, c.requires.few))))
