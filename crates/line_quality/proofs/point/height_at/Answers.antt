use Rattle.std.proofs.Common.{arith}
use Rattle.line_quality.proofs.Heights.{quotient_is, height_is, height_near}
use Rattle.line_quality.specs.HeightLaws.{rounded}
use Rattle.line_quality.proofs.point.height_at.Goals as goal

pub returns-clause-value : goal.returns-clause-value
returns-clause-value c =
    height_is c.args.slope c.args.offset c.args.x c.div_euclid.result c.ranges.slope c.ranges.offset (omega arith)
    (quotient_is c.args.slope c.args.x c.div_euclid.result c.ranges.slope (omega arith) c.div_euclid.ensures)

pub returns-clause-low : goal.returns-clause-low
returns-clause-low c =
    let near = height_near c.args.slope c.args.offset c.args.x c.ranges.slope c.ranges.offset (omega arith) in
    rw (returns-clause-value c) near.0

pub returns-clause-high : goal.returns-clause-high
returns-clause-high c =
    let near = height_near c.args.slope c.args.offset c.args.x c.ranges.slope c.ranges.offset (omega arith) in
    rw (returns-clause-value c) near.1

pub returns-clause-rounded : goal.returns-clause-rounded
returns-clause-rounded c = rw (returns-clause-value c) (rounded c.args.slope c.args.offset c.args.x)
