use Rattle.std.proofs.Common.{arith}
use Rattle.line_search.proofs.Ranges.{below_is, above_is}
use Rattle.line_search.proofs.bound.gap_to.Goals as goal

pub returns : goal.returns
returns c =
    let above = below_is c.args.lowest c.args.foot c.max-above.result c.requires.low.0 c.requires.low.1 (omega arith) c.max-above.ensures.value in
    let below = above_is c.args.highest c.args.foot c.max-below.result c.requires.high.0 c.requires.high.1 (omega arith) c.max-below.ensures.value in
    omega (arith, above, below)
