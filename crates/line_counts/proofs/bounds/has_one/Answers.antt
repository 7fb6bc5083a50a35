use Rattle.line_counts.proofs.Ranges.{length_one}
use Rattle.line_counts.proofs.bounds.has_one.Goals as goal

pub returns : goal.returns
returns c = length_one c.args.low c.args.high c.requires.low c.requires.some c.requires.high
