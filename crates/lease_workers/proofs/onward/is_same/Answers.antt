use Rattle.std.proofs.Common.{rules}
use Rattle.lease_workers.proofs.Cuts.{shapes_are_one}
use Rattle.lease_workers.proofs.onward.is_same.Goals as goal

pub returns : goal.returns
returns c = record { same = λ equal. shapes_are_one c.args.one c.args.other (search rules) }
