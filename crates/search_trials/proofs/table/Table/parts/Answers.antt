use Rattle.std.proofs.Common.{rules}
use Rattle.search_trials.proofs.Tables.{splits_of}
use Rattle.search_trials.proofs.table.Table.parts.Goals as goal

pub returns : goal.returns
returns c =
    record { parts = splits_of c.args.self.now.keys.now c.args.node.now c.add_part-2.new.parts.items c.requires.fits c.in_ok-add_part-2.ensures.after (search rules) }
