use Rattle.std.proofs.Common.{rules}
use Rattle.search_trials.specs.TableLaws.{keys_back}
use Rattle.search_trials.proofs.Tables.{root_of}
use Rattle.search_trials.proofs.table.TableSpace.root.Goals as goal

pub returns : goal.returns
returns c = rw (keys_back c.args.self.now.keys.now) (record { root = root_of c.args.self.now.keys.now c.node.result c.node.ensures.fits c.node.ensures.span.0 (search rules) })
