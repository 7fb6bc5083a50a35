use Rattle.search_trials.specs.TableLaws.{keys_back}
use Rattle.search_trials.proofs.table.TableSpace.step.Goals as goal

pub parts-requires-clause-fits : goal.parts-requires-clause-fits
parts-requires-clause-fits c = rw (keys_back c.args.self.now.keys.now) at c.requires.fits

pub returns-then-to-from-gt1 : goal.returns-then-to-from-gt1
returns-then-to-from-gt1 c = rw (keys_back c.args.self.now.keys.now) (record { step = c.in_ok-parts.ensures.parts })
