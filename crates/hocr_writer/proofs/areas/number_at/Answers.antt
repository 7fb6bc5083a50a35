use Rattle.std.proofs.Common.{length}
use Rattle.hocr_writer.proofs.Wholes.{cycle_at}
use Rattle.hocr_writer.proofs.areas.number_at.Goals as goal

pub returns-in-Cycle-clause-line : goal.returns-in-Cycle-clause-line
returns-in-Cycle-clause-line c = (cycle_at c.args.layout.now.order c.in-Cycle.field-0 (length c.args.layout.now.lines) c.args.position c.in-Cycle.is c.requires.within).0

pub returns-in-Cycle-clause-is_line : goal.returns-in-Cycle-clause-is_line
returns-in-Cycle-clause-is_line c = (cycle_at c.args.layout.now.order c.in-Cycle.field-0 (length c.args.layout.now.lines) c.args.position c.in-Cycle.is c.requires.within).1
