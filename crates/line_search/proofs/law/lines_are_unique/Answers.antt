use Rattle.line_search.proofs.Unique.{lines_unique}
use Rattle.line_search.proofs.law.lines_are_unique.Goals as goal

pub returns : goal.returns
returns c = record { one_list = lines_unique }
