use Rattle.xy_cut.proofs.Unique.{one_list}
use Rattle.xy_cut.proofs.law.cells_are_unique.Goals as goal

pub returns : goal.returns
returns c = record { one_list = one_list }
