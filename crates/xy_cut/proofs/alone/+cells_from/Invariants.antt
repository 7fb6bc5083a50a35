use Rattle.std.proofs.Common.{◌-◌, length}
use Rattle.xy_cut.proofs.alone.+cells_from.Given as goal

abbrev pub decreases-cells_from : goal.decreases-cells_from
decreases-cells_from l = 64 - length l.path
