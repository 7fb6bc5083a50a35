use Rattle.std.proofs.Common.{◌*◌, ◌+◌, ◌-◌, length}
use Rattle.xy_cut.proofs.forked.+cells_apart+fn-cells_apart-join+arg2+fn-cells_apart-join+arg3.Given as goal

abbrev pub decreases-cells_apart : goal.decreases-cells_apart
decreases-cells_apart g l = 2 * (65 - length l.path)

abbrev pub decreases-join+arg2 : goal.decreases-join+arg2
decreases-join+arg2 g l = 2 * (65 - length l.way) + 1

abbrev pub decreases-join+arg3 : goal.decreases-join+arg3
decreases-join+arg3 g l = 2 * (65 - length l.other_way) + 1
