use Rattle.std.proofs.Common.{◌≡◌, ◌++◌}
use Rattle.xy_cut.proofs.uncut.followed.Given as goal

abbrev pub invariant-loop-cell : goal.invariant-loop-cell
invariant-loop-cell l = l.all ≡ l.fn.cells ++ l.yielded
