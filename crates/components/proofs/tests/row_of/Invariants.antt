use Rattle.std.proofs.Common.{◌≡◌, length}
use Rattle.components.specs.Page.{row_len}
use Rattle.components.proofs.tests.row_of.Given as goal

abbrev pub invariant-loop-x : goal.invariant-loop-x
invariant-loop-x g l = length l.bits.items ≡ row_len l.fn.width
