use Rattle.std.proofs.Common.{ℕ, ◌<◌}
use Rattle.reading_order.specs.Looking.{AreLooked, IsNotFree}
use Rattle.reading_order.proofs.front.least_free_number.Given as goal

abbrev pub invariant-loop-number : goal.invariant-loop-number
invariant-loop-number l = AreLooked l.before l.taken l.looked × ((x : ℕ) → x < l.number → IsNotFree l.before l.taken x)
