use Rattle.std.proofs.Common.{◌≢◌, ℕ, ◌<◌, ◌≤◌, get_or}
use Rattle.reading_order.proofs.groups.first_at.Given as goal

abbrev pub invariant-loop-number : goal.invariant-loop-number
invariant-loop-number l = (l.from ≤ l.number) × ((y : ℕ) → l.from ≤ y → y < l.number → get_or l.levels y 0 ≢ l.level)
