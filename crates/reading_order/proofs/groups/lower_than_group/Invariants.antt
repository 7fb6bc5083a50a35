use Rattle.std.proofs.Common.{◌≡◌, ℕ, ◌<◌, get_or}
use Rattle.reading_order.specs.Groups.{AreLevels}
use Rattle.reading_order.proofs.groups.lower_than_group.Given as goal

abbrev pub invariant-loop-number : goal.invariant-loop-number
invariant-loop-number l = AreLevels l.before l.levels l.looked l.depth × ((x : ℕ) → x < l.number → get_or l.levels x 0 ≡ l.depth → get_or l.looked x 0 ≡ l.before.side)
