use Rattle.std.proofs.Common.{◌≡◌, ◌+◌, ◌*◌, ◌≤◌, length}
use Rattle.reading_order.specs.Tables.{Marks}
use Rattle.reading_order.specs.Cycles.{AreOnNone}
use Rattle.reading_order.specs.Groups.{AreLevels, AreGathered, count_unmet}
use Rattle.reading_order.proofs.groups.flag_groups.Given as goal

abbrev pub invariant-loop-passed : goal.invariant-loop-passed
invariant-loop-passed l =
    AreLevels l.before l.levels.items l.looked.items l.depth × (l.depth ≤ l.passed) × (length l.flags ≡ l.before.side) × AreOnNone (Marks l.before) l.before.side l.flags
    × AreGathered l.before l.levels.items l.flags l.depth × (2 * count_unmet l.levels.items + l.depth + l.passed ≤ 2 * l.before.side)
