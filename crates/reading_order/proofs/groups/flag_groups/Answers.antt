use Rattle.std.proofs.Common.{◌^◌, ◌-◌, eqb, arith}
use Rattle.std.proofs.lemmas.List.Sums.{count_by-le-length}
use Rattle.reading_order.specs.Groups.{IsValueOf}
use Rattle.reading_order.proofs.Gathering.{levels_at_first}
use Rattle.reading_order.proofs.Gathered.{gathered_at_first}
use Rattle.reading_order.proofs.groups.flag_groups.Goals as goal

pub loop-passed-init : goal.loop-passed-init
loop-passed-init c =
    let before = c.args.before.now in
    let flags = c.args.flags.now in
    let levels = c.in_ok-levels.levels.items in
    let looked = c.in_ok-looked.looked.items in
    let level_of : IsValueOf flags (2 ^ 64 - 1) levels before.side = rw c.requires.count at c.in_ok-levels.ensures in
    let look_of : IsValueOf flags before.side looked before.side = rw (c.requires.count, c.side-side.ensures) at c.in_ok-looked.ensures in (
      levels_at_first before flags levels looked c.requires.count c.requires.closed level_of look_of,
      omega arith,
      c.requires.count,
      c.requires.none,
      gathered_at_first before flags levels c.requires.count level_of,
      omega (arith, count_by-le-length (eqb 0) levels, level_of.count, c.requires.count),
    )
