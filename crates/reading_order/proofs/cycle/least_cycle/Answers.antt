use Rattle.std.proofs.Common.{◌≡◌, length, drop, take_at, arith, ◌∙◌}
use Rattle.reading_order.proofs.cycle.least_cycle.Goals as goal

pub cycle_among-requires : goal.cycle_among-requires
cycle_among-requires c =
    let flags = c.flag_groups.new.flags in
    let done = c.in_ok-flag_groups.ensures in
    let size : length flags ≡ c.args.taken.len = omega (arith, done.count, c.requires.count, c.args.taken.ok.0) in
    let same : c.deref.result.now ≡ flags = c.deref.ensures.value ∙ take_at flags (drop (length flags) c.args.taken.items) c.args.taken.len size in
    rw same
    (record { small = c.requires.small; count = done.count; none = done.none; rings = done.rings; cycle = c.requires.cycle })
