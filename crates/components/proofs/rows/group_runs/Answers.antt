use Rattle.std.proofs.Common.{length, ap, arith}
use Rattle.components.proofs.Putting.{none_above}
use Rattle.components.proofs.rows.group_runs.Goals as goal

pub loop-y-init : goal.loop-y-init
loop-y-init c =
    let none = ap length c.new-groups.ensures.items in
    let empty = ap length c.new-above.ensures.items in
    record {
      back = λ g below. absurd (omega (arith, below, none));
      few = omega (arith, none);
      len = empty;
      valid = λ i below. absurd (omega (arith, below, empty));
      done = rw (c.new-groups.ensures.items, c.new-above.ensures.items) (none_above _);
    }
