use Rattle.std.proofs.Common.{arith, sym, ◌∙◌}
use Rattle.reading_order.proofs.Waves.{extends_skip, extends_none, extends_take}
use Rattle.reading_order.proofs.steps.step_back.Goals as goal
use Rattle.reading_order.proofs.steps.step_back.Goals.{then-steps-number+then-get+in_ok-push, else-steps-number, else-steps-number-via-then-steps-number+else-get, else-steps-number-via-else-steps-number}

pub loop-number-preserved : goal.loop-number-preserved
loop-number-preserved c =
    let before = c.args.before.now in
    let later = c.args.later in
    let old = c.args.steps.now in
    let new = c.loop-number.steps in
    let given = c.args.next.now.items in
    let next = c.loop-number.next.items in
    let k = c.loop-number.number in
    let inv = c.loop-number.invariant in
    elim c.if-steps-number.branch [
      | then-steps-number+then-get+in_ok-push w ↦
          rw (w.steps-is, w.next-is, w.in_ok-push.ensures.items)
          (extends_take before later c.args.step old given new next k (omega (arith, inv.is_wave.count, c.requires.count)) (omega arith) inv (omega arith) (sym w.get.ensures ∙ w.if-get.true))
      | else-steps-number w ↦
          rw (w.steps-is, w.next-is)
          (elim w.else-steps-number.branch [
            | else-steps-number-via-then-steps-number+else-get v ↦
                extends_none before later c.args.step old given new next k inv (omega arith) (sym v.get.ensures ∙ v.if-get.false)
            | else-steps-number-via-else-steps-number v ↦
                extends_skip before later c.args.step old given new next k inv (λ e. v.if-steps-number.false (omega (arith, e)))
          ])
    ]
