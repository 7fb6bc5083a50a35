use Rattle.reading_order.proofs.Shortening.{some_unflagged, first_unflagged, whole_below}
use Rattle.reading_order.proofs.cycle.cycle_among.Goals as goal

pub least_unflagged-start-requires : goal.least_unflagged-start-requires
least_unflagged-start-requires c =
    record { some = some_unflagged c.args.before.now c.args.on_none.now c.requires.count c.requires.none c.requires.cycle.0 c.requires.cycle.1 }

pub cycle_through-requires-clause-whole : goal.cycle_through-requires-clause-whole
cycle_through-requires-clause-whole c =
    let start = c.least_unflagged-start.ensures in
    let steps = (rw c.deref.ensures.value at c.least_steps-whole.ensures) in
    whole_below c.args.before.now c.args.on_none.now c.requires.count c.requires.none c.least_unflagged-start.result c.least_steps-whole.result c.in_ok-steps.steps.items start.low start.off c.requires.rings c.in_ok-steps.ensures steps.least steps.low

pub cycle_through-requires-clause-next : goal.cycle_through-requires-clause-next
cycle_through-requires-clause-next c =
    let start = c.least_unflagged-start.ensures in
    let steps = (rw c.deref.ensures.value at c.least_steps-whole.ensures) in
    rw c.deref-2.ensures.value
    (steps.found
    (whole_below c.args.before.now c.args.on_none.now c.requires.count c.requires.none c.least_unflagged-start.result c.least_steps-whole.result c.in_ok-steps.steps.items start.low start.off c.requires.rings c.in_ok-steps.ensures steps.least steps.low))

pub cycle_through-requires-clause-first : goal.cycle_through-requires-clause-first
cycle_through-requires-clause-first c =
    let start = c.least_unflagged-start.ensures in
    first_unflagged c.args.before.now c.args.on_none.now c.requires.count c.requires.none c.least_unflagged-start.result start.low start.least
