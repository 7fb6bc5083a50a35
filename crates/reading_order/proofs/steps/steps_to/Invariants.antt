use Rattle.reading_order.proofs.Waves.{AreFound}
use Rattle.reading_order.proofs.steps.steps_to.Given as goal

abbrev pub invariant-loop-step : goal.invariant-loop-step
invariant-loop-step l = AreFound l.before l.target l.step l.wave.items l.steps.items
