use Rattle.reading_order.specs.Waves.{ExtendsWave}
use Rattle.reading_order.proofs.steps.step_back.Given as goal

abbrev pub invariant-loop-number : goal.invariant-loop-number
invariant-loop-number l = ExtendsWave l.before l.later l.step l.initial.steps l.steps l.initial.next.items l.next.items l.number
