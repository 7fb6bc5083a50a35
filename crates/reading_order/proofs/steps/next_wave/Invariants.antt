use Rattle.std.proofs.Common.{take}
use Rattle.reading_order.specs.Waves.{IsWave}
use Rattle.reading_order.proofs.steps.next_wave.Given as goal

abbrev pub invariant-loop-later : goal.invariant-loop-later
invariant-loop-later l = IsWave l.before (take l.later-index l.wave) l.step l.initial.steps l.steps l.next.items l.before.side
