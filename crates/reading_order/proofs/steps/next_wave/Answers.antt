use Rattle.std.proofs.Common.{ℕ, List, ◌++◌, get_or, take, arith, sym, subst}
use Rattle.std.proofs.lemmas.List.{take_more}
use Rattle.reading_order.specs.Waves.{IsWave}
use Rattle.reading_order.proofs.Waves.{wave_join}
use Rattle.reading_order.proofs.steps.next_wave.Goals as goal

pub loop-later-preserved : goal.loop-later-preserved
loop-later-preserved c =
    let before = c.args.before.now in
    let wave = c.args.wave.now in
    let step = c.args.step in
    let old = c.args.steps.now in
    let mid = c.loop-later.steps in
    let new = c.step_back.new.steps in
    let k = c.loop-later.later-index in
    let y = get_or wave k 0 in
    let more = c.in_ok-step_back.ensures in
    let joined = wave_join before (take k wave) y step old mid new c.loop-later.next.items more.added c.requires.step c.loop-later.invariant more.is_wave in
    let P : List ℕ → Type 0 = λ xs. IsWave before xs step old new (c.loop-later.next.items ++ more.added) before.side in
    rw more.gains (subst P (sym (take_more wave k 0 (omega arith))) joined)
