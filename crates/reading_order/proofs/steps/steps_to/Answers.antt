use Rattle.std.proofs.Common.{◌≡◌, length, drop, take_at, replicate, vec_len, arith, sym, ◌∙◌, inl, inr, rules}
use Rattle.std.proofs.lemmas.Bool.{eqb-true}
use Rattle.reading_order.specs.Waves.{IsWave}
use Rattle.reading_order.proofs.Waves.{found_nil, found_next, found_all}
use Rattle.reading_order.proofs.steps.steps_to.Goals as goal

pub loop-step-init : goal.loop-step-init
loop-step-init c =
    let before = c.args.before.now in
    let blank : c.in_ok-steps.steps.items ≡ replicate before.side before.side = search rules in
    rw (blank, c.in_ok-push.ensures.items, c.new-wave.ensures.items) (found_nil before c.args.target c.requires)

pub loop-step-preserved : goal.loop-step-preserved
loop-step-preserved c =
    let before = c.args.before.now in
    let step = c.loop-step.step in
    let inv = c.loop-step.invariant in
    let wave : IsWave before c.loop-step.wave.items step c.loop-step.steps.items c.next_wave.new.steps c.in_ok-wave.wave.items before.side =
    rw (c.deref.ensures.value, c.deref_mut.ensures.value) at c.in_ok-wave.ensures in
    let size : length c.next_wave.new.steps ≡ c.loop-step.steps.len = omega (arith, wave.count, c.loop-step.steps.ok.0) in
    let written = take_at c.next_wave.new.steps (drop (length c.next_wave.new.steps) c.loop-step.steps.items) c.loop-step.steps.len size in
    rw written
    (found_next before c.args.target c.requires step (omega arith) (omega arith) c.loop-step.wave.items c.loop-step.steps.items c.next_wave.new.steps c.in_ok-wave.wave.items inv wave)

pub returns-then-is_empty : goal.returns-then-is_empty
returns-then-is_empty c =
    found_all c.args.before.now c.args.target c.requires c.loop-step.step c.loop-step.wave.items c.loop-step.steps.items (omega arith) c.loop-step.invariant (inr (omega (arith, eqb-true (vec_len c.loop-step.wave) 0 (sym c.is_empty.ensures ∙ c.if-is_empty.true), c.loop-step.wave.ok.0)))

pub returns : goal.returns
returns c =
    found_all c.args.before.now c.args.target c.requires c.loop-step.step c.loop-step.wave.items c.loop-step.steps.items (omega arith) c.loop-step.invariant (inl (omega arith))
