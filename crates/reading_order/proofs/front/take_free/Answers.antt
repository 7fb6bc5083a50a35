use Rattle.std.proofs.Common.{◌≡◌, ℕ, ◌<◌, false, length, drop, take_at, replicate, rules, arith, refl}
use Rattle.std.specs.List.{range_with_len}
use Rattle.std.proofs.lemmas.List.{length_push}
use Rattle.reading_order.specs.Tables.{Marks}
use Rattle.reading_order.specs.Looking.{AreLooked, IsLeastFreeNumber, IsNotFree}
use Rattle.reading_order.proofs.Taking.{free_from, flags_push, looked_push, flags_nil, looked_nil, greedy_full, greedy_stuck}
use Rattle.reading_order.proofs.Fronts.{IsFront-push, IsFront-nil}
use Rattle.reading_order.proofs.front.take_free.Goals as goal

pub loop-count-init : goal.loop-count-init
loop-count-init c =
    let before = c.args.before.now in
    let blank : c.in_ok-taken.taken.items ≡ replicate before.side false = search rules in
    let none : c.in_ok-looked.looked.items ≡ replicate before.side 0 = search rules in
    rw (c.new-order.ensures.empty, blank, none)
    (refl, (range_with_len 0 before.side, IsFront-nil (Marks before) before.side), flags_nil before, looked_nil before, search rules)

pub loop-count-preserved : goal.loop-count-preserved
loop-count-preserved c =
    let before = c.args.before.now in
    let order = c.loop-count.order in
    let v = c.in-Some.number in
    let inv = c.loop-count.invariant in
    let found : IsLeastFreeNumber before c.loop-count.taken.items v = rw c.deref.ensures.value at c.in-Some.ensures.least in
    let free = free_from before c.loop-count.taken.items order inv.2 v found in
    let step = IsFront-push (Marks before) before.side order inv.1.0 v inv.1.1 free in
    let seen : AreLooked before c.loop-count.taken.items c.least_free_number.new.looked = rw c.deref.ensures.value at c.in-Some.ensures.looked in
    let looked = looked_push before c.loop-count.taken.items c.least_free_number.new.looked v seen in
    let size : length c.least_free_number.new.looked ≡ c.loop-count.looked.len = omega (arith, seen.count, inv.3.count, c.loop-count.looked.ok.0) in
    let written = take_at c.least_free_number.new.looked (drop (length c.least_free_number.new.looked) c.loop-count.looked.items) c.loop-count.looked.len size in
    rw (c.in_ok-push.ensures.grown, written) (
      omega (arith, inv.0, length_push order v),
      step,
      flags_push before c.loop-count.taken.items order v (omega (arith, inv.4, c.loop-count.taken.ok.0)) free.low inv.2,
      looked,
      inv.4,
    )

pub returns-in_default-clause-greedy : goal.returns-in_default-clause-greedy
returns-in_default-clause-greedy c =
    let before = c.args.before.now in
    let none : (x : ℕ) → x < before.side → IsNotFree before c.loop-count.taken.items x = rw c.deref.ensures.value at c.in_default.ensures.none in
    greedy_stuck before c.loop-count.taken.items c.loop-count.order c.loop-count.invariant.1.0 c.loop-count.invariant.1.1 c.loop-count.invariant.2 none

pub returns-clause-greedy : goal.returns-clause-greedy
returns-clause-greedy c = greedy_full c.args.before.now c.loop-count.order c.loop-count.invariant.1.0 c.loop-count.invariant.1.1 (omega (arith, c.loop-count.invariant.0))
