use Rattle.std.proofs.Common.{rules, arith, ◌≡◌, ◌≤◌, ◌+◌, ℕ, List, ℤ, length, sym, refl, ap, ◌∙◌, subst}
use Rattle.std.specs.Prelude.{IsSome, vec_len}
use Rattle.std.specs.Mem.Slots.{slots_items, slots_filled, slots_counts}
use lib.ListN.{get_elem?}
use Rattle.box_search.specs.Search.{IsSound, IsGreatestKey}
use Rattle.frontier_turn.specs.declared.shared.Closed.{Closed}
use Rattle.split_frontier.specs.Callers.{ShardsHome, ShardsPass}
use Rattle.split_frontier.specs.Closing.{at_most, IsMoment, ClosesAs}
use Rattle.split_frontier.specs.Rule.{Slot}
use Rattle.split_frontier.proofs.Counting.{counted_none, counted_more, counted_all}
use Rattle.split_frontier.proofs.Ends.{closes_at, greatest, none_left}
use Rattle.split_frontier.proofs.shards.Shards.close.Goals as goal

pub loop-shard-init : goal.loop-shard-init
loop-shard-init g c =
    let slots = slots_items c.close_with-closed.result.slots in
    let counts = (slots_counts c.close_with-closed.result.slots).0 in
    (refl, refl, counted_none slots (slots_filled c.close_with-closed.result.slots) (λ shard l within. c.close_with-closed.ensures.values.1 shard l (omega arith)))

pub take-requires : goal.take-requires
take-requires g c =
    let counts = (slots_counts c.close_with-closed.result.slots).0 in
    let number = c.slot_count-shard-end.ensures in
    let inv = c.loop-shard.invariant in
    let same = inv.1 in
    let before = c.loop-shard-test.true in
    (omega arith, inv.2.filled_still c.loop-shard.shard (omega arith) (omega arith))

pub unwrap-frontier-requires : goal.unwrap-frontier-requires
unwrap-frontier-requires g c =
    let S = g.S.Space in
    let p = S.problem c.self.inside.table.shared.key in
    let all = rw (← c.pass.view_is) at c.requires.all in
    let v = c.pass.inside.seat.me.0 in
    let slots = slots_items c.close_with-closed.result.slots in
    let e = closes_at p (S.admits p) (S.lies_in p) (S.fits p) _ _ _ _ c.word-word.result all c.pass.invariant.idle c.close_with-closed.ensures.values.2 c.word-word.ensures in
    let at = ap (λ (xs : List (Slot g.row.S-Work.Denot)). get_elem? xs c.loop-shard.shard) (sym c.loop-shard.invariant.0) ∙ c.take.ensures.value in
    subst IsSome (sym (e.left.parked c.loop-shard.shard c.take.result at).1) (search rules)

pub loop-shard-preserved : goal.loop-shard-preserved
loop-shard-preserved g c =
    let counts = (slots_counts c.close_with-closed.result.slots).0 in
    let number = c.slot_count-shard-end.ensures in
    let inv = c.loop-shard.invariant in
    let same = inv.1 in
    let before = c.loop-shard-test.true in
    let slots = slots_items c.close_with-closed.result.slots in
    let filled = slots_filled c.loop-shard.closed.slots in
    let filled_counts = (slots_counts c.loop-shard.closed.slots).1 in
    let at = ap (λ (xs : List (Slot g.row.S-Work.Denot)). get_elem? xs c.loop-shard.shard) (sym inv.0) ∙ c.take.ensures.value in
    let others = c.take.ensures.others in
    let P = c.unwrap-frontier.result in
    let more = counted_more slots filled c.loop-shard.shard c.loop-shard.waiting c.loop-shard.leased c.saturating_add-waiting.result c.saturating_add-leased.result c.take.result P inv.2 at (search rules) (omega arith)
    (c.saturating_add-waiting.ensures ∙ ap (λ (n : ℕ). at_most (c.loop-shard.waiting + n)) c.waiting.ensures.open)
    (c.saturating_add-leased.ensures ∙ ap (λ (n : ℕ). at_most (c.loop-shard.leased + n)) c.out.ensures.leased) in
    (others.0 ∙ inv.0, others.2 ∙ inv.1, rw others.1 more)

pub free-requires : goal.free-requires
free-requires g c shard within =
    let counts = (slots_counts c.close_with-closed.result.slots).0 in
    let number = c.slot_count-shard-end.ensures in
    let inv = c.loop-shard.invariant in
    let same = inv.1 in
    let done = c.loop-shard-test.false in
    inv.2.emptied shard (omega arith)

pub returns : goal.returns
returns g c =
    let S = g.S.Space in
    let p = S.problem c.self.inside.table.shared.key in
    let all = rw (← c.pass.view_is) at c.requires.all in
    let own = rw (← c.self.view_is) at c.requires.own in
    let v = c.pass.inside.seat.me.0 in
    let word = c.word-word.result in
    let slots = slots_items c.close_with-closed.result.slots in
    let laws = g.met.S.Space g.world.𝓛 g.world.𝓜 g.world.𝓡 ((λ s a. a), (λ h. h), (λ n. n), (λ h. h)) in
    let e = closes_at p (S.admits p) (S.lies_in p) (S.fits p) _ _ _ _ word all c.pass.invariant.idle c.close_with-closed.ensures.values.2 c.word-word.ensures in
    let left = e.left in
    let counts = (slots_counts c.close_with-closed.result.slots).0 in
    let number = c.slot_count-shard-end.ensures in
    let done = c.loop-shard-test.false in
    let counted = counted_all slots (slots_filled c.loop-shard.closed.slots) c.loop-shard.shard c.loop-shard.waiting c.loop-shard.leased c.loop-shard.invariant.2 (omega arith) in
    let waiting_is = counted.0 in
    let leased_is = counted.1 in
    let shards = c.close_with-closed.ensures.counts.1 in
    let slots_are = c.self.invariant.slots in
    let long : length slots ≡ vec_len c.self.inside.given = omega arith in
    let closed : Closed = record { word = word; waiting = c.loop-shard.waiting; leased = c.loop-shard.leased } in
    record {
      sound = subst (λ (q : List ℤ). IsSound (S.admits q) word) (sym own.1) left.sound;
      rising = subst (λ (pass : ShardsPass). pass.view.seen ≤ word) c.pass.view_is left.seen;
      moment = subst (λ (home : ShardsHome). ClosesAs c.args.pass.view.rest.problem (S.admits c.args.pass.view.rest.problem) (S.lies_in c.args.pass.view.rest.problem) (S.fits c.args.pass.view.rest.problem) c.args.pass.view home.shards closed) c.self.view_is
          (subst (λ (q : List ℤ). ClosesAs q (S.admits q) (S.lies_in q) (S.fits q) c.args.pass.view (vec_len c.self.inside.given) closed) (sym own.1)
          (subst (λ (pass : ShardsPass). ClosesAs p (S.admits p) (S.lies_in p) (S.fits p) pass.view (vec_len c.self.inside.given) closed) c.pass.view_is
          (record {
            state = e.state;
            moment = subst (λ (n : ℕ). IsMoment p (S.admits p) (S.lies_in p) (S.fits p) v word n e.state) long e.moment;
            waiting = waiting_is ∙ ap at_most (sym e.waiting);
            leased = leased_is ∙ ap at_most (sym e.leased);
          })));
      leased = leased_is ∙ (ap at_most left.leased ∙ ap (λ (pass : ShardsPass). at_most (length pass.view.rest.leases)) c.pass.view_is);
      empties = λ listed.
          let listed_here = rw (← c.self.view_is, ← c.pass.view_is) at listed in
          let none = none_left p (S.admits p) (S.lies_in p) (S.fits p) word v slots left (λ shard within. listed_here shard (omega arith)) in
          let none_open = none.0 in
          let none_leased = none.1 in
          (omega arith, omega arith);
      greatest = λ waiting leased. subst (λ (q : List ℤ). IsGreatestKey (S.admits q) word) (sym own.1)
          (greatest p (S.admits p) (S.lies_in p) (S.fits p) (laws.positive p) word v slots left (omega arith) (omega arith));
    }
