use Rattle.std.proofs.Common.{rules, arith, List, ℤ, ap, sym, ◌∙◌, subst, ◌∷◌, Some, None}
use Rattle.std.specs.Prelude.{IsSome}
use Rattle.atomic_table.specs.Table.{rest}
use Rattle.frontier_turn.specs.Snapshots.{snapshot_of}
use Rattle.split_frontier.specs.declared.parked.Parked.{Parked}
use Rattle.split_frontier.specs.declared.view.Claim.{Claim}
use Rattle.split_frontier.specs.Callers.{ShardsPass}
use Rattle.split_frontier.specs.Holding.{AreLeased}
use Rattle.split_frontier.specs.Steps.{Finds}
use Rattle.split_frontier.specs.Views.{View, meets, takes_turn}
use Rattle.split_frontier.proofs.Taking.{takes_the_turn}
use Rattle.split_frontier.proofs.Turns.{found_is, parked_is, begins_at, are_leased}
use Rattle.split_frontier.proofs.shards.Shards.try_enter.Goals as goal

pub swap-requires : goal.swap-requires
swap-requires g c =
    let S = g.S.Space in
    let p = S.problem c.self.inside.table.shared.key in
    let own = rw (← c.self.view_is, ← c.pass.view_is) at c.requires.own in
    let there = rw (← c.self.view_is) at c.requires.there in
    let counts = c.self.invariant in
    (own.0, omega (arith, counts.words, there), takes_the_turn p (S.admits p) (S.lies_in p) S.fits _ _ _ own.1 c.pass.invariant.live c.args.shard c.pass.invariant.idle (omega (arith, counts.slots, there)) _ 1 0 (omega arith))

pub invariant_of-result : goal.invariant_of-result
invariant_of-result g c =
    let t = (c.swap.ensures.2 c.args.shard (omega arith)).1 c.if-swap-ne0.true in
    let idle = c.pass.invariant in
    record { live = rw t.0 idle.live; idle = ap (λ (v : View). v.rest.holds) t.0 ∙ idle.idle; none_carried = t.1 ∙ idle.none_carried }

pub returns-then-swap-ne0-clause-met : goal.returns-then-swap-ne0-clause-met
returns-then-swap-ne0-clause-met g c =
    let t = (c.swap.ensures.2 c.args.shard (omega arith)).1 c.if-swap-ne0.true in
    t.0 ∙ ap (λ (pass : ShardsPass). meets c.args.shard pass.view) c.pass.view_is

pub exchange-requires : goal.exchange-requires
exchange-requires g c =
    let own = rw (← c.self.view_is, ← c.pass.view_is) at c.requires.own in
    let t = (c.swap.ensures.2 c.args.shard (omega arith)).0 (search rules) in
    (c.swap.ensures.0 ∙ own.0, (Some t.0, t.2 ∙ ap (λ l. (c.args.shard, Some t.0) ∷ rest l) (sym t.2)))

pub unwrap-parked-requires : goal.unwrap-parked-requires
unwrap-parked-requires g c =
    let t = (c.swap.ensures.2 c.args.shard (omega arith)).0 (search rules) in
    subst IsSome (sym (found_is c.args.shard c.exchange.result t.0 _ _ _ t.2 c.exchange.ensures.2)) (search rules)

pub invariant_of-result-2 : goal.invariant_of-result-2
invariant_of-result-2 g c =
    let S = g.S.Space in
    let p = S.problem c.self.inside.table.shared.key in
    let own = rw (← c.self.view_is, ← c.pass.view_is) at c.requires.own in
    let there = rw (← c.self.view_is) at c.requires.there in
    let inv = c.self.invariant in
    let words = inv.words in
    let slots = inv.slots in
    let v = c.pass.inside.seat.me.0 in
    let t = (c.swap.ensures.2 c.args.shard (omega arith)).0 (search rules) in
    let is = found_is c.args.shard c.exchange.result t.0 _ _ _ t.2 c.exchange.ensures.2 in
    let found = subst (λ (q : List ℤ). Finds (S.fits q) c.args.shard v.rest.leases t.0.frontier) own.1 t.3 in
    begins_at p (S.admits p) (S.lies_in p) (S.fits p) _ _ c.exchange.new.seat.me v c.args.shard t.0 c.unwrap-parked.result
    (ap (λ m. m.0) c.exchange.ensures.3 ∙ t.1)
    (ap (λ m. m.1) c.exchange.ensures.3 ∙ (ap (λ l. (c.args.shard, None) ∷ rest l) t.2 ∙ ap (λ l. (c.args.shard, None) ∷ l) c.pass.invariant.none_carried))
    (parked_is c.exchange.result t.0 c.unwrap-parked.result is (search rules))
    (c.exchange.ensures.0 ∙ (c.swap.ensures.0 ∙ own.0)) (omega arith) (omega arith) own.1 c.pass.invariant.live found

pub returns-clause-turn_view : goal.returns-clause-turn_view
returns-clause-turn_view g c =
    let t = (c.swap.ensures.2 c.args.shard (omega arith)).0 (search rules) in
    let is = found_is c.args.shard c.exchange.result t.0 _ _ _ t.2 c.exchange.ensures.2 in
    let same = parked_is c.exchange.result t.0 c.unwrap-parked.result is (search rules) in
    ap (λ m. m.0) c.exchange.ensures.3 ∙ (t.1 ∙ (ap (λ (pass : ShardsPass). takes_turn pass.view c.args.shard (snapshot_of t.0.frontier)) c.pass.view_is
    ∙ ap (λ (P : Parked g.row.S-Work.Denot). takes_turn c.args.pass.view c.args.shard (snapshot_of P.frontier)) (sym same)))

pub returns-clause-turn_leases : goal.returns-clause-turn_leases
returns-clause-turn_leases g c =
    let t = (c.swap.ensures.2 c.args.shard (omega arith)).0 (search rules) in
    ap (λ m. m.0.rest.leases) c.exchange.ensures.3 ∙ (ap (λ (v : View). v.rest.leases) t.1 ∙ ap (λ (pass : ShardsPass). pass.view.rest.leases) c.pass.view_is)

pub returns-clause-turn_leased : goal.returns-clause-turn_leased
returns-clause-turn_leased g c =
    let t = (c.swap.ensures.2 c.args.shard (omega arith)).0 (search rules) in
    let is = found_is c.args.shard c.exchange.result t.0 _ _ _ t.2 c.exchange.ensures.2 in
    let same = parked_is c.exchange.result t.0 c.unwrap-parked.result is (search rules) in
    let leases = ap (λ m. m.0.rest.leases) c.exchange.ensures.3 ∙ ap (λ (v : View). v.rest.leases) t.1 in
    subst (λ (P : Parked g.row.S-Work.Denot). AreLeased c.args.shard c.exchange.new.seat.me.0.rest.leases P.frontier) (sym same)
    (subst (λ (cs : List Claim). AreLeased c.args.shard cs t.0.frontier) (sym leases) (are_leased _ c.args.shard _ t.0.frontier t.3))
