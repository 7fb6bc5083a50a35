use Rattle.std.proofs.Common.{◌≡◌, ℕ, sym, ap, ◌∙◌, subst, List, ℤ, []}
use Rattle.frontier_turn.specs.Holding.{TakesFitting}
use Rattle.split_frontier.specs.Views.{View}
use Rattle.split_frontier.specs.Holding.{Names, NamesOnly}
use Rattle.split_frontier.proofs.Working.{names_only}
use Rattle.search_trials.proofs.shard_hand.ShardHand.lease_from.Goals as goal

pub returns-clause-named : goal.returns-clause-named
returns-clause-named g c =
    let S = g.S.Space in
    let take = c.lease-take in
    let p = c.args.self.now.shards.now.problem in
    let none : c.enter-turn.result.leases ≡ [] = c.enter-turn.ensures.leases ∙ c.requires.unnamed in
    let same : c.enter-turn.result.view.rest.problem ≡ p = ap (λ (v : View). v.rest.problem) c.enter-turn.ensures.view.1 ∙ c.requires.own.1 in
    let fit = subst (λ (q : List ℤ). TakesFitting (S.fits q) take.result) same take.ensures.fits in
    let names = subst (λ (shard : ℕ). Names shard c.enter-turn.result.leases take.result take.new.self.leases) c.enter-turn.ensures.shard take.ensures.names in
    subst (NamesOnly c.args.shard (S.fits p) take.result) (sym (ap (λ (v : View). v.rest.leases) c.leave.ensures.view))
    (names_only (S.fits p) c.args.shard c.enter-turn.result.leases take.new.self.leases take.result none names fit)
