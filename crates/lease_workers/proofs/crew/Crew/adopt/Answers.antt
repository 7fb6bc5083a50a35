use Rattle.std.proofs.Common.{ap, ◌∙◌}
use Rattle.split_frontier.specs.Views.{View}
use Rattle.split_frontier.specs.Claims.{unspent}
use Rattle.split_frontier.proofs.Working.{only_named, spent_left}
use Rattle.lease_workers.proofs.Turning.{replaces_in_turn}
use Rattle.lease_workers.proofs.crew.Crew.adopt.Goals as goal

pub adopt-requires-clause-named : goal.adopt-requires-clause-named
adopt-requires-clause-named g c κs within = only_named c.enter-turn.result.leases (unspent c.args.home c.args.lease) (c.enter-turn.ensures.leases ∙ c.requires.named)

pub adopt-requires-clause-replaces : goal.adopt-requires-clause-replaces
adopt-requires-clause-replaces g c κs within = replaces_in_turn g.S.Space.admits g.S.Space.lies_in c.args.lease.node.shape c.args.parts.seen c.args.parts.nodes.items c.args.self.now.shards.now.problem _ _
    c.enter-turn.ensures.view.1 c.requires.own.1 c.requires.replaces

pub bring_home-back-requires-clause-named : goal.bring_home-back-requires-clause-named
bring_home-back-requires-clause-named g c κs within = ap (λ (v : View). v.rest.leases) c.leave-after.ensures.view
    ∙ spent_left c.enter-turn.result.leases c.adopt.new.self.leases (unspent c.args.home c.args.lease) c.args.home c.args.lease (c.enter-turn.ensures.leases ∙ c.requires.named) c.in-Ok.ensures.spends
