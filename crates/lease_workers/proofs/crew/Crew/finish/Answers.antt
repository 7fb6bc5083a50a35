use Rattle.std.proofs.Common.{◌≡◌, sym, ap, ◌∙◌, subst, List, ℤ}
use Rattle.split_frontier.specs.Views.{View}
use Rattle.split_frontier.specs.Claims.{unspent}
use Rattle.split_frontier.proofs.Working.{only_named_here, none_left}
use Rattle.lease_workers.specs.Cutting.{IsCut}
use Rattle.lease_workers.proofs.Cuts.{cut_of_parts}
use Rattle.lease_workers.proofs.Turning.{named_again, replaces_in_turn}
use Rattle.lease_workers.proofs.crew.Crew.finish.Goals as goal

pub finish-requires-clause-named : goal.finish-requires-clause-named
finish-requires-clause-named g c κs within = only_named_here c.enter-turn.result.leases (λ home. unspent home c.args.lease) c.args.worker.now.own c.enter-turn.result.shard (c.enter-turn.ensures.leases ∙ c.requires.named) (c.enter-turn.ensures.shard ∙ c.pass_gate.ensures)

pub finish-requires-clause-replaces : goal.finish-requires-clause-replaces
finish-requires-clause-replaces g c κs within = replaces_in_turn g.S.Space.admits g.S.Space.lies_in c.args.lease.node.shape c.args.parts.seen c.args.parts.nodes.items c.args.self.now.shards.now.problem _ _
    c.enter-turn.ensures.view.1 c.requires.own.1 c.requires.replaces

pub lease_worthy-take-requires-clause-unnamed : goal.lease_worthy-take-requires-clause-unnamed
lease_worthy-take-requires-clause-unnamed g c κs within = none_left c.enter-turn.result.leases c.finish.new.self.leases (unspent c.args.worker.now.own c.args.lease) (unspent c.enter-turn.result.shard c.args.lease) (c.enter-turn.ensures.leases ∙ c.requires.named) c.in-Ok.ensures.names

pub lease_worthy-take-requires-clause-cut : goal.lease_worthy-take-requires-clause-cut
lease_worthy-take-requires-clause-cut g c κs within =
    let S = g.S.Space in
    let q = c.args.self.now.shards.now.problem in
    let laws = g.met.S.Space g.world.𝓛 g.world.𝓜 g.world.𝓡 ((λ s a. a), (λ h. h), (λ n. n), (λ h. h)) in
    let news = c.finish.new.self.frontier.open_nodes in
    let same : c.finish.new.self.view.rest.problem ≡ q = ap (λ (v : View). v.rest.problem) (c.finish.ensures.view ∙ c.enter-turn.ensures.view.1) ∙ c.requires.own.1 in
    subst (λ (p : List ℤ). IsCut (S.admits p) (S.lies_in p) c.args.parts.seen c.args.lease.node.shape news) (sym same)
    (cut_of_parts (S.admits q) (S.lies_in q) (S.fits q) (laws.bounded q) c.args.lease.node.shape c.args.parts.seen c.args.parts.nodes.items c.enter-turn.result.frontier.open_nodes news c.requires.fits c.requires.smaller c.requires.replaces c.in-Ok.ensures.frontier.opened)

pub reopen-requires-clause-named : goal.reopen-requires-clause-named
reopen-requires-clause-named g c κs within = named_again c.finish.new.self.leases c.finish.new.self.shard c.args.worker.now.own c.args.lease c.in-Err.unfinished.lease (c.finish.ensures.shard ∙ (c.enter-turn.ensures.shard ∙ c.pass_gate.ensures)) c.in-Err.ensures.lease_returned (c.in-Err.ensures.err_names ∙ (c.enter-turn.ensures.leases ∙ c.requires.named))

pub returns-in-Err-clause-unnamed : goal.returns-in-Err-clause-unnamed
returns-in-Err-clause-unnamed g c = ap (λ (v : View). v.rest.leases) c.leave-after.ensures.view
    ∙ none_left c.finish.new.self.leases c.reopen.new.self.leases (unspent c.args.worker.now.own c.args.lease) (unspent c.finish.new.self.shard c.in-Err.unfinished.lease) (c.in-Err.ensures.err_names ∙ (c.enter-turn.ensures.leases ∙ c.requires.named)) c.reopen.ensures.names
