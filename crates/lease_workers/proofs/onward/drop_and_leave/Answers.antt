use Rattle.std.proofs.Common.{◌∙◌}
use Rattle.split_frontier.specs.Claims.{unspent}
use Rattle.split_frontier.proofs.Working.{only_named, none_left}
use Rattle.lease_workers.proofs.Cuts.{low_replaces}
use Rattle.lease_workers.proofs.onward.drop_and_leave.Goals as goal

pub pass_over-requires-clause-named : goal.pass_over-requires-clause-named
pass_over-requires-clause-named g c κs within = only_named c.args.turn.leases (unspent c.args.turn.shard c.args.lease) c.requires.named

pub pass_over-requires-clause-open : goal.pass_over-requires-clause-open
pass_over-requires-clause-open g c κs within =
    let S = g.S.Space in
    let p = c.args.turn.view.rest.problem in
    let laws = g.met.S.Space g.world.𝓛 g.world.𝓜 g.world.𝓡 ((λ s a. a), (λ h. h), (λ n. n), (λ h. h)) in
    low_replaces (S.admits p) (S.lies_in p) (S.fits p) (laws.bounded p) c.args.lease.node c.args.seen _ c.requires.fit c.requires.low

pub lease_and_leave-requires-clause-unnamed : goal.lease_and_leave-requires-clause-unnamed
lease_and_leave-requires-clause-unnamed g c κs within = c.clear.ensures.leases
    ∙ none_left c.args.turn.leases c.pass_over.new.self.leases (unspent c.args.turn.shard c.args.lease) (unspent c.args.turn.shard c.args.lease) c.requires.named c.pass_over.ensures.names
