use Rattle.std.proofs.Common.{false}
use Rattle.split_frontier.proofs.InTurn.{out_here, finished_here, unnamed_here}
use Rattle.split_frontier.proofs.turn.SplitTurn.finish.Goals as goal

pub finish-requires : goal.finish-requires
finish-requires g c = let S = g.S.Space in
    record { out = out_here S.admits S.lies_in S.fits c.self.invariant c.self.view_is false c.args.lease c.requires.named }

pub invariant_of-self-2 : goal.invariant_of-self-2
invariant_of-self-2 g c =
    let S = g.S.Space in
    let laws = g.met.S.Space g.world.𝓛 g.world.𝓜 g.world.𝓡 ((λ s a. a), (λ h. h), (λ n. n), (λ h. h)) in
    let step = c.in_ok-finish.ensures.ok in
    finished_here S.admits S.lies_in S.fits c.self.invariant c.self.view_is (laws.bounded _) c.finish.new.self c.unname.new.self c.args.lease c.args.nodes.items c.args.seen c.requires.seen c.requires.fits c.requires.replaces step.opened
    c.requires.named (c.unname.ensures.unnamed c.self.inside.seat.me.0.rest.leases) step.leased

pub returns-clause-names : goal.returns-clause-names
returns-clause-names g c = let S = g.S.Space in
    unnamed_here S.admits S.lies_in S.fits c.self.invariant c.self.view_is false c.args.lease c.unname.new.self c.requires.named (c.unname.ensures.unnamed c.self.inside.seat.me.0.rest.leases)
