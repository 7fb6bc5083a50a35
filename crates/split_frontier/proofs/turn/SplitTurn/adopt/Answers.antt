use Rattle.std.proofs.Common.{◌∷◌, ◌∙◌}
use Rattle.split_frontier.proofs.InTurn.{adopted_here, spends_here}
use Rattle.split_frontier.proofs.turn.SplitTurn.adopt.Goals as goal

pub invariant_of-self-2 : goal.invariant_of-self-2
invariant_of-self-2 g c =
    let S = g.S.Space in
    let laws = g.met.S.Space g.world.𝓛 g.world.𝓜 g.world.𝓡 ((λ s a. a), (λ h. h), (λ n. n), (λ h. h)) in
    let before = c.self.inside.seat.me.0.rest.leases in
    let now = c.name.ensures.named before ∙ (λ i. c.claim.ensures.claim i ∷ c.unname.ensures.unnamed before i) in
    let step = c.in_ok-add.ensures.ok in
    adopted_here S.admits S.lies_in S.fits c.self.invariant c.self.view_is (laws.bounded _) c.add.new.self c.name.new.self c.args.lease.now c.args.nodes.items c.args.seen c.requires.seen c.requires.fits c.requires.replaces step.opened
    c.args.home c.requires.foreign c.requires.named now step.leased

pub returns-clause-spends : goal.returns-clause-spends
returns-clause-spends g c =
    let S = g.S.Space in
    let before = c.self.inside.seat.me.0.rest.leases in
    spends_here S.admits S.lies_in S.fits c.self.invariant c.self.view_is c.args.home c.args.lease.now c.name.new.self c.requires.named (c.name.ensures.named before ∙ (λ i. c.claim.ensures.claim i ∷ c.unname.ensures.unnamed before i))
