use Rattle.std.proofs.Common.{◌≡◌, ◌∷◌, ap, sym, ◌∙◌, subst, List, ℤ}
use Rattle.frontier_turn.specs.Holding.{TakesFitting}
use Rattle.split_frontier.specs.Claims.{claims_after}
use Rattle.split_frontier.specs.Holding.{ShardHold}
use Rattle.split_frontier.specs.Steps.{MayReturn}
use Rattle.frontier_turn.proofs.OpenNodes.{answered_fits}
use Rattle.split_frontier.proofs.Leases.{leased}
use Rattle.split_frontier.proofs.Turns.{goes_on}
use Rattle.split_frontier.proofs.turn.SplitTurn.lease.Goals as goal

pub invariant_of-self : goal.invariant_of-self
invariant_of-self g c =
    let S = g.S.Space in
    let p = S.problem c.self.inside.table.now.key in
    let inv = c.self.invariant in
    let v = c.self.inside.seat.me.0 in
    let cs = claims_after v.rest.leases c.self.inside.naming in
    let named = c.name.ensures.named v.rest.leases ∙ ap (λ claim. claim ∷ cs) c.claim.ensures.claim in
    goes_on p (S.admits p) (S.lies_in p) (S.fits p) _ _ _ _ c.self.inside.frontier c.lease-take.new.self _ _ inv
    (subst (MayReturn (S.admits p) (S.lies_in p) (S.fits p) v c.self.inside.shard c.lease-take.new.self) (sym named)
    (leased (S.admits p) (S.lies_in p) (S.fits p) v c.self.inside.shard inv.leased inv.differ c.self.inside.frontier c.lease-take.new.self cs c.in-Leased.lease inv.may_return (rw c.in-Leased.is at c.lease-take.ensures.takes)))

pub returns-in-Leased-clause-fits : goal.returns-in-Leased-clause-fits
returns-in-Leased-clause-fits g c =
    let S = g.S.Space in
    let inv = c.self.invariant in
    let p = S.problem c.self.inside.table.now.key in
    let same : c.args.self.now.view.rest.problem ≡ p = ap (λ (t : ShardHold g.row.S-Work.Denot). t.view.rest.problem) (sym c.self.view_is) ∙ inv.problem_is in
    subst (λ (q : List ℤ). TakesFitting (S.fits q) c.lease-take.result) (sym same)
    (answered_fits (S.fits p) c.self.inside.frontier c.lease-take.new.self c.lease-take.result inv.may_return.fitting c.lease-take.ensures.takes)
