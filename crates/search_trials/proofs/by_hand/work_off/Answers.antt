use Rattle.std.proofs.Common.{List, ℤ, sym, subst}
use Rattle.search_trials.proofs.Replacing.{replaces_by, fit_by}
use Rattle.search_trials.proofs.by_hand.work_off.Goals as goal

pub replace-requires-clause-admits : goal.replace-requires-clause-admits
replace-requires-clause-admits g c κs within key is = subst (λ (p : List ℤ). g.S.Space.admits p key) (sym c.requires.space) is

pub end_lease-requires-clause-fits : goal.end_lease-requires-clause-fits
end_lease-requires-clause-fits g c κs within = fit_by c.requires.space g.S.Space.fits c.in-Ok.nodes.items c.in-Ok.ensures.fits

pub end_lease-requires-clause-replaces : goal.end_lease-requires-clause-replaces
end_lease-requires-clause-replaces g c κs within =
    let S = g.S.Space in replaces_by c.requires.space S.admits S.lies_in c.args.lease.node.shape c.in-Ok.seen c.in-Ok.nodes.items c.in-Ok.ensures.replaces
