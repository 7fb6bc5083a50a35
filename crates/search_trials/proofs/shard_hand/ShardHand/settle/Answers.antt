use Rattle.std.proofs.Common.{◌∷◌, [], refl, List, ℤ, sym, ap, ◌∙◌, subst}
use Rattle.box_search.specs.declared.lease.Lease.{Lease}
use Rattle.split_frontier.specs.Views.{View}
use Rattle.split_frontier.specs.declared.view.Rest.{Rest}
use Rattle.split_frontier.specs.Claims.{unspent}
use Rattle.split_frontier.proofs.Working.{only_named_here, none_left}
use Rattle.search_trials.proofs.Replacing.{same_problem, replaces_by, fit_by}
use Rattle.search_trials.proofs.shard_hand.ShardHand.settle.Goals as goal

pub replace-requires-clause-admits : goal.replace-requires-clause-admits
replace-requires-clause-admits g c κs within key is = subst (λ (p : List ℤ). g.S.Space.admits p key) (sym c.requires.space) is

pub finish-requires-clause-fits : goal.finish-requires-clause-fits
finish-requires-clause-fits g c κs within = fit_by (same_problem c.enter-turn.ensures.view.1 refl c.replace.ensures.rest c.requires.own.1 c.requires.space) g.S.Space.fits c.in-Ok.nodes.items c.in-Ok.ensures.fits

pub finish-requires-clause-replaces : goal.finish-requires-clause-replaces
finish-requires-clause-replaces g c κs within =
    let S = g.S.Space in
    replaces_by (same_problem c.enter-turn.ensures.view.1 refl c.replace.ensures.rest c.requires.own.1 c.requires.space) S.admits S.lies_in c.args.lease.node.shape c.in-Ok.seen c.in-Ok.nodes.items c.in-Ok.ensures.replaces

pub finish-requires-clause-named : goal.finish-requires-clause-named
finish-requires-clause-named g c κs within =
    let named = c.enter-turn.ensures.leases ∙ (ap (λ (r : Rest). r.leases) c.replace.ensures.rest ∙ c.requires.named) in
    only_named_here c.enter-turn.result.leases (λ home. unspent home c.args.lease) c.args.self.now.own c.enter-turn.result.shard named c.enter-turn.ensures.shard

pub returns-in-Ok-finish-clause-unnamed : goal.returns-in-Ok-finish-clause-unnamed
returns-in-Ok-finish-clause-unnamed g c =
    let named = c.enter-turn.ensures.leases ∙ (ap (λ (r : Rest). r.leases) c.replace.ensures.rest ∙ c.requires.named) in
    ap (λ (v : View). v.rest.leases) c.leave.ensures.view
    ∙ none_left c.enter-turn.result.leases c.finish.new.self.leases (unspent c.args.self.now.own c.args.lease) (unspent c.enter-turn.result.shard c.args.lease) named c.in-Ok-finish.ensures.names

pub bring_home-back-requires-clause-named : goal.bring_home-back-requires-clause-named
bring_home-back-requires-clause-named g c κs within = ap (λ (r : Rest). r.leases) c.replace.ensures.rest ∙ c.requires.named

pub bring_home-back-requires-in-Err-clause-named : goal.bring_home-back-requires-in-Err-clause-named
bring_home-back-requires-in-Err-clause-named g c κs within =
    let named = c.enter-turn.ensures.leases ∙ (ap (λ (r : Rest). r.leases) c.replace.ensures.rest ∙ c.requires.named) in
    ap (λ (v : View). v.rest.leases) c.leave-pass.ensures.view
    ∙ (c.in-Err.ensures.err_names ∙ (named ∙ ap (λ (lease : Lease g.row.S-Work.Denot). unspent c.args.self.now.own lease ∷ []) (sym c.in-Err.ensures.lease_returned)))
