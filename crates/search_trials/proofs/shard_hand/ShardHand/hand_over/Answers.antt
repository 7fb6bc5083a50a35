use Rattle.std.proofs.Common.{refl, List, ℤ, sym, ap, ◌∙◌, subst}
use Rattle.split_frontier.specs.Views.{View}
use Rattle.split_frontier.specs.declared.view.Rest.{Rest}
use Rattle.split_frontier.specs.Claims.{unspent}
use Rattle.split_frontier.proofs.Working.{only_named, spent_left}
use Rattle.search_trials.proofs.Replacing.{same_problem, replaces_by, fit_by}
use Rattle.search_trials.proofs.shard_hand.ShardHand.hand_over.Goals as goal
use Rattle.search_trials.proofs.shard_hand.ShardHand.hand_over.Goals.{in-Ok-adopt, in-Err}

pub replace-requires-clause-admits : goal.replace-requires-clause-admits
replace-requires-clause-admits g c κs within key is = subst (λ (p : List ℤ). g.S.Space.admits p key) (sym c.requires.space) is

pub adopt-requires-clause-named : goal.adopt-requires-clause-named
adopt-requires-clause-named g c κs within =
    let named = c.enter-turn.ensures.leases ∙ (ap (λ (r : Rest). r.leases) c.replace.ensures.rest ∙ c.requires.named) in
    only_named c.enter-turn.result.leases (unspent c.args.home c.args.lease.now) named

pub adopt-requires-clause-fits : goal.adopt-requires-clause-fits
adopt-requires-clause-fits g c κs within = fit_by (same_problem c.enter-turn.ensures.view.1 refl c.replace.ensures.rest c.requires.own.1 c.requires.space) g.S.Space.fits c.in-Ok.nodes.items c.in-Ok.ensures.fits

pub adopt-requires-clause-replaces : goal.adopt-requires-clause-replaces
adopt-requires-clause-replaces g c κs within =
    let S = g.S.Space in
    replaces_by (same_problem c.enter-turn.ensures.view.1 refl c.replace.ensures.rest c.requires.own.1 c.requires.space) S.admits S.lies_in c.args.lease.now.node.shape c.in-Ok.seen c.in-Ok.nodes.items c.in-Ok.ensures.replaces

pub returns-in_default-clause-named : goal.returns-in_default-clause-named
returns-in_default-clause-named g c = ap (λ (r : Rest). r.leases) c.replace.ensures.rest ∙ c.requires.named

pub returns-clause-named : goal.returns-clause-named
returns-clause-named g c =
    let named = c.enter-turn.ensures.leases ∙ (ap (λ (r : Rest). r.leases) c.replace.ensures.rest ∙ c.requires.named) in
    elim c.match-adopt.branch [
      | in-Ok-adopt w ↦ rw w.result-is
          (ap (λ (v : View). v.rest.leases) w.leave.ensures.view
          ∙ spent_left c.enter-turn.result.leases c.adopt.new.self.leases (unspent c.args.home c.args.lease.now) c.args.home c.args.lease.now named w.in-Ok-adopt.ensures.spends)
      | in-Err w ↦ rw w.result-is (ap (λ (v : View). v.rest.leases) w.leave-in-Err.ensures.view ∙ (w.in-Err.ensures.err_names ∙ named))
    ]
