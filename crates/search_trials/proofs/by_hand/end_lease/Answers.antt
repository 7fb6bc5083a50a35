use Rattle.std.proofs.Common.{◌≡◌, sym, ap, ◌∙◌, subst, List, ℤ}
use Rattle.frontier_turn.specs.Views.{View}
use Rattle.frontier_turn.specs.Holding.{Replaces}
use Rattle.frontier_turn.proofs.Working.{is_named, names_no_more, still_named, names_no_more_again}
use Rattle.search_trials.proofs.by_hand.end_lease.Goals as goal

pub finish-requires-clause-named : goal.finish-requires-clause-named
finish-requires-clause-named g c κs within = is_named c.enter-turn.result c.args.lease c.args.pass.view.rest.leases c.enter-turn.ensures.leases c.requires.named

pub finish-requires-clause-replaces : goal.finish-requires-clause-replaces
finish-requires-clause-replaces g c κs within =
    let S = g.S.Space in
    let same : c.enter-turn.result.view.rest.problem ≡ c.args.shared.now.problem = ap (λ (v : View). v.rest.problem) c.enter-turn.ensures.view.1 ∙ c.requires.own.1 in
    subst (λ (q : List ℤ). Replaces (S.admits q) (S.lies_in q) c.args.lease.node.shape c.args.seen c.args.nodes.items) (sym same) c.requires.replaces

pub returns-in-Ok-clause-unnamed : goal.returns-in-Ok-clause-unnamed
returns-in-Ok-clause-unnamed g c = ap (λ (v : View). v.rest.leases) c.leave.ensures.view
    ∙ names_no_more c.enter-turn.result c.finish.new.self c.args.lease c.args.pass.view.rest.leases c.enter-turn.ensures.leases c.requires.named c.in-Ok.ensures.names

pub reopen-requires-clause-named : goal.reopen-requires-clause-named
reopen-requires-clause-named g c κs within = still_named c.enter-turn.result c.finish.new.self c.args.lease c.in-Err.unfinished.lease c.args.pass.view.rest.leases c.enter-turn.ensures.leases c.requires.named c.finish.ensures.view c.in-Err.ensures.err c.in-Err.ensures.lease_returned

pub returns-in-Err-clause-unnamed : goal.returns-in-Err-clause-unnamed
returns-in-Err-clause-unnamed g c = ap (λ (v : View). v.rest.leases) c.leave-in-Err.ensures.view
    ∙ names_no_more_again c.enter-turn.result c.finish.new.self c.reopen.new.self c.args.lease c.in-Err.unfinished.lease c.args.pass.view.rest.leases c.enter-turn.ensures.leases c.requires.named c.finish.ensures.view c.in-Err.ensures.err c.reopen.ensures.names
