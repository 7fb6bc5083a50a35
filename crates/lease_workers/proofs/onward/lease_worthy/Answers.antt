use Rattle.std.proofs.Common.{◌≡◌, ◌∷◌, rules, sym, ap, ◌∙◌, subst, List, ℤ}
use Rattle.box_search.specs.declared.space.Node.{Node}
use Rattle.frontier_turn.specs.Holding.{Replaces}
use Rattle.split_frontier.specs.Views.{View}
use Rattle.split_frontier.specs.declared.view.Claim.{Claim}
use Rattle.split_frontier.specs.Claims.{unspent}
use Rattle.split_frontier.proofs.Working.{only_named_here, none_left}
use Rattle.lease_workers.specs.Cutting.{IsCut}
use Rattle.lease_workers.proofs.Cuts.{cut_stays, beside, others_below}
use Rattle.lease_workers.proofs.onward.lease_worthy.Goals as goal

pub drop_and_leave-requires-clause-greatest : goal.drop_and_leave-requires-clause-greatest
drop_and_leave-requires-clause-greatest g c κs within =
    others_below c.loop.turn.frontier.open_nodes c.lease.new.self.frontier.open_nodes c.in-Leased.lease.node c.in-Leased.ensures.frontier.greatest c.in-Leased.ensures.frontier.opened

pub pass_over-requires-clause-named : goal.pass_over-requires-clause-named
pass_over-requires-clause-named g c κs within =
    let lease = c.in-Leased.lease in
    only_named_here c.lease.new.self.leases (λ home. unspent home lease) c.loop.turn.shard c.lease.new.self.shard (c.in-Leased.ensures.names ∙ ap (λ (cs : List Claim). unspent c.loop.turn.shard lease ∷ cs) c.loop.invariant.unnamed) c.in-Leased.ensures.shard

pub pass_over-requires-clause-open : goal.pass_over-requires-clause-open
pass_over-requires-clause-open g c κs within =
    let S = g.S.Space in
    let p = c.args.turn.view.rest.problem in
    let node = c.in-Leased.lease.node in
    let news = c.lease.new.self.frontier.open_nodes in
    let is = c.if-not-is_same.ensures.same (search rules) in
    let cut = cut_stays (S.admits p) (S.lies_in p) c.args.cut c.args.seen c.loop.turn.frontier.open_nodes news node c.loop.invariant.cut c.in-Leased.ensures.frontier.opened is in
    let same : c.lease.new.self.view.rest.problem ≡ p = ap (λ (v : View). v.rest.problem) (c.in-Leased.ensures.view ∙ c.loop.invariant.view) in
    subst (λ (q : List ℤ). Replaces (S.admits q) (S.lies_in q) node.shape c.args.seen news) (sym same) (beside (S.admits p) (S.lies_in p) c.args.cut c.args.seen news node cut is)

pub loop-preserved : goal.loop-preserved
loop-preserved g c =
    let S = g.S.Space in
    let p = c.args.turn.view.rest.problem in
    let lease = c.in-Leased.lease in
    let news = c.lease.new.self.frontier.open_nodes in
    let is = c.if-not-is_same.ensures.same (search rules) in
    let cut = cut_stays (S.admits p) (S.lies_in p) c.args.cut c.args.seen c.loop.turn.frontier.open_nodes news lease.node c.loop.invariant.cut c.in-Leased.ensures.frontier.opened is in
    record {
      table = c.pass_over.ensures.table ∙ (c.in-Leased.ensures.table ∙ c.loop.invariant.table);
      shard = c.pass_over.ensures.shard ∙ (c.in-Leased.ensures.shard ∙ c.loop.invariant.shard);
      view = c.pass_over.ensures.view ∙ (c.in-Leased.ensures.view ∙ c.loop.invariant.view);
      unnamed = none_left c.lease.new.self.leases c.pass_over.new.self.leases (unspent c.loop.turn.shard lease) (unspent c.lease.new.self.shard lease)
          (c.in-Leased.ensures.names ∙ ap (λ (cs : List Claim). unspent c.loop.turn.shard lease ∷ cs) c.loop.invariant.unnamed) c.pass_over.ensures.names;
      cut = subst (λ (nodes : List (Node g.row.S-Work.Denot)). IsCut (S.admits p) (S.lies_in p) c.args.seen c.args.cut nodes) (sym c.pass_over.ensures.frontier.opened) cut;
    }
