use Rattle.std.proofs.Common.{◌≡◌, []}
use Rattle.lease_workers.specs.Cutting.{IsCut}
use Rattle.lease_workers.proofs.onward.lease_worthy.Given as goal

-- the turn names no lease, and the shape that was cut lies in smaller open nodes
abbrev pub invariant-loop : goal.invariant-loop
invariant-loop g l =
    let S = g.S.Space in
    let p = l.fn.turn.view.rest.problem in
    record {
      table : l.turn.table_id ≡ l.fn.turn.table_id;
      shard : l.turn.shard ≡ l.fn.turn.shard;
      view : l.turn.view ≡ l.fn.turn.view;
      unnamed : l.turn.leases ≡ [];
      cut : IsCut (S.admits p) (S.lies_in p) l.seen l.cut l.turn.frontier.open_nodes;
    }
