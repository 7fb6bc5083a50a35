use Rattle.std.proofs.Common.{arith, ◌+◌, ap, sym, ◌∙◌, ◌∷◌, [], Some, subst}
use mathlib.Core.Option.{none}
use Rattle.atomic_table.specs.Table.{Allows, step, rest}
use Rattle.frontier_turn.specs.Snapshots.{snapshot_of}
use Rattle.split_frontier.specs.declared.parked.Naming.{Naming}
use Rattle.split_frontier.specs.declared.parked.Parked.{Parked}
use Rattle.split_frontier.specs.Claims.{claims_after}
use Rattle.split_frontier.specs.Holding.{ShardHold}
use Rattle.split_frontier.specs.Rule.{ShardsRule}
use Rattle.split_frontier.specs.Steps.{Seated, GivesTurn, MayReturn}
use Rattle.split_frontier.specs.Views.{leaves_turn}
use Rattle.split_frontier.proofs.Giving.{gives_the_turn}
use Rattle.split_frontier.proofs.Turns.{left}
use Rattle.split_frontier.proofs.turn.SplitTurn.leave.Goals as goal

pub swap-requires : goal.swap-requires
swap-requires g c =
    let inv = c.self.invariant in
    let S = g.S.Space in
    let z = c.self.inside.table.now.table_id in
    let p = S.problem c.self.inside.table.now.key in
    let v = c.self.inside.seat.me.0 in
    let shard = c.self.inside.shard in
    let P : Parked g.row.S-Work.Denot = record { frontier = c.self.inside.frontier; naming = c.of-naming.result } in
    let me_is = ◌∙◌ {A = Seated g.row.S-Work.Denot} {a = c.exchange.new.seat.me} {b = (v, (shard, Some P) ∷ rest c.self.inside.seat.me.1)} {c = (v, (shard, Some P) ∷ [])} c.exchange.ensures.3 (ap (λ l. (v, (shard, Some P) ∷ rest l)) inv.carried) in
    let back = subst (λ (n : Naming). MayReturn (S.admits p) (S.lies_in p) (S.fits p) v shard P.frontier (claims_after v.rest.leases n)) (sym c.of-naming.ensures) inv.may_return in
    let words = inv.words in
    let there = inv.there in (
      c.exchange.ensures.0 ∙ inv.own,
      omega arith,
      subst (λ (m : Seated g.row.S-Work.Denot). Allows (ShardsRule p (S.admits p) (S.lies_in p) (S.fits p)) z.slots c.exchange.new.seat.id m (1 + shard) (λ _. 0) (GivesTurn (step z.slots (1 + shard) 0 0 none) m)) (sym me_is)
          (gives_the_turn p (S.admits p) (S.lies_in p) (S.fits p) z.slots c.exchange.new.seat.id shard v P inv.problem_is inv.live inv.holds back there (1 + shard) 0 0 (omega arith)),
    )

pub invariant_of-result : goal.invariant_of-result
invariant_of-result g c =
    let P : Parked g.row.S-Work.Denot = record { frontier = c.self.inside.frontier; naming = c.of-naming.result } in
    (left P c.exchange.ensures.3 c.self.invariant.carried (c.swap.ensures.2 c.self.inside.shard (omega arith)) c.self.invariant.live).0

pub returns-clause-view : goal.returns-clause-view
returns-clause-view g c =
    let v = c.self.inside.seat.me.0 in
    let shard = c.self.inside.shard in
    let P : Parked g.row.S-Work.Denot = record { frontier = c.self.inside.frontier; naming = c.of-naming.result } in
    (left P c.exchange.ensures.3 c.self.invariant.carried (c.swap.ensures.2 shard (omega arith)) c.self.invariant.live).1
    ∙ (ap (λ (n : Naming). leaves_turn v shard (snapshot_of P.frontier) (claims_after v.rest.leases n)) c.of-naming.ensures
    ∙ ap (λ (t : ShardHold g.row.S-Work.Denot). leaves_turn t.view t.shard (snapshot_of t.frontier) t.leases) c.self.view_is)
