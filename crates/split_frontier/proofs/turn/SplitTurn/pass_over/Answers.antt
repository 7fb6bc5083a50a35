use Rattle.std.proofs.Common.{false}
use Rattle.split_frontier.proofs.InTurn.{out_here, passed_here, unnamed_here}
use Rattle.split_frontier.proofs.turn.SplitTurn.pass_over.Goals as goal

pub end-requires : goal.end-requires
end-requires g c = let S = g.S.Space in
    record { out = out_here S.admits S.lies_in S.fits c.self.invariant c.self.view_is false c.args.surplus c.requires.named }

pub invariant_of-self : goal.invariant_of-self
invariant_of-self g c = let S = g.S.Space in
    passed_here S.admits S.lies_in S.fits c.self.invariant c.self.view_is c.end.new.self c.unname.new.self c.args.surplus c.args.seen c.requires.named c.requires.seen c.requires.open (c.unname.ensures.unnamed c.self.inside.seat.me.0.rest.leases) c.end.ensures.ends

pub returns-clause-names : goal.returns-clause-names
returns-clause-names g c = let S = g.S.Space in
    unnamed_here S.admits S.lies_in S.fits c.self.invariant c.self.view_is false c.args.surplus c.unname.new.self c.requires.named (c.unname.ensures.unnamed c.self.inside.seat.me.0.rest.leases)
