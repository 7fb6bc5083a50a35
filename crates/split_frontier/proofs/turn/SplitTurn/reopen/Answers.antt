use Rattle.std.proofs.Common.{false}
use Rattle.split_frontier.proofs.InTurn.{out_here, reopened_here, unnamed_here}
use Rattle.split_frontier.proofs.turn.SplitTurn.reopen.Goals as goal

pub reopen-requires : goal.reopen-requires
reopen-requires g c = let S = g.S.Space in
    record { out = out_here S.admits S.lies_in S.fits c.self.invariant c.self.view_is false c.args.lease c.requires.named }

pub invariant_of-self : goal.invariant_of-self
invariant_of-self g c = let S = g.S.Space in
    reopened_here S.admits S.lies_in S.fits c.self.invariant c.self.view_is c.reopen.new.self c.unname.new.self c.args.lease c.requires.named c.requires.fits (c.unname.ensures.unnamed c.self.inside.seat.me.0.rest.leases) c.reopen.ensures.reopens

pub returns-clause-names : goal.returns-clause-names
returns-clause-names g c = let S = g.S.Space in
    unnamed_here S.admits S.lies_in S.fits c.self.invariant c.self.view_is false c.args.lease c.unname.new.self c.requires.named (c.unname.ensures.unnamed c.self.inside.seat.me.0.rest.leases)
