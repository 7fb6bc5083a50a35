use Rattle.std.proofs.Common.{ap, ◌∙◌}
use Rattle.frontier_turn.specs.Views.{View}
use Rattle.frontier_turn.proofs.Working.{is_named, names_no_more}
use Rattle.search_trials.proofs.by_hand.give_back.Goals as goal

pub reopen-requires-clause-named : goal.reopen-requires-clause-named
reopen-requires-clause-named g c κs within = is_named c.enter-turn.result c.args.lease c.args.pass.view.rest.leases c.enter-turn.ensures.leases c.requires.named

pub returns-clause-unnamed : goal.returns-clause-unnamed
returns-clause-unnamed g c = ap (λ (v : View). v.rest.leases) c.leave.ensures.view
    ∙ names_no_more c.enter-turn.result c.reopen.new.self c.args.lease c.args.pass.view.rest.leases c.enter-turn.ensures.leases c.requires.named c.reopen.ensures.names
