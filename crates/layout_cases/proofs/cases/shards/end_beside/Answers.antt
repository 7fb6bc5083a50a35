use Rattle.std.proofs.Common.{ap, ◌∙◌}
use Rattle.split_frontier.specs.Views.{View}
use Rattle.split_frontier.specs.Claims.{spent}
use Rattle.split_frontier.proofs.Working.{only_named_here, none_left}
use Rattle.layout_cases.proofs.cases.shards.end_beside.Goals as goal

pub end-requires-clause-named : goal.end-requires-clause-named
end-requires-clause-named g c κs within = only_named_here c.enter-turn.result.leases (λ home. spent home c.args.lease) 0 c.enter-turn.result.shard (c.enter-turn.ensures.leases ∙ c.requires.named) c.enter-turn.ensures.shard

pub returns-clause-unnamed : goal.returns-clause-unnamed
returns-clause-unnamed g c = ap (λ (v : View). v.rest.leases) c.leave.ensures.view
    ∙ none_left c.enter-turn.result.leases c.end.new.self.leases (spent 0 c.args.lease) (spent c.enter-turn.result.shard c.args.lease) (c.enter-turn.ensures.leases ∙ c.requires.named) c.end.ensures.names
