use Rattle.std.proofs.Common.{◌∙◌, ap}
use Rattle.split_frontier.specs.Views.{View}
use Rattle.split_frontier.specs.Claims.{claim_of, spent, unspent}
use Rattle.split_frontier.proofs.Working.{none_left}
use Rattle.split_frontier.proofs.shards.Shards.bring_home.Goals as goal

pub returns-then-is_spent-clause-unnamed : goal.returns-then-is_spent-clause-unnamed
returns-then-is_spent-clause-unnamed g c = ap (λ (v : View). v.rest.leases) c.leave.ensures.view
    ∙ none_left c.enter-turn.result.leases c.end.new.self.leases (claim_of c.args.home c.args.lease c.args.is_spent) (spent c.enter-turn.result.shard c.args.lease) (c.enter-turn.ensures.leases ∙ c.requires.named) c.end.ensures.names

pub returns-clause-unnamed : goal.returns-clause-unnamed
returns-clause-unnamed g c = ap (λ (v : View). v.rest.leases) c.leave-2.ensures.view
    ∙ none_left c.enter-turn.result.leases c.reopen.new.self.leases (claim_of c.args.home c.args.lease c.args.is_spent) (unspent c.enter-turn.result.shard c.args.lease) (c.enter-turn.ensures.leases ∙ c.requires.named) c.reopen.ensures.names
