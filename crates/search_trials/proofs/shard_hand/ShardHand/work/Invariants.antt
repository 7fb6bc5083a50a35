use Rattle.std.proofs.Common.{◌≡◌, []}
use Rattle.split_frontier.specs.Callers.{IsOwn}
use Rattle.search_trials.proofs.shard_hand.ShardHand.work.Given as goal

abbrev pub invariant-loop : goal.invariant-loop
invariant-loop g l = IsOwn l.self.shards.now l.mine × (l.mine.view.rest.parts ≡ l.initial.mine.view.rest.parts) × (l.mine.view.rest.leases ≡ [])
