use Rattle.std.proofs.Common.{◌≡◌, []}
use Rattle.split_frontier.specs.Callers.{IsOwn}
use Rattle.lease_workers.proofs.crew.Crew.go_round.Given as goal

abbrev pub invariant-loop-others : goal.invariant-loop-others
invariant-loop-others g l = (l.worker.own ≡ l.fn.worker.own) × IsOwn l.self.shards.now l.mine × (l.mine.view.rest.parts ≡ l.initial.mine.view.rest.parts) × (l.mine.view.rest.leases ≡ [])
