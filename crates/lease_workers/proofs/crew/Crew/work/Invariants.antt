use Rattle.std.proofs.Common.{◌≡◌}
use Rattle.split_frontier.specs.Callers.{IsOwn}
use Rattle.lease_workers.specs.Finding.{NamesFound}
use Rattle.lease_workers.proofs.crew.Crew.work.Given as goal

abbrev pub invariant-loop : goal.invariant-loop
invariant-loop g l = (l.worker.own ≡ l.initial.worker.own) × IsOwn l.self.shards.now l.mine × (l.mine.view.rest.parts ≡ l.initial.mine.view.rest.parts) × NamesFound (g.S.Space.fits l.self.shards.now.problem) l.self.count l.found l.mine.view.rest.leases
