use Rattle.std.proofs.Common.{◌≡◌, []}
use Rattle.frontier_turn.specs.Callers.{IsOwn}
use Rattle.search_trials.proofs.by_hand.work.Given as goal

abbrev pub invariant-loop : goal.invariant-loop
invariant-loop g l = IsOwn l.shared l.mine × (l.mine.view.rest.parts ≡ l.initial.mine.view.rest.parts) × (l.mine.view.rest.leases ≡ [])
