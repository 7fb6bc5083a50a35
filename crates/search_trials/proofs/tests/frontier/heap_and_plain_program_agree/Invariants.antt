use Rattle.search_trials.specs.Held.{HoldsAll}
use Rattle.search_trials.proofs.tests.frontier.heap_and_plain_program_agree.Given as goal

abbrev pub invariant-loop-turn : goal.invariant-loop-turn
invariant-loop-turn g l = HoldsAll l.frontier.leased l.leases.items
