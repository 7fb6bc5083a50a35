use Rattle.page_runs.proofs.Pushing.{begun}
use Rattle.page_runs.proofs.run_page.RunPageRowSink.begin.Goals as goal

pub invariant_of-self : goal.invariant_of-self
invariant_of-self c = rw (c.clear.ensures.items, c.clear-2.ensures.items) (begun _ _ c.requires)
