use Rattle.page_runs.proofs.RowRuns.{few_runs}
use Rattle.page_runs.proofs.Pushing.{row_read}
use Rattle.page_runs.proofs.run_page.RunPage.row.Goals as goal

pub returns-clause-runs : goal.returns-clause-runs
returns-clause-runs c =
    let there = rw (← c.self.view_is) at c.requires in
    let above = rw (← c.self.view_is) at c.runs_above-from.ensures in
    let end = rw c.from.ensures at c.index.ensures in
    rw (← c.self.view_is) (row_read _ _ _ _ _ _ c.self.invariant there c.deref.ensures.value above end)

pub returns-clause-few : goal.returns-clause-few
returns-clause-few c = few_runs _ _ (returns-clause-runs c).apart
