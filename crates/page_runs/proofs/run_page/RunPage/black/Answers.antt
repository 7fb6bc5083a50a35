use Rattle.std.proofs.Common.{◌∙◌}
use Rattle.page_runs.proofs.Counting.{held_black}
use Rattle.page_runs.proofs.run_page.RunPage.black.Goals as goal

pub returns-clause-value : goal.returns-clause-value
returns-clause-value c = rw (← c.self.view_is) c.self.invariant.counted

pub returns-clause-held : goal.returns-clause-held
returns-clause-held c = rw (← c.self.view_is) (λ page holds. c.self.invariant.counted ∙ held_black _ page holds)
