use Rattle.page_runs.specs.Packed.{page_of, rows_of}
use Rattle.page_runs.proofs.Pushing.{given_more, pushed}
use Rattle.page_runs.proofs.run_page.RunPage.push_row.Goals as goal

pub invariant_of-self : goal.invariant_of-self
unfolding page_of rows_of
invariant_of-self c =
    let room = rw (← c.self.view_is) at c.requires.more in
    let row = rw (← c.self.view_is) at c.requires.packed in
    let added = c.in-Ok.ensures.added in
    rw (c.in-Ok.ensures.ended, added.is) (pushed _ _ _ _ c.self.invariant room row added.are _ c.in-Ok.ensures.black.0 c.in-Ok.ensures.black.1)

pub returns-in-Ok-clause-ok : goal.returns-in-Ok-clause-ok
unfolding page_of rows_of
returns-in-Ok-clause-ok c =
    let room = rw (← c.self.view_is) at c.requires.more in
    let row = rw (← c.self.view_is) at c.requires.packed in
    let added = c.in-Ok.ensures.added in
    rw (c.in-Ok.ensures.ended, added.is, ← c.self.view_is) (given_more _ _ _ _ c.self.invariant room row added.are)
