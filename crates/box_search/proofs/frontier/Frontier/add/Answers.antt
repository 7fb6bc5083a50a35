use Rattle.box_search.proofs.frontier.Frontier.add.Goals as goal

pub returns-in-Ok-clause-ok : goal.returns-in-Ok-clause-ok
returns-in-Ok-clause-ok g c =
    rw (← c.self.view_is) (record {
      opened = rw c.reserve.ensures.items at c.push_above.ensures.permutation;
      leased = c.reserve.ensures.entries;
    })
