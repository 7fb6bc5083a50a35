use Rattle.std.proofs.Common.{ap, ◌∙◌, subst, List}
use Rattle.frontier_turn.specs.Views.{View}
use Rattle.std.specs.List.Sorted.{IsPermutation}
use Rattle.box_search.specs.declared.lease.Entry.{Entry}
use Rattle.frontier_turn.specs.Holding.{leases_of}
use Rattle.frontier_turn.proofs.Working.{nil_from_nil}
use Rattle.layout_cases.proofs.cases.shared.try_turn.Goals as goal

pub returns-in-Ok-clause-unnamed : goal.returns-in-Ok-clause-unnamed
returns-in-Ok-clause-unnamed g c = ap (λ (v : View). v.rest.leases) c.leave.ensures.view
    ∙ nil_from_nil (leases_of c.in-Ok.turn) (subst (λ (es : List Entry). IsPermutation es (leases_of c.in-Ok.turn)) c.requires.unnamed c.in-Ok.ensures.turn_leases)
