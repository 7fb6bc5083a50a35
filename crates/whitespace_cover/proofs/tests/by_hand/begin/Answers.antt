use Rattle.std.proofs.Common.{All, List, [], sym, subst}
use Rattle.std.proofs.lemmas.List.Elements.{All-cons, All-nil}
use Rattle.box_search.specs.declared.space.Node.{Node}
use Rattle.whitespace_cover.specs.declared.region.Region.{Region}
use Rattle.whitespace_cover.specs.Problem.{white_numbers}
use Rattle.whitespace_cover.specs.Regions.{FitsWhite}
use Rattle.whitespace_cover.proofs.tests.by_hand.begin.Goals as goal

pub returns : goal.returns
returns c =
    let P : Node Region → Type 0 = FitsWhite (white_numbers c.args.white.now) in
    record { fitting = subst (λ (xs : List (Node Region)). All P xs) (sym c.in_ok-frontier.ensures.«open») (All-cons P c.args.root [] c.requires (All-nil P)) }
