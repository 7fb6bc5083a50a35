use Rattle.std.proofs.lemmas.List.Elements.{All-cons}
use Rattle.std.proofs.lemmas.List.Sorted.{All-permutation}
use Rattle.box_search.specs.declared.space.Node.{Node}
use Rattle.whitespace_cover.specs.declared.region.Region.{Region}
use Rattle.whitespace_cover.specs.Problem.{white_numbers}
use Rattle.whitespace_cover.specs.Regions.{FitsWhite}
use Rattle.whitespace_cover.proofs.tests.by_hand.reopen.Goals as goal

pub returns : goal.returns
returns c =
    let P : Node Region → Type 0 = FitsWhite (white_numbers c.args.white.now) in
    record {
      fitting = All-permutation P _ _ c.reopen.ensures.reopens.opened
          (All-cons P c.args.lease.node c.args.frontier.now.open_nodes c.requires.fits c.requires.fitting);
    }
