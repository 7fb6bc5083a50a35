use Rattle.std.proofs.Common.{nat_lt}
use Rattle.std.proofs.lemmas.List.Elements.{All-append, All-filter}
use Rattle.std.proofs.lemmas.List.Sorted.{All-permutation}
use Rattle.box_search.specs.Leasing.{above}
use Rattle.box_search.specs.declared.space.Node.{Node}
use Rattle.whitespace_cover.specs.declared.region.Region.{Region}
use Rattle.whitespace_cover.specs.Problem.{white_numbers}
use Rattle.whitespace_cover.specs.Regions.{FitsWhite}
use Rattle.whitespace_cover.proofs.tests.by_hand.finish.Goals as goal

pub returns : goal.returns
returns c =
    let P : Node Region → Type 0 = FitsWhite (white_numbers c.args.white.now) in
    record {
      fitting = All-permutation P _ _ c.in-Ok.ensures.ok.opened
          (All-append P (above c.args.seen c.args.nodes.items) c.args.frontier.now.open_nodes
          (All-filter (λ (node : Node Region). nat_lt c.args.seen node.bound) P c.args.nodes.items c.requires.nodes) c.requires.fitting);
    }
