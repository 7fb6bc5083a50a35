use Rattle.std.proofs.Common.{All, ◌∷◌, arith, refl}
use Rattle.std.proofs.lemmas.List.Elements.{All-head, All-tail}
use Rattle.std.proofs.lemmas.List.Sorted.{All-permutation, Contains-permutation}
use Rattle.box_search.specs.Leasing.{entry_of}
use Rattle.box_search.specs.declared.space.Node.{Node}
use Rattle.whitespace_cover.specs.declared.region.Region.{Region}
use Rattle.whitespace_cover.specs.Problem.{white_numbers}
use Rattle.whitespace_cover.specs.Regions.{FitsWhite}
use Rattle.whitespace_cover.proofs.tests.by_hand.lease.Goals as goal

pub returns-in-Leased : goal.returns-in-Leased
returns-in-Leased c =
    let P : Node Region → Type 0 = FitsWhite (white_numbers c.args.white.now) in
    let node : Node Region = c.in-Leased.lease.node in
    let takes = c.in-Leased.ensures.takes in
    let all : All P (node ∷ c.lease.new.self.open_nodes) = All-permutation P _ _ takes.opened c.requires.fitting in
    record {
      fitting = All-tail P node c.lease.new.self.open_nodes all;
      fits = All-head P node c.lease.new.self.open_nodes all;
      out = Contains-permutation (entry_of c.in-Leased.lease ∷ c.args.frontier.now.leased) c.lease.new.self.leased (entry_of c.in-Leased.lease) takes.leased (0, omega arith, refl);
    }
