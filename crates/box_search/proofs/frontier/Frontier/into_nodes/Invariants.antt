use Rattle.std.proofs.Common.{◌≡◌, map}
use Rattle.box_search.specs.Contents.{node_of}
use Rattle.box_search.proofs.frontier.Frontier.into_nodes.Given as goal

-- the nodes so far
abbrev pub invariant-loop-bound : goal.invariant-loop-bound
invariant-loop-bound g l = l.nodes.items ≡ map node_of l.yielded
