use Rattle.std.proofs.Common.{◌≡◌, map, take, All}
use Rattle.box_search.specs.declared.space.Node.{Node}
use Rattle.whitespace_cover.specs.declared.region.Region.{Region}
use Rattle.whitespace_cover.specs.Regions.{IsRectNode, roomy_parts}
use Rattle.whitespace_cover.proofs.region.parts.Given as goal

abbrev pub invariant-loop-part : goal.invariant-loop-part
invariant-loop-part l = record {
  rects : map (λ (node : Node Region). node.work.rect) l.nodes.items ≡ roomy_parts l.least (take l.part-index l.part-items);
  nodes : All (IsRectNode) l.nodes.items;
  masks : All (λ (node : Node Region). node.work.mask ≡ l.mask) l.nodes.items;
}
