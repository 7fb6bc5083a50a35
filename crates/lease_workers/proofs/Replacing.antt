-- What takes the place of a node that was split.
use Rattle.std.proofs.Common.{ℕ, List}
use Rattle.box_search.specs.Leasing.{above}
use Rattle.box_search.specs.Search.{Splits, BoundsKeys}
use Rattle.box_search.specs.declared.space.Node.{Node}
use Rattle.box_search.specs.declared.space.Shape.{Shape}
use Rattle.box_search.proofs.Pruning.{kept_above}
use Rattle.frontier_turn.specs.Holding.{Replaces}

module _ {W : Type 0} (admits : ℕ → Type 0) (lies_in : ℕ → Shape → Type 0) (fits : Node W → Type 0) (bounded : BoundsKeys admits lies_in fits) where
  -- the parts of a split that are above the word have every key of its node that is above it
  pub splits_above : (node : Node W) (word : ℕ) (nodes : List (Node W)) → Splits admits lies_in fits node nodes → Replaces admits lies_in node.shape word (above word nodes)
  splits_above node word nodes is key admitted inside = kept_above admits lies_in fits bounded nodes word key is.fitting admitted (is.covering key admitted inside)
