-- Which nodes a search may drop.
use Rattle.std.proofs.Common.{ℕ, ◌≤◌, ◌⊎◌, List, All, Any, nat_lt, inl, inr, arith}
use mathlib.Core.Logic.{dite}
use native.Mathlib.Decide.{dec_le}
use Rattle.std.proofs.lemmas.Bool.{lt-ltb}
use Rattle.std.proofs.lemmas.List.Elements.{All-contains}
use Rattle.box_search.specs.declared.space.Node.{Node}
use Rattle.box_search.specs.declared.space.Shape.{Shape}
use Rattle.box_search.specs.Leasing.{above}
use Rattle.box_search.specs.Search.{BoundsKeys}
use Rattle.box_search.proofs.Lists.{Any-from_Contains, Contains-filter}

module _ {W : Type 0} (admits : ℕ → Type 0) (lies_in : ℕ → Shape → Type 0) (fits : Node W → Type 0) (bounded : BoundsKeys admits lies_in fits) where
  -- a node whose bound is above what was seen stays, and a key of another is at most what was seen
  pub kept_above : (nodes : List (Node W)) (seen key : ℕ) → All fits nodes → admits key → Any (λ node. lies_in key node.shape) nodes → (key ≤ seen) ⊎ Any (λ node. lies_in key node.shape) (above seen nodes)
  kept_above nodes seen key fitting admitted (k, node, inside, at, holds) = dite (dec_le node.bound seen)
      (λ (low : node.bound ≤ seen). let bound = bounded node key (All-contains fits nodes node fitting (k, inside, at)) admitted holds in inl (omega arith))
      (λ over. inr (Any-from_Contains (λ one. lies_in key one.shape) (above seen nodes) node (Contains-filter (λ one. nat_lt seen one.bound) nodes node (lt-ltb seen node.bound (omega arith)) (k, inside, at)) holds))
