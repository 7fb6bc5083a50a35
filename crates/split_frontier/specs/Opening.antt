-- The frontiers of the shards as a search begins.
use Rattle.std.specs.Prelude.{◌≡◌, List, [], ◌∷◌, ◌++◌, Some, ⊤}
use Rattle.std.specs.List.Sorted.{IsPermutation}
use Rattle.box_search.specs.Leasing.{above}
use Rattle.box_search.specs.declared.space.Node.{Node}
use Rattle.split_frontier.specs.declared.parked.Parked.{Parked}
use Rattle.split_frontier.specs.Rule.{Slot}

-- the lists one after the other
abbrev pub together : {X : Type 0} → List (List X) → List X
together [] = []
together (list ∷ lists) = list ++ together lists

module _ {W : Type 0} where
  -- a frontier with those of these nodes open whose bound is above 0, and none leased
  pub record IsFresh (nodes : List (Node W)) (slot : Slot W) : Type 0 where
    pub parked : Parked W
    pub is : slot ≡ Some parked
    pub opened : IsPermutation (above 0 nodes) parked.frontier.open_nodes
    pub leased : parked.frontier.leased ≡ []

  -- each slot has such a frontier with a share of the nodes
  abbrev pub AreFresh : List (List (Node W)) → List (Slot W) → Type 0
  AreFresh [] [] = ⊤
  AreFresh [] (slot ∷ slots) = ⊥
  AreFresh (share ∷ shares) [] = ⊥
  AreFresh (share ∷ shares) (slot ∷ slots) = IsFresh share slot × AreFresh shares slots

  -- the nodes are dealt out, and each slot begins with a share of them
  pub record IsOpening (nodes : List (Node W)) (slots : List (Slot W)) : Type 0 where
    pub shares : List (List (Node W))
    pub dealt : IsPermutation nodes (together shares)
    pub fresh : AreFresh shares slots
