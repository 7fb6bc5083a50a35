-- How far a search came.
use Rattle.std.specs.Prelude.{◌≡◌, ℕ, zero, suc, ◌<◌, ◌≤◌, ◌⊎◌, List, [], ◌∷◌, ◌++◌, length, Any, Option, ⊤}
use Rattle.std.specs.List.Sorted.{IsPermutation}
use Rattle.std.specs.Option.{option_to_list}
use Rattle.box_search.specs.declared.space.Shape.{Shape}
use Rattle.box_search.specs.declared.space.Node.{Node}
use Rattle.box_search.specs.declared.alone.HeadStart.{HeadStart}
use Rattle.box_search.specs.declared.alone.HeadStart.TheVariants.{Ended, Open}
use Rattle.box_search.specs.Leasing.{above}
use Rattle.box_search.specs.Search.{IsRootOf, Splits}
use Rattle.box_search.specs.Shapes.{size}

module _ {W : Type 0} where
  -- where the search ended, this holds of its key
  abbrev pub IfEnded : HeadStart W → (ℕ → Type 0) → Type 0
  IfEnded (Ended key) Holds = Holds key
  IfEnded (Open nodes) Holds = ⊤

  -- where it did not end, this holds of the nodes that are open
  abbrev pub IfOpen : HeadStart W → (List (Node W) → Type 0) → Type 0
  IfOpen (Ended key) Holds = ⊤
  IfOpen (Open nodes) Holds = Holds nodes.items

module _ {W : Type 0} (admits : ℕ → Type 0) (lies_in : ℕ → Shape → Type 0) (fits : Node W → Type 0) where
  -- each admitted key of the shape lies in a smaller one of these nodes
  abbrev pub IsCut : List (Node W) → Shape → Type 0
  IsCut nodes shape = (key : ℕ) → admits key → lies_in key shape
      → Any (λ node. lies_in key node.shape × (size node.shape < size shape)) nodes

  -- a box is opened: an open node gives way to what it was split into, or to nothing where smaller open nodes have its keys
  pub record OpensBox (before after : List (Node W)) : Type 0 where
    pub node : Node W
    pub others : List (Node W)
    pub parts : List (Node W)
    pub was_open : IsPermutation before (node ∷ others)
    pub is_split : Splits admits lies_in fits node parts ⊎ ((parts ≡ []) × IsCut others node.shape)
    pub are_open : IsPermutation (above 0 parts ++ others) after

  -- a search that begins at a root can open so many boxes, one after the other, and has these nodes open then
  abbrev pub ComesTo : ℕ → List (Node W) → Type 0
  ComesTo zero nodes = (root : Option (Node W)) × IsRootOf admits lies_in fits root × (nodes ≡ option_to_list root)
  ComesTo (suc boxes) nodes = (before : List (Node W)) × ComesTo boxes before × OpensBox before nodes

  -- it has opened at least so many boxes, and these nodes are still open, one at least
  pub record IsUnfinishedAfter (boxes : ℕ) (open_nodes : List (Node W)) : Type 0 where
    pub count : ℕ
    pub enough : boxes ≤ count
    pub comes_to : ComesTo count open_nodes
    pub unfinished : 0 < length open_nodes
