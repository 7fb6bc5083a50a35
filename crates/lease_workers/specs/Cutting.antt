-- What is known of a shape that was cut.
use Rattle.std.specs.Prelude.{ℕ, ◌<◌, ◌≤◌, ◌⊎◌, List, Any}
use Rattle.box_search.specs.declared.space.Node.{Node}
use Rattle.box_search.specs.declared.space.Shape.{Shape}
use Rattle.box_search.specs.Shapes.{size}

-- each admitted key of the shape is at most what was seen, or lies in a smaller open node
abbrev pub IsCut : {W : Type 0} → (ℕ → Type 0) → (ℕ → Shape → Type 0) → ℕ → Shape → List (Node W) → Type 0
IsCut admits lies_in seen shape open_nodes =
    (key : ℕ) → admits key → lies_in key shape
    → (key ≤ seen) ⊎ Any (λ node. lies_in key node.shape × (size node.shape < size shape)) open_nodes
