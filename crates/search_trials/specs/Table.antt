-- The space of a table: the keys of a table, in ranges of its places.
use Rattle.std.specs.Prelude.{◌≡◌, ℕ, ◌+◌, ◌<◌, ◌≤◌, ℤ, pos, List, map, length, slice_index, All, Any}
use Rattle.box_search.specs.declared.space.Shape.{Shape}
use Rattle.box_search.specs.declared.space.Node.{Node}
use Rattle.box_search.specs.Shapes.{size, at_least_zero}

-- the table as whole numbers, and back
abbrev pub table_problem : List ℕ → List ℤ
table_problem keys = map pos keys

abbrev pub keys_of : List ℤ → List ℕ
keys_of numbers = map at_least_zero numbers

-- the box of a range of places
abbrev pub span_shape : ℕ → ℕ → Shape
span_shape from to = record { a0 = pos from; a1 = pos to; b0 = pos 0; b1 = pos 1; c0 = pos 0; c1 = pos 1 }

module _ (keys : List ℕ) where
  -- the key is an entry of the table other than 0
  pub record IsKey (key : ℕ) : Type 0 where
    pub positive : 0 < key
    pub place : ℕ
    pub within : place < length keys
    pub there : slice_index keys place ≡ key

  -- the key stands at a place of the shape's first range
  pub record LiesIn (key : ℕ) (shape : Shape) : Type 0 where
    pub from : ℕ
    pub to : ℕ
    pub place : ℕ
    pub shape_is : shape ≡ span_shape from to
    pub low : from ≤ place
    pub high : place < to
    pub there : slice_index keys place ≡ key

  -- the node has a range of places, and its bound is over their keys, and exact where there is one place
  pub record FitsTable (node : Node (ℕ × ℕ)) : Type 0 where
    pub shape_is : node.shape ≡ span_shape node.work.0 node.work.1
    pub some : node.work.0 < node.work.1
    pub within : node.work.1 ≤ length keys
    pub over : (place : ℕ) → node.work.0 ≤ place → place < node.work.1 → slice_index keys place ≤ node.bound
    pub exact : node.work.1 ≡ node.work.0 + 1 → slice_index keys node.work.0 ≡ node.bound

  -- the parts have the node's places up to a cut
  pub record PartsUpTo (node : Node (ℕ × ℕ)) (parts : List (Node (ℕ × ℕ))) (cut : ℕ) : Type 0 where
    pub fitting : All FitsTable parts
    pub smaller : All (λ part. size part.shape < size node.shape) parts
    pub bounded : All (λ part. part.bound ≤ node.bound) parts
    pub reached : node.work.0 ≤ cut
    pub covering : (place : ℕ) → node.work.0 ≤ place → place < cut → Any (λ part. LiesIn (slice_index keys place) part.shape) parts
