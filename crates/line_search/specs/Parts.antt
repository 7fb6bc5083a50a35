-- The two parts of a shape, and the steps of the search.
use Rattle.std.specs.Prelude.{◌≡◌, ◌⊎◌, ℤ, pos, ◌+ℤ◌, ◌≤ℤ◌, Bool, false, cond, List, [], ◌∷◌, ◌++◌, map, ℕ}
use Rattle.std.specs.Int.{int_div_euclid}
use Rattle.box_search.specs.declared.space.Shape.{Shape}
use Rattle.box_search.specs.declared.space.Node.{Node}
use Rattle.box_search.specs.declared.space.Step.{Step}
use Rattle.box_search.specs.declared.space.Step.TheVariants.{Settled, Split}
use Rattle.line_search.specs.Lines.{IsAdmissiblePoint}
use Rattle.line_search.specs.declared.parts.Range.{Range}
use Rattle.line_search.specs.declared.parts.Range.TheVariants.{Slopes, Offsets, Depths}
use Rattle.line_search.specs.declared.span.Span.{Span}
use Rattle.line_search.specs.Problem.{GridProblem, HasPointOfKey}
use Rattle.line_counts.specs.Shapes.{PointLiesIn, IsSingle, least_depth}

-- the middle of a range, rounded towards the lesser number
abbrev pub half : ℤ → ℤ → ℤ
half low high = int_div_euclid (low +ℤ high) (pos 2)

abbrev pub lower_slopes : Shape → Shape
lower_slopes shape = record shape { a1 = half shape.a0 shape.a1 }

abbrev pub upper_slopes : Shape → Shape
upper_slopes shape = record shape { a0 = half shape.a0 shape.a1 }

abbrev pub lower_offsets : Shape → Shape
lower_offsets shape = record shape { b1 = half shape.b0 shape.b1 }

abbrev pub upper_offsets : Shape → Shape
upper_offsets shape = record shape { b0 = half shape.b0 shape.b1 }

abbrev pub lower_depths : Shape → Shape
lower_depths shape = record shape { c1 = half shape.c0 shape.c1 }

abbrev pub upper_depths : Shape → Shape
upper_depths shape = record shape { c0 = half shape.c0 shape.c1 }

-- the range has at least two numbers
abbrev pub IsLong : Shape → Range → Type 0
IsLong shape Slopes = (shape.a0 +ℤ pos 2) ≤ℤ shape.a1
IsLong shape Offsets = (shape.b0 +ℤ pos 2) ≤ℤ shape.b1
IsLong shape Depths = (shape.c0 +ℤ pos 2) ≤ℤ shape.c1

-- one of the three ranges, with at least two numbers, is cut at its middle
abbrev pub AreHalves : Shape → Shape → Shape → Type 0
AreHalves shape lower upper =
    (((shape.a0 +ℤ pos 2) ≤ℤ shape.a1) × (lower ≡ lower_slopes shape) × (upper ≡ upper_slopes shape))
    ⊎ (((shape.b0 +ℤ pos 2) ≤ℤ shape.b1) × (lower ≡ lower_offsets shape) × (upper ≡ upper_offsets shape))
    ⊎ (((shape.c0 +ℤ pos 2) ≤ℤ shape.c1) × (lower ≡ lower_depths shape) × (upper ≡ upper_depths shape))

-- no admissible point lies in the shape
abbrev pub HasNoPoint : GridProblem → Shape → Type 0
HasNoPoint problem shape = (key : ℕ) → HasPointOfKey key problem → PointLiesIn key shape → ⊥

-- the nodes of both parts in order, and a part is left out only where no admissible point lies in it
pub record IsGridSplit (problem : GridProblem) (shape : Shape) (nodes : List (Node Span)) : Type 0 where
  pub lower : Shape
  pub upper : Shape
  pub keep_lower : Bool
  pub keep_upper : Bool
  pub halves : AreHalves shape lower upper
  pub are : map (λ (node : Node Span). node.shape) nodes ≡ cond keep_lower (lower ∷ []) [] ++ cond keep_upper (upper ∷ []) []
  pub no_lower : keep_lower ≡ false → HasNoPoint problem lower
  pub no_upper : keep_upper ≡ false → HasNoPoint problem upper

-- the point of a single shape is admissible
abbrev pub IsPointAdmissible : GridProblem → Shape → ℕ → Type 0
IsPointAdmissible problem shape score = IsAdmissiblePoint problem.boxes problem.gutters problem.height problem.median problem.alive shape.a0 shape.b0 (least_depth shape) score

-- a single point is settled exactly where it is admissible, and any other shape is cut
abbrev pub IsGridStep : GridProblem → Shape → Step Span → Type 0
IsGridStep problem shape (Settled key) = IsSingle shape × ((score : ℕ) × IsPointAdmissible problem shape score)
IsGridStep problem shape (Split nodes) =
    (IsSingle shape × (nodes.items ≡ []) × ((score : ℕ) → IsPointAdmissible problem shape score → ⊥))
    ⊎ ((IsSingle shape → ⊥) × IsGridSplit problem shape nodes.items)
