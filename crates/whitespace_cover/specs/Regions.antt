-- The boxes in which the greatest white rectangle is searched, and how they are cut.
use Rattle.std.specs.Prelude.{◌≡◌, ℕ, ℤ, pos, ◌≤ℤ◌, List, Option, Some, None, Contains, cond, nat_le, ◌&&◌}
use Rattle.std.specs.List.{filter_map, AllZip}
use Rattle.layout_geom.specs.declared.rect.Rect.{Rect}
use Rattle.layout_geom.specs.Rectangles.{width_of, height_of, Overlaps, Encloses, IsCut, IsClear}
use Rattle.layout_geom.specs.Keys.{rect_key}
use Rattle.box_search.specs.declared.space.Shape.{Shape}
use Rattle.box_search.specs.declared.space.Node.{Node}
use Rattle.box_search.specs.declared.space.Step.{Step}
use Rattle.box_search.specs.declared.space.Step.TheVariants.{Settled, Split}
use Rattle.box_search.specs.Problems.{OfProblem}
use Rattle.whitespace_cover.specs.declared.region.Region.{Region}
use Rattle.whitespace_cover.specs.Admissible.{IsRoomy}
use Rattle.whitespace_cover.specs.Masks.{IsMask}
use Rattle.whitespace_cover.specs.Problem.{WhiteProblem, white_numbers}

-- the ranges of the columns and of the rows, and a range of one number
abbrev pub shape_of : Rect → Shape
shape_of r = record { a0 = pos r.x0; a1 = pos r.x1; b0 = pos r.y0; b1 = pos r.y1; c0 = pos 0; c1 = pos 1 }

-- the rectangle's columns and rows are in the shape's ranges
pub record IsRectWithin (shape : Shape) (r : Rect) : Type 0 where
  pub left : shape.a0 ≤ℤ pos r.x0
  pub right : pos r.x1 ≤ℤ shape.a1
  pub top : shape.b0 ≤ℤ pos r.y0
  pub bottom : pos r.y1 ≤ℤ shape.b1

-- a key lies in a shape where its rectangle does
pub record RectLiesIn (key : ℕ) (shape : Shape) : Type 0 where
  pub rect : Rect
  pub has_key : rect_key rect ≡ key
  pub within : IsRectWithin shape rect

-- the node has the rectangle's shape, and its key as the bound
pub record IsNodeOf (r : Rect) (node : Node Region) : Type 0 where
  pub shape : node.shape ≡ shape_of r
  pub bound : node.bound ≡ rect_key r

-- the node is that of the rectangle that it carries
abbrev pub IsRectNode : Node Region → Type 0
IsRectNode node = IsNodeOf node.work.rect node

-- and this rectangle lies in the page, has at least the least size, and overlaps no obstacle that its mask leaves out
pub record IsWhiteNode (node : Node Region) (problem : WhiteProblem) : Type 0 where
  pub outline : IsRectNode node
  pub inside : Encloses problem.page node.work.rect
  pub roomy : IsRoomy problem.least node.work.rect
  pub mask : IsMask problem.obstacles node.work.rect node.work.mask

abbrev pub FitsWhite : List ℤ → Node Region → Type 0
FitsWhite numbers node = OfProblem white_numbers (IsWhiteNode node) numbers

-- the part, where it is there and has at least the least size
abbrev pub roomy_part : ℕ → Option Rect → Option Rect
roomy_part least (Some r) = cond (nat_le least (width_of r) && nat_le least (height_of r)) (Some r) None
roomy_part least None = None

abbrev pub roomy_parts : ℕ → List (Option Rect) → List Rect
roomy_parts least parts = filter_map (roomy_part least) parts

-- the nodes are those of the roomy parts round an obstacle that overlaps the rectangle
pub record IsPivotSplit (problem : WhiteProblem) (r : Rect) (nodes : List (Node Region)) : Type 0 where
  pub pivot : Rect
  pub parts : List (Option Rect)
  pub present : Contains problem.obstacles pivot
  pub overlaps : Overlaps r pivot
  pub cut : IsCut r pivot parts
  pub outlines : AllZip IsNodeOf (roomy_parts problem.least parts) nodes

-- settled exactly where no obstacle overlaps the rectangle, and else split at a pivot
abbrev pub IsWhiteStep : WhiteProblem → Region → Step Region → Type 0
IsWhiteStep problem region (Settled key) = IsClear region.rect problem.obstacles
IsWhiteStep problem region (Split nodes) = IsPivotSplit problem region.rect nodes.items
