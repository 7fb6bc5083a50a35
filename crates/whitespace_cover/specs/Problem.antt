-- The problem of the greatest white rectangle, as it is given and as a list of whole numbers.
use Rattle.std.specs.Prelude.{◌≡◌, ℕ, ℤ, pos, List, ◌∷◌, ◌++◌}
use Rattle.layout_geom.specs.declared.rect.Rect.{Rect}
use Rattle.layout_geom.specs.Keys.{rect_key}
use Rattle.layout_geom.specs.BoxNumbers.{box_numbers, boxes_numbers}
use Rattle.box_search.specs.Problems.{OfProblem}
use Rattle.whitespace_cover.specs.Admissible.{IsAdmissible}

pub record WhiteProblem : Type 0 where
  pub page : Rect
  pub obstacles : List Rect
  pub least : ℕ

-- the four sides of the page, the least size, and the four sides of each obstacle
unfoldable pub white_numbers : WhiteProblem → List ℤ
white_numbers problem = box_numbers problem.page ++ (pos problem.least ∷ boxes_numbers problem.obstacles)

-- some admissible rectangle has the key
pub record HasRectOfKey (key : ℕ) (problem : WhiteProblem) : Type 0 where
  pub rect : Rect
  pub has_key : rect_key rect ≡ key
  pub admissible : IsAdmissible problem.page problem.obstacles problem.least rect

-- the keys that are searched are those of the admissible rectangles
abbrev pub IsWhiteKey : List ℤ → ℕ → Type 0
IsWhiteKey numbers key = OfProblem white_numbers (HasRectOfKey key) numbers
