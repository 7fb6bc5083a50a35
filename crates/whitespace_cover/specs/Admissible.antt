-- Which rectangles of a page are white, and which of them is the best.
use Rattle.std.specs.Prelude.{ℕ, ◌≤◌, List}
use Rattle.layout_geom.specs.declared.rect.Rect.{Rect}
use Rattle.layout_geom.specs.Rectangles.{width_of, height_of, Encloses, IsClear}
use Rattle.layout_geom.specs.Keys.{rect_key}

-- the rectangle is at least as wide and as high as the least size
pub record IsRoomy (least : ℕ) (r : Rect) : Type 0 where
  pub wide : least ≤ width_of r
  pub high : least ≤ height_of r

module _ (page : Rect) (obstacles : List Rect) (least : ℕ) where
  -- the rectangle lies in the page, overlaps no obstacle, and has at least the least size
  pub record IsAdmissible (r : Rect) : Type 0 where
    pub inside : Encloses page r
    pub clear : IsClear r obstacles
    pub roomy : IsRoomy least r

  -- no rectangle is admissible
  abbrev pub IsFull : Type 0
  IsFull = (r : Rect) → IsAdmissible r → ⊥

  -- the admissible rectangle of greatest key
  pub record IsBestRect (r : Rect) : Type 0 where
    pub admissible : IsAdmissible r
    pub greatest : (other : Rect) → IsAdmissible other → rect_key other ≤ rect_key r
