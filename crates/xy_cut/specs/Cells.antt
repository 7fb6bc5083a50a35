-- The cells of boxes.
use Rattle.std.specs.Prelude.{◌≡◌, ℕ, ◌<◌, ◌≤◌, ◌⊎◌, List, [], ◌∷◌, ◌++◌, length, All, Option, Some, None}
use Rattle.layout_geom.specs.declared.rect.Rect.{Rect}
use Rattle.layout_geom.specs.Rectangles.{Encloses, IsLeastRect}
use Rattle.xy_cut.specs.declared.band.Band.{Band}
use Rattle.xy_cut.specs.declared.cell.Cell.{Cell}
use Rattle.xy_cut.specs.declared.cell.Side.{Side}
use Rattle.xy_cut.specs.declared.cell.Side.TheVariants.{Before, After}
use Rattle.xy_cut.specs.declared.cell.TheConstants.{MAX_CUTS}
use Rattle.xy_cut.specs.Bands.{IsBand, IsBestBand, part_of}

-- the least rectangle round boxes
abbrev pub IsHullOf : List Rect → Rect → Type 0
IsHullOf boxes hull = IsLeastRect (λ outer. All (Encloses outer) boxes) hull

pub record IsCellOf (path : List Side) (boxes : List Rect) (cell : Cell) : Type 0 where
  pub way : cell.path ≡ path
  pub count : cell.count ≡ length boxes
  pub round : IsHullOf boxes cell.bbox

-- boxes that are not cut are one cell, and no box is no cell
abbrev pub AreWhole : List Side → List Rect → List Cell → Type 0
AreWhole path [] cells = cells ≡ []
AreWhole path (box ∷ boxes) cells = (cell : Cell) × (cells ≡ cell ∷ []) × IsCellOf path (box ∷ boxes) cell

-- the boxes at the end of a path are cut at the best band, while the path has fewer than `MAX_CUTS` cuts
pub record IsCut (least : ℕ) (path : List Side) (boxes : List Rect) (band : Band) : Type 0 where
  pub short : length path < MAX_CUTS
  pub best : IsBestBand boxes least band

-- and are not cut where the path has as many, or where there is no band
abbrev pub IsUncut : ℕ → List Side → List Rect → Type 0
IsUncut least path boxes = (MAX_CUTS ≤ length path) ⊎ ((band : Band) → IsBand boxes least band → ⊥)

-- The cells of the boxes at the end of a path, where a band has at least so many columns or rows: the boxes as a whole where they are
-- not cut, and else the cells on the one side of the cut, followed by those on its other side.
pub data AreCells (least : ℕ) : List Side → List Rect → List Cell → Type 0 where
  Whole : (path : List Side) (boxes : List Rect) (cells : List Cell)
      → IsUncut least path boxes → AreWhole path boxes cells → AreCells least path boxes cells
  Parted : (path : List Side) (boxes : List Rect) (band : Band) (cells others : List Cell)
      → IsCut least path boxes band
      → AreCells least (path ++ Before ∷ []) (part_of band Before boxes) cells
      → AreCells least (path ++ After ∷ []) (part_of band After boxes) others
      → AreCells least path boxes (cells ++ others)

-- the band at which boxes are cut, or none exactly where they are not cut
abbrev pub IsCutOf : ℕ → List Side → List Rect → Option Band → Type 0
IsCutOf least path boxes (Some band) = IsCut least path boxes band
IsCutOf least path boxes None = IsUncut least path boxes

-- boxes have one list of cells at most
abbrev pub CellsAreUnique : Type 0
CellsAreUnique =
    (least : ℕ) (path : List Side) (boxes : List Rect) (xs ys : List Cell)
    → AreCells least path boxes xs → AreCells least path boxes ys → xs ≡ ys
