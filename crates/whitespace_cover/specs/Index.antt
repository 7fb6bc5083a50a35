-- An index of rectangles by the cells of `CELL_SIDE` by `CELL_SIDE` pixels that they reach into.
use Rattle.std.specs.Prelude.{◌≡◌, ℕ, ◌+◌, ◌*◌, ◌/◌, ◌<◌, ◌≤◌, ◌⊎◌, List, [], length, take, slice_index_or, Option, IfSome, Any, Contains}
use Rattle.layout_geom.specs.declared.rect.Rect.{Rect}
use Rattle.layout_geom.specs.Rectangles.{HasPixel}
use Rattle.whitespace_cover.specs.declared.cells.Cells.{Cells}
use Rattle.whitespace_cover.specs.declared.cells.TheConstants.{CELL_SIDE}

-- the number of the cell of a pixel, row of cells by row, where a row has so many
abbrev pub cell_of : ℕ → ℕ → ℕ → ℕ
cell_of across x y = y / CELL_SIDE * across + x / CELL_SIDE

-- the rectangles of a cell
abbrev pub list_at : List (List Rect) → ℕ → List Rect
list_at lists cell = slice_index_or lists cell []

-- some rectangle of the list has the pixel
abbrev pub SomeHasPixel : List Rect → ℕ → ℕ → Type 0
SomeHasPixel rects x y = Any (λ r. HasPixel r x y) rects

-- the cells of these rows list no other rectangles than these, and each pixel of these in the cells is in a rectangle that its cell lists
pub record IsIndex (across rows : ℕ) (rects : List Rect) (lists : List (List Rect)) : Type 0 where
  pub whole : length lists ≡ rows * across
  pub only : (cell : ℕ) (r : Rect) → Contains (list_at lists cell) r → Contains rects r
  pub complete : (x y : ℕ) → x / CELL_SIDE < across → y / CELL_SIDE < rows → SomeHasPixel rects x y
      → SomeHasPixel (list_at lists (cell_of across x y)) x y

-- the cells are an index of the first of the rectangles, as far to the right and down as a rectangle reaches
pub record IsIndexOf (reached : Rect) (rects : List Rect) (cells : Cells) : Type 0 where
  pub rows : ℕ
  pub right : reached.x1 ≤ cells.across * CELL_SIDE
  pub bottom : reached.y1 ≤ rows * CELL_SIDE
  pub within : cells.count ≤ length rects
  pub index : IsIndex cells.across rows (take cells.count rects) cells.lists.items

abbrev pub IsIndexed : Rect → List Rect → Option Cells → Type 0
IsIndexed reached rects cells = IfSome cells (IsIndexOf reached rects)

-- the cells may list a rectangle more, and what they listed has its pixels as before
pub record Adds (rect : Rect) (old new : List (List Rect)) : Type 0 where
  pub whole : length new ≡ length old
  pub only : (cell : ℕ) (r : Rect) → Contains (list_at new cell) r → Contains (list_at old cell) r ⊎ (r ≡ rect)
  pub kept : (cell x y : ℕ) → SomeHasPixel (list_at old cell) x y → SomeHasPixel (list_at new cell) x y

-- the place is the k-th of some places from the first on, when they are taken from the middle outwards
abbrev pub IsFromMiddle : ℕ → ℕ → ℕ → ℕ → Type 0
IsFromMiddle first count k place =
    let middle = first + count / 2 in (2 * place ≡ 2 * middle + k) ⊎ (2 * place + k + 1 ≡ 2 * middle)
