-- How rectangles lie to one another, by their sides and by their pixels.
use Rattle.std.specs.Prelude.{◌≡◌, ℕ, ◌-◌, ◌*◌, ◌<◌, ◌≤◌, min, max, List, [], ◌∷◌, Option, Some, None, IsSome, IfSome, All}
use Rattle.layout_geom.specs.declared.rect.Rect.{Rect}

abbrev pub width_of : Rect → ℕ
width_of r = r.x1 - r.x0

abbrev pub height_of : Rect → ℕ
height_of r = r.y1 - r.y0

-- the number of pixels
abbrev pub area_of : Rect → ℕ
area_of r = width_of r * height_of r

-- the rectangle has the pixel in column x and row y
pub record HasPixel (r : Rect) (x y : ℕ) : Type 0 where
  pub from_left : r.x0 ≤ x
  pub to_right : x < r.x1
  pub from_top : r.y0 ≤ y
  pub to_bottom : y < r.y1

-- each begins before the other ends, across and down
pub record Overlaps (r s : Rect) : Type 0 where
  pub left : r.x0 < s.x1
  pub right : s.x0 < r.x1
  pub top : r.y0 < s.y1
  pub bottom : s.y0 < r.y1

-- some pixel is in both, which is what Overlaps says of the sides
pub record SharesPixel (r s : Rect) : Type 0 where
  pub x : ℕ
  pub y : ℕ
  pub in_first : HasPixel r x y
  pub in_second : HasPixel s x y

-- no side of the second lies outside the first
pub record Encloses (r s : Rect) : Type 0 where
  pub left : r.x0 ≤ s.x0
  pub top : r.y0 ≤ s.y0
  pub right : s.x1 ≤ r.x1
  pub bottom : s.y1 ≤ r.y1

-- the least of the rectangles that are round something: each other one encloses it
pub record IsLeastRect (Round : Rect → Type 0) (r : Rect) : Type 0 where
  pub round : Round r
  pub least : (other : Rect) → Round other → Encloses other r

-- the first has every pixel of the second, which is what Encloses says of the sides
abbrev pub HasPixelsOf : Rect → Rect → Type 0
HasPixelsOf r s = (x y : ℕ) → HasPixel s x y → HasPixel r x y

pub record HasSides (r : Rect) (x0 y0 x1 y1 : ℕ) : Type 0 where
  pub left : r.x0 ≡ x0
  pub top : r.y0 ≡ y0
  pub right : r.x1 ≡ x1
  pub bottom : r.y1 ≡ y1

-- the number of pixels of the least rectangle round both
abbrev pub hull_area : Rect → Rect → ℕ
hull_area r s = (max r.x1 s.x1 - min r.x0 s.x0) * (max r.y1 s.y1 - min r.y0 s.y0)

-- the sides of the least rectangle round both
abbrev pub IsHull : Rect → Rect → Rect → Type 0
IsHull r s hull = HasSides hull (min r.x0 s.x0) (min r.y0 s.y0) (max r.x1 s.x1) (max r.y1 s.y1)

-- the rectangle overlaps no box of the list
abbrev pub IsClear : Rect → List Rect → Type 0
IsClear r boxes = All (λ box. Overlaps r box → ⊥) boxes

-- the rectangle of these sides, or none exactly where that is empty
abbrev pub IsPart : ℕ → ℕ → ℕ → ℕ → Option Rect → Type 0
IsPart x0 y0 x1 y1 (Some part) = HasSides part x0 y0 x1 y1
IsPart x0 y0 x1 y1 None = (x0 < x1 → y0 < y1 → ⊥)

-- what is left of, right of, above and below a pivot, in this order
abbrev pub IsCut : Rect → Rect → List (Option Rect) → Type 0
IsCut r pivot (left ∷ right ∷ above ∷ below ∷ []) =
    IsPart r.x0 r.y0 pivot.x0 r.y1 left × IsPart pivot.x1 r.y0 r.x1 r.y1 right
    × IsPart r.x0 r.y0 r.x1 pivot.y0 above × IsPart r.x0 pivot.y1 r.x1 r.y1 below
IsCut r pivot _ = ⊥

-- the part is there and encloses the rectangle
abbrev pub HoldsIn : Rect → Option Rect → Type 0
HoldsIn inner part = IsSome part × IfSome part (λ outer. Encloses outer inner)
