-- The areas of a page: lines of text that follow one another from top to bottom.
use Rattle.std.specs.Prelude.{◌≡◌, ℕ, ◌+◌, ◌-◌, ◌*◌, ◌<◌, ◌≤◌, List, [], ◌∷◌, length, slice_index, slice_index_or}
use Rattle.layout_geom.specs.declared.rect.Rect.{Rect}
use Rattle.layout_geom.specs.declared.area.Area.{Area}
use Rattle.layout_geom.specs.Rectangles.{Encloses, IsLeastRect}
use Rattle.reading_order.specs.declared.areas.TheConstants.{MOST_GAP}
use Rattle.reading_order.specs.Rules.{OverlapsInX, IsAbove}

-- The next line goes on below a line, at most so many rows below its end.
pub record GoesOn (reach : ℕ) (line next : Rect) : Type 0 where
  pub overlap : OverlapsInX line next
  pub above : IsAbove line next
  pub near : next.y0 ≤ line.y1 + reach

-- The line at a position of a listing.
abbrev pub line_at : List Rect → List ℕ → ℕ → Rect → Rect
line_at lines listing position d = slice_index_or lines (slice_index listing position) d

-- The line behind a position of a listing goes on below the one there.
abbrev pub GoesOnAt : List Rect → List ℕ → ℕ → ℕ → Type 0
GoesOnAt lines listing reach position =
    (d : Rect) → GoesOn reach (line_at lines listing position d) (line_at lines listing (position + 1) d)

-- A rectangle encloses the lines at the positions from the first up to the last, which is excluded.
abbrev pub EnclosesLines : List Rect → List ℕ → ℕ → ℕ → Rect → Type 0
EnclosesLines lines listing first last r = (k : ℕ) (d : Rect) → first ≤ k → k < last → Encloses r (line_at lines listing k d)

-- The least rectangle that does.
abbrev pub IsLeastRound : List Rect → List ℕ → ℕ → ℕ → Rect → Type 0
IsLeastRound lines listing first last r = IsLeastRect (EnclosesLines lines listing first last) r

-- The longest stretch of a listing from a position on in which each next line goes on below the one before.
pub record IsArea (lines : List Rect) (listing : List ℕ) (reach from : ℕ) (area : Area) : Type 0 where
  pub starts : area.first ≡ from
  pub some : 0 < area.count
  pub fits : from + area.count ≤ length listing
  pub whole : (k : ℕ) → from ≤ k → k + 1 < from + area.count → GoesOnAt lines listing reach k
  pub cut : from + area.count < length listing → GoesOnAt lines listing reach (from + area.count - 1) → ⊥
  pub round : IsLeastRound lines listing from (from + area.count) area.bbox

-- The areas that a listing falls into from a position on.
abbrev pub AreAreasFrom : List Rect → List ℕ → ℕ → ℕ → List Area → Type 0
AreAreasFrom lines listing reach from [] = from ≡ length listing
AreAreasFrom lines listing reach from (area ∷ areas) =
    IsArea lines listing reach from area × AreAreasFrom lines listing reach (from + area.count) areas

-- The areas of lines in the order of a listing, where the text has a median height: a line goes on below another up to
-- `MOST_GAP` times that height below its end.
abbrev pub AreAreasOf : List Rect → List ℕ → ℕ → List Area → Type 0
AreAreasOf lines listing median areas = AreAreasFrom lines listing (MOST_GAP * median) 0 areas

-- A listing of lines falls into one list of areas at most.
abbrev pub AreasAreUnique : Type 0
AreasAreUnique =
    (lines : List Rect) (listing : List ℕ) (median : ℕ) (xs ys : List Area)
    → AreAreasOf lines listing median xs → AreAreasOf lines listing median ys → xs ≡ ys
