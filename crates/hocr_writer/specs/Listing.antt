-- The listing of a page's text lines, and the layouts that can be written, alone and together.
use Rattle.layout_geom.specs.declared.rect.Rect.{Rect}
use Rattle.std.specs.Prelude.{◌≡◌, Bool, true, false, ℕ, ◌+◌, ◌<◌, List, [], ◌∷◌, length, slice_index, All, Some}
use Rattle.std.specs.List.{range_with_len, slice_get}
use Rattle.layout_geom.specs.declared.area.Area.{Area}
use Rattle.layout_geom.specs.declared.order.Order.{Order}
use Rattle.layout_geom.specs.declared.order.Order.TheVariants.{Topological, Cycle}
use Rattle.line_quality.specs.Points.{IsSlope, IsOffset, IsDepth}
use Rattle.hocr_writer.specs.declared.layout.Layout.{Layout}
use Rattle.hocr_writer.specs.declared.layout.Mark.{Mark}

-- The numbers of so many lines as they are listed: in their order, or, where there is none, as they rise.
abbrev pub listing : Order → ℕ → List ℕ
listing (Topological order) count = order
listing (Cycle cycle) count = range_with_len 0 count

-- The listing of the lines of a layout.
abbrev pub listing_of : Layout → List ℕ
listing_of layout = listing layout.order (length layout.lines)

-- No two of the numbers are equal.
abbrev pub AreDistinct : List ℕ → Type 0
AreDistinct numbers = (i j : ℕ) → i < j → j < length numbers → slice_index numbers i ≡ slice_index numbers j → ⊥

-- Each of the numbers below a count stands once.
pub record HasEachOnce (count : ℕ) (numbers : List ℕ) : Type 0 where
  pub long : length numbers ≡ count
  pub below : All (λ number. number < count) numbers
  pub apart : AreDistinct numbers

-- An order has each of so many lines once; a cycle has none but these.
abbrev pub NamesLines : Order → ℕ → Type 0
NamesLines (Topological order) count = HasEachOnce count order
NamesLines (Cycle cycle) count = All (λ number. number < count) cycle

-- The areas follow one another without a gap, from a position to the end of a listing.
abbrev pub SplitListing : ℕ → ℕ → List Area → Type 0
SplitListing from end [] = from ≡ end
SplitListing from end (area ∷ areas) = (area.first ≡ from) × SplitListing (from + area.count) end areas

-- The slope, the offset and the depth of a line are those of a grid.
pub record IsMark (mark : Mark) : Type 0 where
  pub slope : IsSlope mark.slope
  pub offset : IsOffset mark.offset
  pub depth : IsDepth mark.depth

-- There is one item of words for each of so many lines where they are shown, and none where they are not.
abbrev pub HasWords : Bool → ℕ → List (List Rect) → Type 0
HasWords true count words = length words ≡ count
HasWords false count words = words ≡ []

-- A layout that can be written.
pub record IsWholeLayout (layout : Layout) : Type 0 where
  pub order : NamesLines layout.order (length layout.lines)
  pub areas : SplitListing 0 (length layout.lines) layout.areas
  pub marks : All IsMark layout.lines
  pub words : HasWords layout.with_words (length layout.lines) layout.words

-- The layouts of the pages of an input, which can be written in one document: there is one at least,
-- each can be written, the number of each page is its place, and all show the words of their lines, or none does.
pub record AreWholeLayouts (layouts : List Layout) : Type 0 where
  pub some : layouts ≡ [] → ⊥
  pub whole : All IsWholeLayout layouts
  pub numbered : (place : ℕ) (layout : Layout) → slice_get layouts place ≡ Some layout → layout.page ≡ place
  pub with_words : Bool
  pub alike : All (λ layout. layout.with_words ≡ with_words) layouts
