-- The greedy cover of the white space of a page.
use Rattle.std.specs.Prelude.{◌≡◌, ℕ, ◌<◌, ◌≤◌, List, ◌++◌, length, take, slice_index_or}
use Rattle.layout_geom.specs.declared.rect.Rect.{Rect}
use Rattle.whitespace_cover.specs.Admissible.{IsFull, IsBestRect}

module _ (page : Rect) (boxes : List Rect) (least : ℕ) where
  -- each rectangle is the best one for the boxes together with the rectangles before it
  abbrev pub EachIsBest : List Rect → Type 0
  EachIsBest rects = (i : ℕ) (d : Rect) → i < length rects → IsBestRect page (boxes ++ take i rects) least (slice_index_or rects i d)

  -- and there are as many as there can be, up to the count
  pub record IsCover (count : ℕ) (rects : List Rect) : Type 0 where
    pub each : EachIsBest rects
    pub few : length rects ≤ count
    pub ended : length rects < count → IsFull page (boxes ++ rects) least

-- there is one cover of a page behind its boxes
abbrev pub CoverIsUnique : Type 0
CoverIsUnique = (page : Rect) (boxes : List Rect) (least count : ℕ) (xs ys : List Rect) → IsCover page boxes least count xs
    → IsCover page boxes least count ys → xs ≡ ys
