-- The kept boxes of a page, and their median height.
use Rattle.std.specs.Prelude.{◌≡◌, ◌<◌, ◌≤◌, ℕ, ◌-◌, ◌*◌, ◌/◌, ◌&&◌, Bool, nat_le, ⊤, List, length, map, slice_index}
use Rattle.std.specs.Ordering.{nat_cmp, ordering_then}
use Rattle.std.specs.declared.cmp.Ordering.{Ordering}
use Rattle.std.specs.List.Sorted.{IsPermutation, IsSorted, IsNonDecreasing}
use Rattle.page_runs.specs.Page.{Page}
use Rattle.layout_geom.specs.declared.rect.Rect.{Rect}
use Rattle.layout_geom.specs.Rectangles.{width_of, height_of}
use Rattle.components.specs.declared.kept.Kept.{Kept}
use Rattle.components.specs.declared.kept.TheConstants.{MAX_KEPT, MAX_MEDIAN_IN_HEIGHTS, MAX_HEIGHT_IN_MEDIANS, MAX_WIDTH_IN_MEDIANS}
use Rattle.components.specs.declared.kept.CompFault.{CompFault}
use Rattle.components.specs.declared.kept.CompFault.TheVariants as faults
use Rattle.components.specs.declared.place.Place.{Place}
use Rattle.components.specs.Boxes.{AreKept}

-- by the upper side, then the left, the lower and the right one
abbrev pub compare_boxes : Rect → Rect → Ordering
compare_boxes r s =
    ordering_then (ordering_then (ordering_then (nat_cmp r.y0 s.y0) (nat_cmp r.x0 s.x0)) (nat_cmp r.y1 s.y1)) (nat_cmp r.x1 s.x1)

-- the boxes of the kept components, one for each component, in any order
pub record IsKeptBoxes (page : Page) (boxes : List Rect) : Type 0 where
  pub places : List Place
  pub are_kept : AreKept page places boxes

-- the boxes of the kept components, one for each component, in order
pub record IsKeptList (page : Page) (boxes : List Rect) : Type 0 where
  pub found : List Rect
  pub is_kept : IsKeptBoxes page found
  pub rearranged : IsPermutation found boxes
  pub sorted : IsSorted compare_boxes boxes

-- so many components are kept
pub record IsKeptCount (page : Page) (count : ℕ) : Type 0 where
  pub found : List Rect
  pub is_kept : IsKeptBoxes page found
  pub counted : length found ≡ count

-- the number in the middle of the rising numbers, the lower one of two, and 0 where there is none
pub record IsLowerMedian (numbers : List ℕ) (median : ℕ) : Type 0 where
  pub rising : List ℕ
  pub rearranged : IsPermutation numbers rising
  pub rises : IsNonDecreasing rising
  pub middle : median ≡ slice_index rising ((length rising - 1) / 2)

-- the kept boxes of the page and the median of their heights
pub record IsKeptOf (page : Page) (kept : Kept) : Type 0 where
  pub boxes : IsKeptList page kept.boxes
  pub few : length kept.boxes ≤ MAX_KEPT
  pub median : IsLowerMedian (map height_of kept.boxes) kept.median

-- why there is no answer
abbrev pub IsFaultOf : Page → CompFault → Type 0
IsFaultOf page (faults.TooMany count) = IsKeptCount page count × (MAX_KEPT < count)
IsFaultOf page faults.Memory = ⊤

-- a box has about the size of a character, where the text has this median height
pub record IsCharSized (box : Rect) (median : ℕ) : Type 0 where
  pub high : median ≤ MAX_MEDIAN_IN_HEIGHTS * height_of box
  pub low : height_of box ≤ MAX_HEIGHT_IN_MEDIANS * median
  pub narrow : width_of box ≤ MAX_WIDTH_IN_MEDIANS * median

-- the same as a test, by which boxes can be counted and filtered
abbrev pub is_char_sized : Rect → ℕ → Bool
is_char_sized box median =
    nat_le median (MAX_MEDIAN_IN_HEIGHTS * height_of box)
    && nat_le (height_of box) (MAX_HEIGHT_IN_MEDIANS * median)
    && nat_le (width_of box) (MAX_WIDTH_IN_MEDIANS * median)

-- a page has one list of kept boxes, and one number of kept components
pub record HasOneKeptList (page : Page) : Type 0 where
  pub one_list : (boxes others : List Rect) → IsKeptList page boxes → IsKeptList page others → boxes ≡ others
  pub one_count : (m n : ℕ) → IsKeptCount page m → IsKeptCount page n → m ≡ n

abbrev pub KeptIsUnique : Type 0
KeptIsUnique = (page : Page) → HasOneKeptList page
