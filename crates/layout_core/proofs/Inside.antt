-- What is found on a page lies on the page.
use Rattle.std.proofs.Common.{ℕ, ◌≤◌, Bool, List, [], ◌∷◌, length, map, refl, get_or, slice_get, subst, inl, inr, arith}
use Rattle.std.specs.Prelude.{All, IfSome}
use Rattle.std.specs.List.{AllZip, filter}
use Rattle.std.proofs.lemmas.Int.{ints}
use Rattle.std.proofs.lemmas.List.Elements.{All-nil, All-cons, All-map}
use Rattle.std.proofs.lemmas.List.Sorted.{All-permutation}
use Rattle.std.proofs.lemmas.List.Sums.{length-filter, count_by-le-length}
use Rattle.std.proofs.lemmas.Option.{slice_get_cases}
use Rattle.page_runs.specs.Page.{Page}
use Rattle.page_runs.specs.Packed.{Packed, Holds, page_of}
use Rattle.layout_geom.specs.declared.rect.Rect.{Rect}
use Rattle.layout_geom.specs.Rectangles.{HasSides, Encloses}
use Rattle.components.specs.declared.place.Place.{Place}
use Rattle.components.specs.Connected.{IsBlack, IsPath}
use Rattle.components.specs.Boxes.{IsKept}
use Rattle.components.specs.Kept.{IsKeptList}
use Rattle.line_search.specs.declared.line.Line.{Line}
use Rattle.line_search.specs.Lines.{IsRound, IsBestLine, IsLineList, without}
use Rattle.hocr_writer.specs.declared.layout.Mark.{Mark}
use Rattle.hocr_writer.specs.Listing.{IsMark}
use Rattle.layout_core.specs.Numbering.{mark_of, box_of, IsNumbered}

-- a page holds the page that it is
pub holds_itself : (p : Packed) → Holds p (page_of p)
holds_itself p = record { width_is = refl; height_is = refl; same = λ x y in_row in_column. refl }

-- a filter keeps at most what there is
pub filter_few : {X : Type 0} (p : X → Bool) (xs : List X) → length (filter p xs) ≤ length xs
filter_few p xs = rw (length-filter p xs) (count_by-le-length p xs)

-- a path of black places ends at a black place
path_black : (page : Page) (p r : Place) (path : List Place) → IsBlack page p → IsPath page p path r → IsBlack page r
path_black page p r [] black end = subst (IsBlack page) end black
path_black page p r (q ∷ path) black leads = path_black page q r path leads.1 leads.2

-- the page's rectangle has each kept box inside
box_inside : (page : Page) (whole : Rect) → HasSides whole 0 0 page.width page.height → (p : Place) (box : Rect) → IsKept page p box → Encloses whole box
box_inside page whole sides p box kept =
    (kept.is_box).least whole
    (λ q connected.
    let black = path_black page p q connected.path connected.from connected.leads in
    record {
      from_left = omega (arith, sides.left);
      to_right = omega (arith, sides.right, black.in_row);
      from_top = omega (arith, sides.top);
      to_bottom = omega (arith, sides.bottom, black.in_column);
    })

module _ (page : Page) (whole : Rect) (sides : HasSides whole 0 0 page.width page.height) where
  found_inside : (places : List Place) (boxes : List Rect) → AllZip (IsKept page) places boxes → All (Encloses whole) boxes
  found_inside [] [] zip = All-nil (Encloses whole)
  found_inside [] (box ∷ boxes) zip = absurd zip
  found_inside (p ∷ places) [] zip = absurd zip
  found_inside (p ∷ places) (box ∷ boxes) zip = All-cons (Encloses whole) box boxes (box_inside page whole sides p box zip.0) (found_inside places boxes zip.1)

  pub kept_inside : (boxes : List Rect) → IsKeptList page boxes → All (Encloses whole) boxes
  kept_inside boxes list = All-permutation (Encloses whole) list.found boxes list.rearranged (found_inside list.is_kept.places list.found list.is_kept.are_kept.kept)

-- a rectangle that has all boxes inside is round those at any positions
pub round_all : (boxes : List Rect) (whole : Rect) (positions : List ℕ) → All (Encloses whole) boxes → IsRound boxes positions whole
round_all boxes whole positions all k d within = at (get_or positions k d)
  where
    at : (position : ℕ) → IfSome (slice_get boxes position) (λ box. Encloses whole box)
    at position = elim ((slice_get_cases boxes position).1) [
      | inl some ↦ rw some.2 (subst (Encloses whole) some.3 (all position some.0 some.1))
      | inr none ↦ rw none.1 tt
    ]

module _ (boxes gutters : List Rect) (height median : ℕ) (whole : Rect) (all : All (Encloses whole) boxes) where
  line_inside : (alive : List ℕ) (line : Line) → IsBestLine boxes gutters height median alive line → Encloses whole line.bbox
  line_inside alive line best = (best.bbox).least whole (round_all boxes whole line.members all)

  lines_inside : (alive : List ℕ) (lines : List Line) → IsLineList boxes gutters height median alive lines → All (λ line. Encloses whole line.bbox) lines
  lines_inside alive [] list = All-nil (λ (line : Line). Encloses whole line.bbox)
  lines_inside alive (line ∷ lines) list =
      All-cons (λ (line : Line). Encloses whole line.bbox) line lines (line_inside alive line list.0) (lines_inside (without line.members alive) lines list.1)

  -- the boxes of the numbered lines lie on the page
  pub numbered_inside : (alive : List ℕ) (lines : List Line) (marks : List Mark) → IsLineList boxes gutters height median alive lines → IsNumbered lines marks → All (Encloses whole) (map box_of marks)
  numbered_inside alive lines marks list is =
      rw is.shown
      (All-map (Encloses whole) box_of (map mark_of is.numbered)
      (All-map (λ (mark : Mark). Encloses whole mark.bbox) mark_of is.numbered
      (All-permutation (λ (line : Line). Encloses whole line.bbox) lines is.numbered is.in_order.rearranged (lines_inside alive lines list))))

module _ (boxes gutters : List Rect) (height median : ℕ) (high : height ≤ 8192) where
  line_mark : (alive : List ℕ) (line : Line) → IsBestLine boxes gutters height median alive line → IsMark (mark_of line)
  line_mark alive line best =
      let point = (best.admissible).scored.point in
      record { slope = point.slope_in; offset = record { low = point.low; high = omega (arith, ints, point.high) }; depth = omega (arith, point.shallow) }

  lines_on_grid : (alive : List ℕ) (lines : List Line) → IsLineList boxes gutters height median alive lines → All (λ line. IsMark (mark_of line)) lines
  lines_on_grid alive [] list = All-nil (λ (line : Line). IsMark (mark_of line))
  lines_on_grid alive (line ∷ lines) list =
      All-cons (λ (line : Line). IsMark (mark_of line)) line lines (line_mark alive line list.0) (lines_on_grid (without line.members alive) lines list.1)

  -- the numbered lines are of the grid
  pub numbered_on_grid : (alive : List ℕ) (lines : List Line) (marks : List Mark) → IsLineList boxes gutters height median alive lines → IsNumbered lines marks → All IsMark marks
  numbered_on_grid alive lines marks list is =
      rw is.shown (All-map IsMark mark_of is.numbered (All-permutation (λ (line : Line). IsMark (mark_of line)) lines is.numbered is.in_order.rearranged (lines_on_grid alive lines list)))
