-- How cells come to be an index of rectangles, and what an index says of the rectangles that overlap another.
use Rattle.std.proofs.Common.{zero, suc, add-one, ◌≡◌, ℕ, ◌+◌, ◌*◌, ◌-◌, ◌/◌, ◌<◌, ◌≤◌, ◌⊎◌, List, [], ◌∷◌, ◌++◌, length, get_or, set, max, min, take, drop, All, Any, Contains, arith, ap, sym, ◌∙◌, subst, inl, inr, ⊎_elim, refl, Option, Some, None, get_or-set_same, get_or-set_other, length-set}
use Rattle.std.proofs.lemmas.List.{take-append-drop, get_or_past, get_or_default}
use Rattle.std.proofs.lemmas.List.Elements.{All-contains, Contains-append_left, Contains-append_right, Contains-push, Contains-push_cases, Contains-get_or}
use Rattle.std.proofs.Math.Seq.{drop-cons}
use Rattle.std.proofs.Math.Nat.{mul-le-mul_right, mul-le-mul_left}
use Rattle.std.proofs.lemmas.Bool.{cases_lt}
use Rattle.layout_geom.specs.declared.rect.Rect.{Rect}
use Rattle.layout_geom.specs.Rectangles.{HasPixel, HasSides, Overlaps, Encloses, SharesPixel, IsClear}
use Rattle.layout_geom.specs.PixelLaws.{shares_pixel, overlaps, has_pixels_of}
use Rattle.whitespace_cover.specs.declared.cells.Cells.{Cells}
use Rattle.whitespace_cover.specs.Index.{cell_of, list_at, SomeHasPixel, IsIndex, IsIndexed, Adds, IsFromMiddle}
use Rattle.whitespace_cover.proofs.Barring.{both_clear}

-- one of the rectangles has the pixel
held_by : (rects : List Rect) (r : Rect) (x y : ℕ) → Contains rects r → HasPixel r x y → SomeHasPixel rects x y
held_by rects r x y (k, within, at) has = (k, r, within, at, has)

pub held_before : (xs ys : List Rect) (x y : ℕ) → SomeHasPixel xs x y → SomeHasPixel (xs ++ ys) x y
held_before xs ys x y (k, r, within, at, has) = held_by (xs ++ ys) r x y (Contains-append_left xs ys r (k, within, at)) has

pub held_last : (xs : List Rect) (r : Rect) (x y : ℕ) → HasPixel r x y → SomeHasPixel (xs ++ r ∷ []) x y
held_last xs r x y has = held_by (xs ++ r ∷ []) r x y (Contains-push xs r) has

-- a rectangle of the list round a part has the part's pixels
pub held_by_outer : (xs : List Rect) (part : Rect) (x y : ℕ) → Any (λ r. Encloses r part) xs → HasPixel part x y → SomeHasPixel xs x y
held_by_outer xs part x y (k, r, within, at, round) has = (k, r, within, at, has_pixels_of r part round x y has)

-- the pixels of a rectangle in a cell are in its part there
pub in_part : (rect part : Rect) (column row x y : ℕ) → HasSides part (max rect.x0 (column * 64)) (max rect.y0 (row * 64)) (min rect.x1 (column * 64 + 64)) (min rect.y1 (row * 64 + 64)) → HasPixel rect x y → x / 64 ≡ column → y / 64 ≡ row → HasPixel part x y
in_part rect part column row x y sides has in_column in_row = record {
  from_left = omega (arith, sides.left, has.from_left, in_column);
  to_right = omega (arith, sides.right, has.to_right, in_column);
  from_top = omega (arith, sides.top, has.from_top, in_row);
  to_bottom = omega (arith, sides.bottom, has.to_bottom, in_row);
}

held_none : (x y : ℕ) → SomeHasPixel [] x y → ⊥
held_none x y (k, q, within, at, has) = omega arith

module _ (rect : Rect) where
  pub adds_nothing : (lists : List (List Rect)) → Adds rect lists lists
  adds_nothing lists = record { whole = refl; only = λ cell r there. inl there; kept = λ cell x y held. held }

  pub adds_chain : (a b d : List (List Rect)) → Adds rect a b → Adds rect b d → Adds rect a d
  adds_chain a b d first second = record {
    whole = second.whole ∙ first.whole;
    only = λ cell r there. ⊎_elim (λ between. first.only cell r between) (λ one. inr one) (second.only cell r there);
    kept = λ cell x y held. second.kept cell x y (first.kept cell x y held);
  }

  -- the list of a cell as it was, or with the rectangle
  abbrev pub IsGrown : List Rect → List Rect → Type 0
  IsGrown old new = (new ≡ old) ⊎ (new ≡ old ++ rect ∷ [])

  grown_only : (old new : List Rect) → IsGrown old new → (r : Rect) → Contains new r → Contains old r ⊎ (r ≡ rect)
  grown_only old new grown r there =
      ⊎_elim
      (λ same. inl (subst (λ (xs : List Rect). Contains xs r) same there))
      (λ more. ⊎_elim (λ before. inl before) (λ last. inr (sym last)) (Contains-push_cases old rect r (subst (λ (xs : List Rect). Contains xs r) more there)))
      grown

  grown_kept : (old new : List Rect) → IsGrown old new → (x y : ℕ) → SomeHasPixel old x y → SomeHasPixel new x y
  grown_kept old new grown x y held =
      ⊎_elim
      (λ same. subst (λ (xs : List Rect). SomeHasPixel xs x y) (sym same) held)
      (λ more. subst (λ (xs : List Rect). SomeHasPixel xs x y) (sym more) (held_before old (rect ∷ []) x y held))
      grown

  pub set_here : (lists : List (List Rect)) (i : ℕ) (list : List Rect) → i < length lists → list_at (set lists i list) i ≡ list
  set_here lists i list within = get_or-set_same lists i list [] within

  set_there : (lists : List (List Rect)) (i cell : ℕ) (list : List Rect) → (cell ≡ i → ⊥) → list_at (set lists i list) cell ≡ list_at lists cell
  set_there lists i cell list other = get_or-set_other lists i cell list [] other

  place_cases : (i cell : ℕ) → (cell ≡ i) ⊎ (cell ≡ i → ⊥)
  place_cases i cell =
      ⊎_elim
      (λ before. inr (λ same. omega (arith, same, before)))
      (λ rest. ⊎_elim (λ behind. inr (λ same. omega (arith, same, behind))) (λ back. inl (omega (arith, rest, back))) (cases_lt i cell))
      (cases_lt cell i)

  -- one list grows
  pub adds_one : (lists : List (List Rect)) (i : ℕ) (list : List Rect) → i < length lists → IsGrown (list_at lists i) list → Adds rect lists (set lists i list)
  adds_one lists i list within grown = record {
    whole = length-set lists i list;
    only = λ cell r there.
        ⊎_elim
        (λ here. let at : list_at (set lists i list) cell ≡ list = ap (λ (k : ℕ). list_at (set lists i list) k) here ∙ set_here lists i list within in
        subst (λ (k : ℕ). Contains (list_at lists k) r ⊎ (r ≡ rect)) (sym here) (grown_only (list_at lists i) list grown r (subst (λ (xs : List Rect). Contains xs r) at there)))
        (λ other. inl (subst (λ (xs : List Rect). Contains xs r) (set_there lists i cell list other) there))
        (place_cases i cell);
    kept = λ cell x y held.
        ⊎_elim
        (λ here. let at : list_at (set lists i list) cell ≡ list = ap (λ (k : ℕ). list_at (set lists i list) k) here ∙ set_here lists i list within in
        subst (λ (xs : List Rect). SomeHasPixel xs x y) (sym at) (grown_kept (list_at lists i) list grown x y (subst (λ (k : ℕ). SomeHasPixel (list_at lists k) x y) here held)))
        (λ other. subst (λ (xs : List Rect). SomeHasPixel xs x y) (sym (set_there lists i cell list other)) held)
        (place_cases i cell);
  }

  -- the pixels of the rectangle before a column of a row of cells are held
  abbrev pub TakenInRow : ℕ → ℕ → List (List Rect) → ℕ → Type 0
  TakenInRow across row lists column = (x y : ℕ) → HasPixel rect x y → y / 64 ≡ row → x / 64 < column → SomeHasPixel (list_at lists (cell_of across x y)) x y

  pub row_more : (across row column : ℕ) (old : List (List Rect)) (list : List Rect) → row * across + column < length old → IsGrown (list_at old (row * across + column)) list → ((x y : ℕ) → HasPixel rect x y → x / 64 ≡ column → y / 64 ≡ row → SomeHasPixel list x y) → TakenInRow across row old column → TakenInRow across row (set old (row * across + column) list) (column + 1)
  row_more across row column old list within grown taken so_far x y has in_row before =
      ⊎_elim
      (λ earlier. (adds_one old (row * across + column) list within grown).kept (cell_of across x y) x y (so_far x y has in_row earlier))
      (λ here.
      let same : x / 64 ≡ column = omega (arith, here, before) in
      let at : cell_of across x y ≡ row * across + column = ap (λ (r : ℕ). r * across + x / 64) in_row ∙ ap (λ (c : ℕ). row * across + c) same in
      subst (λ (k : ℕ). SomeHasPixel (list_at (set old (row * across + column) list) k) x y) (sym at)
      (subst (λ (xs : List Rect). SomeHasPixel xs x y) (sym (set_here old (row * across + column) list within)) (taken x y has same in_row)))
      (cases_lt (x / 64) column)

  -- the pixels of the rectangle before a row of cells are held
  abbrev pub TakenAbove : ℕ → List (List Rect) → ℕ → Type 0
  TakenAbove across lists row = (x y : ℕ) → HasPixel rect x y → x / 64 < across → y / 64 < row → SomeHasPixel (list_at lists (cell_of across x y)) x y

  pub above_more : (across row : ℕ) (old new : List (List Rect)) → Adds rect old new → ((x y : ℕ) → HasPixel rect x y → x / 64 < across → y / 64 ≡ row → SomeHasPixel (list_at new (cell_of across x y)) x y)
      → TakenAbove across old row → TakenAbove across new (row + 1)
  above_more across row old new adds taken so_far x y has narrow before =
      ⊎_elim
      (λ earlier. adds.kept (cell_of across x y) x y (so_far x y has narrow earlier))
      (λ here. taken x y has narrow (omega (arith, here, before)))
      (cases_lt (y / 64) row)

-- cells without rectangles are an index of none
pub index_of_none : (across rows : ℕ) (lists : List (List Rect)) → length lists ≡ rows * across → All (λ list. list ≡ []) lists → IsIndex across rows [] lists
index_of_none across rows lists whole empty = record {
  whole = whole;
  only = λ cell r there.
      ⊎_elim
      (λ within. subst (λ (xs : List Rect). Contains xs r) (empty cell [] within) there)
      (λ outside. subst (λ (xs : List Rect). Contains xs r) (get_or_past lists cell [] outside) there)
      (cases_lt cell (length lists));
  complete = λ x y narrow above held. absurd (held_none x y held);
}

held_either : (r : Rect) (rects : List Rect) (x y : ℕ) → SomeHasPixel (r ∷ rects) x y → HasPixel r x y ⊎ SomeHasPixel rects x y
held_either r rects x y (zero, q, within, at, has) = inl (subst (λ (s : Rect). HasPixel s x y) (sym at) has)
held_either r rects x y (suc k, q, within, at, has) = inr (k, q, omega arith, at, has)

-- one rectangle more, the one before the others
pub index_more : (across rows : ℕ) (rects : List Rect) (i : ℕ) (rect : Rect) (old new : List (List Rect)) → i < length rects → rect ≡ get_or rects i rect → IsIndex across rows (drop (i + 1) rects) old → Adds rect old new
    → ((x y : ℕ) → HasPixel rect x y → x / 64 < across → y / 64 < rows → SomeHasPixel (list_at new (cell_of across x y)) x y) → IsIndex across rows (drop i rects) new
index_more across rows rects i rect old new within is index adds taken =
    let behind : List Rect = drop (i + 1) rects in
    let more : drop i rects ≡ rect ∷ behind = drop-cons rects i rect within ∙ ap (λ (r : Rect). r ∷ drop (suc i) rects) (sym is) ∙ ap (λ (n : ℕ). rect ∷ drop n rects) (sym (add-one i)) in
    subst (λ (xs : List Rect). IsIndex across rows xs new) (sym more) (record {
      whole = adds.whole ∙ index.whole;
      only = λ cell r there.
          ⊎_elim
          (λ before. Contains-append_right (rect ∷ []) behind r (index.only cell r before))
          (λ last. subst (λ (q : Rect). Contains (rect ∷ behind) q) (sym last) (0, omega arith, refl))
          (adds.only cell r there);
      complete = λ x y narrow above held.
          ⊎_elim
          (λ here. taken x y here narrow above)
          (λ before. adds.kept (cell_of across x y) x y (index.complete x y narrow above before))
          (held_either rect behind x y held);
    })

-- a row of cells that is there ends within the cells
pub row_within : (across row rows : ℕ) → row < rows → row * across + across ≤ rows * across
row_within across row rows below =
    let next : suc row * across ≤ rows * across = mul-le-mul_right across below in
    omega (arith, next)

pub few_cells : (across rows : ℕ) → across ≤ 128 → rows ≤ 128 → rows * across ≤ 128 * 128
few_cells across rows narrow low =
    let first = mul-le-mul_right across low in
    let second = mul-le-mul_left 128 narrow in
    omega (arith, first, second)

-- each place is taken from the middle outwards
pub from_middle_takes : (first count place : ℕ) → first ≤ place → place < first + count → (k : ℕ) × (k < count) × IsFromMiddle first count k place
from_middle_takes first count place low high =
    ⊎_elim
    (λ before. (2 * (first + count / 2 - place) - 1, omega (arith, low, before), inr (omega (arith, before))))
    (λ behind. (2 * (place - (first + count / 2)), omega (arith, high, behind), inl (omega (arith, behind))))
    (cases_lt place (first + count / 2))

pub one_place : (first count k a b : ℕ) → IsFromMiddle first count k a → IsFromMiddle first count k b → a ≡ b
one_place first count k a b one two =
    ⊎_elim
    (λ left. ⊎_elim (λ right. omega (arith, left, right)) (λ right. omega (arith, left, right)) two)
    (λ left. ⊎_elim (λ right. omega (arith, left, right)) (λ right. omega (arith, left, right)) two)
    one

-- a rectangle that is clear of what its cells list is clear of all that the index knows
pub clear_by_cells : (across rows : ℕ) (rects : List Rect) (lists : List (List Rect)) (r : Rect) → r.x1 ≤ across * 64 → r.y1 ≤ rows * 64 → IsIndex across rows rects lists
    → ((x y : ℕ) → HasPixel r x y → IsClear r (list_at lists (cell_of across x y))) → IsClear r rects
clear_by_cells across rows rects lists r right bottom index clear = λ k d within meets.
    let o : Rect = get_or rects k d in
    let pixel : SharesPixel r o = shares_pixel r o meets in
    let (j, item, inside, at, has) : SomeHasPixel (list_at lists (cell_of across pixel.x pixel.y)) pixel.x pixel.y =
    index.complete pixel.x pixel.y (omega (arith, right, pixel.in_first.to_right)) (omega (arith, bottom, pixel.in_first.to_bottom)) (held_by rects o pixel.x pixel.y (Contains-get_or rects k d within) pixel.in_second) in
    All-contains (λ box. Overlaps r box → ⊥) (list_at lists (cell_of across pixel.x pixel.y)) item (clear pixel.x pixel.y pixel.in_first) (j, inside, at)
    (overlaps r item (record { x = pixel.x; y = pixel.y; in_first = pixel.in_first; in_second = has }))

-- and with what stands behind these
pub clear_of_all : (rects : List Rect) (count : ℕ) (r : Rect) → IsClear r (take count rects) → IsClear r (drop count rects) → IsClear r rects
clear_of_all rects count r front back = subst (λ (xs : List Rect). IsClear r xs) (take-append-drop count rects) (both_clear r (take count rects) (drop count rects) front back)

pub among_first : (rects : List Rect) (count : ℕ) (r : Rect) → Contains (take count rects) r → Contains rects r
among_first rects count r there = subst (λ (xs : List Rect). Contains xs r) (take-append-drop count rects) (Contains-append_left (take count rects) (drop count rects) r there)

pub among_last : (rects : List Rect) (count : ℕ) (r : Rect) → Contains (drop count rects) r → Contains rects r
among_last rects count r there = subst (λ (xs : List Rect). Contains xs r) (take-append-drop count rects) (Contains-append_right (take count rects) (drop count rects) r there)

-- the list that is read at a place
pub list_read : (lists : List (List Rect)) (i : ℕ) (list : List Rect) → i < length lists → list ≡ get_or lists i list → list ≡ list_at lists i
list_read lists i list within is = is ∙ get_or_default lists i list [] within

-- an index that reaches a rectangle reaches what lies in it
pub indexed_inside : (outer r : Rect) (rects : List Rect) (cells : Option Cells) → Encloses outer r → IsIndexed outer rects cells → IsIndexed r rects cells
indexed_inside outer r rects None inside indexed = tt
indexed_inside outer r rects (Some cells) inside indexed = record {
  rows = indexed.rows;
  right = omega (arith, indexed.right, inside.right);
  bottom = omega (arith, indexed.bottom, inside.bottom);
  within = indexed.within;
  index = indexed.index;
}
