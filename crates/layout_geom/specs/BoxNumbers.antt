-- Boxes as whole numbers, as searches write down what they are given.
use Rattle.std.proofs.Common.{◌≡◌, ℕ, ◌*◌, List, [], ◌∷◌, ◌++◌, length, arith, refl, ap, append-nil, ◌∙◌, sym}
use Rattle.std.specs.Prelude.{ℤ, pos}
use Rattle.layout_geom.specs.declared.rect.Rect.{Rect}
use Rattle.layout_geom.specs.SameSides.{same_sides}

-- the four sides of a box
abbrev pub box_numbers : Rect → List ℤ
box_numbers box = pos box.x0 ∷ pos box.y0 ∷ pos box.x1 ∷ pos box.y1 ∷ []

-- the four sides of each box
abbrev pub boxes_numbers : List Rect → List ℤ
boxes_numbers [] = []
boxes_numbers (box ∷ boxes) = box_numbers box ++ boxes_numbers boxes

same_cons : (x y : ℕ) (xs ys : List ℤ) → pos x ∷ xs ≡ pos y ∷ ys → (x ≡ y) × (xs ≡ ys)
same_cons x y xs ys e = (cc, cc)

-- the numbers decide the box, also where more numbers stand behind them
pub same_box : (r s : Rect) (us vs : List ℤ) → box_numbers r ++ us ≡ box_numbers s ++ vs → (r ≡ s) × (us ≡ vs)
same_box r s us vs e =
    let left = same_cons _ _ _ _ e in
    let top = same_cons _ _ _ _ left.1 in
    let right = same_cons _ _ _ _ top.1 in
    let bottom = same_cons _ _ _ _ right.1 in
    (same_sides r s (record { left = left.0; top = top.0; right = right.0; bottom = bottom.0 }), bottom.1)

-- the numbers decide as many boxes, also where more numbers stand behind them
pub same_boxes : (xs ys : List Rect) (us vs : List ℤ) → length xs ≡ length ys → boxes_numbers xs ++ us ≡ boxes_numbers ys ++ vs
    → (xs ≡ ys) × (us ≡ vs)
same_boxes [] [] us vs long e = (refl, e)
same_boxes [] (y ∷ ys) us vs long e = absurd (omega arith)
same_boxes (x ∷ xs) [] us vs long e = absurd (omega arith)
same_boxes (x ∷ xs) (y ∷ ys) us vs long e =
    let first = same_box x y _ _ e in
    let others = same_boxes xs ys us vs (omega arith) first.1 in
    (cc (first.0, others.0), others.1)

pub length-boxes_numbers : (boxes : List Rect) → length (boxes_numbers boxes) ≡ 4 * length boxes
length-boxes_numbers [] = refl
length-boxes_numbers (box ∷ boxes) = omega (arith, length-boxes_numbers boxes)

-- the numbers decide the boxes
pub all_boxes : (xs ys : List Rect) → boxes_numbers xs ≡ boxes_numbers ys → xs ≡ ys
all_boxes xs ys e =
    let long : length xs ≡ length ys = omega (arith, ap length e, length-boxes_numbers xs, length-boxes_numbers ys) in
    let both = same_boxes xs ys [] [] long (append-nil (boxes_numbers xs) ∙ e ∙ sym (append-nil (boxes_numbers ys))) in
    both.0
