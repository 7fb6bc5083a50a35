-- Gaps from left to right.
use Rattle.std.proofs.Common.{◌≡◌, ℕ, ◌+◌, ◌-◌, ◌<◌, ◌≤◌, max, List, [], ◌∷◌, ◌++◌, length, take, get_or, sum, arith, ap, ◌∙◌, subst, ⊎_elim}
use Rattle.std.proofs.lemmas.Bool.{cases_lt}
use Rattle.std.proofs.lemmas.List.{take_more, get_or_append_left, get_or_push, length_push, get_or_read}
use Rattle.std.proofs.lemmas.List.Sums.{sum_by_push}
use Rattle.layout_geom.specs.declared.rect.Rect.{Rect}
use Rattle.word_split.specs.Gaps.{right_of}

right_of-push : (rs : List Rect) (r : Rect) → right_of (rs ++ r ∷ []) ≡ max (right_of rs) r.x1
right_of-push [] r = omega arith
right_of-push (s ∷ rs) r = omega (arith, right_of-push rs r)

pub right_of-small : (rs : List Rect) → right_of rs ≤ 8192
right_of-small [] = omega arith
right_of-small (r ∷ rs) = omega (arith, r.sides.right, right_of-small rs)

-- the greatest right side with the box at a place
pub right_more : (line : List Rect) (place right : ℕ) (next : Rect) → place < length line → next ≡ get_or line place next → right ≡ right_of (take place line)
    → max right next.x1 ≡ right_of (take (place + 1) line)
right_more line place right next low at so_far =
    let more : right_of (take (place + 1) line) ≡ max (right_of (take place line)) (get_or line place next).x1 =
    rw (take_more line place next low) (right_of-push (take place line) (get_or line place next)) in
    let side : next.x1 ≡ (get_or line place next).x1 = ap (λ (r : Rect). r.x1) at in
    omega (arith, more, side, so_far)

-- each of the gaps before a place is as wide as it is defined
abbrev pub AreGapsBefore : List Rect → List ℕ → Type 0
AreGapsBefore line gaps = (i : ℕ) (d : Rect) → i < length gaps → get_or gaps i 0 ≡ (get_or line (i + 1) d).x0 - right_of (take (i + 1) line)

-- one gap more
pub gaps_more : (line : List Rect) (gaps : List ℕ) (place right : ℕ) (next : Rect) → length gaps + 1 ≡ place → place < length line → next ≡ get_or line place next → right ≡ right_of (take place line)
    → AreGapsBefore line gaps → AreGapsBefore line (gaps ++ (next.x0 - right) ∷ [])
gaps_more line gaps place right next count low at so_far each i d within =
    let gap = next.x0 - right in
    ⊎_elim
    (λ before. get_or_append_left gaps (gap ∷ []) 0 i before ∙ each i d before)
    (λ behind.
    let last : length gaps ≡ i = omega (arith, within, behind, length_push gaps gap) in
    let here : place ≡ i + 1 = omega (arith, last, count) in
    let read : next ≡ get_or line place d = get_or_read line place next low at d in
    let side : next.x0 ≡ (get_or line place d).x0 = ap (λ (r : Rect). r.x0) read in
    let P : ℕ → Type 0 = λ n. gap ≡ (get_or line n d).x0 - right_of (take n line) in
    get_or_push gaps gap 0 i last ∙ subst P here (omega (arith, side, so_far)))
    (cases_lt i (length gaps))

-- the gaps lie between the left edge of the page and the greatest right side
pub sum_more : (gaps : List ℕ) (right : ℕ) (next : Rect) → sum gaps ≤ right → sum (gaps ++ (next.x0 - right) ∷ []) ≤ max right next.x1
sum_more gaps right next so_far = omega (arith, sum_by_push (λ x. x) gaps (next.x0 - right), next.sides.wide, so_far)
