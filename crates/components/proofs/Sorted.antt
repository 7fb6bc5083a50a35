-- Two lists in order with the same boxes are equal.
use Rattle.std.proofs.Common.{◌≡◌, ◌<◌, ℕ, suc, ◌+◌, Bool, true, false, cond, List, [], ◌∷◌, length, get_or, is_lt, nat_cmp, refl, sym, ap, subst, arith}
use Rattle.std.specs.List.{sum_by}
use Rattle.std.specs.Cmp.{IsTotalOrder, IsStrictWeakOrder}
use Rattle.std.specs.Ordering.{ordering_then, ordering_reverse}
use Rattle.std.specs.declared.cmp.Ordering.{Ordering}
use Rattle.std.specs.declared.cmp.Ordering.TheVariants.{Less, Equal, Greater}
use Rattle.std.specs.List.Sorted.{IsSorted}
use Rattle.std.proofs.lemmas.Cmp.{then_total, on_total, nat_cmp_total}
use Rattle.std.proofs.lemmas.Bool.Decides.{nat_tests}
use Rattle.std.proofs.lemmas.List.Sums.{sum_by-cons}
use Rattle.std.proofs.lemmas.List.Sorted.{ranks_by, sorted_far}
use Rattle.layout_geom.specs.declared.rect.Rect.{Rect}
use Rattle.layout_geom.specs.Rectangles.{HasSides}
use Rattle.components.specs.Kept.{compare_boxes}

two_total : IsTotalOrder (λ (r : Rect) (s : Rect). ordering_then (nat_cmp r.y0 s.y0) (nat_cmp r.x0 s.x0))
two_total = then_total (on_total (λ r. r.y0) nat_cmp_total) (on_total (λ r. r.x0) nat_cmp_total)

three_total : IsTotalOrder (λ (r : Rect) (s : Rect). ordering_then (ordering_then (nat_cmp r.y0 s.y0) (nat_cmp r.x0 s.x0)) (nat_cmp r.y1 s.y1))
three_total = then_total two_total (on_total (λ r. r.y1) nat_cmp_total)

compare_total : IsTotalOrder compare_boxes
compare_total = then_total three_total (on_total (λ r. r.x1) nat_cmp_total)

less_weak : IsStrictWeakOrder (λ r s. is_lt (compare_boxes r s))
less_weak = ranks_by compare_total (λ r. r)

number_same : (m n : ℕ) → is_lt (nat_cmp m n) ≡ false → is_lt (nat_cmp n m) ≡ false → m ≡ n
number_same m n a b = grind (arith, nat_tests)

-- neither pair comes before the other: neither do the parts
ends_tied : (a a' b b' : Ordering) → a' ≡ ordering_reverse a → is_lt (ordering_then a b) ≡ false → is_lt (ordering_then a' b') ≡ false
    → (is_lt a ≡ false) × (is_lt a' ≡ false) × (is_lt b ≡ false) × (is_lt b' ≡ false)
ends_tied Less a' b b' back first second = absurd (let h : true ≡ false = first in cc)
ends_tied Equal Less b b' back first second = absurd (let h : true ≡ false = second in cc)
ends_tied Equal Equal b b' back first second = (refl, refl, first, second)
ends_tied Equal Greater b b' back first second = absurd (let h : Greater ≡ Equal = back in cc)
ends_tied Greater Less b b' back first second = absurd (let h : true ≡ false = second in cc)
ends_tied Greater Equal b b' back first second = absurd (let h : Equal ≡ Less = back in cc)
ends_tied Greater Greater b b' back first second = absurd (let h : Greater ≡ Less = back in cc)

-- neither box stands before the other: they have the same sides
tied : (r s : Rect) → is_lt (compare_boxes r s) ≡ false → is_lt (compare_boxes s r) ≡ false → HasSides r s.x0 s.y0 s.x1 s.y1
tied r s a b =
    let by_three = ends_tied (ordering_then (ordering_then (nat_cmp r.y0 s.y0) (nat_cmp r.x0 s.x0)) (nat_cmp r.y1 s.y1)) (ordering_then (ordering_then (nat_cmp s.y0 r.y0) (nat_cmp s.x0 r.x0)) (nat_cmp s.y1 r.y1)) (nat_cmp r.x1 s.x1) (nat_cmp s.x1 r.x1) (three_total.antisymm s r) a b in
    let by_two = ends_tied (ordering_then (nat_cmp r.y0 s.y0) (nat_cmp r.x0 s.x0)) (ordering_then (nat_cmp s.y0 r.y0) (nat_cmp s.x0 r.x0)) (nat_cmp r.y1 s.y1) (nat_cmp s.y1 r.y1) (two_total.antisymm s r) by_three.0 by_three.1 in
    let by_one = ends_tied (nat_cmp r.y0 s.y0) (nat_cmp s.y0 r.y0) (nat_cmp r.x0 s.x0) (nat_cmp s.x0 r.x0) (nat_cmp_total.antisymm s.y0 r.y0) by_two.0 by_two.1 in
    record {
      left = number_same r.x0 s.x0 by_one.2 by_one.3;
      top = number_same r.y0 s.y0 by_one.0 by_one.1;
      right = number_same r.x1 s.x1 by_three.2 by_three.3;
      bottom = number_same r.y1 s.y1 by_two.2 by_two.3;
    }

head_first : (x : Rect) (xs : List Rect) → IsSorted compare_boxes (x ∷ xs) → (k : ℕ) (d : Rect) → k < length (x ∷ xs) → is_lt (compare_boxes (get_or (x ∷ xs) k d) x) ≡ false
head_first x xs sorted k d lt = sorted_far (λ r s. is_lt (compare_boxes r s)) less_weak (x ∷ xs) sorted 0 k d (omega arith) lt

sum_by_more : (f : Rect → ℕ) (x : Rect) (xs : List Rect) → sum_by f (x ∷ xs) ≡ f x + sum_by f xs
sum_by_more f x xs = sum_by-cons f x xs

none_counted : (p : Rect → Bool) (xs : List Rect) → ((k : ℕ) (d : Rect) → k < length xs → p (get_or xs k d) ≡ false) → sum_by (λ r. cond (p r) 1 0) xs ≡ 0
none_counted p [] none = refl
none_counted p (x ∷ xs) none =
    let weight : Bool → ℕ = λ b. cond b 1 0 in
    let here : weight (p x) ≡ 0 = ap weight (none 0 x (omega arith)) in
    omega (arith, here, sum_by_more (λ r. weight (p r)) x xs, none_counted p xs (λ k d lt. none (suc k) d (omega (arith, lt))))

weightless : (b : Bool) → (let n : ℕ = cond b 1 0 in n ≡ 0) → b ≡ false
weightless true e = absurd (omega (arith, e))
weightless false e = refl

-- the first of the one list stands before none of the other
not_before : (x y : Rect) (xs ys : List Rect) → IsSorted compare_boxes (y ∷ ys) → ((f : Rect → ℕ) → sum_by f (x ∷ xs) ≡ sum_by f (y ∷ ys)) → is_lt (compare_boxes x y) ≡ false
not_before x y xs ys sorted same =
    let weight : Bool → ℕ = λ b. cond b 1 0 in
    let none : sum_by (λ r. weight (is_lt (compare_boxes r y))) (y ∷ ys) ≡ 0 = none_counted (λ r. is_lt (compare_boxes r y)) (y ∷ ys) (head_first y ys sorted) in
    let zero_weight : weight (is_lt (compare_boxes x y)) ≡ 0 = omega (arith, none, same (λ r. weight (is_lt (compare_boxes r y))), sum_by_more (λ r. weight (is_lt (compare_boxes r y))) x xs) in
    weightless (is_lt (compare_boxes x y)) zero_weight

rest_sorted : (x : Rect) (xs : List Rect) → IsSorted compare_boxes (x ∷ xs) → IsSorted compare_boxes xs
rest_sorted x xs sorted k d low high =
    let e : suc k + 1 ≡ suc (k + 1) = omega arith in
    subst (λ (n : ℕ). is_lt (compare_boxes (get_or (x ∷ xs) n d) (get_or xs k d)) ≡ false) e (sorted (suc k) d (omega arith) (omega (arith, high)))

pub sorted_same : (xs ys : List Rect) → ((r s : Rect) → HasSides r s.x0 s.y0 s.x1 s.y1 → r ≡ s) → IsSorted compare_boxes xs → IsSorted compare_boxes ys
    → ((f : Rect → ℕ) → sum_by f xs ≡ sum_by f ys) → xs ≡ ys
sorted_same [] [] sides sorted sorted2 same = refl
sorted_same [] (y ∷ ys) sides sorted sorted2 same = absurd (omega (arith, same (λ r. 1), sum_by_more (λ r. 1) y ys))
sorted_same (x ∷ xs) [] sides sorted sorted2 same = absurd (omega (arith, same (λ r. 1), sum_by_more (λ r. 1) x xs))
sorted_same (x ∷ xs) (y ∷ ys) sides sorted sorted2 same =
    let first : x ≡ y = sides x y (tied x y (not_before x y xs ys sorted2 same) (not_before y x ys xs sorted (λ f. sym (same f)))) in
    let rest : xs ≡ ys = sorted_same xs ys sides (rest_sorted x xs sorted) (rest_sorted y ys sorted2)
    (λ f. let here : f x ≡ f y = ap f first in omega (arith, same f, here, sum_by_more f x xs, sum_by_more f y ys)) in
    cc
