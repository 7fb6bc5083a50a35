-- Two lists in order with the same boxes are equal.
use Rattle.std.proofs.Common.{◌≡◌, ◌≤◌, ℕ, suc, ◌+◌, Bool, true, false, cond, List, [], ◌∷◌, get_or, All, Ordering, is_lt, nat_cmp, refl, sym, ap, subst, arith}
use Rattle.std.specs.List.{sum_by}
use Rattle.std.specs.Cmp.{IsTotalOrder}
use Rattle.std.specs.Ordering.{ordering_then, ordering_reverse}
use Rattle.std.specs.declared.cmp.Ordering.TheVariants.{Less, Equal, Greater}
use Rattle.std.specs.List.Sorted.{IsSorted}
use Rattle.std.proofs.lemmas.Cmp.{then_total, on_total, nat_cmp_total, ranked}
use Rattle.std.proofs.lemmas.List.Sums.{sum_by-cons, sum_by-le, get_or-le-sum_by}
use Rattle.std.proofs.lemmas.List.Sorted.{ranks_by, sorted_far}
use Rattle.layout_geom.specs.declared.rect.Rect.{Rect}
use Rattle.layout_geom.specs.SameSides.{same_sides}
use Rattle.word_split.specs.Members.{compare_sides}

-- an order in which different things differ, and lists in that order
module _ {X : Type 0} (R : X → X → Ordering) (total : IsTotalOrder R) (one : (x y : X) → R x y ≡ Equal → x ≡ y) where
  weight : X → X → ℕ
  weight y x = cond (is_lt (R x y)) 1 0

  weightless : (b : Bool) → (let n : ℕ = cond b 1 0 in n ≤ 0) → b ≡ false
  weightless true h = absurd (omega (arith, h))
  weightless false h = refl

  light : (b : Bool) → b ≡ false → let n : ℕ = cond b 1 0 in n ≤ 0
  light true h = absurd (cc)
  light false h = omega arith

  -- what stands in order begins with nothing greater than the rest
  first_least : (y : X) (ys : List X) → IsSorted R (y ∷ ys) → sum_by (weight y) (y ∷ ys) ≤ 0
  unfolding weight
  first_least y ys sorted =
      let each : All (λ x. weight y x ≤ 0) (y ∷ ys) =
      λ k d low. light (is_lt (R (get_or (y ∷ ys) k d) y)) (sorted_far (λ r s. is_lt (R r s)) (ranks_by total (λ x. x)) (y ∷ ys) sorted 0 k d (omega arith) low) in
      omega (arith, sum_by-le (weight y) 0 (y ∷ ys) each)

  not_before : (x y : X) (xs ys : List X) → IsSorted R (y ∷ ys) → ((f : X → ℕ) → sum_by f (x ∷ xs) ≡ sum_by f (y ∷ ys)) → is_lt (R x y) ≡ false
  unfolding weight
  not_before x y xs ys sorted same =
      weightless (is_lt (R x y)) (omega (arith, first_least y ys sorted, same (weight y), get_or-le-sum_by (weight y) (x ∷ xs) 0 x (omega arith)))

  neither : (a b : Ordering) → b ≡ ordering_reverse a → is_lt a ≡ false → is_lt b ≡ false → a ≡ Equal
  neither Less b back first second = absurd (let h : true ≡ false = first in cc)
  neither Equal b back first second = refl
  neither Greater b back first second = absurd (let h : is_lt (ordering_reverse Greater) ≡ false = subst (λ (o : Ordering). is_lt o ≡ false) back second in let g : true ≡ false = h in cc)

  rest_sorted : (x : X) (xs : List X) → IsSorted R (x ∷ xs) → IsSorted R xs
  rest_sorted x xs sorted k d low high =
      let e : suc k + 1 ≡ suc (k + 1) = omega arith in
      subst (λ (n : ℕ). is_lt (R (get_or (x ∷ xs) n d) (get_or xs k d)) ≡ false) e (sorted (suc k) d (omega arith) (omega (arith, high)))

  pub sorted_same : (xs ys : List X) → IsSorted R xs → IsSorted R ys → ((f : X → ℕ) → sum_by f xs ≡ sum_by f ys) → xs ≡ ys
  sorted_same [] [] sorted sorted2 same = refl
  sorted_same [] (y ∷ ys) sorted sorted2 same = absurd (omega (arith, same (λ r. 1), sum_by-cons (λ (r : X). 1) y ys))
  sorted_same (x ∷ xs) [] sorted sorted2 same = absurd (omega (arith, same (λ r. 1), sum_by-cons (λ (r : X). 1) x xs))
  sorted_same (x ∷ xs) (y ∷ ys) sorted sorted2 same =
      let tied : R x y ≡ Equal = neither (R x y) (R y x) (total.antisymm y x) (not_before x y xs ys sorted2 same) (not_before y x ys xs sorted (λ f. sym (same f))) in
      let first : x ≡ y = one x y tied in
      let rest : xs ≡ ys = sorted_same xs ys (rest_sorted x xs sorted) (rest_sorted y ys sorted2)
      (λ f. let here : f x ≡ f y = ap f first in omega (arith, same f, here, sum_by-cons f x xs, sum_by-cons f y ys)) in
      cc

both_equal : (a b : Ordering) → ordering_then a b ≡ Equal → (a ≡ Equal) × (b ≡ Equal)
both_equal Less b h = absurd (let e : Less ≡ Equal = h in cc)
both_equal Equal b h = (refl, h)
both_equal Greater b h = absurd (let e : Greater ≡ Equal = h in cc)

number_equal : (m n : ℕ) → nat_cmp m n ≡ Equal → m ≡ n
number_equal m n h = ranked m n Equal (sym h)

by_two : Rect → Rect → Ordering
by_two r s = ordering_then (nat_cmp r.x0 s.x0) (nat_cmp r.y0 s.y0)

by_three : Rect → Rect → Ordering
by_three r s = ordering_then (ordering_then (nat_cmp r.x0 s.x0) (nat_cmp r.y0 s.y0)) (nat_cmp r.x1 s.x1)

sides_total : IsTotalOrder compare_sides
sides_total =
    then_total (then_total (then_total (on_total (λ (r : Rect). r.x0) nat_cmp_total) (on_total (λ (r : Rect). r.y0) nat_cmp_total)) (on_total (λ (r : Rect). r.x1) nat_cmp_total)) (on_total (λ (r : Rect). r.y1) nat_cmp_total)

-- boxes that tie have the same sides
same_box : (r s : Rect) → compare_sides r s ≡ Equal → r ≡ s
same_box r s h =
    let three = both_equal (ordering_then (ordering_then (nat_cmp r.x0 s.x0) (nat_cmp r.y0 s.y0)) (nat_cmp r.x1 s.x1)) (nat_cmp r.y1 s.y1) h in
    let two = both_equal (ordering_then (nat_cmp r.x0 s.x0) (nat_cmp r.y0 s.y0)) (nat_cmp r.x1 s.x1) three.0 in
    let one = both_equal (nat_cmp r.x0 s.x0) (nat_cmp r.y0 s.y0) two.0 in
    same_sides r s (record {
      left = number_equal r.x0 s.x0 one.0;
      top = number_equal r.y0 s.y0 one.1;
      right = number_equal r.x1 s.x1 two.1;
      bottom = number_equal r.y1 s.y1 three.1;
    })

pub same_line : (xs ys : List Rect) → IsSorted compare_sides xs → IsSorted compare_sides ys → ((f : Rect → ℕ) → sum_by f xs ≡ sum_by f ys) → xs ≡ ys
same_line = sorted_same compare_sides sides_total same_box
