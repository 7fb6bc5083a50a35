-- Which numbers are in a list, and where.
use Rattle.std.proofs.Common.{◌≡◌, ℕ, ◌<◌, List, [], ◌∷◌, true, false, length, get_or, eqb, zero, suc, arith, sym, ◌∙◌, ⊎_elim}
use Rattle.std.specs.List.{list_any, range_with_len, IsDistinct}
use Rattle.std.specs.List.Sorted.{IsPermutation}
use Rattle.std.proofs.lemmas.Bool.{false≢true, or_cases, or_left, or_right, eqb-true, eq-eqb, ne_eqb}
use Rattle.std.proofs.lemmas.List.FromFn.{get_or-range_with_len, length-range_with_len}
use Rattle.std.proofs.lemmas.List.Sorted.{list_any-IsPermutation, length_permutation}
use Rattle.std.proofs.lemmas.Map.Keys.{IsDistinct-from_apart, IsDistinct-IsPermutation}
use Rattle.std.proofs.lemmas.Bool.Decides.{nat_tests}

abbrev pub IsIn : ℕ → List ℕ → Type 0
IsIn x xs = list_any (eqb x) xs ≡ true

abbrev pub IsOut : ℕ → List ℕ → Type 0
IsOut x xs = list_any (eqb x) xs ≡ false

pub place_of : (x : ℕ) (xs : List ℕ) → IsIn x xs → (k : ℕ) × (k < length xs) × (get_or xs k 0 ≡ x)
place_of x [] h = absurd (false≢true h)
place_of x (y ∷ ys) h =
    ⊎_elim
    (λ e. (0, omega arith, sym (eqb-true x y e)))
    (λ e. let r = place_of x ys e in (suc r.0, omega (arith, r.1), r.2))
    (or_cases (eqb x y) (list_any (eqb x) ys) h)

pub in_at : (x : ℕ) (xs : List ℕ) (k : ℕ) → k < length xs → get_or xs k 0 ≡ x → IsIn x xs
in_at x [] k l e = absurd (omega arith)
in_at x (y ∷ ys) zero l e = or_left _ _ (eq-eqb x y (sym e))
in_at x (y ∷ ys) (suc k) l e = or_right _ _ (in_at x ys k (omega arith) e)

pub in_or_out : (x : ℕ) (xs : List ℕ) → IsIn x xs → IsOut x xs → ⊥
in_or_out x xs a b = false≢true (sym b ∙ a)

pub in_range : (n x : ℕ) → x < n → IsIn x (range_with_len 0 n)
in_range n x l = in_at x (range_with_len 0 n) x (omega (arith, length-range_with_len 0 n)) (omega (arith, get_or-range_with_len 0 n x 0 l))

pub below_range : (n x : ℕ) → IsIn x (range_with_len 0 n) → x < n
below_range n x h =
    let p = place_of x (range_with_len 0 n) h in
    let l : p.0 < n = omega (arith, p.1, length-range_with_len 0 n) in
    omega (arith, p.2, l, get_or-range_with_len 0 n p.0 0 l)

pub range_distinct : (n : ℕ) → IsDistinct eqb (range_with_len 0 n)
range_distinct n =
    IsDistinct-from_apart eqb (range_with_len 0 n)
    (λ i j d less l.
    let size = length-range_with_len 0 n in
    ne_eqb _ _ (λ e. absurd (omega (arith, e, less, get_or-range_with_len 0 n i d (omega arith), get_or-range_with_len 0 n j d (omega arith)))))

pub eqb_flips : (x y : ℕ) → eqb x y ≡ eqb y x
eqb_flips x y = grind (arith, nat_tests)

module _ (n : ℕ) (ys : List ℕ) (whole : IsPermutation (range_with_len 0 n) ys) where
  pub in_whole : (x : ℕ) → x < n → IsIn x ys
  in_whole x l = sym (list_any-IsPermutation (eqb x) (range_with_len 0 n) ys whole) ∙ in_range n x l

  pub below_whole : (x : ℕ) → IsIn x ys → x < n
  below_whole x h = below_range n x (list_any-IsPermutation (eqb x) (range_with_len 0 n) ys whole ∙ h)

  pub distinct_whole : IsDistinct eqb ys
  distinct_whole = IsDistinct-IsPermutation eqb eqb_flips (range_with_len 0 n) ys whole (range_distinct n)

  pub length_whole : length ys ≡ n
  length_whole = length_permutation (range_with_len 0 n) ys whole ∙ length-range_with_len 0 n
