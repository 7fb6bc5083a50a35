-- The threshold of gaps is that of the same gaps in another order.
use Rattle.std.proofs.Common.{◌≡◌, ℕ, ◌+◌, Bool, true, false, cond, List, [], ◌∷◌, Option, Some, None, sum, filter, nat_le, nat_lt, arith, refl, sym, ◌∙◌}
use Rattle.std.specs.List.{sum_by}
use Rattle.std.specs.List.Sorted.{IsPermutation}
use Rattle.std.proofs.lemmas.List.Sums.{sum_by-cons}
use Rattle.std.proofs.lemmas.List.Sorted.{sum_by-IsPermutation, Contains-permutation, IsPermutation-sym}
use Rattle.word_split.specs.Thresholds.{narrow_count, narrow_sum, wide_count, wide_sum, IsCandidate, SeparatesNoBetter, IsChosen, IsThreshold, IsThresholdOf, separation_top, separation_bottom}

sum_kept : (b : Bool) (x : ℕ) (xs : List ℕ) → sum (cond b (x ∷ xs) xs) ≡ cond b x 0 + sum xs
sum_kept true x xs = sum_by-cons (λ (n : ℕ). n) x xs
sum_kept false x xs = omega arith

sum-filter : (p : ℕ → Bool) (xs : List ℕ) → sum (filter p xs) ≡ sum_by (λ x. cond (p x) x 0) xs
sum-filter p [] = refl
sum-filter p (x ∷ xs) = omega (arith, sum_kept (p x) x (filter p xs), sum-filter p xs, sum_by-cons (λ (n : ℕ). cond (p n) n 0) x xs)

sum-filter_moved : (p : ℕ → Bool) (xs ys : List ℕ) → IsPermutation xs ys → sum (filter p ys) ≡ sum (filter p xs)
sum-filter_moved p xs ys moved =
    sum-filter p ys ∙ sum_by-IsPermutation (λ (x : ℕ). cond (p x) x 0) xs ys moved ∙ sym (sum-filter p xs)

-- gaps that fall on the two sides of each threshold alike
record AreAlike (xs ys : List ℕ) (t : ℕ) : Type 0 where
  narrow : narrow_count xs t ≡ narrow_count ys t
  narrow_in_all : narrow_sum xs t ≡ narrow_sum ys t
  wide : wide_count xs t ≡ wide_count ys t
  wide_in_all : wide_sum xs t ≡ wide_sum ys t

alike : (xs ys : List ℕ) → IsPermutation xs ys → (t : ℕ) → AreAlike xs ys t
alike xs ys moved t = record {
  narrow = sym (sum_by-IsPermutation (λ (x : ℕ). cond (nat_le x t) 1 0) xs ys moved);
  narrow_in_all = sym (sum-filter_moved (λ (x : ℕ). nat_le x t) xs ys moved);
  wide = sym (sum_by-IsPermutation (λ (x : ℕ). cond (nat_lt t x) 1 0) xs ys moved);
  wide_in_all = sym (sum-filter_moved (λ (x : ℕ). nat_lt t x) xs ys moved);
}

module _ (xs ys : List ℕ) (moved : IsPermutation xs ys) where
  top_alike : (t : ℕ) → separation_top xs t ≡ separation_top ys t
  top_alike t = let a = alike xs ys moved t in rw (a.narrow, a.narrow_in_all, a.wide, a.wide_in_all) refl

  bottom_alike : (t : ℕ) → separation_bottom xs t ≡ separation_bottom ys t
  bottom_alike t = let a = alike xs ys moved t in rw (a.narrow, a.wide) refl

  candidate_moved : (t : ℕ) → IsCandidate xs t → IsCandidate ys t
  candidate_moved t is =
      let a = alike xs ys moved t in
      record { is_gap = Contains-permutation xs ys t moved is.is_gap; narrow = omega (arith, a.narrow, is.narrow); wide = omega (arith, a.wide, is.wide) }

  no_better_moved : (u t : ℕ) → SeparatesNoBetter xs u t → SeparatesNoBetter ys u t
  no_better_moved u t h = rw (← top_alike u, ← bottom_alike t, ← top_alike t, ← bottom_alike u) h

module _ (xs ys : List ℕ) (moved : IsPermutation xs ys) where
  chosen_moved : (t : ℕ) → IsChosen xs t → IsChosen ys t
  chosen_moved t is =
      let back = IsPermutation-sym xs ys moved in
      record {
        candidate = candidate_moved xs ys moved t is.candidate;
        greatest = λ u c. no_better_moved xs ys moved u t (is.greatest u (candidate_moved ys xs back u c));
        least = λ u c h. is.least u (candidate_moved ys xs back u c) (no_better_moved ys xs back t u h);
      }

  threshold_moved : (median t : ℕ) → IsThreshold xs median t → IsThreshold ys median t
  threshold_moved median t is =
      let a = alike xs ys moved t in
      record {
        chosen = chosen_moved t is.chosen;
        wider = rw (← a.narrow, ← a.narrow_in_all, ← a.wide, ← a.wide_in_all) is.wider;
        wide = rw (← a.wide, ← a.wide_in_all) is.wide;
      }

pub threshold_of_moved : (xs ys : List ℕ) (median : ℕ) (found : Option ℕ) → IsPermutation xs ys → IsThresholdOf xs median found → IsThresholdOf ys median found
threshold_of_moved xs ys median (Some t) moved is = threshold_moved xs ys moved median t is
threshold_of_moved xs ys median None moved none = λ t is. none t (threshold_moved ys xs (IsPermutation-sym xs ys moved) median t is)
