-- The numbers of sorted places.
use Rattle.std.proofs.Common.{◌≡◌, ℕ, ◌<◌, List, [], ◌∷◌, length, get_or, map, arith, refl, ap, subst, All}
use Rattle.std.specs.List.{range_with_len}
use Rattle.std.specs.List.Sorted.{IsPermutation, IsNonDecreasingBy}
use Rattle.std.proofs.lemmas.List.{get_or-map, length-map}
use Rattle.std.proofs.lemmas.List.Elements.{All-nil, All-cons, All-from_get_or}
use Rattle.std.proofs.lemmas.List.Sorted.{IsPermutation-map, All-permutation}
use Rattle.reading_order.specs.declared.sweep.Place.{Place}
use Rattle.reading_order.specs.Reach.{AreInOrder}
use Rattle.reading_order.proofs.Members.{place_of, in_whole, below_whole, in_at}

module _ (levels : List ℕ) where
  abbrev pub place_at : ℕ → Place
  place_at k = record { level = get_or levels k 0; number = k }

  abbrev pub number_of : Place → ℕ
  number_of p = p.number

  numbers_back : (xs : List ℕ) → map number_of (map place_at xs) ≡ xs
  numbers_back [] = refl
  numbers_back (x ∷ xs) = ap (λ ys. x ∷ ys) (numbers_back xs)

  abbrev IsAtItsLevel : Place → Type 0
  IsAtItsLevel p = p.level ≡ get_or levels p.number 0

  at_levels : (xs : List ℕ) → All IsAtItsLevel (map place_at xs)
  at_levels [] = All-nil IsAtItsLevel
  at_levels (x ∷ xs) = All-cons IsAtItsLevel (place_at x) (map place_at xs) refl (at_levels xs)

  pub in_order : (sorted : List Place) → IsPermutation (map place_at (range_with_len 0 (length levels))) sorted → IsNonDecreasingBy (λ p. p.level) sorted → AreInOrder (length levels) levels (map number_of sorted)
  in_order sorted moved rises =
      let n = length levels in
      let made = map place_at (range_with_len 0 n) in
      let numbers = map number_of sorted in
      let P : List ℕ → Type 0 = λ xs. IsPermutation xs numbers in
      let whole : IsPermutation (range_with_len 0 n) numbers = subst P (numbers_back (range_with_len 0 n)) (IsPermutation-map number_of made sorted moved) in
      let levels_are = All-permutation IsAtItsLevel made sorted moved (at_levels (range_with_len 0 n)) in
      record {
        low = All-from_get_or (λ c. c < n) numbers 0 (λ k within. below_whole n numbers whole (get_or numbers k 0) (in_at (get_or numbers k 0) numbers k within refl));
        all = λ c low. place_of c numbers (in_whole n numbers whole c low);
        rises = λ j k le within.
            let size : length numbers ≡ length sorted = length-map sorted number_of in
            let e = place_at 0 in
            let first : get_or numbers j 0 ≡ (get_or sorted j e).number = get_or-map number_of sorted j e 0 (omega (arith, size)) in
            let second : get_or numbers k 0 ≡ (get_or sorted k e).number = get_or-map number_of sorted k e 0 (omega (arith, size)) in
            let first_level : (get_or sorted j e).level ≡ get_or levels (get_or sorted j e).number 0 = levels_are j e (omega (arith, size)) in
            let second_level : (get_or sorted k e).level ≡ get_or levels (get_or sorted k e).number 0 = levels_are k e (omega (arith, size)) in
            rw (first, second, ← first_level, ← second_level) (rises j k e le (omega (arith, size)));
      }
