-- The numbers below a count, as they rise.
use Rattle.std.proofs.Common.{◌≡◌, ℕ, ◌+◌, List, [], ◌∷◌, ◌++◌, map, refl, ap, arith}
use Rattle.std.specs.List.{range_with_len}
use Rattle.std.proofs.lemmas.List.FromFn.{map-range_with_len_more}

map_same : (xs : List ℕ) → map (λ (x : ℕ). x) xs ≡ xs
map_same [] = refl
map_same (x ∷ xs) = ap (λ ys. x ∷ ys) (map_same xs)

pub rising_more : (n : ℕ) → range_with_len 0 (n + 1) ≡ range_with_len 0 n ++ n ∷ []
rising_more n =
    let more : map (λ (x : ℕ). x) (range_with_len 0 (n + 1)) ≡ map (λ (x : ℕ). x) (range_with_len 0 n) ++ n ∷ [] = map-range_with_len_more (λ (x : ℕ). x) 0 n n (omega arith) in
    rw (map_same (range_with_len 0 (n + 1)), map_same (range_with_len 0 n)) at more
