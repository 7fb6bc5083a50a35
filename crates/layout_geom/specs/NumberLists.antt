-- Whole numbers that stand in a list, and are read back from its front.
use Rattle.std.proofs.Common.{◌≡◌, ℕ, List, [], ◌∷◌, ◌++◌, map, length, arith, refl}
use Rattle.std.specs.Prelude.{ℤ, pos}

-- the first number, and what stands behind it
pub same_first : (x y : ℕ) (xs ys : List ℤ) → pos x ∷ xs ≡ pos y ∷ ys → (x ≡ y) × (xs ≡ ys)
same_first x y xs ys e = (cc, cc)

-- as many numbers, and what stands behind them
pub same_numbers : (xs ys : List ℕ) (us vs : List ℤ) → length xs ≡ length ys → map pos xs ++ us ≡ map pos ys ++ vs → (xs ≡ ys) × (us ≡ vs)
same_numbers [] [] us vs long e = (refl, e)
same_numbers [] (y ∷ ys) us vs long e = absurd (omega arith)
same_numbers (x ∷ xs) [] us vs long e = absurd (omega arith)
same_numbers (x ∷ xs) (y ∷ ys) us vs long e =
    let first = same_first x y (map pos xs ++ us) (map pos ys ++ vs) e in
    let others = same_numbers xs ys us vs (omega arith) first.1 in
    (cc (first.0, others.0), others.1)
