-- What holds of a problem, said of the whole numbers that stand for it, as a space says all of its meaning.
use Rattle.std.proofs.Common.{◌≡◌, List, refl, subst}
use Rattle.std.specs.Prelude.{ℤ}

module _ {X : Type 0} (numbers_of : X → List ℤ) where
  -- the numbers stand for a problem of which this holds
  pub record OfProblem (P : X → Type 0) (numbers : List ℤ) : Type 0 where
    pub problem : X
    pub stands : numbers_of problem ≡ numbers
    pub holds : P problem

  -- what holds of a problem holds of its numbers
  pub on_numbers : (P : X → Type 0) (problem : X) → P problem → OfProblem P (numbers_of problem)
  on_numbers P problem holds = record { problem = problem; stands = refl; holds = holds }

  -- no two problems have the same numbers
  abbrev pub IsDecided : Type 0
  IsDecided = (p q : X) → numbers_of p ≡ numbers_of q → p ≡ q

  -- so what holds of its numbers holds of the problem
  pub of_numbers : IsDecided → (P : X → Type 0) (problem : X) → OfProblem P (numbers_of problem) → P problem
  of_numbers decided P problem given = subst P (decided given.problem problem given.stands) given.holds
