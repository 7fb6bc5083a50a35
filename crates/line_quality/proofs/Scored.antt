-- Each point of the grid has a score.
use Rattle.std.proofs.Common.{◌≡◌, ℕ, zero, suc, ◌⊎◌, inl, inr, ◌<◌, ◌≤◌, ℤ, Bool, true, false, ◌&&◌, leb, ltb, eqb, List, [], ◌∷◌, length, Option, Some, None, slice_get, arith, refl, ap, ⊎_elim}
use Rattle.std.specs.List.{filter, sum_by}
use Rattle.std.proofs.lemmas.Bool.{cases_lt}
use Rattle.std.proofs.lemmas.Bool.Decides.{nat_tests}
use Rattle.std.proofs.lemmas.List.Sums.{count_by-le-length}
use Rattle.layout_geom.specs.declared.rect.Rect.{Rect}
use Rattle.line_quality.specs.Points.{middle_of, is_crossed}
use Rattle.line_quality.specs.Scores.{weight_of, is_of, group_weight, IsScore}

-- the greatest weight of the first columns, and the least column that has it
record Best (weigh : ℕ → ℕ) (count : ℕ) : Type 0 where
  score : ℕ
  in_column : ℕ
  reached : weigh in_column ≡ score
  greatest : (other : ℕ) → other < count → weigh other ≤ score
  least : (other : ℕ) → other < in_column → weigh other < score
  inside : in_column < count

first_column : (weigh : ℕ → ℕ) (other : ℕ) → other < 1 → weigh other ≤ weigh 0
first_column weigh other below = let same : other ≡ 0 = omega arith in omega (arith, ap weigh same)

up_to : (weigh : ℕ → ℕ) (n score : ℕ) → ((other : ℕ) → other < n → weigh other ≤ score) → weigh n ≤ score → (other : ℕ) → other < suc n → weigh other ≤ score
up_to weigh n score below last other within = ⊎_elim
    (λ less. below other less)
    (λ more. let same : other ≡ n = omega arith in omega (arith, ap weigh same, last))
    (cases_lt other n)

best_of : (weigh : ℕ → ℕ) (n : ℕ) → Best weigh (suc n)
best_of weigh zero = record { score = weigh 0; in_column = 0; reached = refl; greatest = λ other below. first_column weigh other (omega arith); least = λ other before. absurd (omega arith); inside = omega arith }
best_of weigh (suc n) =
    let best = best_of weigh n in
    ⊎_elim
    (λ more. record {
      score = weigh (suc n);
      in_column = suc n;
      reached = refl;
      greatest = up_to weigh (suc n) (weigh (suc n)) (λ other below. omega (arith, best.greatest other below, more)) (omega arith);
      least = λ other before. omega (arith, best.greatest other before, more);
      inside = omega arith;
    })
    (λ no_more. record {
      score = best.score;
      in_column = best.in_column;
      reached = best.reached;
      greatest = up_to weigh (suc n) best.score best.greatest no_more;
      least = best.least;
      inside = omega (arith, best.inside);
    })
    (cases_lt best.score (weigh (suc n)))

test_cases : (b : Bool) → (b ≡ true) ⊎ (b ≡ false)
test_cases true = inl refl
test_cases false = inr refl

pub first_or_none : (p : ℕ → Bool) (f : ℕ → ℕ) (xs : List ℕ) → ((x : ℕ) × (p x ≡ true)) ⊎ (sum_by f (filter p xs) ≡ 0)
first_or_none p f [] = inr refl
first_or_none p f (x ∷ xs) = ⊎_elim
    (λ yes. inl (x, yes))
    (λ no. ⊎_elim (λ found. inl found) (λ none. inr (rw no none)) (first_or_none p f xs))
    (test_cases (p x))

pub in_its_column : (a c w : ℕ) → (eqb a c && ltb 0 w) ≡ true → a ≡ c
in_its_column a c w holds = grind (arith, nat_tests)

module _ (slope offset : ℤ) (depth : ℕ) (boxes gutters : List Rect) (alive : List ℕ) where
  few_columns : (in_column : ℕ) (o : Option Rect) → is_of slope offset depth gutters in_column o ≡ true → in_column ≤ length gutters
  few_columns in_column (Some r) is =
      omega (arith, in_its_column _ in_column _ is, count_by-le-length (λ (gutter : Rect). is_crossed slope offset gutter && leb (middle_of gutter) (middle_of r)) gutters)
  few_columns in_column None is = absurd (let no : false ≡ true = is in cc)

  -- no box is in a column behind all gutters
  none_behind : (in_column : ℕ) → length gutters < in_column → group_weight slope offset depth boxes gutters in_column alive ≡ 0
  none_behind in_column behind = ⊎_elim
      (λ found. absurd (omega (arith, few_columns in_column (slice_get boxes found.0) found.1, behind)))
      (λ none. none)
      (first_or_none (λ position. is_of slope offset depth gutters in_column (slice_get boxes position)) (λ position. weight_of slope offset depth (slice_get boxes position)) alive)

  pub score_exists : (score : ℕ) × (in_column : ℕ) × IsScore slope offset depth boxes gutters alive score in_column
  score_exists =
      let best = best_of (λ in_column. group_weight slope offset depth boxes gutters in_column alive) (length gutters) in (
        best.score,
        best.in_column,
        record {
          reached = best.reached;
          greatest = λ other. ⊎_elim
              (λ few. best.greatest other few)
              (λ behind. omega (arith, none_behind other (omega arith)))
              (cases_lt other (suc (length gutters)));
          least = best.least;
        },
      )
