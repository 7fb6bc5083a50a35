-- What holds of all scores.
use Rattle.std.proofs.Common.{◌≡◌, ℕ, ◌≤◌, ℤ, List, slice_get, not, arith, refl, ⊎_elim}
use Rattle.std.specs.List.{sum_by}
use Rattle.std.proofs.lemmas.Bool.{cases_lt}
use Rattle.std.proofs.lemmas.List.Filters.{sum_by-filter_both}
use Rattle.layout_geom.specs.declared.Rect.{Rect}
use Rattle.line_quality.specs.Scores.{weight_of, is_of, IsScore}

module _ (slope offset : ℤ) (depth : ℕ) (boxes gutters : List Rect) (alive : List ℕ) where
  -- there is one score, and one column that wins
  pub same_score : (score score' in_column in_column' : ℕ) → IsScore slope offset depth boxes gutters alive score in_column
      → IsScore slope offset depth boxes gutters alive score' in_column' → (score ≡ score') × (in_column ≡ in_column')
  same_score score score' in_column in_column' is is' =
      let scores : score ≡ score' = omega (arith, is.reached, is'.reached, is.greatest in_column', is'.greatest in_column) in
      let columns : in_column ≡ in_column' =
      ⊎_elim
      (λ less. absurd (omega (arith, scores, is.reached, is'.least in_column less)))
      (λ no_less.
      ⊎_elim
      (λ more. absurd (omega (arith, scores, is'.reached, is.least in_column' more)))
      (λ no_more. omega arith)
      (cases_lt in_column' in_column))
      (cases_lt in_column in_column') in
      (scores, columns)

  pub score_total : (score in_column : ℕ) → IsScore slope offset depth boxes gutters alive score in_column
      → score ≤ sum_by (λ position. weight_of slope offset depth (slice_get boxes position)) alive
  score_total score in_column is =
      let both = sum_by-filter_both (λ (position : ℕ). is_of slope offset depth gutters in_column (slice_get boxes position))
      (λ (position : ℕ). not (is_of slope offset depth gutters in_column (slice_get boxes position))) (λ (position : ℕ). refl)
      (λ (position : ℕ). weight_of slope offset depth (slice_get boxes position)) alive in
      omega (arith, both, is.reached)
