-- What one more box adds to the weights of the groups.
use Rattle.std.proofs.Common.{◌≡◌, ℕ, ◌+◌, ◌<◌, ◌≤◌, ℤ, cond, ◌&&◌, eqb, ltb, List, length, get_or, take, Some, slice_get, arith, refl, ◌∙◌}
use Rattle.std.proofs.lemmas.List.Elements.{filter_more}
use Rattle.std.proofs.lemmas.Bool.Decides.{nat_tests}
use Rattle.layout_geom.specs.declared.Rect.{Rect}
use Rattle.line_quality.specs.Points.{weight, column_of, middle_of}
use Rattle.line_quality.specs.Scores.{weight_of, is_of, group_of, group_weight}
use Rattle.line_quality.specs.SumLaws.{one_more}

-- what a box adds to the sum of a column
abbrev added : ℕ → ℕ → ℕ → ℕ
added in_column weight other = cond (eqb in_column other && ltb 0 weight) weight 0

added_none : (in_column weight other : ℕ) → weight ≤ 0 → added in_column weight other ≡ 0
added_none in_column weight other none = grind (arith, nat_tests)

added_some : (in_column weight other : ℕ) → 0 < weight → added in_column weight other ≡ cond (eqb in_column other) weight 0
added_some in_column weight other some = grind (arith, nat_tests)

module _ (slope offset : ℤ) (depth : ℕ) (boxes gutters : List Rect) (alive : List ℕ) (i : ℕ) (r : Rect) (within : i < length alive) (there : slice_get boxes (get_or alive i 0) ≡ Some r) where
  group_more : (other : ℕ) → group_weight slope offset depth boxes gutters other (take (i + 1) alive) ≡ group_weight slope offset depth boxes gutters other (take i alive) + added (column_of slope offset gutters (middle_of r)) (weight slope offset depth r) other
  group_more other =
      rw (filter_more (λ (p : ℕ). is_of slope offset depth gutters other (slice_get boxes p)) alive i 0 within)
      (one_more (λ (p : ℕ). weight_of slope offset depth (slice_get boxes p)) (group_of slope offset depth boxes gutters other (take i alive)) (is_of slope offset depth gutters other (slice_get boxes (get_or alive i 0))) (get_or alive i 0)
      ∙ (rw there refl))

  -- a box that weighs something
  pub group_grows : (in_column w : ℕ) → in_column ≡ column_of slope offset gutters (middle_of r) → w ≡ weight slope offset depth r → 0 < w → (other : ℕ) → group_weight slope offset depth boxes gutters other (take (i + 1) alive) ≡ group_weight slope offset depth boxes gutters other (take i alive) + cond (eqb in_column other) w 0
  group_grows in_column w column_is weight_is some other =
      rw (added_some in_column w other some) at (rw (← column_is, ← weight_is) at (group_more other))

  -- and one that weighs nothing
  pub group_stays : (w : ℕ) → w ≡ weight slope offset depth r → w ≤ 0 → (other : ℕ) → group_weight slope offset depth boxes gutters other (take (i + 1) alive) ≡ group_weight slope offset depth boxes gutters other (take i alive)
  group_stays w weight_is none other =
      omega (arith, group_more other, added_none (column_of slope offset gutters (middle_of r)) (weight slope offset depth r) other (omega (arith, weight_is, none)))
