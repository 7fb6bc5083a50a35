-- Columns, counted over the middles of gutters alone.
use Rattle.std.proofs.Common.{◌≡◌, ℕ, ◌+◌, Bool, true, false, cond, ◌&&◌, nat_le, List, [], ◌∷◌, map, arith, refl, sym, ◌∙◌, ap}
use Rattle.std.specs.List.{filter, count_by}
use Rattle.std.proofs.lemmas.List.Sums.{sum_by-cons}
use Rattle.layout_geom.specs.declared.Rect.{Rect}
use Rattle.line_quality.specs.Points.{middle_of}

one_gutter : (gutter : Rect) (others : List Rect) (test : Bool) (anchor : ℕ)
    → count_by (λ middle. nat_le middle anchor) (map middle_of (cond test (gutter ∷ others) others))
    ≡ cond (test && nat_le (middle_of gutter) anchor) 1 0 + count_by (λ middle. nat_le middle anchor) (map middle_of others)
one_gutter gutter others true anchor = sum_by-cons (λ middle. cond (nat_le middle anchor) 1 0) (middle_of gutter) (map middle_of others)
one_gutter gutter others false anchor = omega arith

-- how many of the gutters that pass a test have their middle at the anchor or left of it
pub column_by_middles : (test : Rect → Bool) (gutters : List Rect) (anchor : ℕ)
    → count_by (λ middle. nat_le middle anchor) (map middle_of (filter test gutters))
    ≡ count_by (λ gutter. test gutter && nat_le (middle_of gutter) anchor) gutters
column_by_middles test [] anchor = refl
column_by_middles test (gutter ∷ gutters) anchor =
    one_gutter gutter (filter test gutters) (test gutter) anchor
    ∙ ap (λ n. cond (test gutter && nat_le (middle_of gutter) anchor) 1 0 + n) (column_by_middles test gutters anchor)
    ∙ sym (sum_by-cons (λ gutter. cond (test gutter && nat_le (middle_of gutter) anchor) 1 0) gutter gutters)
