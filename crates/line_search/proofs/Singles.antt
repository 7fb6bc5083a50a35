-- A shape of one point: what its boxes can weigh at most is what they weigh.
use Rattle.std.proofs.Common.{◌≡◌, ℕ, ◌+◌, min, ℤ, pos, ◌+ℤ◌, ◌-ℤ◌, ◌≤ℤ◌, unsigned_abs, Bool, true, false, cond, ◌&&◌, eqb, ltb, List, [], ◌∷◌, Option, Some, None, slice_get, arith, refl, sym, ◌∙◌, ap}
use Rattle.std.specs.Int.{int_gap}
use Rattle.std.specs.List.{filter, sum_by}
use Rattle.std.proofs.lemmas.Int.{ints, clamps}
use Rattle.std.proofs.lemmas.Bool.Decides.{nat_tests}
use Rattle.std.proofs.lemmas.List.Sums.{sum_by-cons, sum_by-le-sum_by}
use Rattle.layout_geom.specs.declared.rect.Rect.{Rect}
use Rattle.box_search.specs.declared.space.Shape.{Shape}
use Rattle.line_quality.specs.Points.{height_at, middle_of, weight_at, weight, foot_gap, column_of}
use Rattle.line_quality.specs.Scores.{weight_of, is_of, group_weight, IsScore}
use Rattle.line_quality.specs.KeyLaws.{abs_parts}
use Rattle.line_counts.specs.Shapes.{IsSingle, least_depth}
use Rattle.line_counts.specs.Plain.{gap_to, nearest_slope}
use Rattle.line_search.specs.Bounds.{most_weight, sure_column, is_surely, most_in_column, HasMost}
use Rattle.line_counts.proofs.Growing.{int_gap_is}

one_less : (a b : ℤ) → b ≡ a +ℤ pos 1 → b -ℤ pos 1 ≡ a
one_less a b is = omega (arith, ints)

gap_single : (h : ℤ) (y : ℕ) → int_gap (pos y) h + int_gap h (pos y) ≡ unsigned_abs (h -ℤ pos y)
gap_single h y = omega (arith, ints, int_gap_is (pos y) h, int_gap_is h (pos y), abs_parts (h -ℤ pos y))

pub single_nearest : (shape : Shape) → IsSingle shape → nearest_slope shape ≡ shape.a0
single_nearest shape single = omega (arith, ints, clamps, single.0)

-- the one depth, as a whole number
one_depth : (c : ℤ) → pos 0 ≤ℤ c → c ≡ pos (unsigned_abs c)
one_depth c from = omega (arith, ints, abs_parts c)

both_gaps : (a b c d : ℕ) → a ≡ c → b ≡ d → min a b ≡ min c d
both_gaps a b c d first second = rw (first, second) refl

single_reach : (shape : Shape) → IsSingle shape → pos 0 ≤ℤ shape.c0 → (o : Option Rect) → most_weight shape o ≡ weight_of shape.a0 shape.b0 (least_depth shape) o
single_reach shape single from (Some r) =
    let h : ℤ = height_at shape.a0 shape.b0 (middle_of r) in
    let descent : gap_to (h +ℤ shape.c0) (h +ℤ shape.c0) r ≡ foot_gap (h +ℤ pos (least_depth shape)) r =
    gap_single (h +ℤ shape.c0) r.y1 ∙ ap (λ (c : ℤ). foot_gap (h +ℤ c) r) (one_depth shape.c0 from) in
    rw (one_less shape.a0 shape.a1 single.0, one_less shape.b0 shape.b1 single.1, one_less shape.c0 shape.c1 single.2)
    (ap weight_at (both_gaps _ _ _ _ (gap_single h r.y1) descent))
single_reach shape single from None = refl

single_column : (shape : Shape) → IsSingle shape → (gutters : List Rect) (anchor : ℕ) → sure_column shape gutters anchor ≡ column_of shape.a0 shape.b0 gutters anchor
single_column shape single gutters anchor = rw (one_less shape.a0 shape.a1 single.0, one_less shape.b0 shape.b1 single.1) refl

kept_cons : (f : ℕ → ℕ) (x : ℕ) (ys : List ℕ) (b : Bool) → sum_by f (cond b (x ∷ ys) ys) ≡ cond b (f x) 0 + sum_by f ys
kept_cons f x ys true = sum_by-cons f x ys
kept_cons f x ys false = omega arith

-- the sum over what passes a test, as a sum over all
sum_kept : (p : ℕ → Bool) (f : ℕ → ℕ) (xs : List ℕ) → sum_by f (filter p xs) ≡ sum_by (λ x. cond (p x) (f x) 0) xs
sum_kept p f [] = refl
sum_kept p f (x ∷ xs) =
    kept_cons f x (filter p xs) (p x) ∙ ap (λ (n : ℕ). cond (p x) (f x) 0 + n) (sum_kept p f xs) ∙ sym (sum_by-cons (λ y. cond (p y) (f y) 0) x xs)

sum_same : (f g : ℕ → ℕ) → ((x : ℕ) → f x ≡ g x) → (xs : List ℕ) → sum_by f xs ≡ sum_by g xs
sum_same f g same xs = omega (arith, sum_by-le-sum_by f g xs (λ x. omega (arith, same x)), sum_by-le-sum_by g f xs (λ x. omega (arith, same x)))

both : (c k w : ℕ) → cond (eqb c k) w 0 ≡ cond (eqb c k && ltb 0 w) w 0
both c k w = grind (arith, nat_tests)

each_adds : (shape : Shape) → IsSingle shape → pos 0 ≤ℤ shape.c0 → (gutters : List Rect) (k : ℕ) (o : Option Rect) → cond (is_surely shape gutters k o) (most_weight shape o) 0 ≡ cond (is_of shape.a0 shape.b0 (least_depth shape) gutters k o) (weight_of shape.a0 shape.b0 (least_depth shape) o) 0
each_adds shape single from gutters k (Some r) =
    ap (λ (n : ℕ). cond (eqb n k) (most_weight shape (Some r)) 0) (single_column shape single gutters (middle_of r))
    ∙ ap (λ (w : ℕ). cond (eqb (column_of shape.a0 shape.b0 gutters (middle_of r)) k) w 0) (single_reach shape single from (Some r))
    ∙ both (column_of shape.a0 shape.b0 gutters (middle_of r)) k (weight shape.a0 shape.b0 (least_depth shape) r)
each_adds shape single from gutters k None = refl

single_group : (shape : Shape) → IsSingle shape → pos 0 ≤ℤ shape.c0 → (boxes gutters : List Rect) (positions : List ℕ) (k : ℕ) → most_in_column shape boxes gutters positions k ≡ group_weight shape.a0 shape.b0 (least_depth shape) boxes gutters k positions
single_group shape single from boxes gutters positions k =
    let p : ℕ → Bool = λ x. is_surely shape gutters k (slice_get boxes x) in
    let f : ℕ → ℕ = λ x. most_weight shape (slice_get boxes x) in
    let q : ℕ → Bool = λ x. is_of shape.a0 shape.b0 (least_depth shape) gutters k (slice_get boxes x) in
    let g : ℕ → ℕ = λ x. weight_of shape.a0 shape.b0 (least_depth shape) (slice_get boxes x) in
    sum_kept p f positions
    ∙ sum_same (λ x. cond (p x) (f x) 0) (λ x. cond (q x) (g x) 0) (λ x. each_adds shape single from gutters k (slice_get boxes x)) positions
    ∙ sym (sum_kept q g positions)

-- so the greatest sum of a column is the score
pub single_score : (shape : Shape) → IsSingle shape → pos 0 ≤ℤ shape.c0 → (boxes gutters : List Rect) (positions : List ℕ) (most in_column : ℕ) → HasMost shape boxes gutters positions most in_column → IsScore shape.a0 shape.b0 (least_depth shape) boxes gutters positions most in_column
single_score shape single from boxes gutters positions most in_column is =
    let same : (k : ℕ) → most_in_column shape boxes gutters positions k ≡ group_weight shape.a0 shape.b0 (least_depth shape) boxes gutters k positions = λ k. single_group shape single from boxes gutters positions k in
    record {
      reached = sym (same in_column) ∙ is.reached;
      greatest = λ other. omega (arith, same other, is.greatest other);
      least = λ other before. omega (arith, same other, is.least other before);
    }
