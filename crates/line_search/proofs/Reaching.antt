-- The positions of the boxes that can weigh something for the lines of a shape.
use Rattle.std.proofs.Common.{◌≡◌, ℕ, ◌+◌, ◌≤◌, ℤ, Bool, true, false, cond, ◌&&◌, eqb, ltb, List, [], ◌∷◌, length, Option, Some, None, slice_get, arith, refl, sym, ◌∙◌, ap}
use Rattle.std.specs.List.{filter, sum_by}
use Rattle.std.proofs.lemmas.List.Sums.{sum_by-cons}
use Rattle.std.proofs.lemmas.Bool.Decides.{nat_tests}
use Rattle.layout_geom.specs.declared.rect.Rect.{Rect}
use Rattle.box_search.specs.declared.space.Shape.{Shape}
use Rattle.line_quality.specs.Points.{weight, middle_of, column_of}
use Rattle.line_quality.specs.Scores.{is_of, group_of}
use Rattle.line_search.specs.Problem.{GridProblem}
use Rattle.line_counts.specs.Shapes.{IsInside}
use Rattle.line_search.specs.declared.span.Span.{Span}
use Rattle.line_search.specs.Bounds.{most_weight, weighing, most_together, stretch_of, HasWeighing}
use Rattle.line_search.proofs.Stretches.{stretch_twice}
use Rattle.std.proofs.lemmas.List.{length-take}
use Rattle.std.proofs.Common.{◌-◌, drop}
use Rattle.line_search.proofs.Heights.{weight_below, reach_shrinks, HasCorners}

inner_first : (p : ℕ → Bool) (x : ℕ) (ys zs : List ℕ) (b c : Bool) → p x ≡ b → (b ≡ true → c ≡ true) → filter p ys ≡ zs → filter p (cond c (x ∷ ys) ys) ≡ cond b (x ∷ zs) zs
inner_first p x ys zs true true is stricter same = rw (is, same) refl
inner_first p x ys zs true false is stricter same = absurd (let no : false ≡ true = stricter refl in cc)
inner_first p x ys zs false true is stricter same = rw (is, same) refl
inner_first p x ys zs false false is stricter same = same

-- a stricter test keeps of the kept what it keeps of all
pub filter_twice : (p q : ℕ → Bool) → ((x : ℕ) → p x ≡ true → q x ≡ true) → (xs : List ℕ) → filter p (filter q xs) ≡ filter p xs
filter_twice p q stricter [] = refl
filter_twice p q stricter (x ∷ xs) = inner_first p x (filter q xs) (filter p xs) (p x) (q x) refl (stricter x) (filter_twice p q stricter xs)

some_first : (f : ℕ → ℕ) (x : ℕ) (ys : List ℕ) (b : Bool) → ltb 0 (f x) ≡ b → sum_by f (cond b (x ∷ ys) ys) ≡ f x + sum_by f ys
some_first f x ys true is = sum_by-cons f x ys
some_first f x ys false is = let none : f x ≡ 0 = grind (arith, nat_tests) in omega arith

-- what weighs nothing may be left out of a sum
sum_some : (f : ℕ → ℕ) (xs : List ℕ) → sum_by f (filter (λ x. ltb 0 (f x)) xs) ≡ sum_by f xs
sum_some f [] = refl
sum_some f (x ∷ xs) = some_first f x (filter (λ y. ltb 0 (f y)) xs) (ltb 0 (f x)) refl ∙ ap (λ (n : ℕ). f x + n) (sum_some f xs) ∙ sym (sum_by-cons f x xs)

-- the positions of a node can weigh no more than all that are alive
pub same_total : (problem : GridProblem) (shape : Shape) (positions : List ℕ) → weighing shape problem.boxes positions ≡ weighing shape problem.boxes problem.alive → most_together shape problem.boxes positions ≡ most_together shape problem.boxes problem.alive
same_total problem shape positions same =
    let f : ℕ → ℕ = λ position. most_weight shape (slice_get problem.boxes position) in
    sym (sum_some f positions) ∙ ap (λ (xs : List ℕ). sum_by f xs) same ∙ sum_some f problem.alive

above_some : (a b : ℕ) → a ≤ b → ltb 0 a ≡ true → ltb 0 b ≡ true
above_some a b more some = grind (arith, nat_tests)

has_weight : (a w : ℕ) (b : Bool) → (b && ltb 0 w) ≡ true → w ≤ a → ltb 0 a ≡ true
has_weight a w true some more = above_some w a more some
has_weight a w false some more = absurd (let no : false ≡ true = some in cc)

member_reaches : (shape : Shape) (slope offset : ℤ) (depth : ℕ) → IsInside slope offset depth shape → (gutters : List Rect) (in_column : ℕ) (o : Option Rect) → is_of slope offset depth gutters in_column o ≡ true → ltb 0 (most_weight shape o) ≡ true
member_reaches shape slope offset depth inside gutters in_column (Some r) is = has_weight (most_weight shape (Some r)) (weight slope offset depth r) (eqb (column_of slope offset gutters (middle_of r)) in_column) is (weight_below shape slope offset depth inside (Some r))
member_reaches shape slope offset depth inside gutters in_column None is = absurd (let no : false ≡ true = is in cc)

-- the members of a group can weigh something
group_twice : (shape : Shape) (slope offset : ℤ) (depth : ℕ) → IsInside slope offset depth shape → (boxes gutters : List Rect) (in_column : ℕ) (xs : List ℕ) → group_of slope offset depth boxes gutters in_column (weighing shape boxes xs) ≡ group_of slope offset depth boxes gutters in_column xs
group_twice shape slope offset depth inside boxes gutters in_column xs =
    filter_twice (λ position. is_of slope offset depth gutters in_column (slice_get boxes position)) (λ position. ltb 0 (most_weight shape (slice_get boxes position)))
    (λ position is. member_reaches shape slope offset depth inside gutters in_column (slice_get boxes position) is) xs

-- so a group among the positions of a node is one among all that are alive
pub same_group : (problem : GridProblem) (shape : Shape) (slope offset : ℤ) (depth : ℕ) → IsInside slope offset depth shape → (positions : List ℕ) → weighing shape problem.boxes positions ≡ weighing shape problem.boxes problem.alive → (in_column : ℕ) → group_of slope offset depth problem.boxes problem.gutters in_column positions ≡ group_of slope offset depth problem.boxes problem.gutters in_column problem.alive
same_group problem shape slope offset depth inside positions same in_column =
    sym (group_twice shape slope offset depth inside problem.boxes problem.gutters in_column positions)
    ∙ ap (group_of slope offset depth problem.boxes problem.gutters in_column) same
    ∙ group_twice shape slope offset depth inside problem.boxes problem.gutters in_column problem.alive

part_twice : (shape part : Shape) → HasCorners shape part → (boxes : List Rect) (xs : List ℕ) → weighing part boxes (weighing shape boxes xs) ≡ weighing part boxes xs
part_twice shape part corners boxes xs =
    filter_twice (λ position. ltb 0 (most_weight part (slice_get boxes position))) (λ position. ltb 0 (most_weight shape (slice_get boxes position)))
    (λ position some. above_some (most_weight part (slice_get boxes position)) (most_weight shape (slice_get boxes position)) (reach_shrinks shape part corners (slice_get boxes position)) some) xs

-- the stretch of a node has the positions of each part
pub part_reaching : (problem : GridProblem) (shape part : Shape) → HasCorners shape part → (span : Span) → HasWeighing problem shape span → HasWeighing problem part span
part_reaching problem shape part corners span near = record {
  ordered = near.ordered;
  inside = near.inside;
  same = sym (part_twice shape part corners problem.boxes (stretch_of span problem.alive)) ∙ ap (weighing part problem.boxes) near.same ∙ part_twice shape part corners problem.boxes problem.alive;
}

-- and so has a stretch of it that has the positions that count
pub kept_reaching : (problem : GridProblem) (shape : Shape) (span inner : Span) → HasWeighing problem shape span → inner.from ≤ inner.to → inner.to ≤ length (stretch_of span problem.alive)
    → weighing shape problem.boxes (stretch_of inner (stretch_of span problem.alive)) ≡ weighing shape problem.boxes (stretch_of span problem.alive)
    → HasWeighing problem shape (record { from = span.from + inner.from; to = span.from + inner.to })
kept_reaching problem shape span inner near ordered inside same =
    let short : inner.to ≤ span.to - span.from = omega (arith, inside, length-take (span.to - span.from) (drop span.from problem.alive)) in
    record {
      ordered = omega (arith, ordered);
      inside = omega (arith, short, near.ordered, near.inside);
      same = ap (weighing shape problem.boxes) (stretch_twice problem.alive span.from (span.to - span.from) inner.from inner.to ordered short) ∙ same ∙ near.same;
    }
