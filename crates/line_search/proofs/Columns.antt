-- Boxes of one column of a line are in one sure column of each shape round it.
use Rattle.std.proofs.Common.{◌≡◌, ℕ, ◌+◌, ◌≤◌, ℤ, pos, ◌≤ℤ◌, int_lt, int_le, Bool, true, false, cond, ◌&&◌, eqb, leb, List, [], ◌∷◌, Option, Some, None, slice_get, arith, refl, sym, ◌∙◌, ⊎_elim}
use Rattle.std.specs.List.{filter, sum_by, count_by}
use Rattle.std.proofs.lemmas.List.Sums.{sum_by-cons, sum_by-le-sum_by}
use Rattle.std.proofs.lemmas.Bool.{cases_lt}
use Rattle.std.proofs.lemmas.Bool.Decides.{nat_tests}
use Rattle.std.proofs.lemmas.Int.{ints}
use Rattle.layout_geom.specs.declared.rect.Rect.{Rect}
use Rattle.box_search.specs.declared.space.Shape.{Shape}
use Rattle.line_quality.specs.Points.{middle_of, is_crossed, column_of}
use Rattle.line_quality.specs.Scores.{weight_of, is_of, group_weight}
use Rattle.line_quality.proofs.Scored.{first_or_none, in_its_column}
use Rattle.line_counts.specs.Shapes.{IsInside}
use Rattle.line_search.specs.Bounds.{most_weight, all_cross, sure_column, is_surely, most_in_column}
use Rattle.line_counts.proofs.Growing.{between}
use Rattle.line_search.proofs.Heights.{weight_below}

-- what all lines of a shape cross, each line crosses
crosses_each : (low h high : ℤ) (y0 y1 : ℕ) → low ≤ℤ h → h ≤ℤ high → (int_lt (pos y0) low && int_le high (pos y1)) ≡ true → (int_lt (pos y0) h && int_le h (pos y1)) ≡ true
crosses_each low h high y0 y1 a b all = grind (arith, ints)

each_crosses : (shape : Shape) (slope offset : ℤ) (depth : ℕ) → IsInside slope offset depth shape → (gutter : Rect) → all_cross shape gutter ≡ true → is_crossed slope offset gutter ≡ true
each_crosses shape slope offset depth inside gutter all =
    let here = between shape slope offset depth inside (middle_of gutter) in
    crosses_each _ _ _ gutter.y0 gutter.y1 here.0 here.1 all

count : (p : Rect → Bool) (g : Rect) (gs : List Rect) → count_by p (g ∷ gs) ≡ cond (p g) 1 0 + count_by p gs
count p g gs = sum_by-cons (λ (x : Rect). cond (p x) 1 0) g gs

-- for one gutter
one_gutter : (s c : Bool) (m a b : ℕ) → (s ≡ true → c ≡ true) → a ≤ b → cond (s && leb m b) 1 0 + cond (c && leb m a) 1 0 ≤ cond (s && leb m a) 1 0 + cond (c && leb m b) 1 0
one_gutter true true m a b holds order = grind (arith, nat_tests)
one_gutter true false m a b holds order = absurd (let no : false ≡ true = holds refl in cc)
one_gutter false true m a b holds order = grind (arith, nat_tests)
one_gutter false false m a b holds order = omega arith

one_grows : (s : Bool) (m a b : ℕ) → a ≤ b → cond (s && leb m a) 1 0 ≤ cond (s && leb m b) 1 0
one_grows true m a b order = grind (arith, nat_tests)
one_grows false m a b order = omega arith

columns_part : (shape : Shape) (slope offset : ℤ) (depth : ℕ) → IsInside slope offset depth shape → (a b : ℕ) → a ≤ b → (gutters : List Rect) → sure_column shape gutters b + column_of slope offset gutters a ≤ sure_column shape gutters a + column_of slope offset gutters b
columns_part shape slope offset depth inside a b order [] = omega arith
columns_part shape slope offset depth inside a b order (g ∷ gs) =
    omega (
      arith,
      columns_part shape slope offset depth inside a b order gs,
      count (λ (x : Rect). all_cross shape x && leb (middle_of x) b) g gs,
      count (λ (x : Rect). all_cross shape x && leb (middle_of x) a) g gs,
      count (λ (x : Rect). is_crossed slope offset x && leb (middle_of x) b) g gs,
      count (λ (x : Rect). is_crossed slope offset x && leb (middle_of x) a) g gs,
      one_gutter (all_cross shape g) (is_crossed slope offset g) (middle_of g) a b (each_crosses shape slope offset depth inside g) order,
    )

sure_grows : (shape : Shape) (a b : ℕ) → a ≤ b → (gutters : List Rect) → sure_column shape gutters a ≤ sure_column shape gutters b
sure_grows shape a b order [] = omega arith
sure_grows shape a b order (g ∷ gs) =
    omega (arith, sure_grows shape a b order gs, count (λ (x : Rect). all_cross shape x && leb (middle_of x) b) g gs, count (λ (x : Rect). all_cross shape x && leb (middle_of x) a) g gs, one_grows (all_cross shape g) (middle_of g) a b order)

-- boxes of one column are in one sure column
one_column : (shape : Shape) (slope offset : ℤ) (depth : ℕ) → IsInside slope offset depth shape → (gutters : List Rect) (a b : ℕ) → column_of slope offset gutters a ≡ column_of slope offset gutters b → sure_column shape gutters a ≡ sure_column shape gutters b
one_column shape slope offset depth inside gutters a b same = ⊎_elim
    (λ less. omega (arith, same, columns_part shape slope offset depth inside a b (omega arith) gutters, sure_grows shape a b (omega arith) gutters))
    (λ more. omega (arith, same, columns_part shape slope offset depth inside b a more gutters, sure_grows shape b a more gutters))
    (cases_lt a b)

kept_first : (f : ℕ → ℕ) (x : ℕ) (ps qs : List ℕ) (b c : Bool) → (b ≡ true → c ≡ true) → sum_by f ps ≤ sum_by f qs → sum_by f (cond b (x ∷ ps) ps) ≤ sum_by f (cond c (x ∷ qs) qs)
kept_first f x ps qs true true holds less = omega (arith, less, sum_by-cons f x ps, sum_by-cons f x qs)
kept_first f x ps qs true false holds less = absurd (let no : false ≡ true = holds refl in cc)
kept_first f x ps qs false true holds less = omega (arith, less, sum_by-cons f x qs)
kept_first f x ps qs false false holds less = less

-- a stricter test keeps a lesser sum
kept_sum : (p q : ℕ → Bool) (f : ℕ → ℕ) → ((x : ℕ) → p x ≡ true → q x ≡ true) → (xs : List ℕ) → sum_by f (filter p xs) ≤ sum_by f (filter q xs)
kept_sum p q f stricter [] = omega arith
kept_sum p q f stricter (x ∷ xs) = kept_first f x (filter p xs) (filter q xs) (p x) (q x) (stricter x) (kept_sum p q f stricter xs)

same_eqb : (a b : ℕ) → a ≡ b → eqb a b ≡ true
same_eqb a b same = grind (arith, nat_tests)

surely_each : (shape : Shape) (slope offset : ℤ) (depth : ℕ) → IsInside slope offset depth shape → (gutters : List Rect) (in_column : ℕ) (r : Rect) → is_of slope offset depth gutters in_column (Some r) ≡ true → (other : Option Rect) → is_of slope offset depth gutters in_column other ≡ true → is_surely shape gutters (sure_column shape gutters (middle_of r)) other ≡ true
surely_each shape slope offset depth inside gutters in_column r passes None other_passes = absurd (let no : false ≡ true = other_passes in cc)
surely_each shape slope offset depth inside gutters in_column r passes (Some q) other_passes =
    let here : column_of slope offset gutters (middle_of r) ≡ in_column = in_its_column _ in_column _ passes in
    let there : column_of slope offset gutters (middle_of q) ≡ in_column = in_its_column _ in_column _ other_passes in
    same_eqb (sure_column shape gutters (middle_of q)) (sure_column shape gutters (middle_of r)) (one_column shape slope offset depth inside gutters (middle_of q) (middle_of r) (there ∙ sym here))

-- the members of a group are in one sure column
surely_of : (shape : Shape) (slope offset : ℤ) (depth : ℕ) → IsInside slope offset depth shape → (gutters : List Rect) (in_column : ℕ) (o : Option Rect) → is_of slope offset depth gutters in_column o ≡ true → (k : ℕ) × ((other : Option Rect) → is_of slope offset depth gutters in_column other ≡ true → is_surely shape gutters k other ≡ true)
surely_of shape slope offset depth inside gutters in_column None passes = absurd (let no : false ≡ true = passes in cc)
surely_of shape slope offset depth inside gutters in_column (Some r) passes = (sure_column shape gutters (middle_of r), surely_each shape slope offset depth inside gutters in_column r passes)

-- a group weighs at most what a sure column can weigh
pub group_within : (shape : Shape) (boxes gutters : List Rect) (positions : List ℕ) (slope offset : ℤ) (depth : ℕ) → IsInside slope offset depth shape → (in_column most : ℕ) → ((k : ℕ) → most_in_column shape boxes gutters positions k ≤ most) → group_weight slope offset depth boxes gutters in_column positions ≤ most
group_within shape boxes gutters positions slope offset depth inside in_column most greatest =
    let p : ℕ → Bool = λ position. is_of slope offset depth gutters in_column (slice_get boxes position) in
    let f : ℕ → ℕ = λ position. weight_of slope offset depth (slice_get boxes position) in
    let g : ℕ → ℕ = λ position. most_weight shape (slice_get boxes position) in
    ⊎_elim
    (λ found.
    let surely = surely_of shape slope offset depth inside gutters in_column (slice_get boxes found.0) found.1 in
    let q : ℕ → Bool = λ position. is_surely shape gutters surely.0 (slice_get boxes position) in
    let part : sum_by f (filter p positions) ≤ sum_by f (filter q positions) = kept_sum p q f (λ x passes. surely.1 (slice_get boxes x) passes) positions in
    let whole : sum_by f (filter q positions) ≤ sum_by g (filter q positions) = sum_by-le-sum_by f g (filter q positions) (λ position. weight_below shape slope offset depth inside (slice_get boxes position)) in
    omega (arith, part, whole, greatest surely.0))
    (λ none. omega (arith, none))
    (first_or_none p f positions)
