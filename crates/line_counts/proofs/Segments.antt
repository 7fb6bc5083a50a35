-- The columns of a line are runs of segments.
use Rattle.std.proofs.Common.{◌≡◌, ℕ, zero, suc, ◌+◌, ◌*◌, ◌<◌, ◌≤◌, ℤ, Bool, true, false, ◌&&◌, eqb, leb, ltb, cond, List, [], ◌∷◌, length, get_or, set, get_or-set_same, get_or-set_other, Option, Some, None, slice_get, arith, refl, ◌∙◌, ap, ⊎_elim}
use Rattle.std.specs.List.{sum_by, count_by}
use Rattle.std.proofs.lemmas.List.Sums.{sum_by-cons, count_by-le-length}
use Rattle.std.proofs.lemmas.Bool.{cases_eq, cases_lt}
use Rattle.std.proofs.lemmas.Bool.Decides.{nat_tests}
use Rattle.layout_geom.specs.declared.rect.Rect.{Rect}
use Rattle.line_quality.specs.Points.{weight, column_of, is_crossed, middle_of}
use Rattle.line_quality.specs.Scores.{weight_of, is_of, group_weight}
use Rattle.line_counts.specs.Fits.{segment_of, is_in, segment_weight, column_of_segment}
use Rattle.line_counts.proofs.Cells.{one_if}
use Rattle.line_counts.proofs.Weighing.{sum_two, same_sum, no_sum, sum_kept, weight_small}

count : (p : Rect → Bool) (g : Rect) (gs : List Rect) → count_by p (g ∷ gs) ≡ cond (p g) 1 0 + count_by p gs
count p g gs = sum_by-cons (λ (x : Rect). cond (p x) 1 0) g gs

one_grows : (m a b : ℕ) → a ≤ b → cond (leb m a) 1 0 ≤ cond (leb m b) 1 0
one_grows m a b order = grind (arith, nat_tests)

one_more : (m a : ℕ) → a < m → cond (leb m a) 1 0 + 1 ≡ cond (leb m m) 1 0
one_more m a less = grind (arith, nat_tests)

segments_grow : (gutters : List Rect) (a b : ℕ) → a ≤ b → segment_of gutters a ≤ segment_of gutters b
segments_grow [] a b order = omega arith
segments_grow (g ∷ gs) a b order =
    omega (arith, segments_grow gs a b order, count (λ (x : Rect). leb (middle_of x) a) g gs, count (λ (x : Rect). leb (middle_of x) b) g gs, one_grows (middle_of g) a b order)

-- a gutter begins a segment
segments_part : (gutters : List Rect) (i a : ℕ) (d : Rect) → i < length gutters → a < middle_of (get_or gutters i d)
    → segment_of gutters a < segment_of gutters (middle_of (get_or gutters i d))
segments_part [] i a d within less = absurd (omega arith)
segments_part (g ∷ gs) zero a d within less =
    omega (
      arith,
      segments_grow gs a (middle_of g) (omega (arith, less)),
      count (λ (x : Rect). leb (middle_of x) a) g gs,
      count (λ (x : Rect). leb (middle_of x) (middle_of g)) g gs,
      one_more (middle_of g) a less,
    )
segments_part (g ∷ gs) (suc i) a d within less =
    omega (
      arith,
      segments_part gs i a d (omega arith) less,
      count (λ (x : Rect). leb (middle_of x) a) g gs,
      count (λ (x : Rect). leb (middle_of x) (middle_of (get_or gs i d))) g gs,
      one_grows (middle_of g) a (middle_of (get_or gs i d)) (omega (arith, less)),
    )

tests_agree : (m a s t : ℕ) → (m ≤ a → s ≤ t) → (a < m → t < s) → leb m a ≡ leb s t
tests_agree m a s t low high = ⊎_elim
    (λ more. let far : t < s = high more in grind (arith, nat_tests))
    (λ less. let near : s ≤ t = low less in grind (arith, nat_tests))
    (cases_lt a m)

-- a gutter is left of an anchor exactly where its segment is not behind the anchor's
agree : (gutters : List Rect) (a i : ℕ) (d : Rect) → i < length gutters
    → leb (middle_of (get_or gutters i d)) a ≡ leb (segment_of gutters (middle_of (get_or gutters i d))) (segment_of gutters a)
agree gutters a i d within =
    tests_agree (middle_of (get_or gutters i d)) a (segment_of gutters (middle_of (get_or gutters i d))) (segment_of gutters a)
    (λ low. segments_grow gutters (middle_of (get_or gutters i d)) a low)
    (λ less. segments_part gutters i a d within less)

one_same : (c p q : Bool) → p ≡ q → one_if (c && p) ≡ one_if (c && q)
one_same c p q same = rw same refl

same_count : (c p q : Rect → Bool) (gs : List Rect) (d : Rect) → ((i : ℕ) → i < length gs → p (get_or gs i d) ≡ q (get_or gs i d))
    → count_by (λ g. c g && p g) gs ≡ count_by (λ g. c g && q g) gs
same_count c p q [] d each = refl
same_count c p q (g ∷ gs) d each =
    omega (
      arith,
      same_count c p q gs d (λ i within. each (suc i) (omega arith)),
      count (λ (x : Rect). c x && p x) g gs,
      count (λ (x : Rect). c x && q x) g gs,
      one_same (c g) (p g) (q g) (each 0 (omega arith)),
    )

-- the column of an anchor is that of its segment
pub column_by_segment : (slope offset : ℤ) (gutters : List Rect) (r : Rect)
    → column_of slope offset gutters (middle_of r) ≡ column_of_segment slope offset gutters (segment_of gutters (middle_of r))
column_by_segment slope offset gutters r =
    same_count (is_crossed slope offset) (λ g. leb (middle_of g) (middle_of r)) (λ g. leb (segment_of gutters (middle_of g)) (segment_of gutters (middle_of r))) gutters r
    (λ i within. agree gutters (middle_of r) i r within)

-- the box is in the column, or in a segment before one
abbrev is_of_column : ℤ → ℤ → List Rect → ℕ → Option Rect → Bool
is_of_column slope offset gutters in_column (Some r) = eqb (column_of slope offset gutters (middle_of r)) in_column
is_of_column slope offset gutters in_column None = false

abbrev is_before : List Rect → ℕ → Option Rect → Bool
is_before gutters segment (Some r) = ltb (segment_of gutters (middle_of r)) segment
is_before gutters segment None = false

segment_more : (col c seg s d w : ℕ) → (seg ≡ s → col ≡ d)
    → cond (eqb col c && ltb seg (s + 1)) w 0 ≡ cond (eqb col c && ltb seg s) w 0 + cond (eqb d c) (cond (eqb seg s) w 0) 0
segment_more col c seg s d w is = ⊎_elim
    (λ same. let e : col ≡ d = is same in grind (arith, nat_tests))
    (λ differs. grind (arith, nat_tests))
    (cases_eq seg s)

none_more : (b : Bool) → 0 ≡ 0 + cond b 0 0
none_more true = refl
none_more false = refl

sum_if : (b : Bool) (f : ℕ → ℕ) (xs : List ℕ) → sum_by (λ x. cond b (f x) 0) xs ≡ cond b (sum_by f xs) 0
sum_if true f xs = refl
sum_if false f xs = no_sum (λ (x : ℕ). 0) (λ (x : ℕ). refl) xs

all_before : (col c seg last w : ℕ) → seg < last → cond (eqb col c && ltb seg last) w 0 ≡ cond (eqb col c && ltb 0 w) w 0
all_before col c seg last w within = ⊎_elim
    (λ some. grind (arith, nat_tests))
    (λ none. grind (arith, nat_tests))
    (cases_lt 0 w)

none_before : (b : Bool) (seg w : ℕ) → cond (b && ltb seg 0) w 0 ≡ 0
none_before true seg w = grind (arith, nat_tests)
none_before false seg w = refl

-- what the boxes of a column weigh that are in the segments before one
abbrev pub column_weight : List Rect → List Rect → ℤ → ℤ → ℕ → ℕ → ℕ → List ℕ → ℕ
column_weight boxes gutters slope offset depth segment in_column positions = sum_by
    (λ position. cond (is_of_column slope offset gutters in_column (slice_get boxes position) && is_before gutters segment (slice_get boxes position))
    (weight_of slope offset depth (slice_get boxes position)) 0) positions

module _ (boxes gutters : List Rect) (slope offset : ℤ) (depth : ℕ) where
  box_more : (segment in_column : ℕ) (o : Option Rect)
      → cond (is_of_column slope offset gutters in_column o && is_before gutters (segment + 1) o) (weight_of slope offset depth o) 0
      ≡ cond (is_of_column slope offset gutters in_column o && is_before gutters segment o) (weight_of slope offset depth o) 0
      + cond (eqb (column_of_segment slope offset gutters segment) in_column) (cond (is_in gutters segment o) (weight_of slope offset depth o) 0) 0
  box_more segment in_column (Some r) =
      segment_more (column_of slope offset gutters (middle_of r)) in_column (segment_of gutters (middle_of r)) segment (column_of_segment slope offset gutters segment) (weight slope offset depth r)
      (λ same. column_by_segment slope offset gutters r ∙ ap (column_of_segment slope offset gutters) same)
  box_more segment in_column None = none_more (eqb (column_of_segment slope offset gutters segment) in_column)

  box_none : (in_column : ℕ) (o : Option Rect) → cond (is_of_column slope offset gutters in_column o && is_before gutters 0 o) (weight_of slope offset depth o) 0 ≡ 0
  box_none in_column (Some r) = none_before (eqb (column_of slope offset gutters (middle_of r)) in_column) (segment_of gutters (middle_of r)) (weight slope offset depth r)
  box_none in_column None = refl

  box_all : (in_column : ℕ) (o : Option Rect) → cond (is_of_column slope offset gutters in_column o && is_before gutters (length gutters + 1) o) (weight_of slope offset depth o) 0
      ≡ cond (is_of slope offset depth gutters in_column o) (weight_of slope offset depth o) 0
  box_all in_column (Some r) =
      all_before (column_of slope offset gutters (middle_of r)) in_column (segment_of gutters (middle_of r)) (length gutters + 1) (weight slope offset depth r)
      (omega (arith, count_by-le-length (λ (gutter : Rect). leb (middle_of gutter) (middle_of r)) gutters))
  box_all in_column None = refl

  pub column_none : (in_column : ℕ) (positions : List ℕ) → column_weight boxes gutters slope offset depth 0 in_column positions ≡ 0
  column_none in_column positions = no_sum (λ position. cond (is_of_column slope offset gutters in_column (slice_get boxes position) && is_before gutters 0 (slice_get boxes position)) (weight_of slope offset depth (slice_get boxes position)) 0) (λ position. box_none in_column (slice_get boxes position)) positions

  pub column_more : (segment in_column : ℕ) (positions : List ℕ) → column_weight boxes gutters slope offset depth (segment + 1) in_column positions
      ≡ column_weight boxes gutters slope offset depth segment in_column positions
      + cond (eqb (column_of_segment slope offset gutters segment) in_column) (segment_weight boxes gutters slope offset depth segment positions) 0
  column_more segment in_column positions =
      sum_two (λ position. cond (is_of_column slope offset gutters in_column (slice_get boxes position) && is_before gutters (segment + 1) (slice_get boxes position)) (weight_of slope offset depth (slice_get boxes position)) 0)
      (λ position. cond (is_of_column slope offset gutters in_column (slice_get boxes position) && is_before gutters segment (slice_get boxes position)) (weight_of slope offset depth (slice_get boxes position)) 0)
      (λ position. cond (eqb (column_of_segment slope offset gutters segment) in_column) (cond (is_in gutters segment (slice_get boxes position)) (weight_of slope offset depth (slice_get boxes position)) 0) 0)
      (λ position. box_more segment in_column (slice_get boxes position)) positions
      ∙ ap (λ n. column_weight boxes gutters slope offset depth segment in_column positions + n)
      (sum_if (eqb (column_of_segment slope offset gutters segment) in_column) (λ position. cond (is_in gutters segment (slice_get boxes position)) (weight_of slope offset depth (slice_get boxes position)) 0) positions)

  pub column_all : (in_column : ℕ) (positions : List ℕ) → column_weight boxes gutters slope offset depth (length gutters + 1) in_column positions ≡ group_weight slope offset depth boxes gutters in_column positions
  column_all in_column positions =
      same_sum (λ position. cond (is_of_column slope offset gutters in_column (slice_get boxes position) && is_before gutters (length gutters + 1) (slice_get boxes position)) (weight_of slope offset depth (slice_get boxes position)) 0)
      (λ position. cond (is_of slope offset depth gutters in_column (slice_get boxes position)) (weight_of slope offset depth (slice_get boxes position)) 0)
      (λ position. box_all in_column (slice_get boxes position)) positions
      ∙ sum_kept (λ position. is_of slope offset depth gutters in_column (slice_get boxes position)) (λ position. weight_of slope offset depth (slice_get boxes position)) positions

same_column : (d w : ℕ) → cond (eqb d d) w 0 ≡ w
same_column d w = grind (arith, nat_tests)

other_column : (d c w : ℕ) → (c ≡ d → ⊥) → cond (eqb d c) w 0 ≡ 0
other_column d c w differs = grind (arith, nat_tests)

-- what a segment adds to the sum of its column
pub sums_next : (sums : List ℕ) (d w : ℕ) (before after : ℕ → ℕ) → d < length sums → ((c : ℕ) → get_or sums c 0 ≡ before c)
    → ((c : ℕ) → after c ≡ before c + cond (eqb d c) w 0) → (c : ℕ) → get_or (set sums d (get_or sums d 0 + w)) c 0 ≡ after c
sums_next sums d w before after within are grows c = ⊎_elim
    (λ same.
    omega (
      arith,
      ap (λ (k : ℕ). get_or (set sums d (get_or sums d 0 + w)) k 0) same,
      get_or-set_same sums d (get_or sums d 0 + w) 0 within,
      ap before same,
      ap after same,
      are d,
      grows d,
      same_column d w,
    ))
    (λ differs. omega (arith, get_or-set_other sums d c (get_or sums d 0 + w) 0 differs, are c, grows c, other_column d c w differs))
    (cases_eq c d)

pub column_small : (boxes gutters : List Rect) (slope offset : ℤ) (depth segment in_column : ℕ) (positions : List ℕ)
    → column_weight boxes gutters slope offset depth segment in_column positions ≤ 25 * length positions
column_small boxes gutters slope offset depth segment in_column positions =
    weight_small slope offset depth boxes (λ position. is_of_column slope offset gutters in_column (slice_get boxes position) && is_before gutters segment (slice_get boxes position)) positions
