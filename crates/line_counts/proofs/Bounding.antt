-- Why some part has no less than a column of a line.
use Rattle.std.proofs.Common.{◌≡◌, ℕ, zero, suc, ◌+◌, ◌<◌, ◌≤◌, ◌&&◌, leb, ℤ, pos, ◌≤ℤ◌, ◌<ℤ◌, int_lt, int_le, Bool, true, false, cond, eqb, List, [], ◌∷◌, length, get_or, arith, refl, ap, ◌⊎◌, inl, inr, ⊎_elim}
use Rattle.std.specs.List.{count_by}
use Rattle.std.proofs.lemmas.List.Sums.{sum_by-cons}
use Rattle.std.proofs.lemmas.Int.{ints}
use Rattle.std.proofs.lemmas.Bool.{cases_eq, false≢true}
use Rattle.std.proofs.lemmas.Bool.Decides.{nat_tests}
use Rattle.layout_geom.specs.declared.rect.Rect.{Rect}
use Rattle.line_quality.specs.Points.{height_at, middle_of, is_crossed, Crosses}
use Rattle.line_counts.specs.Fits.{segment_of, column_of_segment}
use Rattle.line_counts.specs.Tops.{of_column}
use Rattle.line_counts.proofs.Summing.{of_none, of_next}

count : (p : Rect → Bool) (g : Rect) (gs : List Rect) → count_by p (g ∷ gs) ≡ cond (p g) 1 0 + count_by p gs
count p g gs = sum_by-cons (λ (x : Rect). cond (p x) 1 0) g gs

counts_grow : (p q : Rect → Bool) (gs : List Rect) → ((g : Rect) → cond (p g) 1 0 ≤ cond (q g) 1 0) → count_by p gs ≤ count_by q gs
counts_grow p q [] each = omega arith
counts_grow p q (g ∷ gs) each = omega (arith, counts_grow p q gs each, count p g gs, count q g gs, each g)

counts_differ : (p q : Rect → Bool) (gs : List Rect) (i : ℕ) (d : Rect) → ((g : Rect) → cond (p g) 1 0 ≤ cond (q g) 1 0) → i < length gs
    → cond (p (get_or gs i d)) 1 0 < cond (q (get_or gs i d)) 1 0 → count_by p gs < count_by q gs
counts_differ p q [] i d each within less = absurd (omega arith)
counts_differ p q (g ∷ gs) zero d each within less = omega (arith, counts_grow p q gs each, count p g gs, count q g gs, less)
counts_differ p q (g ∷ gs) (suc i) d each within less =
    omega (arith, counts_differ p q gs i d each (omega arith) less, count p g gs, count q g gs, each g)

tests_grow : (c : Bool) (m a b : ℕ) → a ≤ b → cond (c && leb m a) 1 0 ≤ cond (c && leb m b) 1 0
tests_grow true m a b order = grind (arith, nat_tests)
tests_grow false m a b order = omega arith

tests_differ : (c : Bool) (m a b : ℕ) → a < b → m ≡ b → c ≡ true → cond (c && leb m a) 1 0 < cond (c && leb m b) 1 0
tests_differ true m a b order is crossed = grind (arith, nat_tests)
tests_differ false m a b order is crossed = absurd (false≢true crossed)

-- columns come in the order of segments
pub columns_grow : (slope offset : ℤ) (gutters : List Rect) (a b : ℕ) → a ≤ b → column_of_segment slope offset gutters a ≤ column_of_segment slope offset gutters b
columns_grow slope offset gutters a b order =
    counts_grow (λ g. is_crossed slope offset g && leb (segment_of gutters (middle_of g)) a) (λ g. is_crossed slope offset g && leb (segment_of gutters (middle_of g)) b) gutters
    (λ g. tests_grow (is_crossed slope offset g) (segment_of gutters (middle_of g)) a b order)

-- and a crossed gutter parts them
pub columns_differ : (slope offset : ℤ) (gutters : List Rect) (i a b : ℕ) (d : Rect) → i < length gutters → a < b → segment_of gutters (middle_of (get_or gutters i d)) ≡ b
    → is_crossed slope offset (get_or gutters i d) ≡ true → column_of_segment slope offset gutters a < column_of_segment slope offset gutters b
columns_differ slope offset gutters i a b d within less is crossed =
    counts_differ (λ g. is_crossed slope offset g && leb (segment_of gutters (middle_of g)) a) (λ g. is_crossed slope offset g && leb (segment_of gutters (middle_of g)) b) gutters i d
    (λ g. tests_grow (is_crossed slope offset g) (segment_of gutters (middle_of g)) a b (omega (arith, less))) within
    (tests_differ (is_crossed slope offset (get_or gutters i d)) (segment_of gutters (middle_of (get_or gutters i d))) a b less is crossed)

both_true : (x y : Bool) → (x ≡ false → ⊥) → (y ≡ false → ⊥) → (x && y) ≡ true
both_true true true p q = refl
both_true true false p q = absurd (q refl)
both_true false y p q = absurd (p refl)

pub is_cut : (slope offset : ℤ) (g : Rect) → Crosses slope offset g → is_crossed slope offset g ≡ true
is_cut slope offset g crosses =
    both_true (int_lt (pos g.y0) (height_at slope offset (middle_of g))) (int_le (height_at slope offset (middle_of g)) (pos g.y1))
    (λ e. not_below (pos g.y0) (height_at slope offset (middle_of g)) crosses.below_top e)
    (λ e. not_above (height_at slope offset (middle_of g)) (pos g.y1) crosses.above_foot e)
  where
    not_below : (a b : ℤ) → a <ℤ b → int_lt a b ≡ false → ⊥
    not_below a b less e = omega (arith, ints)

    not_above : (a b : ℤ) → a ≤ℤ b → int_le a b ≡ false → ⊥
    not_above a b low e = omega (arith, ints)

other : (c k w : ℕ) → c < k → cond (eqb c k) w 0 ≡ 0
other c k w less = grind (arith, nat_tests)

-- a column that none of the first segments has reached has nothing yet
pub of_empty : (col amount : ℕ → ℕ) (k n : ℕ) → ((s : ℕ) → s < n → col s < k) → of_column col amount k n ≡ 0
of_empty col amount k zero none = of_none col amount k
of_empty col amount k (suc n) none =
    let more : of_column col amount k (n + 1) ≡ of_column col amount k n + cond (eqb (col n) k) (amount n) 0 = of_next col amount k n in
    omega (arith, ap (of_column col amount k) (next n), more, other (col n) k (amount n) (none n (omega arith)), of_empty col amount k n (λ s less. none s (omega (arith, less))))
  where
    next : (n : ℕ) → suc n ≡ n + 1
    next n = omega arith

same_here : (c w : ℕ) → cond (eqb c c) w 0 ≡ w
same_here c w = grind (arith, nat_tests)

differs_here : (c k w : ℕ) → (k ≡ c → ⊥) → cond (eqb c k) w 0 ≡ 0
differs_here c k w differs = grind (arith, nat_tests)

of_kept : (col amount : ℕ → ℕ) (k n : ℕ) → (k ≡ col n → ⊥) → of_column col amount k (n + 1) ≡ of_column col amount k n
of_kept col amount k n differs = omega (arith, of_next col amount k n, differs_here (col n) k (amount n) differs)

of_joined : (col amount : ℕ → ℕ) (k n : ℕ) → k ≡ col n → of_column col amount k (n + 1) ≡ of_column col amount (col n) n + amount n
of_joined col amount k n same =
    omega (
      arith,
      of_next col amount k n,
      ap (λ (c : ℕ). of_column col amount c n) same,
      ap (λ (c : ℕ). cond (eqb (col n) c) (amount n) 0) same,
      same_here (col n) (amount n),
    )

-- the sum has what the column of the next segment has, once it has what the column of this one has
pub next_column : (col amount : ℕ → ℕ) → ((a b : ℕ) → a ≤ b → col a ≤ col b) → (n sum new_sum : ℕ) → new_sum ≡ sum + amount n → of_column col amount (col n) n ≤ sum
    → of_column col amount (col (n + 1)) (n + 1) ≤ new_sum
next_column col amount grows n sum new_sum sum_is here =
    let k : ℕ = col (n + 1) in
    ⊎_elim
    (λ same. omega (arith, of_joined col amount k n same, sum_is, here))
    (λ differs.
    let less : col n < k = omega (arith, differs, grows n (n + 1) (omega arith)) in
    omega (arith, of_kept col amount k n differs, of_empty col amount k n (λ s before. omega (arith, less, grows s n (omega (arith, before))))))
    (cases_eq k (col n))

-- a part that is done with has what the first segments add to the column, place by place
pub record IsPassed (col : ℕ → ℕ) (amount : ℕ → ℕ → ℕ) (all k n : ℕ) (done : List ℕ → Type 0) : Type 0 where
  pub part : List ℕ
  pub enough : (place : ℕ) → place < all → of_column col (amount place) k n ≤ get_or part place 0
  pub low : done part

-- or the sums have it
abbrev pub IsCovered : (ℕ → ℕ) → (ℕ → ℕ → ℕ) → ℕ → ℕ → ℕ → (List ℕ → Type 0) → List ℕ → Type 0
IsCovered col amount all k n done sums =
    IsPassed col amount all k n done ⊎ ((place : ℕ) → place < all → of_column col (amount place) k n ≤ get_or sums place 0)

-- a part ends: the sums are done with
pub all_passed : (col : ℕ → ℕ) (amount : ℕ → ℕ → ℕ) (all k n : ℕ) (was done : List ℕ → Type 0) (sums : List ℕ)
    → ((part : List ℕ) → was part → done part) → done sums → IsCovered col amount all k n was sums → IsPassed col amount all k n done
all_passed col amount all k n was done sums still low held = ⊎_elim
    (λ (passed : IsPassed col amount all k n was). record { part = passed.part; enough = passed.enough; low = still passed.part passed.low })
    (λ (here : (place : ℕ) → place < all → of_column col (amount place) k n ≤ get_or sums place 0). record { part = sums; enough = here; low = low })
    held

-- one segment more: its column is in the sums, and the others are where they were
pub covered_more : (col : ℕ → ℕ) (amount : ℕ → ℕ → ℕ) (all k n : ℕ) (done : List ℕ → Type 0) (sums new_sums : List ℕ)
    → ((place : ℕ) → place < all → get_or new_sums place 0 ≡ get_or sums place 0 + amount place n)
    → ((place : ℕ) → place < all → of_column col (amount place) (col n) n ≤ get_or sums place 0)
    → IsCovered col amount all k n done sums → IsCovered col amount all k (n + 1) done new_sums
covered_more col amount all k n done sums new_sums added here held = ⊎_elim
    (λ same. inr (λ place less. omega (arith, of_joined col (amount place) k n same, here place less, added place less)))
    (λ differs. ⊎_elim
    (λ (passed : IsPassed col amount all k n done). inl (record {
      part = passed.part;
      enough = λ place less. omega (arith, of_kept col (amount place) k n differs, passed.enough place less);
      low = passed.low;
    }))
    (λ (in_sums : (place : ℕ) → place < all → of_column col (amount place) k n ≤ get_or sums place 0).
    inr (λ place less. omega (arith, of_kept col (amount place) k n differs, in_sums place less, added place less)))
    held)
    (cases_eq k (col n))
