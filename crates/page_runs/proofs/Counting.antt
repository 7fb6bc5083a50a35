-- Counting black pixels row by row.
use Rattle.std.proofs.Common.{◌≡◌, ◌≢◌, ℕ, zero, suc, ◌+◌, ◌-◌, ◌<◌, ◌≤◌, Bool, true, false, cond, eqb, ltb, ◌&&◌, List, [], ◌∷◌, ◌++◌, length, inl, inr, refl, sym, ap, ◌∙◌, arith}
use Rattle.std.specs.Prelude.{sum_by, count_by}
use Rattle.std.specs.List.{range_with_len, list_any}
use Rattle.std.proofs.lemmas.Bool.{cases_order}
use Rattle.std.proofs.lemmas.Bool.Decides.{nat_tests}
use Rattle.std.proofs.lemmas.List.Sums.{sum_by_push}
use Rattle.packed_rows.specs.Page.{Page, pixel}
use Rattle.page_runs.specs.declared.row_runs.Run.{Run}
use Rattle.page_runs.specs.Packed.{Packed, page_of, row_of, rows_of, Holds}
use Rattle.page_runs.specs.Runs.{has_column}
use Rattle.page_runs.proofs.Slices.{row_past}
use Rattle.page_runs.specs.Rows.{Given}
use Rattle.page_runs.specs.Black.{black_in, black_in_row, black_of}

range_more : (a n : ℕ) → range_with_len a (suc n) ≡ range_with_len a n ++ (a + n) ∷ []
range_more a zero = ap (λ (k : ℕ). k ∷ []) (omega arith)
range_more a (suc n) =
    let e : a + 1 + n ≡ a + suc n = omega arith in
    ap (λ (l : List ℕ). a ∷ l) (range_more (a + 1) n ∙ ap (λ (k : ℕ). range_with_len (a + 1) n ++ k ∷ []) e)

sum_more : (f : ℕ → ℕ) (n : ℕ) → sum_by f (range_with_len 0 (suc n)) ≡ sum_by f (range_with_len 0 n) + f n
sum_more f n =
    let e : 0 + n ≡ n = omega arith in
    ap (λ (l : List ℕ). sum_by f l) (range_more 0 n) ∙ sum_by_push f (range_with_len 0 n) (0 + n) ∙ ap (λ (k : ℕ). sum_by f (range_with_len 0 n) + f k) e

pub black_more : (bits : List ℕ) (x : ℕ) → black_in (x + 1) bits ≡ black_in x bits + cond (eqb (pixel bits x) 1) 1 0
black_more bits x =
    let e : x + 1 ≡ suc x = omega arith in
    ap (λ (n : ℕ). black_in n bits) e ∙ sum_more (λ k. cond (eqb (pixel bits k) 1) 1 0) x

-- from one column to another all pixels are black
pub black_run : (bits : List ℕ) (x more : ℕ) → ((k : ℕ) → x ≤ k → k < x + more → pixel bits k ≡ 1) → black_in (x + more) bits ≡ black_in x bits + more
black_run bits x zero all = let same : x + 0 ≡ x = omega arith in omega (arith, ap (λ (n : ℕ). black_in n bits) same)
black_run bits x (suc more) all =
    let next : x + suc more ≡ x + more + 1 = omega arith in
    let here : eqb (pixel bits (x + more)) 1 ≡ true = ap (λ (b : ℕ). eqb b 1) (all (x + more) (omega arith) (omega arith)) in
    let last : black_in (x + more + 1) bits ≡ black_in (x + more) bits + 1 = rw here at (black_more bits (x + more)) in
    omega (arith, ap (λ (n : ℕ). black_in n bits) next, last, black_run bits x more (λ k from to. all k from (omega (arith, to))))

-- from one column to another all pixels are white
pub white_run : (bits : List ℕ) (x more : ℕ) → ((k : ℕ) → x ≤ k → k < x + more → pixel bits k ≡ 0) → black_in (x + more) bits ≡ black_in x bits
white_run bits x zero all = let same : x + 0 ≡ x = omega arith in ap (λ (n : ℕ). black_in n bits) same
white_run bits x (suc more) all =
    let next : x + suc more ≡ x + more + 1 = omega arith in
    let here : eqb (pixel bits (x + more)) 1 ≡ false = ap (λ (b : ℕ). eqb b 1) (all (x + more) (omega arith) (omega arith)) in
    let last : black_in (x + more + 1) bits ≡ black_in (x + more) bits + 0 = rw here at (black_more bits (x + more)) in
    omega (arith, ap (λ (n : ℕ). black_in n bits) next, last, white_run bits x more (λ k from to. all k from (omega (arith, to))))

-- the white and the black pixels up to a column, and those of a run and of the white behind it
pub run_counted : (bits : List ℕ) (x end next : ℕ) → x ≤ end → end ≤ next → ((k : ℕ) → x ≤ k → k < end → pixel bits k ≡ 1) → ((k : ℕ) → end ≤ k → k < next → pixel bits k ≡ 0)
    → black_in next bits ≡ black_in x bits + (end - x)
run_counted bits x end next from on blacks whites =
    let to_end : x + (end - x) ≡ end = omega (arith, from) in
    let to_next : end + (next - end) ≡ next = omega (arith, on) in
    let black = black_run bits x (end - x) (λ k left right. blacks k left (omega (arith, right, to_end))) in
    let white = white_run bits end (next - end) (λ k left right. whites k left (omega (arith, right, to_next))) in
    omega (arith, black, white, ap (λ (n : ℕ). black_in n bits) to_end, ap (λ (n : ℕ). black_in n bits) to_next)

count_same : (p q : ℕ → Bool) (n : ℕ) → ((x : ℕ) → x < n → p x ≡ q x) → count_by p (range_with_len 0 n) ≡ count_by q (range_with_len 0 n)
count_same p q zero same = refl
count_same p q (suc n) same =
    sum_more (λ x. cond (p x) 1 0) n
    ∙ ap (λ (k : ℕ). k + cond (p n) 1 0) (count_same p q n (λ x lt. same x (omega arith)))
    ∙ ap (λ (b : Bool). count_by q (range_with_len 0 n) + cond b 1 0) (same n (omega arith))
    ∙ sym (sum_more (λ x. cond (q x) 1 0) n)

sum_same : (f g : ℕ → ℕ) (n : ℕ) → ((x : ℕ) → x < n → f x ≡ g x) → sum_by f (range_with_len 0 n) ≡ sum_by g (range_with_len 0 n)
sum_same f g zero same = refl
sum_same f g (suc n) same = omega (arith, sum_more f n, sum_more g n, sum_same f g n (λ x lt. same x (omega arith)), same n (omega arith))

-- sums that differ at one place
sum_other : (f g : ℕ → ℕ) (at d : ℕ) → f at ≡ g at + d → ((y : ℕ) → y ≢ at → f y ≡ g y) → (n : ℕ) → at < n
    → sum_by f (range_with_len 0 n) ≡ sum_by g (range_with_len 0 n) + d
sum_other f g at d here others zero less = absurd (omega (arith, less))
sum_other f g at d here others (suc n) less = elim (cases_order at n) [
  | inl last ↦
      let e : f n ≡ g n + d = ap f (sym last) ∙ here ∙ ap (λ (k : ℕ). g k + d) last in
      omega (arith, sum_more f n, sum_more g n, e, sum_same f g n (λ x lt. others x (λ same. omega (arith, same, last, lt))))
  | inr other ↦ elim other [
    | inl before ↦ omega (arith, sum_more f n, sum_more g n, sum_other f g at d here others n before, others n (λ same. omega (arith, same, before)))
    | inr after ↦ absurd (omega (arith, less, after))
  ]
]

count_none : (n : ℕ) → count_by (λ (x : ℕ). false) (range_with_len 0 n) ≡ 0
count_none zero = refl
count_none (suc n) = sum_more (λ (x : ℕ). cond false 1 0) n ∙ omega (arith, count_none n)

-- a page without rows has no black place
pub none_black : (page : Page) → ((x y : ℕ) → page.is_black x y ≡ false) → black_of page ≡ 0
none_black page white = none page.height
  where
    row : (y : ℕ) → black_in_row page y ≡ 0
    row y = count_same (λ x. page.is_black x y) (λ (x : ℕ). false) page.width (λ x lt. white x y) ∙ count_none page.width

    none : (n : ℕ) → sum_by (black_in_row page) (range_with_len 0 n) ≡ 0
    none zero = refl
    none (suc n) = sum_more (black_in_row page) n ∙ omega (arith, none n, row n)

-- the row under the last one that is there is white
next_white : (old : Packed) (x : ℕ) → (page_of old).is_black x (rows_of old) ≡ false
unfolding page_of rows_of row_of
next_white old x =
    let none = ap (λ (l : List Run). list_any (has_column x) l) (row_past old.runs old.ends (length old.ends) (omega arith)) in
    ap (λ (b : Bool). (ltb x old.width && ltb (length old.ends) old.height) && b) none ∙ and_false (ltb x old.width && ltb (length old.ends) old.height)
  where
    and_false : (b : Bool) → (b && false) ≡ false
    and_false true = refl
    and_false false = refl

-- a row more has its black places more
pub row_counted : (old new : Packed) (bits : List ℕ) → Given old bits new → rows_of old < (page_of old).height
    → black_of (page_of new) ≡ black_of (page_of old) + black_in (page_of old).width bits
row_counted old new bits given more =
    let before = page_of old in
    let after = page_of new in
    let rows = rows_of old in
    let wide : (y : ℕ) → black_in_row after y ≡ count_by (λ x. after.is_black x y) (range_with_len 0 before.width) = λ y. ap (λ (n : ℕ). count_by (λ x. after.is_black x y) (range_with_len 0 n)) given.width_is in
    let now : black_in_row after rows ≡ black_in before.width bits =
    wide rows
    ∙ count_same (λ x. after.is_black x rows) (λ x. eqb (pixel bits x) 1) before.width
    (λ x lt. given.blacks x rows ∙ ap (λ (b : Bool). cond b (eqb (pixel bits x) 1) (before.is_black x rows)) (same_test rows)) in
    let was : black_in_row before rows ≡ 0 = count_same (λ x. before.is_black x rows) (λ (x : ℕ). false) before.width (λ x lt. next_white old x) ∙ count_none before.width in
    let here : black_in_row after rows ≡ black_in_row before rows + black_in before.width bits = omega (arith, now, was) in
    let others : (y : ℕ) → y ≢ rows → black_in_row after y ≡ black_in_row before y = λ y other.
    wide y
    ∙ count_same (λ x. after.is_black x y) (λ x. before.is_black x y) before.width
    (λ x lt. given.blacks x y ∙ ap (λ (b : Bool). cond b (eqb (pixel bits x) 1) (before.is_black x y)) (other_test y rows other)) in
    ap (λ (n : ℕ). sum_by (black_in_row after) (range_with_len 0 n)) given.height_is
    ∙ sum_other (black_in_row after) (black_in_row before) rows (black_in before.width bits) here others before.height more
  where
    same_test : (n : ℕ) → eqb n n ≡ true
    same_test n = grind (arith, nat_tests)

    other_test : (y n : ℕ) → y ≢ n → eqb y n ≡ false
    other_test y n other = grind (arith, nat_tests)

-- pages with the same places have the same number of black ones
pub held_black : (p : Packed) (page : Page) → Holds p page → black_of (page_of p) ≡ black_of page
held_black p page holds =
    let mine = page_of p in
    let row : (y : ℕ) → y < page.height → black_in_row mine y ≡ black_in_row page y = λ y below.
    ap (λ (n : ℕ). count_by (λ x. mine.is_black x y) (range_with_len 0 n)) holds.width_is
    ∙ count_same (λ x. mine.is_black x y) (λ x. page.is_black x y) page.width (λ x lt. holds.same x y lt below) in
    ap (λ (n : ℕ). sum_by (black_in_row mine) (range_with_len 0 n)) holds.height_is
    ∙ sum_same (black_in_row mine) (black_in_row page) page.height row
