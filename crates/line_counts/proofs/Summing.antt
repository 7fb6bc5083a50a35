-- Sums of the first numbers, and what counts weigh for a line and for that of its descenders.
use Rattle.std.proofs.Common.{◌≡◌, ℕ, zero, suc, ◌+◌, ◌-◌, ◌*◌, ◌<◌, ◌≤◌, min, max, Bool, true, false, cond, eqb, List, get_or, arith, refl, sym, ◌∙◌, ap, ⊎_elim}
use Rattle.std.proofs.Math.Nat.{mul-le-mul}
use Rattle.std.proofs.lemmas.List.FromFn.{sum_by-map-range_with_len_more}
use Rattle.std.proofs.lemmas.Bool.{cases_lt}
use Rattle.line_quality.specs.Points.{weight_at}
use Rattle.line_counts.specs.Fits.{apart, weight_behind}
use Rattle.line_counts.specs.Tops.{sum_to, of_column, weighed, common_weight}

next : (n : ℕ) → suc n ≡ n + 1
next n = omega arith

pub to_none : (f : ℕ → ℕ) → sum_to f 0 ≡ 0
to_none f = refl

pub to_next : (f : ℕ → ℕ) (n : ℕ) → sum_to f (n + 1) ≡ sum_to f n + f n
to_next f n = sum_by-map-range_with_len_more (λ (x : ℕ). x) f 0 n n (omega arith)

to_suc : (f : ℕ → ℕ) (n : ℕ) → sum_to f (suc n) ≡ sum_to f n + f n
to_suc f n = ap (sum_to f) (next n) ∙ to_next f n

pub to_same : (f g : ℕ → ℕ) (n : ℕ) → ((k : ℕ) → k < n → f k ≡ g k) → sum_to f n ≡ sum_to g n
to_same f g zero each = refl
to_same f g (suc n) each = omega (arith, to_suc f n, to_suc g n, each n (omega arith), to_same f g n (λ k less. each k (omega (arith, less))))

pub to_low : (f g : ℕ → ℕ) (n : ℕ) → ((k : ℕ) → k < n → f k ≤ g k) → sum_to f n ≤ sum_to g n
to_low f g zero each = omega (arith, to_none f, to_none g)
to_low f g (suc n) each = omega (arith, to_suc f n, to_suc g n, each n (omega arith), to_low f g n (λ k less. each k (omega (arith, less))))

-- two sums are the sum of both
pub to_two : (f g h i : ℕ → ℕ) (n : ℕ) → ((k : ℕ) → k < n → f k + g k ≡ h k + i k) → sum_to f n + sum_to g n ≡ sum_to h n + sum_to i n
to_two f g h i zero each = refl
to_two f g h i (suc n) each =
    omega (arith, to_suc f n, to_suc g n, to_suc h n, to_suc i n, each n (omega arith), to_two f g h i n (λ k less. each k (omega (arith, less))))

more_behind : (m n : ℕ) → m + suc n ≡ suc (m + n)
more_behind m n = omega arith

-- a sum of the first and of those behind them
pub to_parts : (f : ℕ → ℕ) (m n : ℕ) → sum_to f (m + n) ≡ sum_to f m + sum_to (λ k. f (m + k)) n
to_parts f m zero =
    let same : m + 0 ≡ m = omega arith in
    omega (arith, ap (sum_to f) same, to_none (λ k. f (m + k)))
to_parts f m (suc n) =
    omega (arith, ap (sum_to f) (more_behind m n), to_suc f (m + n), to_suc (λ k. f (m + k)) n, to_parts f m n)

pub to_zero : (f : ℕ → ℕ) (n : ℕ) → ((k : ℕ) → k < n → f k ≡ 0) → sum_to f n ≡ 0
to_zero f zero none = to_none f
to_zero f (suc n) none = omega (arith, to_suc f n, none n (omega arith), to_zero f n (λ k less. none k (omega (arith, less))))

-- more of them are no less
pub to_more : (f : ℕ → ℕ) (m n : ℕ) → m ≤ n → sum_to f m ≤ sum_to f n
to_more f m zero order =
    let none : m ≡ 0 = omega (arith, order) in
    omega (arith, ap (sum_to f) none)
to_more f m (suc n) order = ⊎_elim
    (λ less. omega (arith, to_suc f n, to_more f m n (omega (arith, less))))
    (λ more.
    let all : m ≡ suc n = omega (arith, order, more) in
    omega (arith, ap (sum_to f) all))
    (cases_lt m (suc n))

-- columns
pub of_none : (col f : ℕ → ℕ) (k : ℕ) → of_column col f k 0 ≡ 0
of_none col f k = refl

pub of_next : (col f : ℕ → ℕ) (k n : ℕ) → of_column col f k (n + 1) ≡ of_column col f k n + cond (eqb (col n) k) (f n) 0
of_next col f k n = to_next (λ s. cond (eqb (col s) k) (f s) 0) n

cond_times : (b : Bool) (x y w : ℕ) → cond b (x + y * w) 0 ≡ cond b x 0 + cond b y 0 * w
cond_times true x y w = refl
cond_times false x y w = omega arith

times_more : (w a b c d e f : ℕ) → a ≡ b + c * w → d ≡ e + f * w → a + d ≡ (b + e) + (c + f) * w
times_more w a b c d e f first second = omega (arith, first, second)

-- a column of sums is the sum of columns
pub of_times : (col f g h : ℕ → ℕ) (w k n : ℕ) → ((s : ℕ) → h s ≡ f s + g s * w) → of_column col h k n ≡ of_column col f k n + of_column col g k n * w
of_times col f g h w k zero each = omega arith
of_times col f g h w k (suc n) each =
    ap (of_column col h k) (next n)
    ∙ of_next col h k n
    ∙ times_more w (of_column col h k n) (of_column col f k n) (of_column col g k n) (cond (eqb (col n) k) (h n) 0) (cond (eqb (col n) k) (f n) 0) (cond (eqb (col n) k) (g n) 0)
    (of_times col f g h w k n each)
    (ap (λ (x : ℕ). cond (eqb (col n) k) x 0) (each n) ∙ cond_times (eqb (col n) k) (f n) (g n) w)
    ∙ ap (λ (x : ℕ). x + (of_column col g k n + cond (eqb (col n) k) (g n) 0) * w) (sym (of_next col f k n) ∙ ap (of_column col f k) (sym (next n)))
    ∙ ap (λ (x : ℕ). of_column col f k (suc n) + x * w) (sym (of_next col g k n) ∙ ap (of_column col g k) (sym (next n)))

zero_cond : (b : Bool) (x : ℕ) → x ≡ 0 → cond b x 0 ≡ 0
zero_cond true x none = none
zero_cond false x none = refl

pub of_zero : (col f : ℕ → ℕ) (k n : ℕ) → ((s : ℕ) → f s ≡ 0) → of_column col f k n ≡ 0
of_zero col f k n none = to_zero (λ s. cond (eqb (col s) k) (f s) 0) n (λ s _. zero_cond (eqb (col s) k) (f s) (none s))

pub of_same : (col f g : ℕ → ℕ) (k n : ℕ) → ((s : ℕ) → f s ≡ g s) → of_column col f k n ≡ of_column col g k n
of_same col f g k n each = to_same (λ s. cond (eqb (col s) k) (f s) 0) (λ s. cond (eqb (col s) k) (g s) 0) n (λ s _. ap (λ (x : ℕ). cond (eqb (col s) k) x 0) (each s))

pub times_low : (a b w : ℕ) → a ≤ b → a * w ≤ b * w
times_low a b w low =
    let same : w ≤ w = omega arith in
    mul-le-mul low same

-- what a box weighs at a place, for the line, for its descenders and for both
far_from : (gap : ℕ) → 5 ≤ gap → weight_at gap ≡ 0
far_from gap far = let squares : 5 * 5 ≤ gap * gap = mul-le-mul far far in omega arith

nearer_far : (a b : ℕ) → 5 ≤ b → weight_at (min a b) ≡ weight_at (min a a)
nearer_far a b far = ⊎_elim
    (λ less.
    let near : min a b ≡ min a a = omega (arith, less) in
    ap weight_at near)
    (λ more. far_from (min a b) (omega (arith, far, more)) ∙ sym (far_from (min a a) (omega (arith, far, more))))
    (cases_lt a b)

both_of : (f : ℕ → ℕ) (a b : ℕ) → f (min a b) + f (max a b) ≡ f (min a a) + f (min b b)
both_of f a b = ⊎_elim
    (λ less.
    let e : f (min a b) ≡ f (min a a) = ap f (omega (arith, less)) in
    let g : f (max a b) ≡ f (min b b) = ap f (omega (arith, less)) in
    omega (arith, e, g))
    (λ more.
    let e : f (min a b) ≡ f (min b b) = ap f (omega (arith, more)) in
    let g : f (max a b) ≡ f (min a a) = ap f (omega (arith, more)) in
    omega (arith, e, g))
    (cases_lt a b)

-- before the descenders, only the line counts
before_descenders : (depth k : ℕ) → k < depth → weight_behind depth k ≡ weight_behind 0 k
before_descenders depth k less = nearer_far (apart 4 k) (apart (4 + depth) k) (omega (arith, less))

at_descenders : (depth j : ℕ) → weight_behind depth (depth + j) + common_weight depth j ≡ weight_behind 0 (depth + j) + weight_behind 0 j
at_descenders depth j =
    let same : apart (4 + depth) (depth + j) ≡ apart 4 j = omega arith in
    let here : weight_behind depth (depth + j) ≡ weight_at (min (apart 4 (depth + j)) (apart 4 j)) = ap (λ (n : ℕ). weight_at (min (apart 4 (depth + j)) n)) same in
    omega (arith, here, both_of weight_at (apart 4 (depth + j)) (apart 4 j))

no_line : (k : ℕ) → 9 ≤ k → weight_behind 0 k ≡ 0
no_line k far = far_from (min (apart 4 k) (apart (4 + 0) k)) (omega (arith, far))

pub common_none : (depth j : ℕ) → 9 ≤ depth + j → common_weight depth j ≡ 0
common_none depth j far = far_from (max (apart 4 (depth + j)) (apart 4 j)) (omega (arith, far))

weight_falls : (a b : ℕ) → a ≤ b → weight_at b ≤ weight_at a
weight_falls a b further = let squares : a * a ≤ b * b = mul-le-mul further further in omega (arith, squares)

pub common_low : (depth j : ℕ) → common_weight depth j ≤ weight_behind 0 j
common_low depth j = weight_falls (min (apart 4 j) (apart (4 + 0) j)) (max (apart 4 (depth + j)) (apart 4 j)) (omega arith)

pub common_small : (depth j : ℕ) → common_weight depth j ≤ 25
common_small depth j = omega arith

times_two : (x a b c d : ℕ) → a + b ≡ c + d → x * a + x * b ≡ x * c + x * d
times_two x a b c d same = omega (arith, ap (λ (n : ℕ). x * n) same)

times_same : (x a b : ℕ) → a ≡ b → x * a ≡ x * b
times_same x a b same = ap (λ (n : ℕ). x * n) same

nothing_of : (x w : ℕ) → w ≡ 0 → x * w ≡ 0
nothing_of x w none = omega (arith, ap (λ (n : ℕ). x * n) none)

both_times : (x y a b c d : ℕ) → x ≡ y → a + b ≡ c + d → x * a + b * y ≡ x * c + y * d
both_times x y a b c d same sums = rw (same) (turned_two y a b c d sums)
  where
    turned_two : (y a b c d : ℕ) → a + b ≡ c + d → y * a + b * y ≡ y * c + y * d
    turned_two y a b c d sums = omega (arith, ap (λ (n : ℕ). y * n) sums)

turned_low : (a b x : ℕ) → a ≤ b → a * x ≤ x * b
turned_low a b x low = omega (arith, times_low a b x low)

none_times : (w x : ℕ) → w ≡ 0 → w * x ≡ 0
none_times w x none = omega (arith, ap (λ (n : ℕ). n * x) none)

at_depth : (more depth j : ℕ) → more + (depth + j) ≡ more + depth + j
at_depth more depth j = omega arith

nine_behind : (depth : ℕ) → 2 * 4 + depth + 1 ≡ depth + 9
nine_behind depth = omega arith

behind_nine : (depth : ℕ) → depth + 9 ≡ 9 + depth
behind_nine depth = omega arith

common_sum : (a b c d e f g h : ℕ) → a ≡ b + c → d ≡ e → e ≡ b + f → c + g ≡ f + h → a + g ≡ d + h
common_sum a b c d e f g h one two three four = omega (arith, one, two, three, four)

-- what counts weigh for a line, and once more what weighs something for both, is what they weigh for the line and for that of its
-- descenders
pub weighs_both : (counts : List ℕ) (more depth : ℕ)
    → weighed counts more depth + sum_to (λ j. common_weight depth j * get_or counts (more + depth + j) 0) 9
    ≡ weighed counts more 0 + weighed counts (more + depth) 0
weighs_both counts more depth =
    let x : ℕ → ℕ = λ k. get_or counts (more + k) 0 in
    let deep : ℕ → ℕ = λ k. get_or counts (more + k) 0 * weight_behind depth k in
    let flat : ℕ → ℕ = λ k. get_or counts (more + k) 0 * weight_behind 0 k in
    let below : ℕ → ℕ = λ j. get_or counts (more + depth + j) 0 * weight_behind 0 j in
    let both : ℕ → ℕ = λ j. common_weight depth j * get_or counts (more + depth + j) 0 in
    let whole : sum_to deep (depth + 9) ≡ sum_to deep depth + sum_to (λ j. deep (depth + j)) 9 = to_parts deep depth 9 in
    let line : sum_to flat (depth + 9) ≡ sum_to flat depth + sum_to (λ j. flat (depth + j)) 9 = to_parts flat depth 9 in
    let rest : sum_to flat (9 + depth) ≡ sum_to flat 9 + sum_to (λ j. flat (9 + j)) depth = to_parts flat 9 depth in
    let none : sum_to (λ j. flat (9 + j)) depth ≡ 0 =
    to_zero (λ j. flat (9 + j)) depth (λ j _. nothing_of (x (9 + j)) (weight_behind 0 (9 + j)) (no_line (9 + j) (omega arith))) in
    let first : sum_to deep depth ≡ sum_to flat depth =
    to_same deep flat depth (λ k less. times_same (x k) (weight_behind depth k) (weight_behind 0 k) (before_descenders depth k less)) in
    let second : sum_to (λ j. deep (depth + j)) 9 + sum_to both 9 ≡ sum_to (λ j. flat (depth + j)) 9 + sum_to below 9 =
    to_two (λ j. deep (depth + j)) both (λ j. flat (depth + j)) below 9
    (λ j _.
    let same : x (depth + j) ≡ get_or counts (more + depth + j) 0 = ap (λ (k : ℕ). get_or counts k 0) (at_depth more depth j) in
    both_times (x (depth + j)) (get_or counts (more + depth + j) 0) (weight_behind depth (depth + j)) (common_weight depth j) (weight_behind 0 (depth + j)) (weight_behind 0 j) same (at_descenders depth j)) in
    let deep_is : weighed counts more depth ≡ sum_to deep (depth + 9) = ap (sum_to deep) (nine_behind depth) in
    let turned : sum_to flat (depth + 9) ≡ sum_to flat (9 + depth) = ap (sum_to flat) (behind_nine depth) in
    omega (arith, whole, line, rest, none, first, second, deep_is, turned)

-- so they weigh no more for a line than for both
pub weighs_less : (counts : List ℕ) (more depth : ℕ) → weighed counts more depth ≤ weighed counts more 0 + weighed counts (more + depth) 0
weighs_less counts more depth = no_more (weighed counts more depth) _ _ (weighs_both counts more depth)
  where
    no_more : (a b c : ℕ) → a + b ≡ c → a ≤ c
    no_more a b c is = omega (arith, is)

-- and that is no more than what they weigh for the descenders
pub common_sum_low : (counts : List ℕ) (place depth count : ℕ) → count ≤ 9
    → sum_to (λ j. common_weight depth j * get_or counts (place + j) 0) count ≤ weighed counts place 0
common_sum_low counts place depth count few =
    let both : ℕ → ℕ = λ j. common_weight depth j * get_or counts (place + j) 0 in
    let below : ℕ → ℕ = λ j. get_or counts (place + j) 0 * weight_behind 0 j in
    omega (arith, to_more both count 9 few, to_low both below 9 (λ j _. turned_low (common_weight depth j) (weight_behind 0 j) (get_or counts (place + j) 0) (common_low depth j)))

-- none of it comes from behind
pub common_sum_all : (counts : List ℕ) (place depth count : ℕ) → count ≤ 9 → 9 ≤ depth + count
    → sum_to (λ j. common_weight depth j * get_or counts (place + j) 0) 9 ≡ sum_to (λ j. common_weight depth j * get_or counts (place + j) 0) count
common_sum_all counts place depth count few far =
    let both : ℕ → ℕ = λ j. common_weight depth j * get_or counts (place + j) 0 in
    let left : ℕ = 9 - count in
    let all : count + left ≡ 9 = omega (arith, few) in
    omega (
      arith,
      ap (sum_to both) all,
      to_parts both count left,
      to_zero (λ j. both (count + j)) left (λ j _. none_times (common_weight depth (count + j)) (get_or counts (place + (count + j)) 0) (common_none depth (count + j) (omega (arith, far)))),
    )

-- counts weigh no more than if each box stood on the line
weight_low : (depth k : ℕ) → weight_behind depth k ≤ 25
weight_low depth k = omega arith

twenty_five : (x w : ℕ) → w ≤ 25 → x * w ≤ 25 * x
twenty_five x w low = omega (arith, times_low w 25 x low)

to_times : (f : ℕ → ℕ) (w n : ℕ) → sum_to (λ k. w * f k) n ≡ w * sum_to f n
to_times f w zero = omega arith
to_times f w (suc n) =
    omega (arith, to_suc (λ k. w * f k) n, ap (λ (s : ℕ). w * s) (to_suc f n), to_times f w n)

small_sum : (f : ℕ → ℕ) (n : ℕ) → ((k : ℕ) → f k ≤ 119601375) → sum_to f n ≤ n * 119601375
small_sum f zero each = omega (arith, to_none f)
small_sum f (suc n) each = omega (arith, to_suc f n, each n, small_sum f n each)

-- small counts weigh little for the line of no depth
pub bell_small : (counts : List ℕ) (place : ℕ) → ((k : ℕ) → get_or counts k 0 ≤ 4784055) → weighed counts place 0 ≤ 2000000000
bell_small counts place small =
    omega (
      arith,
      small_sum (λ k. get_or counts (place + k) 0 * weight_behind 0 k) (2 * 4 + 0 + 1)
          (λ k. omega (arith, twenty_five (get_or counts (place + k) 0) (weight_behind 0 k) (weight_low 0 k), small (place + k))),
    )

pub weighs_all : (counts : List ℕ) (more depth all : ℕ) → more + (2 * 4 + depth + 1) ≤ all → weighed counts more depth ≤ 25 * sum_to (λ place. get_or counts place 0) all
weighs_all counts more depth all inside =
    let x : ℕ → ℕ = λ place. get_or counts place 0 in
    let count : ℕ = 2 * 4 + depth + 1 in
    omega (
      arith,
      to_low (λ k. x (more + k) * weight_behind depth k) (λ k. 25 * x (more + k)) count (λ k _. twenty_five (x (more + k)) (weight_behind depth k) (weight_low depth k)),
      to_times (λ k. x (more + k)) 25 count,
      to_parts x more count,
      to_more x (more + count) all inside,
    )
