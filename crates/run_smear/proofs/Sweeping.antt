-- Columns that a sweep over rows knows.
use Rattle.std.proofs.Common.{◌≡◌, ◌<◌, ◌≤◌, ℕ, ◌+◌, ◌-◌, true, false, List, length, get_or, ◌⊎◌, inl, inr, refl, sym, ap, subst, ◌∙◌, arith}
use Rattle.std.proofs.lemmas.Bool.{cases_lt, cases_eq, cases_Bool, both_ways}
use Rattle.packed_rows.specs.Page.{Page}
use Rattle.page_runs.specs.declared.row_runs.Run.{Run}
use Rattle.page_runs.specs.Runs.{run_at, AreApart, AreRunsOf}
use Rattle.run_smear.specs.declared.fills.Fill.{Fill}
use Rattle.run_smear.specs.Smear.{IsStretch}
use Rattle.run_smear.specs.Painted.{IsBetween}
use Rattle.run_smear.specs.Columns.{HasFill, IsGap, Closes, IsInRuns, IsBehind, IsSwept}

-- ---- columns that end their gaps in one row

-- one part after the other
pub closes_both : (A B C : ℕ → Type 0) (y most : ℕ) (behind mid now : List ℕ) (fills some more : List Fill)
    → Closes A y most behind mid fills some → Closes B y most mid now some more → ((k : ℕ) → A k → B k → ⊥)
    → ((k : ℕ) → A k → C k) → ((k : ℕ) → B k → C k) → ((k : ℕ) → C k → A k ⊎ B k) → Closes C y most behind now fills more
closes_both A B C y most behind mid now fills some more first second apart in_a in_b either = record {
  len = second.len ∙ first.len;
  ended = λ k c. elim (either k c) [
    | inl a ↦ second.same k (λ b. apart k a b) ∙ first.ended k a
    | inr b ↦ second.ended k b
  ];
  same = λ k none. second.same k (λ b. none (in_b k b)) ∙ first.same k (λ a. none (in_a k a));
  kept = λ k t f has. second.kept k t f (first.kept k t f has);
  filled = λ k c gap. elim (either k c) [
    | inl a ↦ second.kept k (get_or behind k 0) y (first.filled k a gap)
    | inr b ↦
        let was : get_or mid k 0 ≡ get_or behind k 0 = first.same k (λ a. apart k a b) in
        subst (λ (t : ℕ). HasFill more k t y) was (second.filled k b (subst (λ (t : ℕ). IsGap t y most) (sym was) gap))
  ];
  only = λ k t f has. elim (second.only k t f has) [
    | inl before ↦ elim (first.only k t f before) [ inl was ↦ inl was | inr new ↦ inr (in_a k new.0, new.1, new.2, new.3) ]
    | inr new ↦ inr (in_b k new.0, new.1, new.2 ∙ first.same k (λ a. apart k a new.0), new.3)
  ];
}

pub closes_none : (A : ℕ → Type 0) (y most : ℕ) (behind : List ℕ) (fills : List Fill) → ((k : ℕ) → A k → ⊥) → Closes A y most behind behind fills fills
closes_none A y most behind fills none = record {
  len = refl;
  ended = λ k a. absurd (none k a);
  same = λ k other. refl;
  kept = λ k t f has. has;
  filled = λ k a gap. absurd (none k a);
  only = λ k t f has. inl has;
}

pub closes_as : (A C : ℕ → Type 0) (y most : ℕ) (behind now : List ℕ) (fills more : List Fill) → Closes A y most behind now fills more
    → ((k : ℕ) → A k → C k) → ((k : ℕ) → C k → A k) → Closes C y most behind now fills more
closes_as A C y most behind now fills more closes in_a back =
    closes_both A (λ k. ⊥) C y most behind now now fills more more closes (closes_none (λ k. ⊥) y most now more (λ k none. none))
    (λ k a none. none) in_a (λ k none. absurd none) (λ k c. inl (back k c))

-- a column more of a run
pub run_more : (from x y most : ℕ) (behind mid now : List ℕ) (fills some more : List Fill) → Closes (IsBetween from x) y most behind mid fills some → from ≤ x
    → Closes (λ k. k ≡ x) y most mid now some more → Closes (IsBetween from (x + 1)) y most behind now fills more
run_more from x y most behind mid now fills some more first right second =
    closes_both (IsBetween from x) (λ k. k ≡ x) (IsBetween from (x + 1)) y most behind mid now fills some more first second
    (λ k a b. omega (arith, a.1, b)) (λ k a. (a.0, omega (arith, a.1))) (λ k b. (omega (arith, b, right), omega (arith, b)))
    (λ k c. elim (cases_lt k x) [ inl left ↦ inl (c.0, left) | inr past ↦ inr (omega (arith, past, c.1)) ])

-- some columns more of a run
pub columns_more : (from x to y most : ℕ) (behind mid now : List ℕ) (fills some more : List Fill) → Closes (IsBetween from x) y most behind mid fills some → from ≤ x → x ≤ to
    → Closes (IsBetween x to) y most mid now some more → Closes (IsBetween from to) y most behind now fills more
columns_more from x to y most behind mid now fills some more first left right second =
    closes_both (IsBetween from x) (IsBetween x to) (IsBetween from to) y most behind mid now fills some more first second
    (λ k a b. omega (arith, a.1, b.0)) (λ k a. (a.0, omega (arith, a.1, right))) (λ k b. (omega (arith, b.0, left), b.1))
    (λ k c. elim (cases_lt k x) [ inl before ↦ inl (c.0, before) | inr past ↦ inr (past, c.1) ])

pub run_ended : (from x to y most : ℕ) (behind now : List ℕ) (fills more : List Fill) → Closes (IsBetween from x) y most behind now fills more
    → to ≤ x → (to ≤ from → x ≡ from) → (from ≤ to → x ≤ to) → Closes (IsBetween from to) y most behind now fills more
run_ended from x to y most behind now fills more closes past none within =
    closes_as (IsBetween from x) (IsBetween from to) y most behind now fills more closes
    (λ k a. elim (cases_lt from to) [
      | inl some ↦ (a.0, omega (arith, a.1, within (omega (arith, some))))
      | inr empty ↦ absurd (omega (arith, none empty, a.0, a.1))
    ])
    (λ k c. (c.0, omega (arith, c.1, past)))

-- a run more of a row
pub row_more : (width : ℕ) (runs : List Run) (count y most : ℕ) (behind mid now : List ℕ) (fills some more : List Fill) → AreApart width runs → count < length runs
    → Closes (IsInRuns runs count) y most behind mid fills some → Closes (IsBetween (run_at runs count).x0 (run_at runs count).x1) y most mid now some more
    → Closes (IsInRuns runs (count + 1)) y most behind now fills more
row_more width runs count y most behind mid now fills some more apart there first second =
    closes_both (IsInRuns runs count) (IsBetween (run_at runs count).x0 (run_at runs count).x1) (IsInRuns runs (count + 1)) y most behind mid now fills some more first second
    (λ k a b. omega (arith, a.right, b.0, apart.apart a.place count a.before there))
    (λ k a. record { place = a.place; before = omega (arith, a.before); left = a.left; right = a.right })
    (λ k b. record { place = count; before = omega arith; left = b.0; right = b.1 })
    either
  where
    either : (k : ℕ) → IsInRuns runs (count + 1) k → IsInRuns runs count k ⊎ IsBetween (run_at runs count).x0 (run_at runs count).x1 k
    either k c = elim (cases_lt c.place count) [
      | inl before ↦ inl (record { place = c.place; before = before; left = c.left; right = c.right })
      | inr late ↦
          let e : run_at runs c.place ≡ run_at runs count = ap (λ (n : ℕ). run_at runs n) (omega (arith, late, c.before)) in
          inr (omega (arith, c.left, ap (λ (r : Run). r.x0) e), omega (arith, c.right, ap (λ (r : Run). r.x1) e))
    ]

-- ---- a row more of a page

module _ (page : Page) (most first low y : ℕ) (runs : List Run) (behind now : List ℕ) (fills more : List Fill) (are : AreRunsOf page y runs) (order : first ≤ y)
    (was : IsSwept page most first low y behind fills) (closes : Closes (IsInRuns runs (length runs)) y most behind now fills more) where
  in_runs : (x : ℕ) → page.is_black x y ≡ true → IsInRuns runs (length runs) x
  in_runs x black = let at = are.every x black in record { place = at.0; before = at.1; left = at.2; right = at.3 }

  is_black : (x : ℕ) → IsInRuns runs (length runs) x → page.is_black x y ≡ true
  is_black x has = are.blacks has.place x has.before has.left has.right

  in_width : (x : ℕ) → IsInRuns runs (length runs) x → x < page.width
  in_width x has = omega (arith, has.right, are.apart.within has.place has.before)

  last_black : (x : ℕ) → page.is_black x y ≡ true → IsBehind page first (y + 1) x (get_or now x 0)
  last_black x black =
      let value = closes.ended x (in_runs x black) in
      let here : y + 1 - 1 ≡ y = omega arith in
      rw value (record {
        not_past = omega arith;
        black = λ some. (omega (arith, order), ap (λ (n : ℕ). page.is_black x n) here ∙ black);
        white = λ k from low below. absurd (omega (arith, from, below));
      })

  last_white : (x : ℕ) → x < page.width → page.is_black x y ≡ false → IsBehind page first (y + 1) x (get_or now x 0)
  last_white x inside white =
      let value = closes.same x (λ has. both_ways (page.is_black x y) white (is_black x has)) in
      let old = was.last x inside in
      rw value (record {
        not_past = omega (arith, old.not_past);
        black = old.black;
        white = λ k from low below. elim (cases_eq k y) [
          | inl here ↦ ap (λ (n : ℕ). page.is_black x n) here ∙ white
          | inr other ↦ old.white k from low (omega (arith, below, other))
        ];
      })

  gap_stretch : (x : ℕ) → IsInRuns runs (length runs) x → IsGap (get_or behind x 0) y most → IsStretch (λ k. page.is_black x k) (get_or behind x 0) y
  gap_stretch x has gap =
      let old = was.last x (in_width x has) in
      let begun = old.black gap.begins in
      record {
        some = gap.some;
        white = λ k from to. old.white k from (omega (arith, begun.0, from)) to;
        begins = gap.begins;
        before = begun.1;
        behind = is_black x has;
      }

  -- the row behind the last black one is where a stretch that ends here begins
  begins_there : (x top : ℕ) → x < page.width → IsStretch (λ k. page.is_black x k) top y → first < top → get_or behind x 0 ≡ top
  begins_there x top inside stretch low = elim (cases_lt (get_or behind x 0) top) [
    | inl less ↦
        absurd (both_ways (page.is_black x (top - 1)) (old.white (top - 1) (omega (arith, less)) (omega (arith, low)) (omega (arith, low, stretch.some))) stretch.before)
    | inr not_less ↦ elim (cases_lt top (get_or behind x 0)) [
      | inl more ↦
          absurd (both_ways (page.is_black x (get_or behind x 0 - 1)) (stretch.white (get_or behind x 0 - 1) (omega (arith, more)) (omega (arith, more, old.not_past)))
          (old.black (omega (arith, more))).1)
      | inr not_more ↦ omega (arith, not_less, not_more)
    ]
  ]
    where
      old : IsBehind page first y x (get_or behind x 0)
      old = was.last x inside

  pub row_swept : IsSwept page most first low (y + 1) now more
  row_swept = record {
    len = closes.len ∙ was.len;
    last = λ x inside. elim (cases_Bool (page.is_black x y)) [ inl black ↦ last_black x black | inr white ↦ last_white x inside white ];
    sound = λ x top foot has. elim (closes.only x top foot has) [
      | inl old ↦ was.sound x top foot old
      | inr new ↦
          rw (new.3, new.2) (
            gap_stretch x new.0 (subst (λ (n : ℕ). IsGap n y most) new.2 new.1),
            (subst (λ (n : ℕ). IsGap n y most) new.2 new.1).short,
          )
    ];
    complete = λ x top foot stretch short above below last. elim (cases_eq foot y) [
      | inl here ↦
          let ends : IsStretch (λ k. page.is_black x k) top y = subst (λ (f : ℕ). IsStretch (λ k. page.is_black x k) top f) here stretch in
          let has = in_runs x ends.behind in
          let from = begins_there x top (in_width x has) ends above in
          let gap : IsGap top y most = record { begins = ends.begins; some = ends.some; short = omega (arith, short, here) } in
          subst (λ (f : ℕ). HasFill more x top f) (sym here)
          (subst (λ (t : ℕ). HasFill more x t y) from (closes.filled x has (subst (λ (t : ℕ). IsGap t y most) (sym from) gap)))
      | inr other ↦ closes.kept x top foot (was.complete x top foot stretch short above below (omega (arith, last, other)))
    ];
  }

-- fills that end in this row or above it need not be known
pub swept_less : (page : Page) (most first low row y : ℕ) (behind : List ℕ) (fills less : List Fill) → IsSwept page most first low y behind fills → low ≤ row
    → ((k top foot : ℕ) → HasFill fills k top foot → row < foot → HasFill less k top foot) → ((k top foot : ℕ) → HasFill less k top foot → HasFill fills k top foot)
    → IsSwept page most first row y behind less
swept_less page most first low row y behind fills less was order kept only = record {
  len = was.len;
  last = was.last;
  sound = λ x top foot has. was.sound x top foot (only x top foot has);
  complete = λ x top foot stretch short above below last. kept x top foot (was.complete x top foot stretch short above (omega (arith, order, below)) last) below;
}
