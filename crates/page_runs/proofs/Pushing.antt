-- A page that got one more row.
use Rattle.std.proofs.Common.{◌≡◌, ◌<◌, ◌≤◌, ℕ, suc, ◌+◌, ◌-◌, Bool, true, false, cond, ◌&&◌, eqb, ltb, List, [], ◌∷◌, ◌++◌, length, get_or, take, drop, inl, inr, refl, sym, ap, subst, ◌∙◌, arith}
use Rattle.std.specs.List.{list_any}
use Rattle.std.proofs.lemmas.Bool.{lt-ltb, le-ltb, cases_lt, cases_order}
use Rattle.std.proofs.lemmas.Bool.Decides.{nat_tests}
use Rattle.std.proofs.lemmas.List.{get_or_default, length-append}
use Rattle.packed_rows.specs.Page.{pixel, IsPackedRow, IsPageSize}
use Rattle.page_runs.specs.declared.row_runs.Run.{Run}
use Rattle.page_runs.specs.Packed.{Packed, page_of, row_of, rows_of}
use Rattle.page_runs.specs.Runs.{has_column, AreApart, AreRunsOf, AreRunsOfBits}
use Rattle.page_runs.specs.Rows.{Given}
use Rattle.page_runs.specs.Black.{IsPacked, black_in}
use Rattle.page_runs.proofs.Slices.{from_at, to_at, from_kept, to_kept, to_new, row_kept, row_new, row_past}
use Rattle.page_runs.proofs.Blacks.{black_in_runs, runs_of_row}
use Rattle.page_runs.proofs.RowRuns.{runs_apart}
use Rattle.page_runs.proofs.Counting.{row_counted, none_black}

-- the runs that are read of a row that is there
pub row_read : (p : Packed) (black y from to : ℕ) (runs : List Run) → IsPacked p black → y < rows_of p → runs ≡ p.runs → from ≡ from_at p.ends y → to ≡ get_or p.ends y to
    → AreRunsOf (page_of p) y (take (to - from) (drop from runs))
unfolding rows_of row_of
row_read p black y from to runs is there all begins ends =
    let end : to ≡ to_at p.ends y = ends ∙ get_or_default p.ends y to 0 there in
    rw (all, begins, end) (runs_of_row p y (omega (arith, there, is.few)) (is.rows y there))

-- the page with the runs of one row more
abbrev pub with_row : Packed → List Run → Packed
with_row old more = record {
  width = old.width;
  height = old.height;
  runs = old.runs ++ more;
  ends = old.ends ++ length (old.runs ++ more) ∷ [];
}

module _ (old : Packed) (black : ℕ) (bits : List ℕ) (more : List Run) (was : IsPacked old black)
    (room : length old.ends < old.height) (row : IsPackedRow old.width bits) (are : AreRunsOfBits bits old.width old.width more) where
  abbrev rows : ℕ
  rows = length old.ends

  kept : (y : ℕ) → y < rows → row_of (with_row old more) y ≡ row_of old y
  unfolding row_of
  kept y there = row_kept old.runs more old.ends (length (old.runs ++ more)) y there (was.rises y there) (was.within y there)

  added : (y : ℕ) → y ≡ rows → row_of (with_row old more) y ≡ more
  unfolding row_of
  added y last = row_new old.runs more old.ends y last was.last

  past : (y : ℕ) → rows < y → row_of (with_row old more) y ≡ row_of old y
  unfolding row_of
  past y behind =
      row_past (old.runs ++ more) (old.ends ++ length (old.runs ++ more) ∷ []) y (omega (arith, behind, length-append old.ends (length (old.runs ++ more) ∷ [])))
      ∙ sym (row_past old.runs old.ends y (omega (arith, behind)))

  same_false : (b : Bool) → (b && false) ≡ false
  same_false true = refl
  same_false false = refl

  blacks : (x y : ℕ) → (page_of (with_row old more)).is_black x y ≡ cond (eqb y rows) (eqb (pixel bits x) 1) ((page_of old).is_black x y)
  unfolding page_of
  blacks x y =
      let size = ltb x old.width && ltb y old.height in
      let as_before : row_of (with_row old more) y ≡ row_of old y → eqb y rows ≡ false
      → (size && list_any (has_column x) (row_of (with_row old more) y)) ≡ cond (eqb y rows) (eqb (pixel bits x) 1) (size && list_any (has_column x) (row_of old y)) =
      λ same other. rw (same, other) refl in
      elim (cases_order y rows) [
        | inl last ↦
            let test : eqb y rows ≡ true = grind (arith, nat_tests) in
            let tall : ltb y old.height ≡ true = lt-ltb y old.height (omega (arith, last, room)) in
            elim (cases_lt x old.width) [
              | inl within ↦
                  rw (test, tall, lt-ltb x old.width within, added y last) (black_in_runs bits old.width more x are within)
              | inr wide ↦
                  let clear : eqb (pixel bits x) 1 ≡ false = ap (λ (n : ℕ). eqb n 1) (row.padding x wide) in
                  rw (test, clear, le-ltb x old.width wide) refl
            ]
        | inr other ↦ elim other [
          | inl there ↦ as_before (kept y there) (grind (arith, nat_tests))
          | inr behind ↦ as_before (past y behind) (grind (arith, nat_tests))
        ]
      ]

  pub given_more : Given old bits (with_row old more)
  unfolding page_of rows_of
  given_more = record {
    width_is = refl;
    height_is = refl;
    rows_is = length-append old.ends (length (old.runs ++ more) ∷ []);
    blacks = blacks;
  }

  rows_more : (y : ℕ) → y < length (with_row old more).ends → (y < rows → ⊥) → y ≡ rows
  rows_more y below late = elim (cases_lt y rows) [
    | inl there ↦ absurd (late there)
    | inr last ↦ omega (arith, last, below, length-append old.ends (length (old.runs ++ more) ∷ []))
  ]

  longer : length old.runs ≤ length (old.runs ++ more)
  longer = omega (arith, length-append old.runs more)

  rises_more : (y : ℕ) → y < length (with_row old more).ends → from_at (with_row old more).ends y ≤ to_at (with_row old more).ends y
  rises_more y below = elim (cases_lt y rows) [
    | inl there ↦ omega (arith, from_kept old.ends (length (old.runs ++ more)) y (omega (arith, there)), to_kept old.ends (length (old.runs ++ more)) y there, was.rises y there)
    | inr late ↦
        let last : y ≡ rows = rows_more y below (λ there. omega (arith, there, late)) in
        let from : from_at old.ends y ≡ length old.runs = ap (from_at old.ends) last ∙ was.last in
        omega (arith, from_kept old.ends (length (old.runs ++ more)) y (omega (arith, last)), to_new old.ends (length (old.runs ++ more)) y last, from, longer)
  ]

  within_more : (y : ℕ) → y < length (with_row old more).ends → to_at (with_row old more).ends y ≤ length (old.runs ++ more)
  within_more y below = elim (cases_lt y rows) [
    | inl there ↦ omega (arith, to_kept old.ends (length (old.runs ++ more)) y there, was.within y there, longer)
    | inr late ↦ omega (arith, to_new old.ends (length (old.runs ++ more)) y (rows_more y below (λ there. omega (arith, there, late))))
  ]

  apart_more : (y : ℕ) → y < length (with_row old more).ends → AreApart old.width (row_of (with_row old more) y)
  apart_more y below = elim (cases_lt y rows) [
    | inl there ↦ subst (AreApart old.width) (sym (kept y there)) (was.rows y there)
    | inr late ↦ subst (AreApart old.width) (sym (added y (rows_more y below (λ there. omega (arith, there, late))))) (runs_apart bits old.width more are)
  ]

  last_more : from_at (with_row old more).ends (length (with_row old more).ends) ≡ length (old.runs ++ more)
  last_more =
      let len : length (with_row old more).ends ≡ rows + 1 = length-append old.ends (length (old.runs ++ more) ∷ []) in
      let next : rows + 1 ≡ suc rows = omega arith in
      ap (from_at (with_row old more).ends) (len ∙ next) ∙ to_new old.ends (length (old.runs ++ more)) rows refl

  -- the invariant with the runs and the black places of the new row
  pub pushed : (count : ℕ) → count ≡ black_in old.width bits → count ≤ old.width → IsPacked (with_row old more) (black + count)
  unfolding page_of rows_of
  pushed count value narrow =
      let size : IsPageSize old.width old.height = was.size (omega (arith, room)) in
      let len : length (with_row old more).ends ≡ rows + 1 = length-append old.ends (length (old.runs ++ more) ∷ []) in
      record {
        unbegun = was.unbegun;
        size = was.size;
        few = omega (arith, room, len);
        rises = rises_more;
        within = within_more;
        last = last_more;
        rows = apart_more;
        many = omega (arith, was.many, length-append old.runs more, are.few, len, size.width_bound);
        counted = omega (arith, was.counted, value, row_counted old (with_row old more) bits given_more room);
        bound = omega (arith, was.bound, narrow, len, size.width_bound);
      }

no_row : (width height : ℕ) (x y : ℕ) → (page_of (record { width = width; height = height; runs = []; ends = [] })).is_black x y ≡ false
unfolding page_of row_of
no_row width height x y =
    ap (λ (l : List Run). (ltb x width && ltb y height) && list_any (has_column x) l) (row_past [] [] y (omega arith)) ∙ none (ltb x width && ltb y height)
  where
    none : (b : Bool) → (b && false) ≡ false
    none true = refl
    none false = refl

-- the page that was begun
pub begun : (width height : ℕ) → IsPageSize width height → IsPacked (record { width = width; height = height; runs = []; ends = [] }) 0
unfolding rows_of
begun width height size = record {
  unbegun = λ no_height. absurd (omega (arith, no_height, size.some_height));
  size = λ some. size;
  few = omega arith;
  rises = λ y below. absurd (omega (arith, below));
  within = λ y below. absurd (omega (arith, below));
  last = refl;
  rows = λ y below. absurd (omega (arith, below));
  many = omega arith;
  counted = sym (none_black (page_of (record { width = width; height = height; runs = []; ends = [] })) (no_row width height));
  bound = omega arith;
}
