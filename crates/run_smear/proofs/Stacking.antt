-- Pages one below the other.
use Rattle.std.proofs.Common.{◌≡◌, ◌<◌, ◌≤◌, ℕ, ◌+◌, ◌-◌, true, eqb, List, length, ◌↔◌, inl, inr, refl, sym, ap, subst, ◌∙◌, arith}
use Rattle.std.proofs.Math.Nat.{mul-le-mul_left}
use Rattle.std.proofs.lemmas.Bool.{cases_lt, cases_eq, cases_Bool, both_ways, eq-eqb, ne_eqb}
use Rattle.packed_rows.specs.Page.{Page, pixel, row_len, IsClipped, IsPackedRow, IsPageSize}
use Rattle.page_runs.specs.Packed.{Packed, page_of, rows_of}
use Rattle.page_runs.specs.Rows.{Given}
use Rattle.run_smear.specs.Smear.{IsInRowSmear, IsInSmear, IsBandOf}
use Rattle.run_smear.specs.Painted.{IsPainted}
use Rattle.run_smear.specs.Stacked.{HasMore, IsStack}
use Rattle.run_smear.proofs.Blackening.{pixel_below_two}
use Rattle.run_smear.proofs.Bands.{row_smear_inside}

-- ---- a row whose gaps of no column are filled is the row itself

plain_black : (page : Page) (x y : ℕ) → IsInRowSmear page 0 x y → page.is_black x y ≡ true
plain_black page x y smeared = elim smeared [ inl black ↦ black | inr filled ↦ absurd (omega (arith, filled.short, filled.stretch.some)) ]

plain_row : (page : Page) (y : ℕ) (bits : List ℕ) → IsPainted (λ x. IsInRowSmear page 0 x y) bits → (x : ℕ) → eqb (pixel bits x) 1 ≡ page.is_black x y
plain_row page y bits painted x = elim (cases_Bool (page.is_black x y)) [
  | inl black ↦ eq-eqb (pixel bits x) 1 ((painted x).1 (inl black)) ∙ sym black
  | inr white ↦ ne_eqb (pixel bits x) 1 (λ is. both_ways (page.is_black x y) white (plain_black page x y ((painted x).0 is))) ∙ sym white
]

pub plain_packed : (page : Page) (y : ℕ) (bits : List ℕ) → IsClipped page → length bits ≡ row_len page.width → IsPainted (λ x. IsInRowSmear page 0 x y) bits
    → IsPackedRow page.width bits
plain_packed page y bits clipped len painted = record {
  len = len;
  padding = λ x wide. elim (cases_eq (pixel bits x) 1) [
    | inl black ↦ absurd (omega (arith, wide, (row_smear_inside page 0 x y clipped ((painted x).0 black)).0))
    | inr white ↦ omega (arith, white, pixel_below_two bits x)
  ];
}

-- ---- rows that a page gets

pub no_more : (old : Packed) (more : Page) → HasMore old more 0 old
no_more old more = record {
  width_is = refl;
  height_is = refl;
  rows_is = omega arith;
  above = λ x y before. refl;
  below = λ x y none. absurd (omega (arith, none));
}

pub one_more : (old mid new : Packed) (more : Page) (count : ℕ) (bits : List ℕ) → HasMore old more count mid → Given mid bits new
    → IsPainted (λ x. IsInRowSmear more 0 x count) bits → HasMore old more (count + 1) new
one_more old mid new more count bits has given painted = record {
  width_is = given.width_is ∙ has.width_is;
  height_is = given.height_is ∙ has.height_is;
  rows_is = omega (arith, given.rows_is, has.rows_is);
  above = λ x y before. kept x y (omega (arith, before, has.rows_is)) ∙ has.above x y before;
  below = λ x y within. elim (cases_lt y count) [
    | inl before ↦ kept x (rows_of old + y) (omega (arith, before, has.rows_is)) ∙ has.below x y before
    | inr late ↦
        let last : y ≡ count = omega (arith, late, within) in
        let is = given.blacks x (rows_of old + y) ∙ rw (eq-eqb (rows_of old + y) (rows_of mid) (omega (arith, last, has.rows_is))) refl in
        is ∙ plain_row more count bits painted x ∙ ap (λ (n : ℕ). more.is_black x n) (sym last)
  ];
}
  where
    kept : (x y : ℕ) → y < rows_of mid → (page_of new).is_black x y ≡ (page_of mid).is_black x y
    kept x y before = given.blacks x y ∙ rw (ne_eqb y (rows_of mid) (λ e. omega (arith, e, before))) refl

-- a band and the one below it are a band
pub bands_stacked : (page : Page) (h v from middle to : ℕ) (upper lower band : Page) → from < middle → middle < to → IsBandOf page h v from middle upper
    → IsBandOf page h v middle to lower → IsStack upper lower band → IsBandOf page h v from to band
bands_stacked page h v from middle to upper lower band some more first second stack = record {
  width_is = stack.width_is ∙ first.width_is;
  height_is = omega (arith, stack.height_is, first.height_is, second.height_is, some, more);
  blacks = λ x y below. elim (cases_lt y (middle - from)) [
    | inl high ↦
        let is = stack.above x y (omega (arith, high, first.height_is)) in
        (λ black. (first.blacks x y high).0 (sym is ∙ black), λ smeared. is ∙ (first.blacks x y high).1 smeared)
    | inr low ↦ in_lower x y (y - (middle - from)) (omega (arith, low, first.height_is)) (omega (arith, low, some)) (omega (arith, low, below, some, more))
  ];
}
  where
    in_lower : (x y row : ℕ) → upper.height + row ≡ y → middle + row ≡ from + y → row < to - middle → (band.is_black x y ≡ true) ↔ IsInSmear page h v x (from + y)
    in_lower x y row at place within =
        let is : band.is_black x y ≡ lower.is_black x row =
        ap (λ (n : ℕ). band.is_black x n) (sym at) ∙ stack.below x row (omega (arith, within, second.height_is)) in (
          λ black. subst (λ (n : ℕ). IsInSmear page h v x n) place ((second.blacks x row within).0 (sym is ∙ black)),
          λ smeared. is ∙ (second.blacks x row within).1 (subst (λ (n : ℕ). IsInSmear page h v x n) (sym place) smeared),
        )

-- some rows of a page can be a page
pub part_size : (width height rows : ℕ) → IsPageSize width height → 0 < rows → rows ≤ height → IsPageSize width rows
part_size width height rows size some part = record {
  some_width = size.some_width;
  some_height = some;
  width_bound = size.width_bound;
  height_bound = omega (arith, part, size.height_bound);
  area_bound = omega (arith, mul-le-mul_left width part, size.area_bound);
}
