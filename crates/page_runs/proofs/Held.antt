-- What was given all rows of a page holds it.
use Rattle.std.proofs.Common.{◌≡◌, ℕ, zero, suc, ◌<◌, Bool, true, false, cond, eqb, ◌&&◌, List, inl, inr, refl, sym, ap, subst, ◌∙◌, arith}
use Rattle.std.proofs.lemmas.Bool.{lt-ltb, cases_order}
use Rattle.std.proofs.lemmas.Bool.Decides.{nat_tests}
use Rattle.packed_rows.specs.Page.{Page, pixel, IsRowOf}
use Rattle.pbm_reader.specs.Given.{AfterRows}
use Rattle.page_runs.specs.Packed.{Packed, page_of, rows_of}
use Rattle.page_runs.specs.Rows.{Begun, Given, GivenPageIsHeld}

-- the first rows of the page are there
record HoldsTop (page : Page) (n : ℕ) (p : Packed) : Type 0 where
  pub width_is : (page_of p).width ≡ page.width
  pub height_is : (page_of p).height ≡ page.height
  pub rows_is : rows_of p ≡ n
  pub same : (x y : ℕ) → x < page.width → y < n → (page_of p).is_black x y ≡ page.is_black x y

test_of_bit : (b : Bool) → eqb (cond b 1 0) 1 ≡ b
test_of_bit true = refl
test_of_bit false = refl

row_given : (page : Page) (n : ℕ) (before : Packed) (bits : List ℕ) (after : Packed) → HoldsTop page n before → IsRowOf page n bits → Given before bits after → HoldsTop page (suc n) after
row_given page n before bits after top row given = record {
  width_is = given.width_is ∙ top.width_is;
  height_is = given.height_is ∙ top.height_is;
  rows_is = omega (arith, given.rows_is, top.rows_is);
  same = λ x y in_row below. elim (cases_order y n) [
    | inl last ↦
        let test : eqb y (rows_of before) ≡ true = let e : y ≡ rows_of before = omega (arith, last, top.rows_is) in grind (arith, nat_tests) in
        given.blacks x y
        ∙ ap (λ (b : Bool). cond b (eqb (pixel bits x) 1) ((page_of before).is_black x y)) test
        ∙ ap (λ (k : ℕ). eqb k 1) (row.pixels x)
        ∙ ap (λ (t : Bool). eqb (cond (t && page.is_black x n) 1 0) 1) (lt-ltb x page.width in_row)
        ∙ test_of_bit (page.is_black x n)
        ∙ ap (λ (k : ℕ). page.is_black x k) (sym last)
    | inr other ↦ elim other [
      | inl less ↦
          let test : eqb y (rows_of before) ≡ false = let e : rows_of before ≡ n = top.rows_is in grind (arith, nat_tests) in
          given.blacks x y
          ∙ ap (λ (b : Bool). cond b (eqb (pixel bits x) 1) ((page_of before).is_black x y)) test
          ∙ top.same x y in_row less
      | inr more ↦ absurd (omega (arith, below, more))
    ]
  ];
}

rows_given : (page : Page) (n : ℕ) (old new : Packed) → HoldsTop page 0 old → AfterRows Given page n old new → HoldsTop page n new
rows_given page zero old new top rows = subst (HoldsTop page 0) (sym rows) top
rows_given page (suc n) old new top rows = row_given page n rows.0 rows.1 new (rows_given page n old rows.0 top rows.2) rows.3 rows.4

pub given_page_held : GivenPageIsHeld
given_page_held page old new after =
    let begins : Begun old page.width page.height after.empty = after.begins in
    let top : HoldsTop page 0 after.empty = record {
      width_is = begins.width_is;
      height_is = begins.height_is;
      rows_is = begins.none_there;
      same = λ x y in_row below. absurd (omega (arith, below));
    } in
    let all = rows_given page page.height after.empty new top after.rows in (
      record { every = all.rows_is ∙ sym all.height_is; some = omega (arith, begins.size.some_height, all.height_is) },
      record { width_is = all.width_is; height_is = all.height_is; same = all.same },
    )
