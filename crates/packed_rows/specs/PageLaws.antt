-- What follows from the definition of a page.
use Rattle.std.proofs.Common.{◌≡◌, ℕ, zero, suc, ◌-◌, ◌*◌, ◌/◌, ◌%◌, ◌<◌, ◌≤◌, Bool, true, false, cond}
use Rattle.std.proofs.Common.{eqb, ltb, ◌&&◌, List, length, inl, inr, refl, ap, ◌∙◌, arith}
use Rattle.std.specs.Int.{bit_at}
use Rattle.std.proofs.lemmas.List.{get_or_past}
use Rattle.std.proofs.lemmas.Nat.Bits.{bit_at-zero}
use Rattle.std.specs.Prelude.{IsTrue}
use Rattle.std.proofs.Math.Path.{fun_ext}
use Rattle.std.proofs.lemmas.Bool.{cases_lt, lt-ltb, le-ltb}
use Rattle.std.proofs.lemmas.Bool.Decides.{nat_tests}
use Rattle.packed_rows.specs.Page.{Page, page_with, pixel, IsClipped, HasPicture, IsPackedRow, IsRowOf}

-- no place outside of the page is black
pub with_clipped : (width height : ℕ) (is_black : ℕ → ℕ → Bool) → IsClipped (page_with width height is_black)
with_clipped width height is_black x y black =
    inside (ltb x width) (ltb y height) (is_black x y) black (λ t. grind (arith, nat_tests)) (λ t. grind (arith, nat_tests))
  where
    inside : (a b c : Bool) → IsTrue ((a && b) && c) → (IsTrue a → x < width) → (IsTrue b → y < height) → (x < width) × (y < height)
    inside true true c h left above = (left refl, above refl)
    inside true false c h left above = absurd cc
    inside false b c h left above = absurd cc

white_outside : (page : Page) (x y : ℕ) → IsClipped page → ((x < page.width) × (y < page.height) → ⊥) → page.is_black x y ≡ false
white_outside page x y clipped outside = cases (page.is_black x y) refl
  where
    cases : (b : Bool) → page.is_black x y ≡ b → b ≡ false
    cases true black = absurd (outside (clipped x y black))
    cases false white = refl

-- two pages with one picture are one page
pub one_picture : (p q : Page) → IsClipped p → IsClipped q → HasPicture p q → p ≡ q
one_picture p q first second picture =
    let wide = picture.width_is in
    let high = picture.height_is in
    let black : p.is_black ≡ q.is_black = fun_ext λ x. fun_ext λ y. at x y in
    λ i. record { width = wide i; height = high i; is_black = black i }
  where
    both_white : (x y : ℕ) → ((x < q.width) × (y < q.height) → ⊥) → p.is_black x y ≡ q.is_black x y
    both_white x y outside =
        let wide = picture.width_is in
        let high = picture.height_is in
        let white : p.is_black x y ≡ false =
        white_outside p x y first (λ inside. outside (omega (arith, inside.0, wide), omega (arith, inside.1, high))) in
        let also : q.is_black x y ≡ false = white_outside q x y second outside in
        cc

    at : (x y : ℕ) → p.is_black x y ≡ q.is_black x y
    at x y =
        elim (cases_lt x q.width) [
          | inr wide ↦ both_white x y (λ inside. omega (arith, wide, inside.0))
          | inl in_row ↦
              elim (cases_lt y q.height) [
                | inr high ↦ both_white x y (λ inside. omega (arith, high, inside.1))
                | inl in_column ↦ picture.same x y in_row in_column
              ]
        ]

-- a pixel is 1 where it is black, and else 0
pub black_bit : (bit : ℕ) → bit < 2 → bit ≡ cond (eqb bit 1) 1 0
black_bit zero lt = refl
black_bit (suc zero) lt = refl
black_bit (suc (suc n)) lt = absurd (omega arith)

-- behind the bytes of a row nothing is black
pub white_past : (bits : List ℕ) (x : ℕ) → 8 * length bits ≤ x → pixel bits x ≡ 0
white_past bits x past =
    ap (λ (byte : ℕ). bit_at byte (7 - x % 8)) (get_or_past bits (x / 8) 0 (omega (arith, past))) ∙ bit_at-zero (7 - x % 8)

-- a packed row whose pixels inside are those of these places is a row of the page on which they are black
pub row_of_page : (width height : ℕ) (is_black : ℕ → ℕ → Bool) (y : ℕ) (bits : List ℕ) → IsPackedRow width bits → y < height
    → ((x : ℕ) → x < width → pixel bits x ≡ cond (is_black x y) 1 0) → IsRowOf (page_with width height is_black) y bits
row_of_page width height is_black y bits row below inside = record {
  len = row.len;
  pixels = λ x.
      elim (cases_lt x width) [
        | inl in_row ↦ rw (lt-ltb x width in_row, lt-ltb y height below) (inside x in_row)
        | inr wide ↦ rw (le-ltb x width wide) (row.padding x wide)
      ];
}
