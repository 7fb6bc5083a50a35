-- What holds of the keys of all rectangles.
use Rattle.std.proofs.Common.{◌≡◌, ◌≢◌, ℕ, ◌+◌, ◌-◌, ◌*◌, ◌^◌, ◌<◌, ◌≤◌, ◌/◌, ◌%◌, ◌⊎◌}
use Rattle.std.proofs.Common.{arith, sym, refl, ◌∙◌, mul-pos, ⊎_elim, inl, inr, ap}
use Rattle.std.proofs.Math.Nat.{mul-lt-mul_of_pos_right, mul-le-mul_left, mul_comm, mul-div_cancel_left, le-mul_of_pos_right}
use Rattle.std.proofs.lemmas.Bool.{cases_lt}
use Rattle.layout_limits.specs.declared.TheConstants.{MAX_SIDE}
use Rattle.layout_geom.specs.declared.rect.Rect.{Rect}
use Rattle.layout_geom.specs.Rectangles.{width_of, height_of, area_of, Encloses}
use Rattle.layout_geom.specs.Keys.{rect_key, Outranks}
use Rattle.layout_geom.specs.SameSides.{same_sides}

-- the digits of a number are its own
same_digits : (a b c d a' b' c' d' : ℕ) → b < 8192 → c < 8192 → d < 8192 → b' < 8192 → c' < 8192 → d' < 8192
    → a * 549755813888 + b * 67108864 + c * 8192 + d ≡ a' * 549755813888 + b' * 67108864 + c' * 8192 + d'
    → (a ≡ a') × (b ≡ b') × (c ≡ c') × (d ≡ d')
same_digits a b c d a' b' c' d' hb hc hd hb' hc' hd' e = (omega arith, omega arith, omega arith, omega arith)

-- a number's digits
pub key_digits : (key : ℕ)
    → key / 549755813888 * 549755813888 + (key / 67108864 % 8192) * 67108864 + (key / 8192 % 8192) * 8192 + key % 8192 ≡ key
key_digits key = omega arith

-- the measures that a key stands for
abbrev pub width_in : ℕ → ℕ
width_in key = MAX_SIDE - key % 8192

abbrev pub left_in : ℕ → ℕ
left_in key = MAX_SIDE - 1 - key / 8192 % 8192

abbrev pub top_in : ℕ → ℕ
top_in key = MAX_SIDE - 1 - key / 67108864 % 8192

abbrev pub area_in : ℕ → ℕ
area_in key = key / 549755813888 + 1

pub record IsDecoded (key : ℕ) (r : Rect) : Type 0 where
  pub width : width_of r ≡ width_in key
  pub left : r.x0 ≡ left_in key
  pub top : r.y0 ≡ top_in key
  pub area : area_of r ≡ area_in key

-- a rectangle has a pixel
pub some_area : (r : Rect) → 0 < area_of r
some_area r = mul-pos (omega (arith, r.sides.wide)) (omega (arith, r.sides.high))

pub decoded : (r : Rect) (key : ℕ) → rect_key r ≡ key → IsDecoded key r
unfolding rect_key
decoded r key e =
    let digits = same_digits (area_of r - 1) (MAX_SIDE - 1 - r.y0) (MAX_SIDE - 1 - r.x0) (MAX_SIDE - width_of r)
    (key / 549755813888) (key / 67108864 % 8192) (key / 8192 % 8192) (key % 8192)
    (omega arith) (omega arith) (omega (arith, r.sides.wide)) (omega arith) (omega arith) (omega arith) (e ∙ sym (key_digits key)) in
    record {
      width = omega (arith, digits.3, r.sides.wide, r.sides.right);
      left = omega (arith, digits.2, r.sides.wide, r.sides.right);
      top = omega (arith, digits.1, r.sides.high, r.sides.bottom);
      area = omega (arith, digits.0, some_area r);
    }

-- the height is the area by the width
pub height_decoded : (r : Rect) (key : ℕ) → IsDecoded key r → area_in key / width_in key ≡ height_of r
height_decoded r key d = rw (← d.area, ← d.width) (mul-div_cancel_left (height_of r) (omega (arith, r.sides.wide)))

-- no two rectangles have one key
pub same_key : (r s : Rect) → rect_key r ≡ rect_key s → r ≡ s
same_key r s e =
    let a = decoded r (rect_key s) e in
    let b = decoded s (rect_key s) refl in
    let heights : height_of r ≡ height_of s = sym (height_decoded r (rect_key s) a) ∙ height_decoded s (rect_key s) b in
    same_sides r s (record {
      left = a.left ∙ sym b.left;
      top = a.top ∙ sym b.top;
      right = omega (arith, a.left, b.left, a.width, b.width, r.sides.wide, s.sides.wide);
      bottom = omega (arith, a.top, b.top, heights, r.sides.high, s.sides.high);
    })

pub positive_key : (r : Rect) → 1 ≤ rect_key r
unfolding rect_key
positive_key r =
    let large : width_of r ≤ width_of r * height_of r = le-mul_of_pos_right (width_of r) (omega (arith, r.sides.high)) in
    omega (arith, large, r.sides.wide, r.sides.right)

pub small_key : (r : Rect) → rect_key r < 2 ^ 64
unfolding rect_key
small_key r = omega (arith, r.sides.small, r.sides.wide, some_area r)

pub outranked_key : (r s : Rect) → Outranks r s → rect_key s < rect_key r
unfolding rect_key
outranked_key r s outranks =
    ⊎_elim
    (λ larger. omega (arith, larger, some_area s, s.sides.wide, s.sides.high, r.sides.wide, r.sides.right))
    (λ rest.
    ⊎_elim
    (λ upper. omega (arith, upper.0, upper.1, s.sides.high, s.sides.bottom, s.sides.wide, r.sides.wide, r.sides.right))
    (λ others.
    ⊎_elim
    (λ left. omega (arith, left.0, left.1, left.2, s.sides.wide, s.sides.right, r.sides.wide, r.sides.right))
    (λ narrow. omega (arith, narrow.0, narrow.1, narrow.2, narrow.3, s.sides.right, r.sides.right))
    others)
    rest)
    outranks

-- one side that is shorter makes a smaller area
same_side : (w h w' h' : ℕ) → 0 < h' → w' ≤ w → h' ≤ h → w * h ≤ w' * h' → w' ≡ w
same_side w h w' h' some wide high large =
    ⊎_elim
    (λ less. let a : w' * h' < w * h' = mul-lt-mul_of_pos_right less some in
    let b : w * h' ≤ w * h = mul-le-mul_left w high in
    absurd (omega arith))
    (λ more. omega arith)
    (cases_lt w' w)

-- a rectangle inside another has a smaller area, or is the other
inside_area : (r s : Rect) → Encloses r s → (area_of s < area_of r) ⊎ (s ≡ r)
inside_area r s within =
    ⊎_elim
    (λ less. inl less)
    (λ more.
    let widths : width_of s ≡ width_of r =
    same_side (width_of r) (height_of r) (width_of s) (height_of s)
    (omega (arith, s.sides.high)) (omega (arith, within.left, within.right)) (omega (arith, within.top, within.bottom)) more in
    let turned : height_of r * width_of r ≤ height_of s * width_of s =
    rw (mul_comm (height_of r) (width_of r), mul_comm (height_of s) (width_of s)) more in
    let heights : height_of s ≡ height_of r =
    same_side (height_of r) (width_of r) (height_of s) (width_of s)
    (omega (arith, s.sides.wide)) (omega (arith, within.top, within.bottom)) (omega (arith, within.left, within.right)) turned in
    inr (same_sides s r (record {
      left = omega (arith, widths, within.left, within.right, s.sides.wide, r.sides.wide);
      top = omega (arith, heights, within.top, within.bottom, s.sides.high, r.sides.high);
      right = omega (arith, widths, within.left, within.right, s.sides.wide, r.sides.wide);
      bottom = omega (arith, heights, within.top, within.bottom, s.sides.high, r.sides.high);
    })))
    (cases_lt (area_of s) (area_of r))

-- a rectangle inside another and not equal to it has a smaller key
pub inside_key : (r s : Rect) → Encloses r s → s ≢ r → rect_key s < rect_key r
inside_key r s within differs =
    ⊎_elim
    (λ less. outranked_key r s (inl less))
    (λ same. absurd (differs same))
    (inside_area r s within)

-- so the key of a rectangle bounds the keys of all that it encloses
pub no_greater_key : (r s : Rect) → Encloses r s → rect_key s ≤ rect_key r
no_greater_key r s within =
    ⊎_elim
    (λ less. let below : rect_key s < rect_key r = outranked_key r s (inl less) in omega arith)
    (λ same. let e : rect_key s ≡ rect_key r = ap rect_key same in omega arith)
    (inside_area r s within)
