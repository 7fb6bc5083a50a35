-- Heights as the code computes them, in 32 bits.
use Rattle.std.proofs.Common.{◌≡◌, ℕ, ◌+◌, ◌*◌, ◌^◌, ◌<◌, ◌≤◌, ℤ, pos, negsuc, ◌+ℤ◌, ◌-ℤ◌, ◌*ℤ◌, ◌≤ℤ◌, FitsSigned, to_z, of_z, w8, w16, w32, arith, ◌∙◌, refl, unsigned_abs}
use Rattle.std.proofs.Math.Nat.{mul-le-mul_left}
use Rattle.std.proofs.lemmas.Int.{ints, to_z-of_z, fits_signed_mul}
use Rattle.std.specs.Int.{int_div_euclid}
use Rattle.line_quality.specs.Points.{rise, height_at}
use Rattle.line_quality.specs.HeightLaws.{floor_parts}
use borrow.Author.Differences.{up, down, product_is}

back : (s : ℤ) → FitsSigned w8 s → to_z w32 (of_z w32 (to_z w8 (of_z w8 s))) ≡ s
back s fits = omega (arith, ints)

back_16 : (b : ℤ) → FitsSigned w16 b → to_z w32 (of_z w32 (to_z w16 (of_z w16 b))) ≡ b
back_16 b fits = omega (arith, ints)

wide : (x : ℕ) → x < 2 ^ 16 → to_z w32 x ≡ pos x
wide x fits = omega (arith, ints)

small : (s : ℤ) → FitsSigned w8 s → unsigned_abs s ≤ 128
small (pos n) fits = omega (arith, ints)
small (negsuc n) fits = omega (arith, ints)

parts : (s : ℤ) → unsigned_abs s ≡ up s + down s
parts (pos n) = omega arith
parts (negsuc n) = omega arith

product_fits : (s : ℤ) (x : ℕ) → FitsSigned w8 s → x < 2 ^ 16 → FitsSigned w32 (s *ℤ pos x)
product_fits s x fits within = fits_signed_mul w32 s (pos x) 128 65536 (small s fits) (omega arith) (omega arith)

pub quotient_is : (s : ℤ) (x : ℕ) (q : ℤ) → FitsSigned w8 s → x < 2 ^ 16 → q ≡ int_div_euclid (to_z w32 (of_z w32 (to_z w32 (of_z w32 (to_z w8 (of_z w8 s))) *ℤ to_z w32 x))) (pos 1000) → q ≡ rise s x
quotient_is s x q fits within is = is ∙ (rw (back s fits, wide x within, to_z-of_z w32 (s *ℤ pos x) (product_fits s x fits within)) refl)

rise_small : (s : ℤ) (x : ℕ) → FitsSigned w8 s → x < 2 ^ 16 → (up (rise s x) ≤ down (rise s x) + 8400) × (down (rise s x) ≤ up (rise s x) + 8400)
rise_small s x fits within =
    let risen : x * up s ≤ x * 128 = mul-le-mul_left x (omega (arith, small s fits, parts s)) in
    let sunk : x * down s ≤ x * 128 = mul-le-mul_left x (omega (arith, small s fits, parts s)) in
    omega (arith, risen, sunk, floor_parts (s *ℤ pos x), product_is s (pos x))

abbrev pub IsNearLine : ℤ → Type 0
IsNearLine y = (negsuc 49999 ≤ℤ y) × (y ≤ℤ pos 50000)

pub height_near : (s b : ℤ) (x : ℕ) → FitsSigned w8 s → FitsSigned w16 b → x < 2 ^ 16 → IsNearLine (height_at s b x)
height_near s b x slope offset within = (omega (arith, ints, rise_small s x slope within), omega (arith, ints, rise_small s x slope within))

pub height_is : (s b : ℤ) (x : ℕ) (q : ℤ) → FitsSigned w8 s → FitsSigned w16 b → x < 2 ^ 16 → q ≡ rise s x → to_z w32 (of_z w32 (to_z w32 (of_z w32 (to_z w16 (of_z w16 b))) +ℤ to_z w32 (of_z w32 q))) ≡ height_at s b x
height_is s b x q slope offset within is =
    rw (is, back_16 b offset) (omega (arith, ints, rise_small s x slope within))

-- how far a foot is from a height, as the code computes it
pub gap_is : (h held : ℤ) (y foot : ℕ) → held ≡ h → foot ≡ y → IsNearLine held → foot < 2 ^ 16
    → unsigned_abs (to_z w32 (of_z w32 held) -ℤ to_z w32 foot) ≡ unsigned_abs (h -ℤ pos y)
gap_is h held y foot same same_foot near within =
    omega (arith, ints, near.0, near.1, parts (h -ℤ pos y), parts (to_z w32 (of_z w32 held) -ℤ to_z w32 foot))

-- and from so many rows below the height
pub descent_gap_is : (h held : ℤ) (y foot depth : ℕ) → held ≡ h → foot ≡ y → depth < 2 ^ 8 → IsNearLine held → foot < 2 ^ 16
    → unsigned_abs (to_z w32 (of_z w32 (to_z w32 (of_z w32 held) +ℤ to_z w32 depth)) -ℤ to_z w32 foot) ≡ unsigned_abs ((h +ℤ pos depth) -ℤ pos y)
descent_gap_is h held y foot depth same same_foot shallow near within =
    let below : to_z w32 (of_z w32 (to_z w32 (of_z w32 held) +ℤ to_z w32 depth)) ≡ held +ℤ pos depth = omega (arith, ints, near.0, near.1) in
    rw (below, same, same_foot, wide y (omega (arith, within, same_foot))) refl
