-- Ranges of whole numbers.
use Rattle.std.proofs.Common.{◌≡◌, ℕ, ◌+◌, ◌*◌, ◌^◌, ◌<◌, ◌≤◌, ℤ, pos, negsuc, ◌+ℤ◌, ◌-ℤ◌, ◌≤ℤ◌, ◌<ℤ◌, nat_abs, int_lt, int_le, Bool, false, ◌&&◌, true, to_z, of_z, w8, w16, w32, arith, refl, sym, ◌∙◌}
use Rattle.std.proofs.lemmas.Int.{ints, clamps, by_lt_z}
use Rattle.std.specs.Int.{int_gap, int_max, int_min, int_div_euclid}
use Rattle.box_search.specs.declared.space.Shape.{Shape}
use Rattle.line_quality.specs.Points.{height_at, IsSlope}
use Rattle.line_counts.specs.Shapes.{IsInGrid, whole_grid}
use Rattle.line_counts.specs.Plain.{nearest_slope}
use Rattle.line_search.specs.Parts.{half}
use Rattle.line_counts.proofs.Growing.{int_gap_is}
use Rattle.line_counts.proofs.Ranges.{in_32}
use borrow.Author.Differences.{up, down}

pub in_8 : (z : ℤ) → negsuc 31 ≤ℤ z → z ≤ℤ pos 32 → to_z w8 (of_z w8 (to_z w32 (of_z w32 z))) ≡ z
in_8 z low high = omega (arith, ints)

pub in_8_less : (z : ℤ) → negsuc 30 ≤ℤ z → z ≤ℤ pos 33 → to_z w8 (of_z w8 (to_z w32 (of_z w32 (to_z w32 (of_z w32 z) -ℤ pos 1)))) ≡ z -ℤ pos 1
in_8_less z low high = omega (arith, ints)

pub in_16 : (z : ℤ) → negsuc 299 ≤ℤ z → z ≤ℤ pos 9000 → to_z w16 (of_z w16 (to_z w32 (of_z w32 z))) ≡ z
in_16 z low high = omega (arith, ints)

pub in_16_less : (z : ℤ) → negsuc 299 ≤ℤ z → z ≤ℤ pos 9000 → to_z w16 (of_z w16 (to_z w32 (of_z w32 (to_z w32 (of_z w32 z) -ℤ pos 1)))) ≡ z -ℤ pos 1
in_16_less z low high = omega (arith, ints)

pub back_32 : (z : ℤ) → negsuc 49999 ≤ℤ z → z ≤ℤ pos 50000 → to_z w32 (of_z w32 z) ≡ z
back_32 z low high = omega (arith, ints)

-- how far a foot is below a height, and above it
pub below_is : (low : ℤ) (y : ℕ) (above : ℤ) → negsuc 59999 ≤ℤ low → low ≤ℤ pos 60000 → y < 2 ^ 16 → above ≡ int_max (to_z w32 (of_z w32 (to_z w32 (of_z w32 low) -ℤ to_z w32 y))) (pos 0) → nat_abs (to_z w32 (of_z w32 above)) ≡ int_gap (pos y) low
below_is low y above a b c e = omega (arith, ints, clamps, int_gap_is (pos y) low)

pub above_is : (high : ℤ) (y : ℕ) (below : ℤ) → negsuc 59999 ≤ℤ high → high ≤ℤ pos 60000 → y < 2 ^ 16 → below ≡ int_max (to_z w32 (of_z w32 (to_z w32 y -ℤ to_z w32 (of_z w32 high)))) (pos 0) → nat_abs (to_z w32 (of_z w32 below)) ≡ int_gap high (pos y)
above_is high y below a b c e = omega (arith, ints, clamps, int_gap_is high (pos y))

-- a height so many rows lower, as the code computes it
pub lower_is : (h c : ℤ) → negsuc 49999 ≤ℤ h → h ≤ℤ pos 50000 → pos 0 ≤ℤ c → c ≤ℤ pos 64 → to_z w32 (of_z w32 (to_z w32 (of_z w32 h) +ℤ to_z w32 (of_z w32 c))) ≡ h +ℤ c
lower_is h c a b from to = omega (arith, ints)

pub lower_less_is : (h c : ℤ) → negsuc 49999 ≤ℤ h → h ≤ℤ pos 50000 → pos 0 ≤ℤ c → c ≤ℤ pos 64
    → to_z w32 (of_z w32 (to_z w32 (of_z w32 h) +ℤ to_z w32 (of_z w32 (to_z w32 (of_z w32 c) -ℤ pos 1)))) ≡ h +ℤ (c -ℤ pos 1)
lower_less_is h c a b from to = omega (arith, ints)

pub nearest_is : (a0 a1 least most : ℤ) → negsuc 31 ≤ℤ a0 → a0 <ℤ a1 → a1 ≤ℤ pos 33 → least ≡ int_min (to_z w32 (of_z w32 (to_z w32 (of_z w32 a1) -ℤ pos 1))) (pos 0) → most ≡ int_max (to_z w32 (of_z w32 a0)) (to_z w32 (of_z w32 least))
    → to_z w8 (of_z w8 (to_z w32 (of_z w32 most))) ≡ int_max a0 (int_min (a1 -ℤ pos 1) (pos 0))
nearest_is a0 a1 least most low some high is_least is_most = omega (arith, ints, clamps)

-- the slope nearest to 0 is one of the grid
pub nearest_back : (shape : Shape) → IsInGrid 8192 63 shape → (near : ℤ) → near ≡ nearest_slope shape → to_z w8 (of_z w8 near) ≡ nearest_slope shape
nearest_back shape grid near is = omega (arith, ints, clamps, grid.from_slope, grid.some_slope, grid.to_slope)

pub nearest_in : (shape : Shape) → IsInGrid 8192 63 shape → IsSlope (nearest_slope shape)
nearest_in shape grid = record {
  low = omega (arith, ints, clamps, grid.from_slope, grid.some_slope, grid.to_slope);
  high = omega (arith, ints, clamps, grid.from_slope, grid.some_slope, grid.to_slope);
}

shape_by : ℤ → ℤ → ℤ → ℤ → ℤ → ℤ → Shape
shape_by a0 a1 b0 b1 c0 c1 = record { a0 = a0; a1 = a1; b0 = b0; b1 = b1; c0 = c0; c1 = c1 }

abbrev pub shape_with : ℤ → ℤ → ℤ → ℤ → ℤ → ℤ → Shape
shape_with a0 a1 b0 b1 c0 c1 = record { a0 = a0; a1 = a1; b0 = b0; b1 = b1; c0 = c0; c1 = c1 }

pub same_shape : (a0 a1 b0 b1 c0 c1 : ℤ) (s : Shape) → a0 ≡ s.a0 → a1 ≡ s.a1 → b0 ≡ s.b0 → b1 ≡ s.b1 → c0 ≡ s.c0 → c1 ≡ s.c1 → shape_with a0 a1 b0 b1 c0 c1 ≡ s
unfolding shape_by
same_shape a0 a1 b0 b1 c0 c1 s p q r t u v =
    let same : shape_by a0 a1 b0 b1 c0 c1 ≡ shape_by s.a0 s.a1 s.b0 s.b1 s.c0 s.c1 = cc in same

half_parts : (a : ℤ) → (up (int_div_euclid a (pos 2)) * 2 + down a ≤ down (int_div_euclid a (pos 2)) * 2 + up a) × (down (int_div_euclid a (pos 2)) * 2 + up a < up (int_div_euclid a (pos 2)) * 2 + down a + 2)
half_parts (pos a) = omega arith
half_parts (negsuc a) = omega arith

-- the middle of a range lies inside
pub half_inside : (low high : ℤ) → (low +ℤ pos 2) ≤ℤ high → (low <ℤ half low high) × (half low high <ℤ high)
half_inside low high long = (omega (arith, ints, half_parts (low +ℤ high)), omega (arith, ints, half_parts (low +ℤ high)))

-- a range whose cut gains at least what the others gain has two numbers, where not all have one
pub chosen_long : (x0 x1 y0 y1 z0 z1 gx gy gz : ℤ) → x0 <ℤ x1 → y0 <ℤ y1 → z0 <ℤ z1
    → (x1 ≡ x0 +ℤ pos 1 → y1 ≡ y0 +ℤ pos 1 → z1 ≡ z0 +ℤ pos 1 → ⊥) → (x1 ≤ℤ (x0 +ℤ pos 1) → gx ≡ pos 0)
    → ((y0 +ℤ pos 2) ≤ℤ y1 → pos 1 ≤ℤ gy) → ((z0 +ℤ pos 2) ≤ℤ z1 → pos 1 ≤ℤ gz) → gy ≤ℤ gx → gz ≤ℤ gx → (x0 +ℤ pos 2) ≤ℤ x1
chosen_long x0 x1 y0 y1 z0 z1 gx gy gz some_x some_y some_z wide none_x gain_y gain_z most_y most_z =
    by_lt_z x1 (x0 +ℤ pos 2)
    (λ short.
    let nothing : gx ≡ pos 0 = none_x (omega (arith, ints)) in
    by_lt_z y1 (y0 +ℤ pos 2)
    (λ short_y. by_lt_z z1 (z0 +ℤ pos 2)
    (λ short_z. absurd (wide (omega (arith, ints)) (omega (arith, ints)) (omega (arith, ints))))
    (λ long_z. absurd (omega (arith, ints, nothing, most_z, gain_z long_z))))
    (λ long_y. absurd (omega (arith, ints, nothing, most_y, gain_y long_y))))
    (λ long. long)

-- the offsets are more than one where they are no fewer than the depths, and there is one slope
pub offsets_long : (a0 a1 b0 b1 c0 c1 slopes offsets depths : ℤ) → a0 <ℤ a1 → b0 <ℤ b1 → c0 <ℤ c1
    → (a1 ≡ a0 +ℤ pos 1 → b1 ≡ b0 +ℤ pos 1 → c1 ≡ c0 +ℤ pos 1 → ⊥) → (a0 +ℤ slopes) ≡ a1 → (b0 +ℤ offsets) ≡ b1 → (c0 +ℤ depths) ≡ c1
    → slopes ≤ℤ pos 1 → depths ≤ℤ offsets → (b0 +ℤ pos 2) ≤ℤ b1
offsets_long a0 a1 b0 b1 c0 c1 slopes offsets depths some_a some_b some_c wide are_a are_b are_c one more =
    by_lt_z b1 (b0 +ℤ pos 2)
    (λ short. absurd (wide (omega (arith, ints)) (omega (arith, ints)) (omega (arith, ints))))
    (λ long. long)

pub offsets_cut : (shape : Shape) → IsInGrid 8192 63 shape → (middle : ℤ) → middle ≡ half (to_z w16 (of_z w16 (to_z w32 (of_z w32 shape.b0)))) (to_z w16 (of_z w16 (to_z w32 (of_z w32 shape.b1)))) → to_z w32 (of_z w32 middle) ≡ half shape.b0 shape.b1
offsets_cut shape grid middle is =
    let e : middle ≡ half shape.b0 shape.b1 = is ∙ rw (in_16 shape.b0 grid.from_offset (omega (arith, ints, grid.some_offset, grid.to_offset)), in_16 shape.b1 (omega (arith, ints, grid.from_offset, grid.some_offset)) (omega (arith, ints, grid.to_offset))) refl in
    in_32 middle (omega (arith, ints, e, half_parts (shape.b0 +ℤ shape.b1), grid.from_offset, grid.some_offset)) (omega (arith, ints, e, half_parts (shape.b0 +ℤ shape.b1), grid.some_offset, grid.to_offset)) ∙ e

pub slopes_cut : (shape : Shape) → IsInGrid 8192 63 shape → (middle : ℤ) → middle ≡ half (to_z w16 (of_z w16 (to_z w32 (of_z w32 shape.a0)))) (to_z w16 (of_z w16 (to_z w32 (of_z w32 shape.a1)))) → to_z w32 (of_z w32 middle) ≡ half shape.a0 shape.a1
slopes_cut shape grid middle is =
    let e : middle ≡ half shape.a0 shape.a1 = is ∙ rw (in_16 shape.a0 (omega (arith, ints, grid.from_slope)) (omega (arith, ints, grid.some_slope, grid.to_slope)), in_16 shape.a1 (omega (arith, ints, grid.from_slope, grid.some_slope)) (omega (arith, ints, grid.to_slope))) refl in
    in_32 middle (omega (arith, ints, e, half_parts (shape.a0 +ℤ shape.a1), grid.from_slope, grid.some_slope)) (omega (arith, ints, e, half_parts (shape.a0 +ℤ shape.a1), grid.some_slope, grid.to_slope)) ∙ e

pub depths_cut : (shape : Shape) → IsInGrid 8192 63 shape → (middle : ℤ) → middle ≡ half (to_z w16 (of_z w16 (to_z w32 (of_z w32 shape.c0)))) (to_z w16 (of_z w16 (to_z w32 (of_z w32 shape.c1)))) → to_z w32 (of_z w32 middle) ≡ half shape.c0 shape.c1
depths_cut shape grid middle is =
    let e : middle ≡ half shape.c0 shape.c1 = is ∙ rw (in_16 shape.c0 (omega (arith, ints, grid.from_depth)) (omega (arith, ints, grid.some_depth, grid.to_depth)), in_16 shape.c1 (omega (arith, ints, grid.from_depth, grid.some_depth)) (omega (arith, ints, grid.to_depth))) refl in
    in_32 middle (omega (arith, ints, e, half_parts (shape.c0 +ℤ shape.c1), grid.from_depth, grid.some_depth)) (omega (arith, ints, e, half_parts (shape.c0 +ℤ shape.c1), grid.some_depth, grid.to_depth)) ∙ e

pub foot_is : (height page deep most : ℕ) → height ≤ 8192 → height ≡ page → deep ≡ most → most ≤ 63
    → shape_with (negsuc 31) (pos 33) (negsuc 299) (to_z w32 (of_z w32 (to_z w32 (of_z w32 (to_z w32 height +ℤ pos 300)) +ℤ pos 1))) (pos 0) (to_z w32 (of_z w32 (to_z w32 deep +ℤ pos 1))) ≡ whole_grid page most
foot_is height page deep most high is same shallow =
    let foot : to_z w32 (of_z w32 (to_z w32 (of_z w32 (to_z w32 height +ℤ pos 300)) +ℤ pos 1)) ≡ pos (page + 300 + 1) = omega (arith, ints) in
    let depth : to_z w32 (of_z w32 (to_z w32 deep +ℤ pos 1)) ≡ pos (most + 1) = omega (arith, ints) in
    rw (foot, depth) refl

pub lowest_is : (shape : Shape) → IsInGrid 8192 63 shape → (x : ℕ) → height_at (to_z w8 (of_z w8 (to_z w32 (of_z w32 shape.a0)))) (to_z w16 (of_z w16 (to_z w32 (of_z w32 shape.b0)))) x ≡ height_at shape.a0 shape.b0 x
lowest_is shape grid x = rw (in_8 shape.a0 grid.from_slope (omega (arith, ints, grid.some_slope, grid.to_slope)), in_16 shape.b0 grid.from_offset (omega (arith, ints, grid.some_offset, grid.to_offset))) refl

pub highest_is : (shape : Shape) → IsInGrid 8192 63 shape → (x : ℕ) → height_at (to_z w8 (of_z w8 (to_z w32 (of_z w32 (to_z w32 (of_z w32 shape.a1) -ℤ pos 1))))) (to_z w16 (of_z w16 (to_z w32 (of_z w32 (to_z w32 (of_z w32 shape.b1) -ℤ pos 1))))) x ≡ height_at (shape.a1 -ℤ pos 1) (shape.b1 -ℤ pos 1) x
highest_is shape grid x = rw (in_8_less shape.a1 (omega (arith, ints, grid.some_slope, grid.from_slope)) grid.to_slope, in_16_less shape.b1 (omega (arith, ints, grid.some_offset, grid.from_offset)) (omega (arith, ints, grid.to_offset))) refl

-- what holds between two heights, as the code compares them
pub compared : (y0 y1 : ℕ) (low high : ℤ) → y0 < 2 ^ 16 → y1 < 2 ^ 16 → negsuc 49999 ≤ℤ low → low ≤ℤ pos 50000 → negsuc 49999 ≤ℤ high → high ≤ℤ pos 50000 → (int_lt (to_z w32 y0) (to_z w32 (of_z w32 low)) ≡ int_lt (pos y0) low) × (int_le (to_z w32 (of_z w32 high)) (to_z w32 y1) ≡ int_le high (pos y1))
compared y0 y1 low high a b c d e f =
    let p : to_z w32 y0 ≡ pos y0 = omega (arith, ints) in
    let q : to_z w32 (of_z w32 low) ≡ low = omega (arith, ints) in
    let r : to_z w32 y1 ≡ pos y1 = omega (arith, ints) in
    let s : to_z w32 (of_z w32 high) ≡ high = omega (arith, ints) in
    (rw (p, q) refl, rw (s, r) refl)

pub both_hold : (a b a' b' : Bool) → a ≡ true → a ≡ a' → b ≡ b' → b ≡ (a' && b')
both_hold a b a' b' holds same other =
    let first : a' ≡ true = sym same ∙ holds in
    rw first other

pub first_fails : (a a' b' : Bool) → a ≡ false → a ≡ a' → a ≡ (a' && b')
first_fails a a' b' fails same =
    let first : a' ≡ false = sym same ∙ fails in
    rw first fails
