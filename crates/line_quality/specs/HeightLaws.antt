-- What holds of the heights of all lines.
use Rattle.std.proofs.Common.{ℕ, ◌+◌, ◌*◌, ◌<◌, ◌≤◌, ℤ, pos, negsuc, ◌-ℤ◌, ◌*ℤ◌, ◌≤ℤ◌, arith}
use Rattle.std.proofs.Math.Nat.{mul-le-mul_left}
use Rattle.std.proofs.lemmas.Int.{ints}
use Rattle.std.specs.Int.{int_div_euclid}
use Rattle.line_quality.specs.Points.{rise, height_at, IsRounded}
use borrow.Author.Differences.{up, down, product_is}

-- the quotient that is rounded down
pub floor_parts : (a : ℤ) → (up (int_div_euclid a (pos 1000)) * 1000 + down a ≤ down (int_div_euclid a (pos 1000)) * 1000 + up a)
    × (down (int_div_euclid a (pos 1000)) * 1000 + up a < up (int_div_euclid a (pos 1000)) * 1000 + down a + 1000)
floor_parts (pos a) = omega arith
floor_parts (negsuc a) = omega arith

pub rounded : (s b : ℤ) (x : ℕ) → IsRounded s b x (height_at s b x)
rounded s b x = record {
  no_greater = omega (arith, ints, floor_parts (s *ℤ pos x), product_is s (pos x), product_is (height_at s b x -ℤ b) (pos 1000));
  greatest = omega (arith, ints, floor_parts (s *ℤ pos x), product_is s (pos x), product_is (height_at s b x -ℤ b) (pos 1000));
}

-- a steeper line rises at least as high
pub rise_grows : (s t : ℤ) (x : ℕ) → s ≤ℤ t → rise s x ≤ℤ rise t x
rise_grows s t x steeper =
    let above : x * (up s + down t) ≤ x * (up t + down s) = mul-le-mul_left x (omega (arith, ints)) in
    omega (arith, ints, above, floor_parts (s *ℤ pos x), floor_parts (t *ℤ pos x), product_is s (pos x), product_is t (pos x))
