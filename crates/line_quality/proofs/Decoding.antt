-- The line that has a key.
use Rattle.std.proofs.Common.{◌≡◌, ℕ, ◌+◌, ◌-◌, ◌*◌, ◌/◌, ◌%◌, ◌^◌, ◌≤◌, ℤ, pos, negsuc, neg_ℤ, ◌-ℤ◌, ◌+ℤ◌, unsigned_abs, arith}
use Rattle.std.proofs.lemmas.Int.{ints}
use Rattle.line_quality.specs.Points.{IsOffset}
use Rattle.line_quality.specs.Keys.{rank, Scored, IsOfGrid, key_of}
use Rattle.line_quality.specs.KeyLaws.{abs_parts, low_rank, place_low}

-- the digits of a key
pub record HasDigits (key depth rank place : ℕ) : Type 0 where
  pub places : key % 65536 + place ≡ 65535
  pub ranks : key / 65536 % 128 + rank ≡ 64
  pub depths : key / 8388608 % 64 + depth ≡ 63
  pub shallow : depth ≤ 63
  pub low : rank ≤ 64
  pub small : place ≤ 8792

digits_by : (key s d r b : ℕ) → d ≤ 63 → r ≤ 64 → b ≤ 8792
    → s * 2 ^ 29 + (63 - d) * 2 ^ 23 + (64 - r) * 2 ^ 16 + (65535 - b) ≡ key → HasDigits key d r b
digits_by key s d r b hd hr hb e = record {
  places = omega arith;
  ranks = omega arith;
  depths = omega arith;
  shallow = hd;
  low = hr;
  small = hb;
}

pub line_digits : (key : ℕ) (p : Scored) → IsOfGrid p → key_of p ≡ key → HasDigits key p.depth (rank p.slope) (unsigned_abs (p.offset +ℤ pos 300))
line_digits key p h is = digits_by key p.score p.depth (rank p.slope) (unsigned_abs (p.offset +ℤ pos 300)) h.depth_in (low_rank p.slope h.slope_in) (place_low p.offset h.offset_in) is

pub offset_is : (offset found : ℤ) (place : ℕ) → IsOffset offset → place ≡ unsigned_abs (offset +ℤ pos 300) → found ≡ pos place -ℤ pos 300 → offset ≡ found
offset_is offset found place h is e = omega (arith, ints, abs_parts (offset +ℤ pos 300), h.low, h.high)

pub odd_slope : (slope : ℤ) (r steps : ℕ) → rank slope ≡ r → r % 2 ≡ 1 → steps ≡ (r + 1) / 2 → slope ≡ pos steps
odd_slope (pos n) r steps is odd e = omega (arith, ints)
odd_slope (negsuc n) r steps is odd e = omega (arith, ints)

pub even_slope : (slope : ℤ) (r steps : ℕ) → rank slope ≡ r → (r % 2 ≡ 1 → ⊥) → steps ≡ (r + 1) / 2 → slope ≡ neg_ℤ (pos steps)
even_slope (pos n) r steps is even e = omega (arith, ints)
even_slope (negsuc n) r steps is even e = omega (arith, ints)
