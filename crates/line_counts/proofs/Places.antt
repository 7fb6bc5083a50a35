-- Places of boxes, and what a box weighs by its place.
use Rattle.std.proofs.Common.{◌≡◌, ℕ, ◌+◌, ◌*◌, ◌<◌, ◌≤◌, min, ℤ, pos, negsuc, ◌+ℤ◌, ◌-ℤ◌, ◌*ℤ◌, ◌≤ℤ◌, unsigned_abs, to_z, of_z, w8, w16, arith, ap, ◌∙◌, subst, sym}
use Rattle.std.proofs.Math.Nat.{mul-le-mul}
use Rattle.std.proofs.lemmas.Int.{ints}
use Rattle.layout_geom.specs.declared.rect.Rect.{Rect}
use Rattle.line_quality.specs.Points.{IsSlope, IsOffset, rise, height_at, middle_of, weight, weight_at, foot_gap}
use Rattle.line_quality.specs.HeightLaws.{floor_parts, rise_grows}
use Rattle.line_quality.specs.KeyLaws.{abs_parts}
use Rattle.line_counts.specs.Fits.{slope_of, place_of, first_place, apart, weight_behind}
use borrow.Author.Differences.{product_is}

steepest : (x : ℕ) → x ≤ 8192 → rise (pos 32) x ≤ℤ pos 262
steepest x low = omega (arith, ints, floor_parts (pos 32 *ℤ pos x), product_is (pos 32) (pos x))

lowest : (x : ℕ) → x ≤ 8192 → negsuc 262 ≤ℤ rise (negsuc 31) x
lowest x low = omega (arith, ints, floor_parts (negsuc 31 *ℤ pos x), product_is (negsuc 31) (pos x))

pub middle_small : (r : Rect) → middle_of r ≤ 8192
middle_small r = omega (arith, r.sides.wide, r.sides.right)

-- a line of the grid rises and sinks by at most 263 rows
pub rises_little : (slope : ℤ) (x : ℕ) → IsSlope slope → x ≤ 8192 → (negsuc 262 ≤ℤ rise slope x) × (rise slope x ≤ℤ pos 262)
rises_little slope x in_slopes low = (
  omega (arith, ints, rise_grows (negsuc 31) slope x in_slopes.low, lowest x low),
  omega (arith, ints, rise_grows slope (pos 32) x in_slopes.high, steepest x low),
)

-- each number below 65 is that of a slope
pub slope_in : (number : ℕ) → number < 65 → IsSlope (slope_of number)
slope_in number small = record { low = omega (arith, ints); high = omega (arith, ints) }

-- a slope as the code holds it
pub held_slope : (s : ℤ) → IsSlope s → to_z w8 (of_z w8 s) ≡ s
held_slope s in_slopes = omega (arith, ints, in_slopes.low, in_slopes.high)

pub held_in_grid : (s : ℤ) → IsOffset s → to_z w16 (of_z w16 s) ≡ s
held_in_grid s in_grid = omega (arith, ints, in_grid.low, in_grid.high)

pub held_offset : (s from : ℤ) (n count : ℕ) → s ≡ from +ℤ pos n → negsuc 299 ≤ℤ from → (from +ℤ pos count) ≤ℤ pos 8493 → n < count → to_z w16 (of_z w16 s) ≡ s
held_offset s from n count is low high less = omega (arith, ints)

pub held_behind : (s from : ℤ) (n : ℕ) → s ≡ from +ℤ pos n → negsuc 299 ≤ℤ from → (from +ℤ pos n) ≤ℤ pos 8555 → to_z w16 (of_z w16 s) ≡ s
held_behind s from n is low high = omega (arith, ints)

-- what holds of a slope, or of an offset, holds of it as the code holds it
pub at_slope : (P : ℤ → Type 0) (s : ℤ) → to_z w8 (of_z w8 s) ≡ s → P s → P (to_z w8 (of_z w8 s))
at_slope P s same holds = subst P (sym same) holds

pub at_offset : (P : ℤ → Type 0) (s : ℤ) → to_z w16 (of_z w16 s) ≡ s → P s → P (to_z w16 (of_z w16 s))
at_offset P s same holds = subst P (sym same) holds

place_near : (y : ℕ) (rise : ℤ) → negsuc 262 ≤ℤ rise → rise ≤ℤ pos 262 → unsigned_abs ((pos y -ℤ rise) +ℤ pos 304) < y + 672
place_near y rise low high = omega (arith, ints, abs_parts ((pos y -ℤ rise) +ℤ pos 304))

-- so a place is within the row
pub place_within : (slope : ℤ) (r : Rect) → IsSlope slope → place_of slope r < r.y1 + 672
place_within slope r in_slopes =
    let little = rises_little slope (middle_of r) in_slopes (middle_small r) in
    place_near r.y1 (rise slope (middle_of r)) little.0 little.1

-- the gap of a foot from a line is that of the two places
gap_is : (y first : ℕ) (rise offset : ℤ) (place more : ℕ) → negsuc 262 ≤ℤ rise → rise ≤ℤ pos 262 → negsuc 299 ≤ℤ offset
    → first ≡ unsigned_abs (offset +ℤ pos 300) → place ≡ unsigned_abs ((pos y -ℤ rise) +ℤ pos 304)
    → unsigned_abs (((offset +ℤ rise) +ℤ pos more) -ℤ pos y) ≡ apart (first + 4 + more) place
gap_is y first rise offset place more low high above first_is place_is =
    omega (arith, ints, abs_parts (offset +ℤ pos 300), abs_parts ((pos y -ℤ rise) +ℤ pos 304), abs_parts (((offset +ℤ rise) +ℤ pos more) -ℤ pos y))

no_more : (h : ℤ) (y : ℕ) → unsigned_abs (h -ℤ pos y) ≡ unsigned_abs ((h +ℤ pos 0) -ℤ pos y)
no_more h y = omega (arith, ints, abs_parts (h -ℤ pos y), abs_parts ((h +ℤ pos 0) -ℤ pos y))

nearer : (a b c d : ℕ) → a ≡ c → b ≡ d → min a b ≡ min c d
nearer a b c d same other = omega arith

-- what a box weighs for a line comes from its place
abbrev pub weight_there : ℕ → ℕ → ℕ → ℕ
weight_there first depth place = weight_at (min (apart (first + 4 + 0) place) (apart (first + 4 + depth) place))

pub weight_by_place : (slope offset : ℤ) (depth : ℕ) (r : Rect) → IsSlope slope → negsuc 299 ≤ℤ offset
    → weight slope offset depth r ≡ weight_there (first_place offset) depth (place_of slope r)
weight_by_place slope offset depth r in_slopes above =
    let x : ℕ = middle_of r in
    let little = rises_little slope x in_slopes (middle_small r) in
    ap weight_at (nearer (foot_gap (height_at slope offset x) r) (foot_gap (height_at slope offset x +ℤ pos depth) r)
    (apart (first_place offset + 4 + 0) (place_of slope r)) (apart (first_place offset + 4 + depth) (place_of slope r))
    (no_more (height_at slope offset x) r.y1 ∙ gap_is r.y1 (first_place offset) (rise slope x) offset (place_of slope r) 0 little.0 little.1 above (omega arith) (omega arith))
    (gap_is r.y1 (first_place offset) (rise slope x) offset (place_of slope r) depth little.0 little.1 above (omega arith) (omega arith)))

-- a box that is far off weighs nothing
pub far_weight : (gap : ℕ) → 5 ≤ gap → weight_at gap ≡ 0
far_weight gap far = let squares : 5 * 5 ≤ gap * gap = mul-le-mul far far in omega arith

-- nothing before the first place weighs anything, and nothing behind the last
pub weightless_before : (first depth place : ℕ) → place < first → weight_there first depth place ≡ 0
weightless_before first depth place before = far_weight _ (omega arith)

pub weightless_behind : (first depth place : ℕ) → first + (2 * 4 + depth + 1) ≤ place → weight_there first depth place ≡ 0
weightless_behind first depth place behind = far_weight _ (omega arith)

-- and at a place in between it is that of how far behind the first it is
pub weight_between : (first depth behind : ℕ) → weight_there first depth (first + behind) ≡ weight_behind depth behind
weight_between first depth behind = ap weight_at (nearer (apart (first + 4 + 0) (first + behind)) (apart (first + 4 + depth) (first + behind)) (apart 4 behind) (apart (4 + depth) behind) (omega arith) (omega arith))

pub weight_low : (gap : ℕ) → weight_at gap ≤ 25
weight_low gap = omega arith
