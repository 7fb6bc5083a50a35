-- What a box weighs at most for neighbouring lines of one slope, by its place, and what all boxes do, segment by segment.
use Rattle.std.proofs.Common.{◌≡◌, ℕ, ◌+◌, ◌-◌, ◌*◌, ◌<◌, ◌≤◌, ℤ, pos, negsuc, ◌+ℤ◌, ◌-ℤ◌, ◌≤ℤ◌, unsigned_abs, Bool, true, false, leb, ltb, cond, List, length, get_or, Option, Some, None, slice_get, arith, refl, sym, ◌∙◌, ap}
use Rattle.std.specs.List.{sum_by}
use Rattle.std.specs.Int.{int_gap}
use Rattle.std.proofs.lemmas.Int.{ints}
use Rattle.std.proofs.lemmas.List.Sums.{count_by-le-length, sum_by-le-sum_by}
use Rattle.std.proofs.lemmas.Bool.Decides.{nat_tests}
use Rattle.layout_geom.specs.declared.rect.Rect.{Rect}
use Rattle.line_quality.specs.Points.{IsSlope, rise, middle_of, weight_at}
use Rattle.line_quality.specs.KeyLaws.{abs_parts}
use Rattle.line_counts.specs.Fits.{segment_of, is_in, place_of, first_place, count_of}
use Rattle.line_counts.specs.Plain.{plain_weight, lowest, highest}
use Rattle.line_counts.specs.Blocks.{lines_of, plain_segment}
use Rattle.line_counts.proofs.Places.{far_weight, rises_little, middle_small, weight_low}
use Rattle.line_counts.proofs.Growing.{int_gap_is}
use Rattle.line_counts.proofs.Weighing.{sum_before, sum_none, sum_next, sum_all, sum_two, same_sum, no_sum, low_sum, place_more}

-- what a box weighs at most for one of some rows comes from its place
abbrev pub near_there : ℕ → ℕ → ℕ → ℕ
near_there first more place = weight_at ((first + 4 - place) + (place - (first + 4 + more)))

gap_is : (y first place more : ℕ) (rise from low last : ℤ) → negsuc 262 ≤ℤ rise → rise ≤ℤ pos 262 → negsuc 299 ≤ℤ from
    → first ≡ unsigned_abs (from +ℤ pos 300) → place ≡ unsigned_abs ((pos y -ℤ rise) +ℤ pos 304) → low ≡ from +ℤ rise → last ≡ (from +ℤ rise) +ℤ pos more
    → int_gap (pos y) low + int_gap last (pos y) ≡ (first + 4 - place) + (place - (first + 4 + more))
gap_is y first place more rise from low last little small above first_is place_is low_is last_is =
    omega (arith, ints, abs_parts (from +ℤ pos 300), abs_parts ((pos y -ℤ rise) +ℤ pos 304), int_gap_is (pos y) low, int_gap_is last (pos y))

one_slope : (s : ℤ) → (s +ℤ pos 1) -ℤ pos 1 ≡ s
one_slope s = omega (arith, ints)

last_row : (from rise : ℤ) (offsets deepest more : ℕ) → more + 1 ≡ offsets + deepest
    → ((((from +ℤ pos offsets) -ℤ pos 1) +ℤ rise) +ℤ (pos (deepest + 1) -ℤ pos 1)) ≡ (from +ℤ rise) +ℤ pos more
last_row from rise offsets deepest more is = omega (arith, ints)

module _ (slope from : ℤ) (offsets deepest more : ℕ) (in_slopes : IsSlope slope) (above : negsuc 299 ≤ℤ from) (rows : more + 1 ≡ offsets + deepest) where
  pub near_place : (r : Rect) → plain_weight (lines_of slope from offsets deepest) (Some r) ≡ near_there (first_place from) more (place_of slope r)
  near_place r =
      let x : ℕ = middle_of r in
      let little = rises_little slope x in_slopes (middle_small r) in
      ap weight_at
      (gap_is r.y1 (first_place from) (place_of slope r) more (rise slope x) from (lowest (lines_of slope from offsets deepest) x)
      (highest (lines_of slope from offsets deepest) x +ℤ (pos (deepest + 1) -ℤ pos 1)) little.0 little.1 above refl refl refl
      (ap (λ (s : ℤ). (((from +ℤ pos offsets) -ℤ pos 1) +ℤ rise s x) +ℤ (pos (deepest + 1) -ℤ pos 1)) (one_slope slope)
      ∙ last_row from (rise slope x) offsets deepest more rows))

-- so one row that is deeper weighs the same as more rows
module _ (slope from : ℤ) (offsets deepest more : ℕ) (in_slopes : IsSlope slope) (above : negsuc 299 ≤ℤ from) (rows : more + 1 ≡ offsets + deepest) where
  pub same_rows : (o : Option Rect) → plain_weight (lines_of slope from 1 more) o ≡ plain_weight (lines_of slope from offsets deepest) o
  same_rows (Some r) = near_place slope from 1 more more in_slopes above (omega arith) r ∙ sym (near_place slope from offsets deepest more in_slopes above rows r)
  same_rows None = refl

pub nothing_before : (first more place : ℕ) → place < first → near_there first more place ≡ 0
nothing_before first more place before = far_weight _ (omega arith)

pub nothing_behind : (first more place : ℕ) → first + (2 * 4 + more + 1) ≤ place → near_there first more place ≡ 0
nothing_behind first more place behind = far_weight _ (omega arith)

-- the same by how far behind the first place it is
abbrev nearest_weight : ℕ → ℕ → ℕ
nearest_weight more behind = weight_at ((4 - behind) + (behind - (4 + more)))

near_behind : (first more behind : ℕ) → near_there first more (first + behind) ≡ nearest_weight more behind
near_behind first more behind = ap weight_at (gaps first more behind)
  where
    gaps : (first more behind : ℕ) → (first + 4 - (first + behind)) + ((first + behind) - (first + 4 + more)) ≡ (4 - behind) + (behind - (4 + more))
    gaps first more behind = omega arith

-- what the boxes of the segment weigh at most whose places come before one
abbrev pub near_before : List Rect → List Rect → ℤ → ℤ → ℕ → ℕ → ℕ → List ℕ → ℕ
near_before boxes gutters slope from more segment place positions = sum_before boxes gutters slope segment (plain_weight (lines_of slope from 1 more)) place positions

module _ (boxes gutters : List Rect) (slope from : ℤ) (more segment : ℕ) (in_slopes : IsSlope slope) (above : negsuc 299 ≤ℤ from) where
  row_place : (r : Rect) → plain_weight (lines_of slope from 1 more) (Some r) ≡ near_there (first_place from) more (place_of slope r)
  row_place r = near_place slope from 1 more more in_slopes above (omega arith) r

  pub near_none : (place : ℕ) (positions : List ℕ) → place ≡ first_place from → near_before boxes gutters slope from more segment place positions ≡ 0
  near_none place positions is =
      sum_none boxes gutters slope segment (plain_weight (lines_of slope from 1 more)) (near_there (first_place from) more) row_place (first_place from) place (nothing_before (first_place from) more) is positions

  pub near_all : (place : ℕ) (positions : List ℕ) → place ≡ first_place from + (2 * 4 + more + 1)
      → near_before boxes gutters slope from more segment place positions ≡ plain_segment boxes gutters slope from more segment positions
  near_all place positions is =
      sum_all boxes gutters slope segment (plain_weight (lines_of slope from 1 more)) (near_there (first_place from) more) row_place (first_place from + (2 * 4 + more + 1)) place
      (nothing_behind (first_place from) more) is positions

  pub near_next : (behind total counted weighs : ℕ) (positions : List ℕ) → total ≡ near_before boxes gutters slope from more segment (first_place from + behind) positions
      → counted ≡ count_of boxes gutters slope segment (first_place from + behind) positions → weighs ≡ nearest_weight more behind
      → total + counted * weighs ≡ near_before boxes gutters slope from more segment (first_place from + (behind + 1)) positions
  near_next behind total counted weighs positions is counted_is weighs_is =
      sum_next boxes gutters slope segment (plain_weight (lines_of slope from 1 more)) (near_there (first_place from) more) row_place (first_place from) behind total counted weighs positions is counted_is
      (near_behind (first_place from) more behind ∙ sym weighs_is)

-- what the first four counts of a row weigh, above the first row
abbrev pub head_of : List ℕ → ℕ
head_of row = 9 * get_or row 0 0 + 16 * get_or row 1 0 + 21 * get_or row 2 0 + 24 * get_or row 3 0

by_gap : (more behind gap : ℕ) → (4 - behind) + (behind - (4 + more)) ≡ gap → nearest_weight more behind ≡ weight_at gap
by_gap more behind gap is = ap weight_at is

module _ (boxes gutters : List Rect) (slope from : ℤ) (more segment : ℕ) (in_slopes : IsSlope slope) (above : negsuc 299 ≤ℤ from) (positions row : List ℕ)
    (counts : (behind : ℕ) → behind < 9 + more → get_or row behind 0 ≡ count_of boxes gutters slope segment (first_place from + behind) positions) where
  -- one place more
  step : (behind total weighs gap : ℕ) → behind < 9 + more → (4 - behind) + (behind - (4 + more)) ≡ gap → weighs ≡ weight_at gap
      → total ≡ near_before boxes gutters slope from more segment (first_place from + behind) positions
      → total + get_or row behind 0 * weighs ≡ near_before boxes gutters slope from more segment (first_place from + (behind + 1)) positions
  step behind total weighs gap within gap_is weighs_is is =
      near_next boxes gutters slope from more segment in_slopes above behind total (get_or row behind 0) weighs positions is (counts behind within) (weighs_is ∙ sym (by_gap more behind gap gap_is))

  -- the places above the first row
  pub near_head : head_of row ≡ near_before boxes gutters slope from more segment (first_place from + 4) positions
  near_head =
      let none : 0 ≡ near_before boxes gutters slope from more segment (first_place from + 0) positions =
      sym (near_none boxes gutters slope from more segment in_slopes above (first_place from + 0) positions (omega arith)) in
      let first = step 0 0 9 4 (omega arith) (omega arith) refl none in
      let second = step 1 (0 + get_or row 0 0 * 9) 16 3 (omega arith) (omega arith) refl first in
      let third = step 2 (0 + get_or row 0 0 * 9 + get_or row 1 0 * 16) 21 2 (omega arith) (omega arith) refl second in
      let fourth = step 3 (0 + get_or row 0 0 * 9 + get_or row 1 0 * 16 + get_or row 2 0 * 21) 24 1 (omega arith) (omega arith) refl third in
      omega (arith, fourth)

  -- a place between the rows
  pub near_inside : (behind total : ℕ) → 4 ≤ behind → behind < 5 + more → total ≡ near_before boxes gutters slope from more segment (first_place from + behind) positions
      → total + get_or row behind 0 * 25 ≡ near_before boxes gutters slope from more segment (first_place from + (behind + 1)) positions
  near_inside behind total low high is = step behind total 25 0 (omega (arith, high)) (omega (arith, low, high)) refl is

  -- the places below the last row
  pub near_tail : (total : ℕ) → total ≡ near_before boxes gutters slope from more segment (first_place from + (5 + more)) positions
      → total + get_or row (5 + more) 0 * 24 + get_or row (6 + more) 0 * 21 + get_or row (7 + more) 0 * 16 + get_or row (8 + more) 0 * 9
      ≡ plain_segment boxes gutters slope from more segment positions
  near_tail total is =
      let first = step (5 + more) total 24 1 (omega arith) (omega arith) refl is in
      let second = step (6 + more) (total + get_or row (5 + more) 0 * 24) 21 2 (omega arith) (omega arith) refl (at_next (5 + more) (6 + more) _ (omega arith) first) in
      let third = step (7 + more) (total + get_or row (5 + more) 0 * 24 + get_or row (6 + more) 0 * 21) 16 3 (omega arith) (omega arith) refl (at_next (6 + more) (7 + more) _ (omega arith) second) in
      let fourth = step (8 + more) (total + get_or row (5 + more) 0 * 24 + get_or row (6 + more) 0 * 21 + get_or row (7 + more) 0 * 16) 9 4 (omega arith) (omega arith) refl (at_next (7 + more) (8 + more) _ (omega arith) third) in
      fourth ∙ near_all boxes gutters slope from more segment in_slopes above (first_place from + (8 + more + 1)) positions (omega arith)
    where
      at_next : (behind next total : ℕ) → behind + 1 ≡ next → total ≡ near_before boxes gutters slope from more segment (first_place from + (behind + 1)) positions
          → total ≡ near_before boxes gutters slope from more segment (first_place from + next) positions
      at_next behind next total same there = there ∙ ap (λ (n : ℕ). near_before boxes gutters slope from more segment (first_place from + n) positions) same

cond_less : (b : Bool) (w : ℕ) → cond b w 0 ≤ w
cond_less true w = omega arith
cond_less false w = omega arith

cond_low : (b : Bool) (w : ℕ) → w ≤ 25 → cond b w 0 ≤ 25
cond_low true w low = low
cond_low false w low = omega arith

plain_low : (slope from : ℤ) (more : ℕ) (o : Option Rect) → plain_weight (lines_of slope from 1 more) o ≤ 25
plain_low slope from more (Some r) = weight_low _
plain_low slope from more None = omega arith

-- the sum of what some boxes weigh at most fits 32 bits
pub near_small : (slope from : ℤ) (more : ℕ) (boxes : List Rect) (test : ℕ → Bool) (positions : List ℕ)
    → sum_by (λ position. cond (test position) (plain_weight (lines_of slope from 1 more) (slice_get boxes position)) 0) positions ≤ 25 * length positions
near_small slope from more boxes test positions =
    low_sum (λ position. cond (test position) (plain_weight (lines_of slope from 1 more) (slice_get boxes position)) 0)
    (λ position. cond_low (test position) (plain_weight (lines_of slope from 1 more) (slice_get boxes position)) (plain_low slope from more (slice_get boxes position))) positions

-- the box is in one of the first segments
abbrev pub is_among : List Rect → ℕ → Option Rect → Bool
is_among gutters n (Some r) = ltb (segment_of gutters (middle_of r)) n
is_among gutters n None = false

-- what the boxes of the first segments weigh at most together
abbrev pub near_among : List Rect → List Rect → ℤ → ℤ → ℕ → ℕ → List ℕ → ℕ
near_among boxes gutters slope from more n positions = sum_by
    (λ position. cond (is_among gutters n (slice_get boxes position)) (plain_weight (lines_of slope from 1 more) (slice_get boxes position)) 0) positions

among_none : (p w : ℕ) → cond (ltb p 0) w 0 ≡ 0
among_none p w = grind (arith, nat_tests)

among_all : (p n w : ℕ) → p < n → cond (ltb p n) w 0 ≡ w
among_all p n w less = grind (arith, nat_tests)

module _ (boxes gutters : List Rect) (slope from : ℤ) (more : ℕ) where
  none_among : (o : Option Rect) → cond (is_among gutters 0 o) (plain_weight (lines_of slope from 1 more) o) 0 ≡ 0
  none_among (Some r) = among_none (segment_of gutters (middle_of r)) (plain_weight (lines_of slope from 1 more) (Some r))
  none_among None = refl

  one_among : (n : ℕ) (o : Option Rect) → cond (is_among gutters (n + 1) o) (plain_weight (lines_of slope from 1 more) o) 0
      ≡ cond (is_among gutters n o) (plain_weight (lines_of slope from 1 more) o) 0 + cond (is_in gutters n o) (plain_weight (lines_of slope from 1 more) o) 0
  one_among n (Some r) =
      place_more true (segment_of gutters (middle_of r)) n (plain_weight (lines_of slope from 1 more) (Some r)) (plain_weight (lines_of slope from 1 more) (Some r)) (λ _. refl)
  one_among n None = omega arith

  every_among : (n : ℕ) → length gutters < n → (o : Option Rect) → cond (is_among gutters n o) (plain_weight (lines_of slope from 1 more) o) 0 ≡ plain_weight (lines_of slope from 1 more) o
  every_among n all (Some r) =
      among_all (segment_of gutters (middle_of r)) n (plain_weight (lines_of slope from 1 more) (Some r))
      (omega (arith, all, count_by-le-length (λ (g : Rect). leb (middle_of g) (middle_of r)) gutters))
  every_among n all None = refl

  -- no segment has anything
  pub sum_no_segment : (positions : List ℕ) → near_among boxes gutters slope from more 0 positions ≡ 0
  sum_no_segment positions =
      no_sum (λ position. cond (is_among gutters 0 (slice_get boxes position)) (plain_weight (lines_of slope from 1 more) (slice_get boxes position)) 0)
      (λ position. none_among (slice_get boxes position)) positions

  -- one segment more
  pub sum_segment : (n : ℕ) (positions : List ℕ) → near_among boxes gutters slope from more (n + 1) positions
      ≡ near_among boxes gutters slope from more n positions + plain_segment boxes gutters slope from more n positions
  sum_segment n positions =
      sum_two (λ position. cond (is_among gutters (n + 1) (slice_get boxes position)) (plain_weight (lines_of slope from 1 more) (slice_get boxes position)) 0)
      (λ position. cond (is_among gutters n (slice_get boxes position)) (plain_weight (lines_of slope from 1 more) (slice_get boxes position)) 0)
      (λ position. cond (is_in gutters n (slice_get boxes position)) (plain_weight (lines_of slope from 1 more) (slice_get boxes position)) 0)
      (λ position. one_among n (slice_get boxes position)) positions

  -- all segments
  pub sum_segments : (n : ℕ) → length gutters < n → (positions : List ℕ) → near_among boxes gutters slope from more n positions
      ≡ sum_by (λ position. plain_weight (lines_of slope from 1 more) (slice_get boxes position)) positions
  sum_segments n all positions =
      same_sum (λ position. cond (is_among gutters n (slice_get boxes position)) (plain_weight (lines_of slope from 1 more) (slice_get boxes position)) 0)
      (λ position. plain_weight (lines_of slope from 1 more) (slice_get boxes position))
      (λ position. every_among n all (slice_get boxes position)) positions

  -- the first segments have no more than all
  pub among_least : (n : ℕ) (positions : List ℕ) → near_among boxes gutters slope from more n positions
      ≤ sum_by (λ position. plain_weight (lines_of slope from 1 more) (slice_get boxes position)) positions
  among_least n positions =
      sum_by-le-sum_by (λ position. cond (is_among gutters n (slice_get boxes position)) (plain_weight (lines_of slope from 1 more) (slice_get boxes position)) 0)
      (λ position. plain_weight (lines_of slope from 1 more) (slice_get boxes position)) positions
      (λ position. cond_less (is_among gutters n (slice_get boxes position)) (plain_weight (lines_of slope from 1 more) (slice_get boxes position)))
