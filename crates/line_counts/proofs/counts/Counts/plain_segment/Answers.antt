use Rattle.std.proofs.Common.{◌≡◌, ◌+◌, ◌*◌, ◌<◌, ◌≤◌, ◌≤ℤ◌, ℕ, ℤ, negsuc, List, length, get_or, to_z, of_z, w8, w16, ◌&&◌, ltb, slice_get, arith, ap, ◌∙◌}
use Rattle.std.proofs.lemmas.Int.{to_z-of_z}
use Rattle.line_quality.specs.Points.{IsSlope}
use Rattle.line_counts.specs.Fits.{first_place, is_in, place_in, count_of}
use Rattle.line_counts.specs.Blocks.{plain_segment}
use Rattle.line_counts.specs.Table.{LivingPage, IsRow}
use Rattle.line_counts.proofs.Places.{at_slope, at_offset}
use Rattle.line_counts.proofs.Nearing.{near_before, near_small, head_of, near_head, near_inside, near_tail}
use Rattle.line_counts.proofs.counts.Counts.plain_segment.Goals as goal

-- sums of some boxes of a segment fit 32 bits
small : (page : LivingPage) (slope from : ℤ) (more segment place : ℕ) → near_before page.boxes page.gutters slope from more segment place page.alive ≤ 25 * length page.alive
small page slope from more segment place =
    near_small slope from more page.boxes (λ position. is_in page.gutters segment (slice_get page.boxes position) && ltb (place_in slope (slice_get page.boxes position)) place) page.alive

segment_small : (page : LivingPage) (slope from : ℤ) (more segment : ℕ) → plain_segment page.boxes page.gutters slope from more segment page.alive ≤ 25 * length page.alive
segment_small page slope from more segment = near_small slope from more page.boxes (λ position. is_in page.gutters segment (slice_get page.boxes position)) page.alive

-- the counts of a row, with the slope and the offset as the code holds them
record HasRow (page : LivingPage) (slope from : ℤ) (more segment : ℕ) (row : List ℕ) : Type 0 where
  pub in_slopes : IsSlope slope
  pub above : negsuc 299 ≤ℤ from
  pub few : length page.alive ≤ 60000
  pub long : length row ≡ 8 + more + 1
  pub counts : (behind : ℕ) → behind < length row → get_or row behind 0 ≡ count_of page.boxes page.gutters slope segment (first_place from + behind) page.alive

has_row : (page : LivingPage) (slope from : ℤ) (more segment : ℕ) (row : List ℕ) → to_z w8 (of_z w8 slope) ≡ slope → to_z w16 (of_z w16 from) ≡ from → IsSlope slope → negsuc 299 ≤ℤ from
    → IsRow page (to_z w8 (of_z w8 slope)) (to_z w16 (of_z w16 from)) more segment row → HasRow page (to_z w8 (of_z w8 slope)) (to_z w16 (of_z w16 from)) more segment row
has_row page slope from more segment row slope_is from_is in_slopes above is = record {
  in_slopes = at_slope IsSlope slope slope_is in_slopes;
  above = at_offset (λ (o : ℤ). negsuc 299 ≤ℤ o) from from_is above;
  few = is.few;
  long = is.long;
  counts = is.counts;
}

module _ (page : LivingPage) (slope from : ℤ) (more segment : ℕ) (row : List ℕ) (has : HasRow page slope from more segment row) where
  near : (behind : ℕ) → behind < 9 + more → get_or row behind 0 ≡ count_of page.boxes page.gutters slope segment (first_place from + behind) page.alive
  near behind within = has.counts behind (omega (arith, within, has.long))

  begun : head_of row + 25 * 0 ≡ near_before page.boxes page.gutters slope from more segment (first_place from + 4) page.alive
  begun = omega (arith, near_head page.boxes page.gutters slope from more segment has.in_slopes has.above page.alive row near)

  -- sums of some of its boxes fit 32 bits
  room : (place : ℕ) → near_before page.boxes page.gutters slope from more segment place page.alive ≤ 1500000
  room place = omega (arith, has.few, small page slope from more segment place)

  segment_room : plain_segment page.boxes page.gutters slope from more segment page.alive ≤ 1500000
  segment_room = omega (arith, has.few, segment_small page slope from more segment)

  next : (inside behind : ℕ) → 4 ≤ behind → behind < 4 + more + 1 → head_of row + 25 * inside ≡ near_before page.boxes page.gutters slope from more segment (first_place from + behind) page.alive
      → head_of row + 25 * (inside + get_or row behind 0) ≡ near_before page.boxes page.gutters slope from more segment (first_place from + (behind + 1)) page.alive
  next inside behind low high is =
      omega (arith, near_inside page.boxes page.gutters slope from more segment has.in_slopes has.above page.alive row near behind (head_of row + 25 * inside) low (omega (arith, high)) is)

  whole : (inside behind : ℕ) → behind ≡ 5 + more → head_of row + 25 * inside ≡ near_before page.boxes page.gutters slope from more segment (first_place from + behind) page.alive
      → 9 * (get_or row 0 0 + get_or row (4 + more + 4) 0) + 16 * (get_or row 1 0 + get_or row (4 + more + 3) 0) + 21 * (get_or row 2 0 + get_or row (4 + more + 2) 0)
      + 24 * (get_or row 3 0 + get_or row (4 + more + 1) 0) + 25 * inside ≡ plain_segment page.boxes page.gutters slope from more segment page.alive
  whole inside behind last is =
      omega (
        arith,
        near_tail page.boxes page.gutters slope from more segment has.in_slopes has.above page.alive row near (head_of row + 25 * inside)
            (is ∙ ap (λ (n : ℕ). near_before page.boxes page.gutters slope from more segment (first_place from + n) page.alive) last),
        ap (λ (k : ℕ). get_or row k 0) (four more),
        ap (λ (k : ℕ). get_or row k 0) (three more),
        ap (λ (k : ℕ). get_or row k 0) (two more),
        ap (λ (k : ℕ). get_or row k 0) (one more),
      )
    where
      four : (n : ℕ) → 4 + n + 4 ≡ 8 + n
      four n = omega arith

      three : (n : ℕ) → 4 + n + 3 ≡ 7 + n
      three n = omega arith

      two : (n : ℕ) → 4 + n + 2 ≡ 6 + n
      two n = omega arith

      one : (n : ℕ) → 4 + n + 1 ≡ 5 + n
      one n = omega arith

pub loop-behind-init : goal.loop-behind-init
loop-behind-init c =
    let has = has_row c.args.self.now c.args.slope c.args.from c.args.more c.args.of_segment c.row-row.result.now (to_z-of_z w8 c.args.slope c.ranges.slope) (to_z-of_z w16 c.args.from c.ranges.from) c.requires.slope c.requires.low c.row-row.ensures in
    record { from = omega arith; sum = begun _ _ _ _ _ _ has }

pub loop-behind-preserved : goal.loop-behind-preserved
loop-behind-preserved c =
    let has = has_row c.args.self.now c.args.slope c.args.from c.args.more c.args.of_segment c.row-row.result.now (to_z-of_z w8 c.args.slope c.ranges.slope) (to_z-of_z w16 c.args.from c.ranges.from) c.requires.slope c.requires.low c.row-row.ensures in
    record { from = omega (arith, c.loop-behind.invariant.from); sum = next _ _ _ _ _ _ has c.loop-behind.inside c.loop-behind.behind c.loop-behind.invariant.from c.loop-behind-test.true c.loop-behind.invariant.sum }

pub overflow_add-inside : goal.overflow_add-inside
overflow_add-inside c =
    let has = has_row c.args.self.now c.args.slope c.args.from c.args.more c.args.of_segment c.row-row.result.now (to_z-of_z w8 c.args.slope c.ranges.slope) (to_z-of_z w16 c.args.from c.ranges.from) c.requires.slope c.requires.low c.row-row.ensures in
    record { fits = omega (arith, next _ _ _ _ _ _ has c.loop-behind.inside c.loop-behind.behind c.loop-behind.invariant.from c.loop-behind-test.true c.loop-behind.invariant.sum, room _ _ _ _ _ _ has (first_place (to_z w16 (of_z w16 c.args.from)) + (c.loop-behind.behind + 1))) }

pub overflow_mul-result-5 : goal.overflow_mul-result-5
overflow_mul-result-5 c =
    let has = has_row c.args.self.now c.args.slope c.args.from c.args.more c.args.of_segment c.row-row.result.now (to_z-of_z w8 c.args.slope c.ranges.slope) (to_z-of_z w16 c.args.from c.ranges.from) c.requires.slope c.requires.low c.row-row.ensures in
    record { fits = omega (arith, c.loop-behind.invariant.sum, room _ _ _ _ _ _ has (first_place (to_z w16 (of_z w16 c.args.from)) + c.loop-behind.behind)) }

pub overflow_add-result-12 : goal.overflow_add-result-12
overflow_add-result-12 c =
    let has = has_row c.args.self.now c.args.slope c.args.from c.args.more c.args.of_segment c.row-row.result.now (to_z-of_z w8 c.args.slope c.ranges.slope) (to_z-of_z w16 c.args.from c.ranges.from) c.requires.slope c.requires.low c.row-row.ensures in
    record { fits = omega (arith, whole _ _ _ _ _ _ has c.loop-behind.inside c.loop-behind.behind (omega (arith, c.loop-behind-test.false, c.loop-behind.auto.behind-end)) c.loop-behind.invariant.sum, segment_room _ _ _ _ _ _ has) }

pub returns-clause-value : goal.returns-clause-value
returns-clause-value c =
    let page : LivingPage = c.args.self.now in
    let slope_is = to_z-of_z w8 c.args.slope c.ranges.slope in
    let from_is = to_z-of_z w16 c.args.from c.ranges.from in
    let has = has_row c.args.self.now c.args.slope c.args.from c.args.more c.args.of_segment c.row-row.result.now (to_z-of_z w8 c.args.slope c.ranges.slope) (to_z-of_z w16 c.args.from c.ranges.from) c.requires.slope c.requires.low c.row-row.ensures in
    whole _ _ _ _ _ _ has c.loop-behind.inside c.loop-behind.behind (omega (arith, c.loop-behind-test.false, c.loop-behind.auto.behind-end)) c.loop-behind.invariant.sum
    ∙ ap (λ (s : ℤ). plain_segment page.boxes page.gutters s (to_z w16 (of_z w16 c.args.from)) c.args.more c.args.of_segment page.alive) slope_is
    ∙ ap (λ (o : ℤ). plain_segment page.boxes page.gutters c.args.slope o c.args.more c.args.of_segment page.alive) from_is

pub returns-clause-small : goal.returns-clause-small
returns-clause-small c =
    omega (arith, c.row-row.ensures.few, returns-clause-value c, segment_small c.args.self.now c.args.slope c.args.from c.args.more c.args.of_segment)
