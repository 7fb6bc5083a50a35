use Rattle.std.proofs.Common.{◌≡◌, ◌+◌, ◌*◌, ◌<◌, ◌≤◌, ℕ, ℤ, length, to_z, of_z, w8, w16, slice_get, arith, ap, ◌∙◌, sym}
use Rattle.std.specs.List.{sum_by}
use Rattle.std.proofs.lemmas.Int.{to_z-of_z}
use Rattle.line_counts.specs.Plain.{plain_weight}
use Rattle.line_counts.specs.Blocks.{lines_of}
use Rattle.line_counts.specs.Table.{LivingPage}
use Rattle.line_counts.proofs.Nearing.{near_among, is_among, near_small, sum_no_segment, sum_segment, sum_segments, among_least}
use Rattle.line_counts.proofs.counts.Counts.plain_score.Goals as goal

pub loop-of_segment-init : goal.loop-of_segment-init
loop-of_segment-init c =
    let page : LivingPage = c.args.self.now in
    sym (sum_no_segment page.boxes page.gutters (to_z w8 (of_z w8 c.args.slope)) (to_z w16 (of_z w16 c.args.from)) c.args.more page.alive)

pub loop-of_segment-preserved : goal.loop-of_segment-preserved
loop-of_segment-preserved c =
    let page : LivingPage = c.args.self.now in
    let slope : ℤ = to_z w8 (of_z w8 c.args.slope) in
    let from : ℤ = to_z w16 (of_z w16 c.args.from) in
    let n = c.loop-of_segment.of_segment in
    omega (arith, c.loop-of_segment.invariant, c.plain_segment-total.ensures.value, sum_segment page.boxes page.gutters slope from c.args.more n page.alive)

small : (page : LivingPage) (slope from : ℤ) (more n : ℕ) → near_among page.boxes page.gutters slope from more n page.alive ≤ 25 * length page.alive
small page slope from more n = near_small slope from more page.boxes (λ position. is_among page.gutters n (slice_get page.boxes position)) page.alive

pub overflow_add-total : goal.overflow_add-total
overflow_add-total c =
    let page : LivingPage = c.args.self.now in
    let slope : ℤ = to_z w8 (of_z w8 c.args.slope) in
    let from : ℤ = to_z w16 (of_z w16 c.args.from) in
    let n = c.loop-of_segment.of_segment in
    let few : length page.alive ≤ 60000 = omega (arith, c.self.invariant.countable.few_alive, ap (λ (p : LivingPage). length p.alive) c.self.view_is) in
    let sum : c.loop-of_segment.total + c.plain_segment-total.result ≤ 1500000 =
    omega (arith, few, c.loop-of_segment.invariant, c.plain_segment-total.ensures.value, sum_segment page.boxes page.gutters slope from c.args.more n page.alive, small page slope from c.args.more (n + 1)) in
    record { fits = omega (arith, sum) }

-- as the code holds the slope and the offset, or as they are
alike : (page : LivingPage) (more : ℕ) (s t o p : ℤ) → s ≡ t → o ≡ p
    → sum_by (λ position. plain_weight (lines_of s o 1 more) (slice_get page.boxes position)) page.alive ≡ sum_by (λ position. plain_weight (lines_of t p 1 more) (slice_get page.boxes position)) page.alive
alike page more s t o p slopes offsets =
    ap (λ (a : ℤ). sum_by (λ position. plain_weight (lines_of a o 1 more) (slice_get page.boxes position)) page.alive) slopes
    ∙ ap (λ (b : ℤ). sum_by (λ position. plain_weight (lines_of t b 1 more) (slice_get page.boxes position)) page.alive) offsets

-- what the first segments have is small, and no more than all
record AreFirst (page : LivingPage) (slope from : ℤ) (more total : ℕ) : Type 0 where
  pub small : total ≤ 1500000
  pub within : total ≤ sum_by (λ position. plain_weight (lines_of slope from 1 more) (slice_get page.boxes position)) page.alive

first : (page : LivingPage) (s slope o from : ℤ) (more n total : ℕ) → s ≡ slope → o ≡ from → length page.alive ≤ 60000 → total ≡ near_among page.boxes page.gutters s o more n page.alive
    → AreFirst page slope from more total
first page s slope o from more n total slopes offsets few is = record {
  small = omega (arith, few, is, small page s o more n);
  within = omega (arith, is, among_least page.boxes page.gutters s o more n page.alive, alike page more s slope o from slopes offsets);
}

pub returns-then-total-enough : goal.returns-then-total-enough
returns-then-total-enough c =
    let page : LivingPage = c.args.self.now in
    let n = c.loop-of_segment.of_segment in
    let few : length page.alive ≤ 60000 = omega (arith, c.self.invariant.countable.few_alive, ap (λ (p : LivingPage). length p.alive) c.self.view_is) in
    let are = first page (to_z w8 (of_z w8 c.args.slope)) c.args.slope (to_z w16 (of_z w16 c.args.from)) c.args.from c.args.more (n + 1) (c.loop-of_segment.total + c.plain_segment-total.result)
    (to_z-of_z w8 c.args.slope c.ranges.slope) (to_z-of_z w16 c.args.from c.ranges.from) few
    (omega (
      arith,
      c.loop-of_segment.invariant,
      c.plain_segment-total.ensures.value,
      sum_segment page.boxes page.gutters (to_z w8 (of_z w8 c.args.slope)) (to_z w16 (of_z w16 c.args.from)) c.args.more n page.alive,
    )) in
    record { value = λ less. absurd (omega (arith, less, c.if-total-enough.true)); within = are.within; small = are.small }

pub returns : goal.returns
returns c =
    let page : LivingPage = c.args.self.now in
    let slope : ℤ = to_z w8 (of_z w8 c.args.slope) in
    let from : ℤ = to_z w16 (of_z w16 c.args.from) in
    let slope_is : slope ≡ c.args.slope = to_z-of_z w8 c.args.slope c.ranges.slope in
    let from_is : from ≡ c.args.from = to_z-of_z w16 c.args.from c.ranges.from in
    let few : length page.alive ≤ 60000 = omega (arith, c.self.invariant.countable.few_alive, ap (λ (p : LivingPage). length p.alive) c.self.view_is) in
    let are = first page slope c.args.slope from c.args.from c.args.more c.loop-of_segment.of_segment c.loop-of_segment.total slope_is from_is few c.loop-of_segment.invariant in
    let all : length page.gutters < c.loop-of_segment.of_segment =
    omega (arith, c.loop-of_segment-test.false, c.loop-of_segment.auto.of_segment-end, c.len-of_segment-end.ensures.value, ap (λ (p : LivingPage). length p.gutters) c.self.view_is) in
    record {
      value = λ _. c.loop-of_segment.invariant ∙ sum_segments page.boxes page.gutters slope from c.args.more c.loop-of_segment.of_segment all page.alive
          ∙ alike page c.args.more slope c.args.slope from c.args.from slope_is from_is;
      within = are.within;
      small = are.small;
    }
