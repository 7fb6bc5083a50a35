use Rattle.std.proofs.Common.{◌≡◌, ℕ, ◌+◌, ◌<◌, ◌≤◌, ◌+ℤ◌, ◌≤ℤ◌, pos, negsuc, ℤ, w8, w16, slice_get, arith}
use Rattle.std.specs.List.{sum_by}
use Rattle.std.proofs.lemmas.Int.{ints, to_z-of_z}
use Rattle.line_quality.specs.Points.{IsOffset}
use Rattle.line_quality.specs.Keys.{line_key}
use Rattle.line_counts.specs.Plain.{plain_weight}
use Rattle.line_counts.specs.Blocks.{lines_of}
use Rattle.line_counts.specs.Table.{LivingPage}
use Rattle.line_counts.proofs.Places.{at_offset}
use Rattle.line_counts.proofs.Keeping.{plain_is, plain_none}
use Rattle.line_counts.proofs.counts.Counts.plain_key.Goals as goal

pub returns-then-score-least : goal.returns-then-score-least
returns-then-score-least c =
    let page : LivingPage = c.args.self.now in
    let value : c.plain_score-score.result ≡ sum_by (λ position. plain_weight (lines_of c.args.slope c.args.from 1 c.more_rows.result) (slice_get page.boxes position)) page.alive =
    rw (to_z-of_z w8 c.args.slope c.ranges.slope, to_z-of_z w16 c.args.from c.ranges.from) at c.plain_score-score.ensures.value (omega (arith, c.plain_score-score.ensures.small)) in
    plain_none page c.args.least c.args.slope c.args.from c.args.offsets c.args.deepest c.more_rows.result c.plain_score-score.result c.requires.slope c.requires.low c.more_rows.ensures value c.if-score-least.true

in_grid : (from : ℤ) (offsets height : ℕ) → height ≤ 8192 → negsuc 299 ≤ℤ from → (from +ℤ pos offsets) ≤ℤ pos (height + 300 + 1) → 0 < offsets → IsOffset from
in_grid from offsets height page low high some = record { low = low; high = omega (arith, ints, high, some) }

pub line_key-requires-clause-offset : goal.line_key-requires-clause-offset
line_key-requires-clause-offset c =
    at_offset IsOffset c.args.from (to_z-of_z w16 c.args.from c.ranges.from)
    (in_grid c.args.from c.args.offsets c.args.self.now.height c.requires.page c.requires.low c.requires.high c.requires.some)

pub returns : goal.returns
returns c =
    let page : LivingPage = c.args.self.now in
    let value : c.plain_score-score.result ≡ sum_by (λ position. plain_weight (lines_of c.args.slope c.args.from 1 c.more_rows.result) (slice_get page.boxes position)) page.alive =
    rw (to_z-of_z w8 c.args.slope c.ranges.slope, to_z-of_z w16 c.args.from c.ranges.from) at c.plain_score-score.ensures.value (omega (arith, c.plain_score-score.ensures.small)) in
    let is : c.line_key.result ≡ line_key c.plain_score-score.result c.args.slope c.args.from 0 =
    rw (to_z-of_z w8 c.args.slope c.ranges.slope, to_z-of_z w16 c.args.from c.ranges.from) at c.line_key.ensures.value in
    plain_is page c.args.least c.args.slope c.args.from c.args.offsets c.args.deepest c.more_rows.result c.plain_score-score.result c.line_key.result c.requires.slope c.requires.low c.more_rows.ensures value is
