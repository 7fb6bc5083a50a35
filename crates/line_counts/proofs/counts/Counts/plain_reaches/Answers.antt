use Rattle.std.proofs.Common.{◌≡◌, ℕ, ◌+◌, ◌*◌, ◌/◌, ◌^◌, ◌≤◌, ℤ, w8, w16, leb, true, slice_get, arith, refl}
use Rattle.std.specs.List.{sum_by}
use Rattle.std.proofs.lemmas.Int.{to_z-of_z}
use Rattle.std.proofs.lemmas.Bool.Decides.{nat_tests}
use Rattle.line_quality.specs.Keys.{line_key}
use Rattle.line_counts.specs.Plain.{plain_weight}
use Rattle.line_counts.specs.Blocks.{lines_of}
use Rattle.line_counts.specs.Table.{LivingPage}
use Rattle.line_counts.proofs.Keeping.{plain_is}
use Rattle.line_counts.proofs.counts.Counts.plain_reaches.Goals as goal

-- the digits behind a score make its key no less
key_over : (score : ℕ) (slope offset : ℤ) (depth : ℕ) → score * 2 ^ 29 ≤ line_key score slope offset depth
key_over score slope offset depth = omega arith

less_key : (key score line : ℕ) → key / 2 ^ 29 + 1 ≤ score → score * 2 ^ 29 ≤ line → key ≤ line
less_key key score line enough low = omega (arith, enough, low)

told : (a b : ℕ) → leb a b ≡ true → a ≤ b
told a b is = grind (arith, nat_tests)

pub returns : goal.returns
returns c = λ reached.
    let page : LivingPage = c.args.self.now in
    let score : ℕ = sum_by (λ position. plain_weight (lines_of c.args.slope c.args.from 1 c.more_rows.result) (slice_get page.boxes position)) page.alive in
    let within : c.plain_score-score.result ≤ score = rw (to_z-of_z w8 c.args.slope c.ranges.slope, to_z-of_z w16 c.args.from c.ranges.from) at c.plain_score-score.ensures.within in
    let plain = plain_is page 0 c.args.slope c.args.from c.args.offsets c.args.deepest c.more_rows.result score (line_key score c.args.slope c.args.from 0) c.requires.slope c.requires.low
    c.more_rows.ensures refl refl in
    omega (arith, less_key c.args.key score (line_key score c.args.slope c.args.from 0) (omega (arith, told _ _ reached, within)) (key_over score c.args.slope c.args.from 0), plain.plain)
