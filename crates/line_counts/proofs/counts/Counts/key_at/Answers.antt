use Rattle.std.proofs.Common.{◌≡◌, w8, w16}
use Rattle.std.proofs.lemmas.Int.{to_z-of_z}
use Rattle.line_quality.specs.Keys.{line_key}
use Rattle.line_quality.specs.Scores.{IsScore}
use Rattle.line_counts.specs.Table.{LivingPage}
use Rattle.line_counts.proofs.Joining.{key_of_line, no_key_of_line}
use Rattle.line_counts.proofs.counts.Counts.key_at.Goals as goal

pub returns-then-score-least : goal.returns-then-score-least
returns-then-score-least c =
    let page : LivingPage = c.args.self.now in
    let scored : IsScore c.args.slope c.args.offset c.args.depth page.boxes page.gutters page.alive c.score-score.result.score c.score-score.result.column =
    rw (to_z-of_z w8 c.args.slope c.ranges.slope, to_z-of_z w16 c.args.offset c.ranges.offset) at c.score-score.ensures.score in
    no_key_of_line page c.args.least c.args.slope c.args.offset c.args.depth c.score-score.result.score c.score-score.result.column scored c.if-score-least.true

pub returns : goal.returns
returns c =
    let page : LivingPage = c.args.self.now in
    let scored : IsScore c.args.slope c.args.offset c.args.depth page.boxes page.gutters page.alive c.score-score.result.score c.score-score.result.column =
    rw (to_z-of_z w8 c.args.slope c.ranges.slope, to_z-of_z w16 c.args.offset c.ranges.offset) at c.score-score.ensures.score in
    let is : c.line_key.result ≡ line_key c.score-score.result.score c.args.slope c.args.offset c.args.depth =
    rw (to_z-of_z w8 c.args.slope c.ranges.slope, to_z-of_z w16 c.args.offset c.ranges.offset) at c.line_key.ensures.value in
    key_of_line page c.args.least c.args.slope c.args.offset c.args.depth c.score-score.result.score c.score-score.result.column scored c.line_key.result c.if-score-least.false is c.line_key.ensures.positive
