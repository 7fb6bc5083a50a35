use Rattle.std.proofs.Common.{◌≡◌, ℤ, to_z, of_z, w16, arith, ap, ◌∙◌}
use Rattle.line_quality.specs.Keys.{line_key}
use Rattle.line_counts.proofs.Places.{held_slope}
use Rattle.line_counts.proofs.Passing.{held_first, stretch_over, stretch_empty}
use Rattle.line_counts.proofs.counts.Counts.rough.Goals as goal

pub returns-then-score-least : goal.returns-then-score-least
returns-then-score-least c =
    stretch_empty c.args.self.now c.args.stretch.now c.args.least c.most_of-score.result c.if-score-least.true
    c.most_of-score.ensures.over

pub returns : goal.returns
returns c =
    let stretch = c.args.stretch.now in
    let top = c.min.result in
    let is : c.line_key.result ≡ line_key top stretch.slope stretch.from stretch.shallowest =
    c.line_key.ensures.value
    ∙ ap (λ (s : ℤ). line_key top s (to_z w16 (of_z w16 stretch.from)) stretch.shallowest) (held_slope stretch.slope c.requires.of_page.slope_in)
    ∙ ap (λ (o : ℤ). line_key top stretch.slope o stretch.shallowest) (held_first c.args.self.now.height stretch c.requires.of_page) in
    λ key some.
    omega (
      arith,
      is,
      stretch_over c.args.self.now stretch c.args.least c.most_of-score.result top c.most_of-score.ensures.alive c.requires.of_page.low c.min.ensures
          c.most_of-score.ensures.over
          key
          some,
    )
