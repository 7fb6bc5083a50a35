use Rattle.std.proofs.Common.{ℕ, ap, ◌≡◌, ◌∙◌, ◌+◌, ◌*◌, ◌/◌, ◌%◌, ◌^◌}
use Rattle.made_page.specs.Draws.{state_behind, draw}
use Rattle.made_page.specs.Blocks.{glyph, block_at, glyph_left}
use Rattle.made_page.proofs.Drawing.{one_draw, drawn}
use Rattle.made_page.proofs.blocks.draw_glyph.Goals as goal

pub returns-clause-glyph : goal.returns-clause-glyph
unfolding glyph
returns-clause-glyph c = λ seed at.
    let number = c.args.number in
    let first : c.draw.result ≡ draw seed (2 * number) = c.draw.ensures.value ∙ drawn seed (2 * number) c.args.draws.now.state at in
    let between = one_draw seed (2 * number) c.args.draws.now.state at in
    let second : c.draw-2.result ≡ draw seed (2 * number + 1) =
    c.draw-2.ensures.value ∙ ap (λ (state : ℕ). state_behind state / 2 ^ 33) c.draw.ensures.state ∙ drawn seed (2 * number + 1) (state_behind c.args.draws.now.state) between in
    let left = glyph_left (number / 22 % 2) (number % 22) in
    c.block_at.ensures
    ∙ ap (λ (foot : ℕ). block_at left foot (24 + c.draw.result % 9) (24 + c.draw-2.result % 13)) c.foot_of-foot.ensures
    ∙ ap (λ (width : ℕ). block_at left (200 + 72 * (number / 44)) (24 + width % 9) (24 + c.draw-2.result % 13)) first
    ∙ ap (λ (height : ℕ). block_at left (200 + 72 * (number / 44)) (24 + draw seed (2 * number) % 9) (24 + height % 13)) second
