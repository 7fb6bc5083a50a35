use Rattle.std.proofs.Common.{[], ◌∷◌, ◌++◌, ap, ◌∙◌}
use Rattle.made_page.specs.declared.block.Block.{Block}
use Rattle.made_page.proofs.Drawing.{no_draw, two_draws, no_glyph, one_glyph}
use Rattle.made_page.proofs.blocks.push_glyphs.Goals as goal

pub loop-number-init : goal.loop-number-init
loop-number-init c = record { state = no_draw c.args.seed; blocks = no_glyph c.args.seed c.args.blocks.now.items }

pub loop-number-preserved : goal.loop-number-preserved
loop-number-preserved c =
    let l = c.loop-number in
    let is = c.draw_glyph.ensures.glyph c.args.seed l.invariant.state in
    record {
      state = c.draw_glyph.ensures.state ∙ two_draws c.args.seed l.number l.draws.state l.invariant.state;
      blocks = one_glyph c.args.seed l.number c.args.blocks.now.items l.blocks.items _ l.invariant.blocks
          (c.in_ok-push.ensures.items ∙ ap (λ (block : Block). l.blocks.items ++ block ∷ []) is);
    }
