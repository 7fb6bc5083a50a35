use Rattle.std.proofs.Common.{List, ◌++◌, ap, ◌∙◌}
use Rattle.made_page.specs.declared.block.Block.{Block}
use Rattle.made_page.specs.Blocks.{blocks_of, glyphs_of, specks_of}
use Rattle.made_page.proofs.blocks.blocks_of.Goals as goal

pub returns : goal.returns
unfolding blocks_of
returns c =
    c.in_ok-push_specks.ensures
    ∙ ap (λ (blocks : List Block). blocks ++ specks_of 44) c.in_ok-push_glyphs.ensures
    ∙ ap (λ (blocks : List Block). (blocks ++ glyphs_of c.args.seed 1936) ++ specks_of 44) c.new-blocks.ensures.items
