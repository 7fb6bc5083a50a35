use Rattle.std.proofs.Common.{[], ◌∷◌, ◌++◌, ap, ◌∙◌}
use Rattle.made_page.specs.declared.block.Block.{Block}
use Rattle.made_page.proofs.Drawing.{no_speck, one_speck}
use Rattle.made_page.proofs.blocks.push_specks.Goals as goal

pub loop-row-init : goal.loop-row-init
loop-row-init c = no_speck c.args.blocks.now.items

pub loop-row-preserved : goal.loop-row-preserved
loop-row-preserved c =
    let l = c.loop-row in
    one_speck l.row c.args.blocks.now.items l.blocks.items _ l.invariant (c.in_ok-push.ensures.items ∙ ap (λ (block : Block). l.blocks.items ++ block ∷ []) c.speck.ensures)
