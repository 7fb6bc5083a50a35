use Rattle.std.proofs.Common.{ℕ, ap, ◌∙◌}
use Rattle.made_page.specs.Blocks.{speck, block_at}
use Rattle.made_page.proofs.blocks.speck.Goals as goal

pub returns : goal.returns
unfolding speck
returns c = c.block_at.ensures ∙ ap (λ (foot : ℕ). block_at 1230 foot 2 2) c.foot_of.ensures
