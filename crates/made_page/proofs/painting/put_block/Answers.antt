use Rattle.std.proofs.Common.{inl, inr}
use Rattle.packed_rows.specs.Page.{pixel}
use Rattle.made_page.proofs.Pixels.{block_here, block_elsewhere}
use Rattle.made_page.proofs.painting.put_block.Goals.{else-block-y-via-then-block-y+else-y-block, else-block-y-via-else-block-y}
use Rattle.made_page.proofs.painting.put_block.Goals as goal

pub returns-then-y-block-clause-pixels : goal.returns-then-y-block-clause-pixels
returns-then-y-block-clause-pixels c = λ k.
    block_here k c.args.y c.args.block.now (pixel c.args.bits.now k) (pixel c.put_stretch.new.bits k) c.if-block-y.true c.if-y-block.true (c.put_stretch.ensures.pixels k)

pub returns-else-block-y-clause-pixels : goal.returns-else-block-y-clause-pixels
returns-else-block-y-clause-pixels c = λ k.
    block_elsewhere k c.args.y c.args.block.now (pixel c.args.bits.now k) (elim c.else-block-y.branch [
      | else-block-y-via-then-block-y+else-y-block w ↦ inr w.if-y-block.false
      | else-block-y-via-else-block-y w ↦ inl w.if-block-y.false
    ])
