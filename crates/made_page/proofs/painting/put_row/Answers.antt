use Rattle.std.proofs.Common.{length, refl, ◌∙◌}
use Rattle.packed_rows.specs.Page.{pixel}
use Rattle.made_page.proofs.Pixels.{one_block, all_blocks}
use Rattle.made_page.proofs.painting.put_row.Goals as goal

pub loop-block-init : goal.loop-block-init
loop-block-init c =
    record { len = c.whiten.ensures.len; pixels = c.whiten.ensures.pixels }

pub loop-block-preserved : goal.loop-block-preserved
loop-block-preserved c =
    let l = c.loop-block in
    record {
      len = c.put_block.ensures.len ∙ l.invariant.len;
      pixels = λ k. one_block k c.args.y c.args.blocks.now l.block-index _ (pixel l.bits k) (pixel c.put_block.new.bits k) c.loop-block-test.true (l.invariant.pixels k) (c.put_block.ensures.pixels k);
    }

pub returns-clause-pixels : goal.returns-clause-pixels
returns-clause-pixels c = λ k.
    all_blocks k c.args.y c.args.blocks.now c.loop-block.block-index (pixel c.loop-block.bits k) c.loop-block-test.false (c.loop-block.invariant.pixels k)
