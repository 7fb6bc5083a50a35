use Rattle.whitespace_cover.proofs.Indexing.{adds_chain, above_more}
use Rattle.whitespace_cover.proofs.cells.put.Goals as goal

pub loop-row-preserved : goal.loop-row-preserved
loop-row-preserved c = record {
  adds = adds_chain c.args.rect.now c.args.lists.now c.loop-row.lists c.put_in_row.new.lists c.loop-row.invariant.adds c.in_ok-put_in_row.ensures.adds;
  taken = above_more c.args.rect.now c.args.across c.loop-row.row c.loop-row.lists c.put_in_row.new.lists c.in_ok-put_in_row.ensures.adds c.in_ok-put_in_row.ensures.taken c.loop-row.invariant.taken;
}
