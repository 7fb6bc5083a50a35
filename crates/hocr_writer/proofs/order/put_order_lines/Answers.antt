use Rattle.std.proofs.Common.{arith}
use Rattle.hocr_writer.specs.Document.{placed_order}
use Rattle.hocr_writer.proofs.Growing.{piece_more, piece_all}
use Rattle.hocr_writer.proofs.order.put_order_lines.Goals as goal

pub loop-layout-preserved : goal.loop-layout-preserved
loop-layout-preserved c =
    piece_more placed_order _ _ _ c.args.layouts.now _ _ (omega arith) c.layout-item.is c.loop-layout.invariant c.in_ok-put_order_line.ensures.grown

pub returns : goal.returns
returns c = record { grown = piece_all placed_order _ _ c.args.layouts.now _ (omega arith) c.loop-layout.invariant }
