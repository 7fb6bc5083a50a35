use Rattle.std.proofs.Common.{arith}
use Rattle.hocr_writer.specs.Document.{placed_page}
use Rattle.hocr_writer.proofs.Growing.{piece_more, piece_all}
use Rattle.hocr_writer.proofs.document.put_pages.Goals as goal

pub loop-layout-preserved : goal.loop-layout-preserved
loop-layout-preserved c =
    piece_more placed_page _ _ _ c.args.layouts.now _ _ (omega arith) c.layout-item.is c.loop-layout.invariant c.in_ok-put_page.ensures.grown

pub returns : goal.returns
returns c = record { grown = piece_all placed_page _ _ c.args.layouts.now _ (omega arith) c.loop-layout.invariant }
