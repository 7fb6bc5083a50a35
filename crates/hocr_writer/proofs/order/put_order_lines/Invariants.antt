use Rattle.std.proofs.Common.{◌≡◌, ◌++◌, drop}
use Rattle.hocr_writer.specs.Pieces.{joined_pieces, numbered_pieces}
use Rattle.hocr_writer.specs.Document.{placed_order}
use Rattle.hocr_writer.proofs.order.put_order_lines.Given as goal

-- What the whole text will be, is what stands there with the lines of the pages that are left.
abbrev pub invariant-loop-layout : goal.invariant-loop-layout
invariant-loop-layout l = l.initial.text ++ joined_pieces (numbered_pieces placed_order 0 l.layouts) ≡ l.text ++ joined_pieces (numbered_pieces placed_order l.layout-index (drop l.layout-index l.layouts))
