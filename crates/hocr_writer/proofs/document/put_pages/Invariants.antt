use Rattle.std.proofs.Common.{◌≡◌, ◌++◌, drop}
use Rattle.hocr_writer.specs.Pieces.{joined_pieces, numbered_pieces}
use Rattle.hocr_writer.specs.Document.{placed_page}
use Rattle.hocr_writer.proofs.document.put_pages.Given as goal

-- What the whole text will be, is what stands there with the elements of the pages that are left.
abbrev pub invariant-loop-layout : goal.invariant-loop-layout
invariant-loop-layout l = l.initial.text ++ joined_pieces (numbered_pieces placed_page 0 l.layouts) ≡ l.text ++ joined_pieces (numbered_pieces placed_page l.layout-index (drop l.layout-index l.layouts))
