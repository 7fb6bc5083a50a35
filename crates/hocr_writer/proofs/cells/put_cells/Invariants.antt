use Rattle.std.proofs.Common.{◌≡◌, ◌++◌, drop}
use Rattle.hocr_writer.specs.Pieces.{joined_pieces, numbered_pieces}
use Rattle.hocr_writer.specs.Cells.{cell_line}
use Rattle.hocr_writer.proofs.cells.put_cells.Given as goal

-- What the whole text will be, is what stands there with the lines of the cells that are left.
abbrev pub invariant-loop-number : goal.invariant-loop-number
invariant-loop-number l = l.initial.text ++ joined_pieces (numbered_pieces (cell_line l.page) 0 l.cells) ≡ l.text ++ joined_pieces (numbered_pieces (cell_line l.page) l.number (drop l.number l.cells))
