use Rattle.std.proofs.Common.{◌≡◌, ◌++◌, drop}
use Rattle.hocr_writer.specs.Pieces.{joined_pieces, numbered_pieces}
use Rattle.hocr_writer.specs.Document.{placed_line, lines_in}
use Rattle.hocr_writer.proofs.areas.put_lines.Given as goal

-- What the whole text will be, is what stands there with the lines that are left of the area.
abbrev pub invariant-loop-place : goal.invariant-loop-place
invariant-loop-place l = l.initial.text ++ joined_pieces (numbered_pieces (placed_line l.layout) 0 (lines_in l.layout l.area)) ≡ l.text ++ joined_pieces (numbered_pieces (placed_line l.layout) l.place (drop l.place (lines_in l.layout l.area)))
