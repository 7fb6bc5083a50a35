use Rattle.std.proofs.Common.{◌≡◌, ◌++◌, drop}
use Rattle.hocr_writer.specs.Pieces.{joined_pieces, numbered_pieces}
use Rattle.hocr_writer.specs.Document.{box_line}
use Rattle.hocr_writer.proofs.boxes.put_box_lines.Given as goal

-- What the whole text will be, is what stands there with the lines of the boxes that are left.
abbrev pub invariant-loop-number : goal.invariant-loop-number
invariant-loop-number l = l.initial.text ++ joined_pieces (numbered_pieces (box_line l.opening l.page) 0 l.boxes) ≡ l.text ++ joined_pieces (numbered_pieces (box_line l.opening l.page) l.number (drop l.number l.boxes))
