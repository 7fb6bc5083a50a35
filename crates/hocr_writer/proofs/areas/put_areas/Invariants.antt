use Rattle.std.proofs.Common.{◌≡◌, ◌++◌, drop}
use Rattle.hocr_writer.specs.Pieces.{joined_pieces, numbered_pieces}
use Rattle.hocr_writer.specs.Document.{area_text}
use Rattle.hocr_writer.proofs.areas.put_areas.Given as goal

-- What the whole text will be, is what stands there with the areas that are left.
abbrev pub invariant-loop-number : goal.invariant-loop-number
invariant-loop-number l = l.initial.text ++ joined_pieces (numbered_pieces (area_text l.layout) 0 l.layout.areas) ≡ l.text ++ joined_pieces (numbered_pieces (area_text l.layout) l.number (drop l.number l.layout.areas))
