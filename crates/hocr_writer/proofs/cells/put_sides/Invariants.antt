use Rattle.std.proofs.Common.{◌≡◌, ◌++◌, map, take}
use Rattle.hocr_writer.specs.Cells.{side_digit}
use Rattle.hocr_writer.proofs.cells.put_sides.Given as goal

-- The text has grown by the digits of the sides so far.
abbrev pub invariant-loop-side : goal.invariant-loop-side
invariant-loop-side l = l.text ≡ l.initial.text ++ map side_digit (take l.side-index l.sides)
