use Rattle.std.proofs.Common.{◌≡◌, ◌++◌, drop}
use Rattle.hocr_writer.specs.Pieces.{joined_pieces, numbered_pieces}
use Rattle.hocr_writer.specs.Document.{cycle_number}
use Rattle.hocr_writer.proofs.order.put_numbers.Given as goal

-- What the whole text will be, is what stands there with the numbers that are left.
abbrev pub invariant-loop-number : goal.invariant-loop-number
invariant-loop-number l = l.initial.text ++ joined_pieces (numbered_pieces cycle_number 0 l.numbers) ≡ l.text ++ joined_pieces (numbered_pieces cycle_number l.number-index (drop l.number-index l.numbers))
