use Rattle.std.proofs.Common.{◌≡◌, ◌++◌, drop}
use Rattle.hocr_writer.specs.Pieces.{joined_pieces, numbered_pieces}
use Rattle.hocr_writer.specs.Lines.{word_element}
use Rattle.hocr_writer.proofs.lines.put_words.Given as goal

-- What the whole text will be, is what stands there with the words that are left.
abbrev pub invariant-loop-number : goal.invariant-loop-number
invariant-loop-number l = l.initial.text ++ joined_pieces (numbered_pieces (word_element l.page l.line) 0 l.words) ≡ l.text ++ joined_pieces (numbered_pieces (word_element l.page l.line) l.number (drop l.number l.words))
