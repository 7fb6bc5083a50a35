use Rattle.std.proofs.Common.{take}
use Rattle.layout_core.specs.WordRows.{AreWordsOfLines}
use Rattle.layout_core.proofs.words.words_of_lines.Given as goal

-- The rows so far are the words of the lines so far.
abbrev pub invariant-loop-line : goal.invariant-loop-line
invariant-loop-line l = AreWordsOfLines l.kept (take l.line-index l.lines) l.rows
