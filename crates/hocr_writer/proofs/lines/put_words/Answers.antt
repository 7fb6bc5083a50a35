use Rattle.std.proofs.Common.{arith}
use Rattle.hocr_writer.specs.Lines.{word_element}
use Rattle.hocr_writer.proofs.Growing.{piece_more, piece_all}
use Rattle.hocr_writer.proofs.lines.put_words.Goals as goal

pub loop-number-preserved : goal.loop-number-preserved
loop-number-preserved c =
    piece_more (word_element c.args.page c.args.line) _ _ _ c.args.words.now c.loop-number.number _ (omega arith) c.index-words-number.is c.loop-number.invariant c.in_ok-put_word.ensures.grown

pub returns : goal.returns
returns c = record { grown = piece_all (word_element c.args.page c.args.line) _ _ c.args.words.now _ (omega arith) c.loop-number.invariant }
