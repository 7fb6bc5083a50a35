use Rattle.hocr_writer.specs.Lines.{word_element}
use Rattle.hocr_writer.proofs.Joined.{growing}
use Rattle.hocr_writer.proofs.lines.put_word.Goals as goal

pub returns : goal.returns
unfolding word_element
returns c = record { grown = rw (c.in_ok-push-3.ensures.grown, c.in_ok-put_numbered_box.ensures.grown, c.in_ok-push_number-2.ensures.grown, c.in_ok-push-2.ensures.grown, c.in_ok-push_number.ensures.grown, c.in_ok-push.ensures.grown) (simp growing) }
