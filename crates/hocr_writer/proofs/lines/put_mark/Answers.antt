use Rattle.hocr_writer.proofs.Joined.{growing}
use Rattle.hocr_writer.proofs.lines.put_mark.Goals as goal

pub returns : goal.returns
returns c = record { grown = rw (c.in_ok-push.ensures.grown, c.in_ok-put_words.ensures.grown, c.in_ok-put_mark_front.ensures.grown) (simp growing) }
