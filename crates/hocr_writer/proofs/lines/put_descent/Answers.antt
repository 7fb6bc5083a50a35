use Rattle.hocr_writer.proofs.Joined.{growing}
use Rattle.hocr_writer.proofs.lines.put_descent.Goals as goal

pub returns : goal.returns
returns c = record { grown = rw (c.in_ok-push_number.ensures.grown, c.in_ok-push.ensures.grown) (simp growing) }
