use Rattle.hocr_writer.specs.Pieces.{box_front}
use Rattle.hocr_writer.proofs.Joined.{growing}
use Rattle.hocr_writer.proofs.boxes.put_box_front.Goals as goal

pub returns : goal.returns
unfolding box_front
returns c = record { grown = rw (c.in_ok-put_numbered_box.ensures.grown, c.in_ok-push_number.ensures.grown, c.in_ok-push.ensures.grown) (simp growing) }
