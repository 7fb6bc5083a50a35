use Rattle.hocr_writer.specs.Pieces.{numbered_box}
use Rattle.hocr_writer.proofs.Joined.{growing}
use Rattle.hocr_writer.proofs.boxes.put_numbered_box.Goals as goal

pub returns : goal.returns
unfolding numbered_box
returns c = record { grown = rw (c.in_ok-put_box.ensures.grown, c.in_ok-push-2.ensures.grown, c.in_ok-push_number.ensures.grown, c.in_ok-push.ensures.grown) (simp growing) }
