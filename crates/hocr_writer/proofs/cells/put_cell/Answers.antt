use Rattle.hocr_writer.proofs.Joined.{growing}
use Rattle.hocr_writer.proofs.cells.put_cell.Goals as goal

pub returns : goal.returns
returns c = record { grown = rw (c.in_ok-push-2.ensures.grown, c.in_ok-put_path.ensures.grown, c.in_ok-push.ensures.grown, c.in_ok-put_box_front.ensures.grown) (simp growing) }
