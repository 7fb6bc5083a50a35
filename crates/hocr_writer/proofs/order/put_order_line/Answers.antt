use Rattle.hocr_writer.specs.Document.{order_line}
use Rattle.hocr_writer.proofs.Joined.{growing}
use Rattle.hocr_writer.proofs.order.put_order_line.Goals as goal

pub returns : goal.returns
unfolding order_line
returns c = record { grown = rw (c.in_ok-push-3.ensures.grown, c.in_ok-put_order.ensures.grown, c.in_ok-push-2.ensures.grown, c.in_ok-push_number.ensures.grown, c.in_ok-push.ensures.grown) (simp growing) }
