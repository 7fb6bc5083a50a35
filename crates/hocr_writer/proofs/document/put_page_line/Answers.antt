use Rattle.hocr_writer.specs.Document.{page_line}
use Rattle.hocr_writer.proofs.Joined.{growing}
use Rattle.hocr_writer.proofs.document.put_page_line.Goals as goal

pub returns : goal.returns
unfolding page_line
returns c = record { grown = rw (c.in_ok-push-7.ensures.grown, c.in_ok-push_number-5.ensures.grown, c.in_ok-push-6.ensures.grown, c.in_ok-push_number-4.ensures.grown, c.in_ok-push-5.ensures.grown, c.in_ok-push_number-3.ensures.grown, c.in_ok-push-4.ensures.grown, c.in_ok-push_number-2.ensures.grown, c.in_ok-push-3.ensures.grown, c.in_ok-put_image.ensures.grown, c.in_ok-push-2.ensures.grown, c.in_ok-push_number.ensures.grown, c.in_ok-push.ensures.grown) (simp growing) }
