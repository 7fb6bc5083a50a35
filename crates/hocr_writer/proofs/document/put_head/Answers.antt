use Rattle.hocr_writer.specs.Document.{head_text}
use Rattle.hocr_writer.proofs.Joined.{growing}
use Rattle.hocr_writer.proofs.document.put_head.Goals as goal

pub returns : goal.returns
unfolding head_text
returns c = record { grown = rw (c.in_ok-push-7.ensures.grown, c.in_ok-put_order_lines.ensures.grown, c.in_ok-put_capabilities.ensures.grown, c.show_words.ensures, c.in_ok-push-6.ensures.grown, c.in_ok-push-5.ensures.grown, c.in_ok-push-4.ensures.grown, c.in_ok-push-3.ensures.grown, c.in_ok-push-2.ensures.grown, c.in_ok-push.ensures.grown) (simp growing) }
