use Rattle.hocr_writer.specs.Document.{document_of}
use Rattle.hocr_writer.proofs.Joined.{growing}
use Rattle.hocr_writer.proofs.document.put_document.Goals as goal

pub returns : goal.returns
unfolding document_of
returns c = record { grown = rw (c.in_ok-push-3.ensures.grown, c.in_ok-push-2.ensures.grown, c.in_ok-put_pages.ensures.grown, c.in_ok-push.ensures.grown, c.in_ok-put_head.ensures.grown) (simp growing) }
