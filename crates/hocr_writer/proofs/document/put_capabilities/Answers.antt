use Rattle.hocr_writer.specs.Document.{capabilities_line}
use Rattle.hocr_writer.proofs.Joined.{growing}
use Rattle.hocr_writer.proofs.document.put_capabilities.Goals as goal

pub returns : goal.returns
unfolding capabilities_line
returns c = record { grown = rw (c.in_ok-push-3.ensures.grown, c.in_ok-push-2.ensures.grown, c.word_capability.ensures, c.in_ok-push.ensures.grown) (simp growing) }
