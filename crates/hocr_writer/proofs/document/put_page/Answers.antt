use Rattle.hocr_writer.specs.Document.{page_text}
use Rattle.hocr_writer.proofs.Joined.{growing}
use Rattle.hocr_writer.proofs.document.put_page.Goals as goal

pub returns : goal.returns
unfolding page_text
returns c = record { grown = rw (c.in_ok-push.ensures.grown, c.in_ok-put_areas.ensures.grown, c.in_ok-put_cells.ensures.grown, c.in_ok-put_blocks.ensures.grown, c.in_ok-put_gutters.ensures.grown, c.in_ok-put_whites.ensures.grown, c.in_ok-put_page_line.ensures.grown) (simp growing) }
