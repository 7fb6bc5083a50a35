use Rattle.hocr_writer.specs.Summary.{summary_of}
use Rattle.hocr_writer.proofs.Joined.{growing}
use Rattle.hocr_writer.proofs.summary.put_summary.Goals as goal

pub returns : goal.returns
unfolding summary_of
returns c = record { grown = rw (c.in_ok-put_found_order_line.ensures.grown, c.in_ok-put_count_line-7.ensures.grown, c.in_ok-put_count_line-6.ensures.grown, c.in_ok-put_count_line-5.ensures.grown, c.in_ok-put_count_line-4.ensures.grown, c.in_ok-put_count_line-3.ensures.grown, c.in_ok-put_count_line-2.ensures.grown, c.in_ok-put_count_line.ensures.grown, c.in_ok-put_size_line.ensures.grown, c.len.ensures.value, c.len-2.ensures.value, c.len-3.ensures.value, c.len-4.ensures.value) (simp growing) }
