use Rattle.std.proofs.Common.{◌≡◌, ◌∙◌, List, length, map, ap, arith}
use Rattle.std.proofs.lemmas.List.{length-map}
use Rattle.hocr_writer.specs.declared.layout.Mark.{Mark}
use Rattle.layout_core.specs.Numbering.{mark_of}
use Rattle.layout_core.proofs.numbering.marks_of.Goals as goal

pub from_vec-requires : goal.from_vec-requires
from_vec-requires c =
    let long : length c.in_ok-marks.marks.items ≡ length (map mark_of c.args.lines.now) = ap (λ (l : List Mark). length l) (rw c.as_slice.ensures.same at c.in_ok-marks.ensures) in
    omega (arith, long, length-map c.args.lines.now mark_of, c.len-count.ensures.value, c.len-count.ensures.small)

pub returns : goal.returns
returns c = c.from_vec.ensures.same ∙ (rw c.as_slice.ensures.same at c.in_ok-marks.ensures)
