use Rattle.std.proofs.Common.{◌≡◌, ◌∙◌, List, length, map, ap, arith}
use Rattle.std.proofs.lemmas.List.{length-map}
use Rattle.layout_geom.specs.declared.rect.Rect.{Rect}
use Rattle.layout_core.specs.Numbering.{box_of}
use Rattle.layout_core.proofs.numbering.boxes_of.Goals as goal

pub from_vec-requires : goal.from_vec-requires
from_vec-requires c =
    let long : length c.in_ok-boxes.boxes.items ≡ length (map box_of c.args.marks.now) = ap (λ (l : List Rect). length l) (rw c.as_slice.ensures.same at c.in_ok-boxes.ensures) in
    omega (arith, long, length-map c.args.marks.now box_of, c.len-count.ensures.value, c.len-count.ensures.small)

pub returns : goal.returns
returns c = c.from_vec.ensures.same ∙ (rw c.as_slice.ensures.same at c.in_ok-boxes.ensures)
